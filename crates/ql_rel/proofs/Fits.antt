-- Literals, and what they meet, have the types that are said of them.
use Rattle.std.proofs.Common.{◌≡◌, ℤ, Bool, true, false, ◌&&◌, if◌then◌else◌, List, Option, Some, None, Ok, Err, refl, ap, subst, ◌∙◌}
use Rattle.std.specs.Prelude.{int_le}
use Rattle.std.proofs.Math.Dec.{T}
use Rattle.ql_value.specs.Number.{has_number, wrapped, least, greatest}
use Rattle.ql_value.specs.declared.refusal.TheConstants.{CONSTANT_RANGE}
use Rattle.ql_value.specs.declared.value.Kind.{Kind}
use Rattle.ql_value.specs.declared.value.Kind.TheVariants as k
use Rattle.ql_value.specs.declared.value.Value.TheVariants as v
use Rattle.ql_value.proofs.KindLaws.{the_kind_laws}
use Rattle.ql_syntax.specs.declared.typed.Typed.{Typed}
use Rattle.ql_syntax.specs.declared.typed.Typed.TheVariants as t
use Rattle.ql_value.specs.Kinds.{is_integer, same_kind}
use Rattle.ql_syntax.specs.declared.typing.Typing.{Typing}
use Rattle.ql_syntax.specs.declared.typing.Typing.TheVariants.{OnlyNull, OfKind, Ill}
use Rattle.ql_syntax.specs.Typing.{IsTyped, among, given_type}
use Rattle.ql_syntax.specs.declared.checked.Literal.{Literal}
use Rattle.ql_syntax.specs.declared.checked.Checked.{Checked}
use Rattle.ql_syntax.specs.Answers.{Answer, then_with, refused}
use Rattle.ql_syntax.specs.Checked.{of_type, number_of, literal_kind, literal_of, literal_in, narrow, take_kind, meet_type, is_number_type, kind_or_int64, require_type, in_brackets}
use Rattle.ql_syntax.specs.GroupTyping.{type_by}
use Rattle.ql_syntax.proofs.TypedBy.{by_constant, by_narrow}

-- a part of an answer that stands
pub then_ok : {A B : Type 0} (a : Answer A) (f : A → Answer B) (y : B) → then_with a f ≡ Ok y → (x : A) × (a ≡ Ok x) × (f x ≡ Ok y)
then_ok (Ok x) f y h = (x, refl, h)
then_ok (Err r) f y h = absurd (cc)

pub same_ok : {A : Type 0} (x y : A) → ◌≡◌ {A = Answer A} (Ok x) (Ok y) → x ≡ y
same_ok x y h = cc

pub ruled_ok : (t u : Typing) → require_type t ≡ Ok u → IsTyped t × (t ≡ u)
ruled_ok OnlyNull u h = (tt, same_ok OnlyNull u h)
ruled_ok (OfKind kind) u h = (tt, same_ok (OfKind kind) u h)
ruled_ok Ill u h = absurd (cc)

-- what is said of an expression is so
pub record Fits (may : Bool) (types : List Typing) (c : Checked) : Type 0 where
  pub typed : IsTyped c.typing
  pub is : type_by may types c.tree ≡ c.typing
  pub loose : c.untyped ≡ true → c.typing ≡ OfKind k.Int64

integer_kind : (kind : Kind) → is_integer kind ≡ true → among is_integer (OfKind kind) ≡ OfKind kind
integer_kind kind h = ap (λ b. if b then OfKind kind else Ill) h

int64_kind : (kind : Kind) → same_kind kind k.Int64 ≡ true → OfKind k.Int64 ≡ OfKind kind
int64_kind k.Bool h = absurd (cc)
int64_kind k.Int8 h = absurd (cc)
int64_kind k.Int16 h = absurd (cc)
int64_kind k.Int32 h = absurd (cc)
int64_kind k.Int64 h = refl
int64_kind k.Uint8 h = absurd (cc)
int64_kind k.Uint16 h = absurd (cc)
int64_kind k.Uint32 h = absurd (cc)
int64_kind k.Uint64 h = absurd (cc)
int64_kind k.Text h = absurd (cc)
int64_kind k.Blob h = absurd (cc)

anded : (a b : Bool) → T a → T b → (a && b) ≡ true
anded true true p q = refl
anded true false p q = absurd q
anded false b p q = absurd p

pub both_true : (a b : Bool) → (a && b) ≡ true → (a ≡ true) × (b ≡ true)
both_true true b h = (refl, h)
both_true false b h = absurd (cc)

pub number_kind : (u : Typing) → is_number_type u ≡ true → is_integer (kind_or_int64 u) ≡ true
number_kind OnlyNull h = absurd (cc)
number_kind (OfKind kind) h = h
number_kind Ill h = absurd (cc)

module _ (may : Bool) (types : List Typing) where
  pub known_fits : (u : Typing) (tree : Typed) → IsTyped u → type_by may types tree ≡ u → Fits may types (of_type u tree)
  known_fits u tree h e = record { typed = h; is = e; loose = λ f. absurd (cc) }

  number_type : (kind : Kind) (z : ℤ) → is_integer kind ≡ true → has_number kind z ≡ true → type_by may types (t.Constant (v.Int kind z)) ≡ OfKind kind
  number_type kind z h e = by_constant may types (v.Int kind z) ∙ ap (λ b. if b && has_number kind z then OfKind kind else Ill) h ∙ ap (λ b. if b then OfKind kind else Ill) e

  in_kind : (kind : Kind) (z : ℤ) (b : Bool) (c : Checked) → has_number kind z ≡ b → is_integer kind ≡ true → (if b then Ok (of_type (OfKind kind) (t.Constant (v.Int kind z))) else refused CONSTANT_RANGE) ≡ Ok c → Fits may types c
  in_kind kind z true c e h a = subst (Fits may types) (same_ok _ c a) (known_fits (OfKind kind) (t.Constant (v.Int kind z)) tt (number_type kind z h e))
  in_kind kind z false c e h a = absurd (cc)

  pub literal_in_fits : (kind : Kind) (l : Literal) (c : Checked) → is_integer kind ≡ true → literal_in kind l ≡ Ok c → Fits may types c
  literal_in_fits kind l c h a = in_kind kind (number_of l) (has_number kind (number_of l)) c refl h a

  wrapped_number : (kind : Kind) (z : ℤ) → is_integer kind ≡ true → has_number kind (wrapped kind z) ≡ true
  wrapped_number kind z h =
      let law = the_kind_laws.conversion kind (v.Int kind z) h in
      anded (int_le (least kind) (wrapped kind z)) (int_le (wrapped kind z) (greatest kind)) law.2.0.le law.2.1.le

  kind_is_integer : (b : Bool) → is_integer (if b then k.Int64 else k.Uint64) ≡ true
  kind_is_integer true = refl
  kind_is_integer false = refl

  -- a literal that meets no kind
  pub literal_fits : (l : Literal) → Fits may types (literal_of l)
  literal_fits l =
      let z = number_of l in
      let kind = literal_kind z in
      record {
        typed = tt;
        is = number_type kind (wrapped kind z) (kind_is_integer (has_number k.Int64 z)) (wrapped_number kind z (kind_is_integer (has_number k.Int64 z)));
        loose = λ h. ap (λ b. OfKind (if b then k.Int64 else k.Uint64)) h;
      }

  narrow_type : (kind : Kind) (tree : Typed) (b : Bool) → same_kind kind k.Int64 ≡ b → is_integer kind ≡ true → type_by may types tree ≡ OfKind k.Int64 → type_by may types (if b then tree else t.Narrow kind tree) ≡ OfKind kind
  narrow_type kind tree true s h e = e ∙ int64_kind kind s
  narrow_type kind tree false s h e = by_narrow may types kind tree ∙ ap (λ u. given_type (among is_integer u) (among is_integer (OfKind kind))) e ∙ integer_kind kind h

  -- an untyped expression that meets an integer kind
  pub take_fits : (kind : Kind) (l : Option Literal) (tree : Typed) (c : Checked) → is_integer kind ≡ true → type_by may types tree ≡ OfKind k.Int64 → take_kind kind l tree ≡ Ok c → Fits may types c
  take_fits kind (Some l) tree c h e a = literal_in_fits kind l c h a
  take_fits kind None tree c h e a = subst (Fits may types) (same_ok _ c a) (known_fits (OfKind kind) (narrow kind tree) tt (narrow_type kind tree (same_kind kind k.Int64) refl h e))

  meets : (b : Bool) (u : Typing) (c d : Checked) → (c.untyped && is_number_type u) ≡ b → Fits may types c → (if b then take_kind (kind_or_int64 u) c.literal c.tree else Ok c) ≡ Ok d → Fits may types d
  meets true u c d e f a = take_fits (kind_or_int64 u) c.literal c.tree d (number_kind u (both_true c.untyped (is_number_type u) e).1) (f.is ∙ f.loose (both_true c.untyped (is_number_type u) e).0) a
  meets false u c d e f a = subst (Fits may types) (same_ok c d a) f

  -- an expression beside one of a type
  pub meet_fits : (u : Typing) (c d : Checked) → Fits may types c → meet_type u c ≡ Ok d → Fits may types d
  meet_fits u c d f a = meets (c.untyped && is_number_type u) u c d refl f a

  pub brackets_fit : (c : Checked) → Fits may types c → Fits may types (in_brackets c)
  brackets_fit c f = record { typed = f.typed; is = f.is; loose = f.loose }
