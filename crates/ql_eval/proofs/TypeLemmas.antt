-- What a type that stands says of its parts, and of values of them.
use Rattle.std.proofs.Common.{rules, ◌≡◌, ℕ, Bool, true, false, ◌==◌, if◌then◌else◌, refl, sym, ap, subst, ◌∙◌}
use denote.Enum.Bare.{same_true}
use Rattle.ql_value.specs.declared.value.Kind.{Kind}
use Rattle.ql_value.specs.declared.value.Kind.TheVariants as k
use Rattle.ql_value.specs.declared.value.Value.{Value}
use Rattle.ql_value.specs.declared.value.Value.TheVariants as v
use Rattle.ql_value.specs.Number.{HasKind}
use Rattle.ql_value.specs.Kinds.{same_kind}
use Rattle.ql_value.specs.contracts.value.Kind as kind
use Rattle.ql_syntax.specs.declared.typing.Typing.{Typing}
use Rattle.ql_syntax.specs.declared.typing.Typing.TheVariants.{OnlyNull, OfKind, Ill}
use Rattle.ql_syntax.specs.Typing.{IsTyped, HasType, among, given_type, meet}

-- equal kinds are one
pub one_kind : (a b : Kind) → same_kind a b ≡ true → a ≡ b
one_kind a b h = same_true kind.the_type (search rules) a b h

-- the kind of the type passes the test
abbrev pub Passes : (Kind → Bool) → Typing → Type 0
Passes test OnlyNull = Unit {0}
Passes test (OfKind kind) = test kind ≡ true
Passes test Ill = ⊥

passes_if : (test : Kind → Bool) (kind : Kind) (b : Bool) → test kind ≡ b → IsTyped (if b then OfKind kind else Ill) → Passes test (OfKind kind) × ((if b then OfKind kind else Ill) ≡ OfKind kind)
passes_if test kind true e h = (e, refl)
passes_if test kind false e h = absurd h

pub among_passes : (test : Kind → Bool) (t : Typing) → IsTyped (among test t) → Passes test t × (among test t ≡ t)
among_passes test OnlyNull h = (tt, refl)
among_passes test (OfKind kind) h = passes_if test kind (test kind) refl h
among_passes test Ill h = absurd h

pub given_parts : (s t : Typing) → IsTyped (given_type s t) → IsTyped s × (given_type s t ≡ t)
given_parts OnlyNull t h = (tt, refl)
given_parts (OfKind kind) t h = (tt, refl)
given_parts Ill t h = absurd h

-- both values are of the type
pub record AreBoth (t : Typing) (x y : Value) : Type 0 where
  pub left : HasType t x
  pub right : HasType t y

pub null_has : (kind : Kind) (x : Value) → x ≡ v.Null → HasKind kind x
null_has kind x e = subst (HasKind kind) (sym e) tt

kinds_if : (a b : Kind) (c : Bool) → same_kind a b ≡ c → (x y : Value) → IsTyped (if c then OfKind a else Ill) → HasKind a x → HasKind b y → AreBoth (if c then OfKind a else Ill) x y
kinds_if a b true e x y h f g = record { left = f; right = subst (λ z. HasKind z y) (sym (one_kind a b e)) g }
kinds_if a b false e x y h f g = absurd h

pub meet_both : (s t : Typing) (x y : Value) → IsTyped (meet s t) → HasType s x → HasType t y → AreBoth (meet s t) x y
meet_both OnlyNull OnlyNull x y h f g = record { left = f; right = g }
meet_both OnlyNull (OfKind b) x y h f g = record { left = null_has b x f; right = g }
meet_both OnlyNull Ill x y h f g = absurd h
meet_both (OfKind a) OnlyNull x y h f g = record { left = f; right = null_has a y g }
meet_both (OfKind a) (OfKind b) x y h f g = kinds_if a b (same_kind a b) refl x y h f g
meet_both (OfKind a) Ill x y h f g = absurd h
meet_both Ill t x y h f g = absurd h

-- where two parts have one type, each has one
pub meet_typed : (s t : Typing) → IsTyped (meet s t) → IsTyped s × IsTyped t
meet_typed OnlyNull OnlyNull h = (tt, tt)
meet_typed OnlyNull (OfKind b) h = (tt, tt)
meet_typed OnlyNull Ill h = absurd h
meet_typed (OfKind a) OnlyNull h = (tt, tt)
meet_typed (OfKind a) (OfKind b) h = (tt, tt)
meet_typed (OfKind a) Ill h = absurd h
meet_typed Ill t h = absurd h

pub among_typed : (test : Kind → Bool) (t : Typing) → IsTyped (among test t) → IsTyped t
among_typed test OnlyNull h = tt
among_typed test (OfKind kind) h = tt
among_typed test Ill h = absurd h

-- where two parts have one type among some kinds, each has one
pub pair_typed : (test : Kind → Bool) (s t : Typing) → IsTyped (among test (meet s t)) → IsTyped s × IsTyped t
pair_typed test s t h = meet_typed s t (among_typed test (meet s t) h)
