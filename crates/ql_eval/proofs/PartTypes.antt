-- Operators before a value, conversions and functions, on values of their operands' types.
use Rattle.std.proofs.Common.{◌≡◌, ◌≢◌, ℕ, zero, suc, ℤ, pos, negsuc, ◌-ℤ◌, bit_xor, Bool, true, false, ◌&&◌, ◌||◌, int_le, ◌≤ℤ◌, if◌then◌else◌, List, [], ◌∷◌, length, Ok, Err, refl, sym, subst}
use Rattle.std.proofs.lemmas.Float.{T_from_true}
use Rattle.std.proofs.lemmas.Bool.{and_parts}
use Rattle.ql_value.specs.declared.fault.ValueFault.TheVariants as fault
use Rattle.ql_value.specs.declared.operator.UnOp.{UnOp}
use Rattle.ql_value.specs.declared.operator.UnOp.TheVariants as un
use Rattle.ql_value.specs.declared.value.Kind.{Kind}
use Rattle.ql_value.specs.declared.value.Kind.TheVariants as k
use Rattle.ql_value.specs.declared.value.Value.{Value}
use Rattle.ql_value.specs.declared.value.Value.TheVariants as v
use Rattle.ql_value.specs.Number.{HasKind, HasNumber, IsInteger, has_number, least, greatest, residue, wrapped}
use Rattle.ql_value.specs.Convert.{IsConvertible, converted, fitted}
use Rattle.ql_value.proofs.ArithLaws.{wrapped_has}
use Rattle.ql_value.proofs.KindLaws.{the_kind_laws}
use Rattle.ql_value.specs.Kinds.{is_integer, is_truth, is_text, is_byte_list}
use Rattle.ql_syntax.specs.Values.{gives, means_nothing, outcome_of, prefix, prefix_number, prefixed, is_convertible, convert_to, narrow_to, length_of, asked, at_place}
use Rattle.ql_syntax.specs.declared.typing.Typing.{Typing}
use Rattle.ql_syntax.specs.declared.typing.Typing.TheVariants.{OnlyNull, OfKind, Ill}
use Rattle.ql_syntax.specs.Typing.{IsTyped, HasType, FitsRow, among, meet, prefix_type, prefixed_type, converts, constant_type, place_type}
use Rattle.ql_eval.proofs.TypeLemmas.{Passes, among_passes, among_typed, meet_both}
use Rattle.ql_eval.proofs.Sorts.{IsNumber, IsTruth, IsText, IsBytes, number_value, truth_value, text_value, bytes_value}
use Rattle.ql_eval.proofs.OperatorTypes.{Comes, then_comes, comes_of}

wrapped_kind : (i kind : Kind) (z : ℤ) → i ≡ kind → IsInteger kind → HasKind kind (v.Int i (wrapped i z))
wrapped_kind i kind z e h = (e, h, subst (λ own. HasNumber kind (wrapped own z)) (sym e) (wrapped_has kind z))

-- an operator of numbers before a number keeps its kind
abbrev KeepsKind : UnOp → Type 0
KeepsKind o = (kind i : Kind) (z : ℤ) → HasKind kind (v.Int i z) → Comes (OfKind kind) (prefix_number o i z)

plus_keeps : KeepsKind un.Plus
plus_keeps kind i z h = h

minus_keeps : KeepsKind un.Minus
minus_keeps kind i z h = wrapped_kind i kind (pos 0 -ℤ z) h.0 h.1

flip_keeps : KeepsKind un.Flip
flip_keeps kind i z h = wrapped_kind i kind (pos (bit_xor (residue i (negsuc 0)) (residue i z))) h.0 h.1

signed_kind : (o : UnOp) (kind : Kind) (y : Value) → KeepsKind o → IsNumber y → HasKind kind y → Comes (OfKind kind) (prefix o y)
signed_kind o kind v.Null g n h = tt
signed_kind o kind (v.Int i z) g n h = g kind i z h
signed_kind o kind (v.Bool _) g n h = absurd n
signed_kind o kind (v.Text _) g n h = absurd n
signed_kind o kind (v.Blob _) g n h = absurd n

signed_comes : (o : UnOp) (u : Typing) (y : Value) → KeepsKind o → Passes is_integer u → HasType u y → Comes u (prefix o y)
signed_comes o OnlyNull y g p h = subst (λ z. Comes OnlyNull (prefix o z)) (sym h) refl
signed_comes o (OfKind kind) y g p h = signed_kind o kind y g (number_value (OfKind kind) y p h) h
signed_comes o Ill y g p h = absurd p

not_kind : (y : Value) → IsTruth y → Comes (OfKind k.Bool) (prefix un.Not y)
not_kind v.Null n = tt
not_kind (v.Bool _) n = tt
not_kind (v.Int _ _) n = absurd n
not_kind (v.Text _) n = absurd n
not_kind (v.Blob _) n = absurd n

not_comes : (u : Typing) (y : Value) → Passes is_truth u → HasType u y → Comes u (prefix un.Not y)
not_comes OnlyNull y p h = subst (λ z. Comes OnlyNull (prefix un.Not z)) (sym h) refl
not_comes (OfKind k.Bool) y p h = not_kind y (truth_value (OfKind k.Bool) y refl h)
not_comes (OfKind _) y p h = absurd (cc)
not_comes Ill y p h = absurd p

numbers_prefixed : (o : UnOp) (u : Typing) (y : Value) → KeepsKind o → IsTyped (among is_integer u) → HasType u y → Comes (among is_integer u) (prefix o y)
numbers_prefixed o u y g h f = let p = among_passes is_integer u h in subst (λ t. Comes t (prefix o y)) (sym p.1) (signed_comes o u y g p.0 f)

prefix_comes : (o : UnOp) (u : Typing) (y : Value) → IsTyped (prefix_type o u) → HasType u y → Comes (prefix_type o u) (prefix o y)
prefix_comes un.Plus u y h f = numbers_prefixed un.Plus u y plus_keeps h f
prefix_comes un.Minus u y h f = numbers_prefixed un.Minus u y minus_keeps h f
prefix_comes un.Flip u y h f = numbers_prefixed un.Flip u y flip_keeps h f
prefix_comes un.Not u y h f = let p = among_passes is_truth u h in subst (λ t. Comes t (prefix un.Not y)) (sym p.1) (not_comes u y p.0 f)

prefix_typed : (o : UnOp) (u : Typing) → IsTyped (prefix_type o u) → IsTyped u
prefix_typed un.Not u h = among_typed is_truth u h
prefix_typed _ u h = among_typed is_integer u h

-- where operators before a part have a type, the part has
pub prefixed_typed : (ops : List UnOp) (t : Typing) → IsTyped (prefixed_type ops t) → IsTyped t
prefixed_typed [] t h = h
prefixed_typed (o ∷ ops) t h = prefixed_typed ops t (prefix_typed o (prefixed_type ops t) h)

pub prefixed_comes : (ops : List UnOp) (t : Typing) (x : Value) → IsTyped (prefixed_type ops t) → HasType t x → Comes (prefixed_type ops t) (prefixed ops x)
prefixed_comes [] t x h f = f
prefixed_comes (o ∷ ops) t x h f =
    then_comes (prefixed_type ops t) (prefixed_type (o ∷ ops) t) (prefixed ops x) (prefix o) (prefixed_comes ops t x (prefix_typed o (prefixed_type ops t) h) f) (λ y e. prefix_comes o (prefixed_type ops t) y h e)

-- conversions stay within a group of kinds
truths_alone : (kind : Kind) → converts kind k.Bool ≡ true → is_truth kind ≡ true
truths_alone k.Bool e = refl
truths_alone _ e = e

second_alone : (a b c : Bool) → (a && false || b && true || c && false) ≡ true → b ≡ true
second_alone a true c e = refl
second_alone true false true e = e
second_alone true false false e = e
second_alone false false true e = e
second_alone false false false e = e

third_alone : (a b c : Bool) → (a && false || b && false || c && true) ≡ true → c ≡ true
third_alone a b true e = refl
third_alone true true false e = e
third_alone true false false e = e
third_alone false true false e = e
third_alone false false false e = e

integers_alone : (kind own : Kind) → is_integer own ≡ true → converts kind own ≡ true → is_integer kind ≡ true
integers_alone kind k.Bool e f = absurd (cc)
integers_alone kind k.Text e f = absurd (cc)
integers_alone kind k.Blob e f = absurd (cc)
integers_alone kind _ e f = second_alone (is_truth kind) (is_integer kind) (is_byte_list kind) f

bytes_alone : (kind own : Kind) → is_byte_list own ≡ true → converts kind own ≡ true → is_byte_list kind ≡ true
bytes_alone kind k.Text e f = third_alone (is_truth kind) (is_integer kind) (is_byte_list kind) f
bytes_alone kind k.Blob e f = third_alone (is_truth kind) (is_integer kind) (is_byte_list kind) f
bytes_alone kind _ e f = absurd (cc)

truth_converts : (kind own : Kind) (b : Bool) → converts kind own ≡ true → HasKind own (v.Bool b) → is_truth kind ≡ true
truth_converts kind k.Bool b e h = truths_alone kind e
truth_converts kind _ b e h = absurd h

text_converts : (kind own : Kind) (bytes : List ℕ) → converts kind own ≡ true → HasKind own (v.Text bytes) → is_byte_list kind ≡ true
text_converts kind k.Text bytes e h = bytes_alone kind k.Text refl e
text_converts kind _ bytes e h = absurd h

blob_converts : (kind own : Kind) (bytes : List ℕ) → converts kind own ≡ true → HasKind own (v.Blob bytes) → is_byte_list kind ≡ true
blob_converts kind k.Blob bytes e h = bytes_alone kind k.Blob refl e
blob_converts kind _ bytes e h = absurd h

-- a value of a kind that converts is one that the conversion takes
record Converts (kind : Kind) (x : Value) : Type 0 where
  test : is_convertible kind x ≡ true
  fits : IsConvertible kind x

kind_converts : (kind own : Kind) (x : Value) → converts kind own ≡ true → HasKind own x → Converts kind x
kind_converts kind own v.Null e h = record { test = refl; fits = tt }
kind_converts kind own (v.Bool b) e h = let t = truth_converts kind own b e h in record { test = t; fits = t }
kind_converts kind own (v.Int i z) e h = let t = integers_alone kind own h.1 e in record { test = t; fits = t }
kind_converts kind own (v.Text bytes) e h = let t = text_converts kind own bytes e h in record { test = t; fits = t }
kind_converts kind own (v.Blob bytes) e h = let t = blob_converts kind own bytes e h in record { test = t; fits = t }

type_converts : (kind : Kind) (t : Typing) (x : Value) → Passes (converts kind) t → HasType t x → Converts kind x
type_converts kind OnlyNull x p h = subst (Converts kind) (sym h) (record { test = refl; fits = tt })
type_converts kind (OfKind own) x p h = kind_converts kind own x p h
type_converts kind Ill x p h = absurd p

pub convert_comes : (kind : Kind) (t : Typing) (x : Value) → Passes (converts kind) t → HasType t x → Comes (OfKind kind) (convert_to kind x)
convert_comes kind t x p h =
    let c = type_converts kind t x p h in
    subst (λ b. Comes (OfKind kind) (if b then gives (converted kind x) else means_nothing)) (sym c.test) (the_kind_laws.conversion kind x c.fits)

no_lack_fit : (kind : Kind) (z : ℤ) (b : Bool) → (if b then Ok (v.Int kind z) else Err fault.Range) ≢ Err fault.NoMemory
no_lack_fit kind z true = λ e. cc
no_lack_fit kind z false = λ e. cc

narrow_kind : (kind : Kind) (x : Value) → is_integer kind ≡ true → IsNumber x → Comes (OfKind kind) (narrow_to kind x)
narrow_kind kind v.Null e n = tt
narrow_kind kind (v.Int i z) e n =
    let fits : Comes (OfKind kind) (outcome_of (fitted kind z)) = comes_of kind (fitted kind z) (no_lack_fit kind z (has_number kind z)) (the_kind_laws.fit kind z e) in
    subst (λ b. Comes (OfKind kind) (if b then outcome_of (fitted kind z) else means_nothing)) (sym e) fits
narrow_kind kind (v.Bool _) e n = absurd n
narrow_kind kind (v.Text _) e n = absurd n
narrow_kind kind (v.Blob _) e n = absurd n

pub narrow_comes : (kind : Kind) (t : Typing) (x : Value) → is_integer kind ≡ true → Passes is_integer t → HasType t x → Comes (OfKind kind) (narrow_to kind x)
narrow_comes kind t x e p h = narrow_kind kind x e (number_value t x p h)

length_kind : (x : Value) → IsBytes x → Comes (OfKind k.Int64) (length_of x)
length_kind v.Null n = tt
length_kind (v.Text bytes) n = wrapped_kind k.Int64 k.Int64 (pos (length bytes)) refl refl
length_kind (v.Blob bytes) n = wrapped_kind k.Int64 k.Int64 (pos (length bytes)) refl refl
length_kind (v.Bool _) n = absurd n
length_kind (v.Int _ _) n = absurd n

pub length_comes : (t : Typing) (x : Value) → Passes is_byte_list t → HasType t x → Comes (OfKind k.Int64) (length_of x)
length_comes t x p h = length_kind x (bytes_value t x p h)

asked_kind : (test : List ℕ → List ℕ → Bool) (x y : Value) → IsText x → IsText y → Comes (OfKind k.Bool) (asked test x y)
asked_kind test v.Null y m n = tt
asked_kind test (v.Text a) v.Null m n = tt
asked_kind test (v.Text a) (v.Text b) m n = tt
asked_kind test (v.Text a) (v.Bool _) m n = absurd n
asked_kind test (v.Text a) (v.Int _ _) m n = absurd n
asked_kind test (v.Text a) (v.Blob _) m n = absurd n
asked_kind test (v.Bool _) y m n = absurd m
asked_kind test (v.Int _ _) y m n = absurd m
asked_kind test (v.Blob _) y m n = absurd m

-- a question to two values of types that meet among strings
pub asked_comes : (test : List ℕ → List ℕ → Bool) (s t : Typing) (x y : Value) → IsTyped (among is_text (meet s t)) → HasType s x → HasType t y → Comes (OfKind k.Bool) (asked test x y)
asked_comes test s t x y h f g =
    let p = among_passes is_text (meet s t) h in
    let both = meet_both s t x y (among_typed is_text (meet s t) h) f g in
    asked_kind test x y (text_value (meet s t) x p.0 both.left) (text_value (meet s t) y p.0 both.right)

le_from : (a b : ℤ) → int_le a b ≡ true → a ≤ℤ b
le_from a b e = record { le = T_from_true (int_le a b) e }

constant_if : (kind : Kind) (z : ℤ) (b : Bool) → (is_integer kind && has_number kind z) ≡ b → IsTyped (if b then OfKind kind else Ill) → HasType (if b then OfKind kind else Ill) (v.Int kind z)
constant_if kind z true e h =
    let p = and_parts (is_integer kind) (has_number kind z) e in
    let q = and_parts (int_le (least kind) z) (int_le z (greatest kind)) p.1 in
    (refl, p.0, (le_from (least kind) z q.0, le_from z (greatest kind) q.1))
constant_if kind z false e h = absurd h

pub constant_comes : (x : Value) → IsTyped (constant_type x) → HasType (constant_type x) x
constant_comes v.Null h = refl
constant_comes (v.Bool _) h = tt
constant_comes (v.Int kind z) h = constant_if kind z (is_integer kind && has_number kind z) refl h
constant_comes (v.Text _) h = tt
constant_comes (v.Blob _) h = tt

pub place_comes : (types : List Typing) (row : List Value) (at : ℕ) → FitsRow types row → IsTyped (place_type types at) → Comes (place_type types at) (at_place row at)
place_comes [] row at f h = absurd h
place_comes (t ∷ types) [] at f h = absurd f
place_comes (t ∷ types) (x ∷ row) zero f h = f.0
place_comes (t ∷ types) (x ∷ row) (suc at) f h = place_comes types row at f.1 h
