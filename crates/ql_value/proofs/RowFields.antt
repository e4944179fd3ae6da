-- A field of a row that is read is the field that was written, and what was written is read again.
use Rattle.std.proofs.Common.{◌≡◌, ℕ, zero, suc, ◌+◌, ◌^◌, ◌<◌, ◌≤◌, ◌≤ℤ◌, ◌-ℤ◌, ◌-◌, ℤ, pos, negsuc, Bool, true, false, cond, ltb, ◌⊎◌, ◌&&◌, int_le, List, [], ◌∷◌, ◌++◌, length, get_or, take, drop, Option, Some, None, FitsSigned, refl, sym, ap, subst, ◌∙◌, append_assoc, arith, inl, inr}
use Rattle.std.specs.Int.{Width, w16, w32, w64, byte_len, from_be_bytes, to_be_bytes, cast_signed, cast_unsigned}
use Rattle.std.proofs.lemmas.Bool.{cases_lt, ltb-false, le-ltb, false≢true}
use Rattle.std.proofs.lemmas.Float.{T_from_true}
use lib.Dec.{T}
use Rattle.std.proofs.lemmas.Int.{ints, to_z-of_z, of_z-to_z}
use Rattle.std.proofs.lemmas.List.{take_at, drop_at, take-append-drop, length-append, length-take, get_or-drop, get_or-take, get_or_past}
use Rattle.std.proofs.lemmas.Nat.{be_bytes_2, be_bytes_4, be_bytes_8, from_be_bytes-to_be_bytes_2, from_be_bytes-to_be_bytes_4, from_be_bytes-to_be_bytes_8}
use Rattle.ql_value.specs.Kinds.{is_signed, is_integer}
use Rattle.ql_value.specs.Number.{HasKind, HasNumber, IsInteger, has_number, least, greatest}
use Rattle.ql_value.specs.RowReading.{◌>>=◌, number_at, string_at, integer_at, number_of}
use Rattle.ql_value.specs.Rows.{string_bytes}
use Rattle.ql_value.specs.declared.value.Kind.{Kind}
use Rattle.ql_value.specs.declared.value.Kind.TheVariants as k
use Rattle.ql_value.specs.declared.value.Value.{Value}
use Rattle.ql_value.specs.declared.value.Value.TheVariants as v

abbrev pub IsBytes : List ℕ → Type 0
IsBytes bytes = (i : ℕ) → get_or bytes i 0 < 256

IsBytes-drop : (n : ℕ) (bytes : List ℕ) → IsBytes bytes → IsBytes (drop n bytes)
IsBytes-drop n bytes h i = rw get_or-drop (h (n + i))

IsBytes-take : (n : ℕ) (bytes : List ℕ) → IsBytes bytes → IsBytes (take n bytes)
IsBytes-take n bytes h i =
    elim (cases_lt i n) [
      | inl lt ↦ rw (get_or-take n bytes i 0 lt) (h i)
      | inr le ↦ rw (get_or_past (take n bytes) i 0 (omega (arith, length-take n bytes))) (omega arith)
    ]

pub IsBytes-rest : (b : ℕ) (bytes : List ℕ) → IsBytes (b ∷ bytes) → IsBytes bytes
IsBytes-rest b bytes h i = h (suc i)

-- the value of a step that gave one
pub bind_some : {A B : Type 0} (o : Option A) (f : A → Option B) (y : B) → (o >>= f) ≡ Some y → (x : A) × (o ≡ Some x) × (f x ≡ Some y)
bind_some (Some x) f y e = (x, refl, e)
bind_some None f y e = absurd cc

-- a test that was met
pub guard_some : {A : Type 0} (b : Bool) (x : Option A) (y : A) → cond b x None ≡ Some y → (b ≡ true) × (x ≡ Some y)
guard_some true x y e = (refl, e)
guard_some false x y e = absurd cc

-- a test that was not met
pub unless_some : {A : Type 0} (b : Bool) (x : Option A) (y : A) → cond b None x ≡ Some y → (b ≡ false) × (x ≡ Some y)
unless_some true x y e = absurd cc
unless_some false x y e = (refl, e)

-- which way a test went
pub chosen : {A : Type 0} (b : Bool) (x y z : A) → cond b x y ≡ z → ((b ≡ true) × (x ≡ z)) ⊎ ((b ≡ false) × (y ≡ z))
chosen true x y z e = inl (refl, e)
chosen false x y z e = inr (refl, e)

pub some_is : {A : Type 0} (x y : A) → Some x ≡ Some y → x ≡ y
some_is x y e = cc

-- what a reader took from the front
pub record Takes (bytes text rest : List ℕ) : Type 0 where
  pub parts : bytes ≡ text ++ rest
  pub rest_fits : IsBytes rest

pub Takes-then : (a x b y c : List ℕ) → Takes a x b → Takes b y c → Takes a (x ++ y) c
Takes-then a x b y c p q = record { parts = p.parts ∙ ap (λ (t : List ℕ). x ++ t) q.parts ∙ sym (append_assoc x y c); rest_fits = q.rest_fits }

-- ---- numbers

pub record IsWide (w : Width) (limit : ℕ) : Type 0 where
  pub len : (n : ℕ) → length (to_be_bytes w n) ≡ byte_len w
  pub back : (bytes : List ℕ) → length bytes ≡ byte_len w → IsBytes bytes → to_be_bytes w (from_be_bytes w bytes) ≡ bytes
  pub again : (n : ℕ) → n < limit → from_be_bytes w (to_be_bytes w n) ≡ n
  pub below : (bytes : List ℕ) → IsBytes bytes → from_be_bytes w bytes < limit

pub wide16 : IsWide w16 (2 ^ 16)
wide16 = record {
  len = λ n. refl;
  back = λ bytes len fits. be_bytes_2 bytes _ len fits refl;
  again = λ n lt. from_be_bytes-to_be_bytes_2 n lt;
  below = λ bytes fits. omega (arith, fits 0, fits 1);
}

pub wide32 : IsWide w32 (2 ^ 32)
wide32 = record {
  len = λ n. refl;
  back = λ bytes len fits. be_bytes_4 bytes _ len fits refl;
  again = λ n lt. from_be_bytes-to_be_bytes_4 n lt;
  below = λ bytes fits. omega (arith, fits 0, fits 1, fits 2, fits 3);
}

pub wide64 : IsWide w64 (2 ^ 64)
wide64 = record {
  len = λ n. refl;
  back = λ bytes len fits. be_bytes_8 bytes _ len fits refl;
  again = λ n lt. from_be_bytes-to_be_bytes_8 n lt;
  below = λ bytes fits. omega (arith, fits 0, fits 1, fits 2, fits 3, fits 4, fits 5, fits 6, fits 7);
}

pub number_takes : (w : Width) (limit : ℕ) (wide : IsWide w limit) (bytes : List ℕ) (n : ℕ) (rest : List ℕ) → IsBytes bytes → number_at w bytes ≡ Some (n, rest) → Takes bytes (to_be_bytes w n) rest × (n < limit)
number_takes w limit wide bytes n rest fits e =
    let g = unless_some (ltb (length bytes) (byte_len w)) (Some (from_be_bytes w (take (byte_len w) bytes), drop (byte_len w) bytes)) (n, rest) e in
    let long : byte_len w ≤ length bytes = ltb-false _ _ g.0 in
    let pair : (from_be_bytes w (take (byte_len w) bytes), drop (byte_len w) bytes) ≡ (n, rest) = some_is _ _ g.1 in
    let n-is : from_be_bytes w (take (byte_len w) bytes) ≡ n = ap (λ (p : ℕ × List ℕ). p.0) pair in
    let rest-is : drop (byte_len w) bytes ≡ rest = ap (λ (p : ℕ × List ℕ). p.1) pair in
    let front : to_be_bytes w n ≡ take (byte_len w) bytes = rw (← n-is) (wide.back (take (byte_len w) bytes) (omega (arith, length-take (byte_len w) bytes)) (IsBytes-take (byte_len w) bytes fits)) in
    (record { parts = rw (front, ← rest-is) (sym (take-append-drop (byte_len w) bytes)); rest_fits = rw (← rest-is) (IsBytes-drop (byte_len w) bytes fits) }, rw (← n-is) (wide.below (take (byte_len w) bytes) (IsBytes-take (byte_len w) bytes fits)))

pub number_again : (w : Width) (limit : ℕ) (wide : IsWide w limit) (n : ℕ) (rest : List ℕ) → n < limit → number_at w (to_be_bytes w n ++ rest) ≡ Some (n, rest)
number_again w limit wide n rest lt =
    let len = wide.len n in
    let long : ltb (length (to_be_bytes w n ++ rest)) (byte_len w) ≡ false = le-ltb _ _ (omega (arith, length-append (to_be_bytes w n) rest)) in
    rw (long, take_at (to_be_bytes w n) rest (byte_len w) len, drop_at (to_be_bytes w n) rest (byte_len w) len, wide.again n lt) refl

-- ---- strings

pub string_takes : (bytes text rest : List ℕ) → IsBytes bytes → string_at bytes ≡ Some (text, rest) → Takes bytes (string_bytes text) rest × (length text < 2 ^ 32)
unfolding string_at
string_takes bytes text rest fits e =
    let b = bind_some (number_at w32 bytes) (λ n. cond (ltb (length n.1) n.0) None (Some (take n.0 n.1, drop n.0 n.1))) (text, rest) e in
    let n = b.0 in
    let t = number_takes w32 (2 ^ 32) wide32 bytes n.0 n.1 fits b.1 in
    let g = unless_some (ltb (length n.1) n.0) (Some (take n.0 n.1, drop n.0 n.1)) (text, rest) b.2 in
    let long : n.0 ≤ length n.1 = ltb-false _ _ g.0 in
    let len : length (take n.0 n.1) ≡ n.0 = omega (arith, length-take n.0 n.1) in
    let second : Takes n.1 (take n.0 n.1) (drop n.0 n.1) = record { parts = sym (take-append-drop n.0 n.1); rest_fits = IsBytes-drop n.0 n.1 t.0.rest_fits } in
    let both = Takes-then bytes (to_be_bytes w32 n.0) n.1 (take n.0 n.1) (drop n.0 n.1) t.0 second in
    let whole : Takes bytes (string_bytes (take n.0 n.1)) (drop n.0 n.1) = subst (λ (k : ℕ). Takes bytes (to_be_bytes w32 k ++ take n.0 n.1) (drop n.0 n.1)) (sym len) both in
    subst (λ (p : List ℕ × List ℕ). Takes bytes (string_bytes p.0) p.1 × (length p.0 < 2 ^ 32)) (some_is _ _ g.1) (whole, omega (arith, t.1))

pub string_again : (text rest : List ℕ) → length text < 2 ^ 32 → string_at (string_bytes text ++ rest) ≡ Some (text, rest)
unfolding string_at
string_again text rest lt =
    let long : ltb (length (text ++ rest)) (length text) ≡ false = le-ltb _ _ (omega (arith, length-append text rest)) in
    rw (number_again w32 (2 ^ 32) wide32 (length text) (text ++ rest) lt, long, take_at text rest (length text) refl, drop_at text rest (length text) refl) refl

-- ---- numbers of a kind

bits_of : (b : Bool) (n : ℕ) → n < 2 ^ 64 → cast_unsigned w64 (cond b (cast_signed w64 n) (pos n)) ≡ n
bits_of true n below = of_z-to_z w64 n below
bits_of false n below = refl

-- a number of 64 bits with a sign is the one that its bits stand for
signed_back : (z : ℤ) → (pos 0 -ℤ pos (2 ^ 63)) ≤ℤ z → z ≤ℤ (pos (2 ^ 63 - 1)) → (cast_signed w64 (cast_unsigned w64 z) ≡ z) × (cast_unsigned w64 z < 2 ^ 64)
signed_back (pos a) low high = (to_z-of_z w64 (pos a) (record { sfits = omega (arith, ints, low, high) }), omega (arith, ints, high))
signed_back (negsuc a) low high = (to_z-of_z w64 (negsuc a) (record { sfits = omega (arith, ints, low, high) }), omega arith)

-- a number of 64 bits without a sign is its bits
unsigned_back : (z : ℤ) → (pos 0) ≤ℤ z → z ≤ℤ (pos (2 ^ 64 - 1)) → (pos (cast_unsigned w64 z) ≡ z) × (cast_unsigned w64 z < 2 ^ 64)
unsigned_back (pos a) low high = (refl, omega (arith, ints, high))
unsigned_back (negsuc a) low high = absurd (omega (arith, ints, low))

-- a number of the kind is the one that its bits stand for
pub number_back : (kind : Kind) (z : ℤ) → IsInteger kind → HasNumber kind z → (number_of kind (cast_unsigned w64 z) ≡ z) × (cast_unsigned w64 z < 2 ^ 64)
number_back k.Int8 z i h = signed_back z (omega (arith, ints, h.0)) (omega (arith, ints, h.1))
number_back k.Int16 z i h = signed_back z (omega (arith, ints, h.0)) (omega (arith, ints, h.1))
number_back k.Int32 z i h = signed_back z (omega (arith, ints, h.0)) (omega (arith, ints, h.1))
number_back k.Int64 z i h = signed_back z (omega (arith, ints, h.0)) (omega (arith, ints, h.1))
number_back k.Uint8 z i h = unsigned_back z (omega (arith, ints, h.0)) (omega (arith, ints, h.1))
number_back k.Uint16 z i h = unsigned_back z (omega (arith, ints, h.0)) (omega (arith, ints, h.1))
number_back k.Uint32 z i h = unsigned_back z (omega (arith, ints, h.0)) (omega (arith, ints, h.1))
number_back k.Uint64 z i h = unsigned_back z (omega (arith, ints, h.0)) (omega (arith, ints, h.1))
number_back k.Bool z i h = absurd (false≢true i)
number_back k.Text z i h = absurd (false≢true i)
number_back k.Blob z i h = absurd (false≢true i)

and_true : (a b : Bool) → a ≡ true → b ≡ true → a && b ≡ true
and_true true true e f = refl
and_true true false e f = f
and_true false b e f = e

true_from_T : {b : Bool} → T b → b ≡ true
true_from_T {b = true} h = refl
true_from_T {b = false} h = absurd h

le_from : (a b : ℤ) → int_le a b ≡ true → a ≤ℤ b
le_from a b e = record { le = T_from_true (int_le a b) e }

both_true : (a b : Bool) → a && b ≡ true → (a ≡ true) × (b ≡ true)
both_true true b e = (refl, e)
both_true false b e = absurd cc

pub has_from : (kind : Kind) (z : ℤ) → has_number kind z ≡ true → HasNumber kind z
has_from kind z e =
    let both = both_true (int_le (least kind) z) (int_le z (greatest kind)) e in
    (le_from (least kind) z both.0, le_from z (greatest kind) both.1)

has_to : (kind : Kind) (z : ℤ) → HasNumber kind z → has_number kind z ≡ true
has_to kind z h = and_true (int_le (least kind) z) (int_le z (greatest kind)) (true_from_T h.0.le) (true_from_T h.1.le)

-- what is read as a number of the kind is one, with its bits
pub integer_takes : (kind : Kind) (bytes : List ℕ) (x : Value × List ℕ) → IsBytes bytes → integer_at kind bytes ≡ Some x
    → (z : ℤ) × (v.Int kind z ≡ x.0) × HasNumber kind z × Takes bytes (to_be_bytes w64 (cast_unsigned w64 z)) x.1
unfolding integer_at
integer_takes kind bytes x fits e =
    let a = bind_some (number_at w64 bytes) (λ n. cond (has_number kind (number_of kind n.0)) (Some (v.Int kind (number_of kind n.0), n.1)) None) x e in
    let t = number_takes w64 (2 ^ 64) wide64 bytes a.0.0 a.0.1 fits a.1 in
    let g = guard_some (has_number kind (number_of kind a.0.0)) (Some (v.Int kind (number_of kind a.0.0), a.0.1)) x a.2 in
    let same : (v.Int kind (number_of kind a.0.0), a.0.1) ≡ x = some_is _ _ g.1 in
    let bits : cast_unsigned w64 (number_of kind a.0.0) ≡ a.0.0 = bits_of (is_signed kind) a.0.0 t.1 in
    let taken : Takes bytes (to_be_bytes w64 (cast_unsigned w64 (number_of kind a.0.0))) a.0.1 = subst (λ (n : ℕ). Takes bytes (to_be_bytes w64 n) a.0.1) (sym bits) t.0 in
    let rest_is = ap (λ (p : Value × List ℕ). p.1) same in
    let whole = subst (λ (r : List ℕ). Takes bytes (to_be_bytes w64 (cast_unsigned w64 (number_of kind a.0.0))) r) rest_is taken in
    (number_of kind a.0.0, ap (λ (p : Value × List ℕ). p.0) same, has_from kind (number_of kind a.0.0) g.0, whole)

pub integer_again : (kind : Kind) (z : ℤ) (rest : List ℕ) → IsInteger kind → HasNumber kind z → integer_at kind (to_be_bytes w64 (cast_unsigned w64 z) ++ rest) ≡ Some (v.Int kind z, rest)
unfolding integer_at
integer_again kind z rest i h =
    let back = number_back kind z i h in
    rw (number_again w64 (2 ^ 64) wide64 (cast_unsigned w64 z) rest back.1, back.0, has_to kind z h) refl
