-- The laws of arithmetic on numbers.
use Rattle.std.proofs.Common.{◌≡◌, ◌≢◌, ℕ, ◌+◌, ◌-◌, ◌*◌, ◌/◌, ◌%◌, ◌^◌, ◌<◌, ◌≤◌, ◌⊎◌, zero, suc, min, max, ℤ, pos, negsuc, ◌+ℤ◌, ◌-ℤ◌, ◌*ℤ◌, ◌≤ℤ◌, neg_ℤ, Bool, true, false, if◌then◌else◌, int_lt, int_le, int_div, int_rem, unsigned_abs, bit_and, bit_or, bit_xor, Result, Ok, Err, refl, sym, ap, ◌∙◌, subst, inl, inr, arith}
use Rattle.std.proofs.Math.Nat.{div-add-mod', div-eq_of_lt, div-le_self, mod-le, mod-eq_of_lt, pow-le-pow_right}
use Rattle.std.proofs.Math.IntN.{suc_ℤ, suc_ℤ-*ℤ, +ℤ_idl}
use Rattle.std.proofs.lemmas.Nat.{mod_below, pow_pos, pow-add, and_le_l, or_lt, xor_lt}
use Rattle.std.proofs.lemmas.Nat.Bits.{bit_at_and, bit_at_or, bit_at_xor, bit_at_not}
use Rattle.std.proofs.lemmas.Int.{ints, quot-rem, rem_below}
use Rattle.std.proofs.lemmas.Bool.{cases_lt, lt-ltb, le-ltb, ne_eqb}
use Rattle.std.specs.Int.{bit_at, int_rem_euclid, int_div_euclid, w8, w16, w32, w64}
use Rattle.ql_value.specs.declared.value.Kind.{Kind}
use Rattle.ql_value.specs.declared.value.Kind.TheVariants as k
use Rattle.ql_value.specs.declared.value.Value.{Value}
use Rattle.ql_value.specs.declared.value.Value.TheVariants as v
use Rattle.ql_value.specs.declared.operator.BinOp.TheVariants as op
use Rattle.ql_value.specs.declared.fault.ValueFault.{ValueFault}
use Rattle.ql_value.specs.declared.fault.ValueFault.TheVariants as fault
use Rattle.ql_value.specs.Number.{HasNumber, width, residue, with_residue, wrapped, least, greatest}
use Rattle.ql_value.specs.Arith.{number, divided, shifted, shifted_left, shifted_right, flipped}
use Rattle.ql_value.specs.ArithLaws.{ArithIsExact, IsNumberFor, IsOnlyNumber, IsDivided, HasBits, at_kind, bit_of}

-- ---- the kind's number for an integer

whole : (m : ℕ) → 0 < m → (z : ℤ) → (q : ℤ) × (z ≡ pos (unsigned_abs (int_rem_euclid z (pos m))) +ℤ q *ℤ pos m)
whole m some (pos a) = (pos (a / m), ap pos (omega (arith, div-add-mod' a m)))
whole m some (negsuc a) = (negsuc (a / m), omega (arith, ints, div-add-mod' a m, mod_below a m some))

residue_below : (kind : Kind) (z : ℤ) → residue kind z < 2 ^ width kind
residue_below kind (pos a) = mod_below a (2 ^ width kind) (pow_pos (width kind))
residue_below kind (negsuc a) = omega (arith, pow_pos (width kind))

with_residue-has : (kind : Kind) (r : ℕ) → r < 2 ^ width kind → HasNumber kind (with_residue kind r)
with_residue-has k.Int8 r below = grind (arith, ints)
with_residue-has k.Int16 r below = grind (arith, ints)
with_residue-has k.Int32 r below = grind (arith, ints)
with_residue-has k.Int64 r below = grind (arith, ints)
with_residue-has k.Uint8 r below = grind (arith, ints)
with_residue-has k.Uint16 r below = grind (arith, ints)
with_residue-has k.Uint32 r below = grind (arith, ints)
with_residue-has k.Uint64 r below = grind (arith, ints)
with_residue-has _ r below = grind (arith, ints)

pub wrapped_has : (kind : Kind) (z : ℤ) → HasNumber kind (wrapped kind z)
wrapped_has kind z = with_residue-has kind (residue kind z) (residue_below kind z)

-- two numbers of a kind that differ by a multiple of 2 to its width are one
unique : (kind : Kind) (r s p q : ℤ) → HasNumber kind r → HasNumber kind s → r +ℤ p *ℤ pos (2 ^ width kind) ≡ s +ℤ q *ℤ pos (2 ^ width kind) → r ≡ s
unique k.Int8 r s p q f g e = omega (arith, ints, f.0, f.1, g.0, g.1)
unique k.Int16 r s p q f g e = omega (arith, ints, f.0, f.1, g.0, g.1)
unique k.Int32 r s p q f g e = omega (arith, ints, f.0, f.1, g.0, g.1)
unique k.Int64 r s p q f g e = omega (arith, ints, f.0, f.1, g.0, g.1)
unique k.Uint8 r s p q f g e = omega (arith, ints, f.0, f.1, g.0, g.1)
unique k.Uint16 r s p q f g e = omega (arith, ints, f.0, f.1, g.0, g.1)
unique k.Uint32 r s p q f g e = omega (arith, ints, f.0, f.1, g.0, g.1)
unique k.Uint64 r s p q f g e = omega (arith, ints, f.0, f.1, g.0, g.1)
unique _ r s p q f g e = omega (arith, ints, f.0, f.1, g.0, g.1)

adjusted : (b : Bool) (m r : ℕ) (z q : ℤ) → z ≡ pos r +ℤ q *ℤ pos m → (t : ℤ) × (z ≡ (if b then pos r else pos r -ℤ pos m) +ℤ t *ℤ pos m)
adjusted true m r z q e = (q, e)
adjusted false m r z q e = (suc_ℤ q, omega (arith, ints, e, suc_ℤ-*ℤ q (pos m)))

stands : (kind : Kind) (z : ℤ) → IsNumberFor kind z (wrapped kind z)
stands kind z =
    let w = whole (2 ^ width kind) (pow_pos (width kind)) z in
    let t = adjusted (int_le (pos (residue kind z)) (greatest kind)) (2 ^ width kind) (residue kind z) z w.0 w.1 in
    record { of_kind = with_residue-has kind (residue kind z) (residue_below kind z); times = t.0; equal = t.1 }

same_number : (kind : Kind) (z r s : ℤ) → IsNumberFor kind z r → IsNumberFor kind z s → r ≡ s
same_number kind z r s f g = unique kind r s f.times g.times f.of_kind g.of_kind (sym f.equal ∙ g.equal)

only_as : (kind : Kind) (z y : ℤ) → wrapped kind y ≡ wrapped kind z → IsOnlyNumber kind z (number kind y)
only_as kind z y e =
    let outcome : ℤ → Result Value ValueFault = λ n. Ok (v.Int kind n) in
    record {
      number = wrapped kind z;
      gives = ap outcome e;
      stands = stands kind z;
      only = λ r f. same_number kind z r (wrapped kind z) f (stands kind z);
    }

only_number : (kind : Kind) (z : ℤ) → IsOnlyNumber kind z (number kind z)
only_number kind z = only_as kind z z refl

wrapped-same : (kind : Kind) (z : ℤ) → HasNumber kind z → wrapped kind z ≡ z
wrapped-same kind z h =
    same_number kind z (wrapped kind z) z (stands kind z) (record { of_kind = h; times = pos 0; equal = omega (arith, ints) })

-- ---- shifts

signs : (kind : Kind) → (least kind ≤ℤ pos 0) × (pos 0 ≤ℤ greatest kind)
signs k.Int8 = (omega (arith, ints), omega (arith, ints))
signs k.Int16 = (omega (arith, ints), omega (arith, ints))
signs k.Int32 = (omega (arith, ints), omega (arith, ints))
signs k.Int64 = (omega (arith, ints), omega (arith, ints))
signs k.Uint8 = (omega (arith, ints), omega (arith, ints))
signs k.Uint16 = (omega (arith, ints), omega (arith, ints))
signs k.Uint32 = (omega (arith, ints), omega (arith, ints))
signs k.Uint64 = (omega (arith, ints), omega (arith, ints))
signs _ = (omega (arith, ints), omega (arith, ints))

-- a number between 0 and one of the kind is one of the kind
has_above : (kind : Kind) (a z : ℤ) → HasNumber kind a → pos 0 ≤ℤ z → z ≤ℤ a → HasNumber kind z
has_above kind a z h low high =
    let s = signs kind in
    (omega (arith, ints, s.0, low), omega (arith, ints, h.1, high))

has_below : (kind : Kind) (a z : ℤ) → HasNumber kind a → a ≤ℤ z → z ≤ℤ pos 0 → HasNumber kind z
has_below kind a z h low high =
    let s = signs kind in
    (omega (arith, ints, h.0, low), omega (arith, ints, s.1, high))

zero_has : (kind : Kind) → HasNumber kind (pos 0)
zero_has kind = signs kind

multiple_of : (n d m c : ℕ) → 0 < d → c ≡ d * m → suc n * c ≡ suc (suc n * d - 1) * m
multiple_of n d m c some e =
    let s : suc (suc n * d - 1) ≡ suc n * d = omega arith in
    rw (s, e) (omega arith)

multiple : (z : ℤ) (d m c : ℕ) → 0 < d → c ≡ d * m → (t : ℤ) × (z *ℤ pos c ≡ pos 0 +ℤ t *ℤ pos m)
multiple (pos n) d m c some e =
    let same : n * c ≡ 0 + n * d * m = rw e (omega arith) in
    (pos (n * d), ap pos same)
multiple (negsuc n) d m c some e =
    (negsuc (suc n * d - 1), ap (λ (x : ℕ). neg_ℤ (pos x)) (multiple_of n d m c some e) ∙ sym (+ℤ_idl _))

parts : (j i w : ℕ) → j + i ≡ w → 2 ^ w ≡ 2 ^ j * 2 ^ i
parts j i w e = ap (λ (x : ℕ). 2 ^ x) (sym e) ∙ pow-add 2 j i

-- a shift by the width or more leaves nothing
shifted_out : (kind : Kind) (a : ℤ) (count : ℕ) → width kind ≤ count → wrapped kind (pos 0) ≡ wrapped kind (a *ℤ pos (2 ^ count))
shifted_out kind a count h =
    let z = a *ℤ pos (2 ^ count) in
    let t = multiple a (2 ^ (count - width kind)) (2 ^ width kind) (2 ^ count) (pow_pos (count - width kind)) (parts (count - width kind) (width kind) count (omega arith)) in
    wrapped-same kind (pos 0) (zero_has kind)
    ∙ same_number kind z (pos 0) (wrapped kind z) (record { of_kind = zero_has kind; times = t.0; equal = t.1 }) (stands kind z)

not_negative : (count : ℕ) (outcome : Result Value ValueFault) → shifted (pos count) outcome ≡ outcome
not_negative count outcome =
    let chosen : Bool → Result Value ValueFault = λ b. if b then Err fault.NegativeCount else outcome in
    ap chosen (le-ltb count 0 (omega arith))

left_few : (bits count : ℕ) (z : ℤ) → count < bits → shifted_left bits z count ≡ z *ℤ pos (2 ^ count)
left_few bits count z h = ap (λ (b : Bool). if b then z *ℤ pos (2 ^ count) else pos 0) (lt-ltb count bits h)

left_many : (bits count : ℕ) (z : ℤ) → bits ≤ count → shifted_left bits z count ≡ pos 0
left_many bits count z h = ap (λ (b : Bool). if b then z *ℤ pos (2 ^ count) else pos 0) (le-ltb count bits h)

left_cases : (kind : Kind) (a : ℤ) (count : ℕ) → (count < width kind) ⊎ (width kind ≤ count) → IsOnlyNumber kind (a *ℤ pos (2 ^ count)) (at_kind kind op.Shl a (pos count))
left_cases kind a count (inl few) =
    let P : Result Value ValueFault → Type 0 = IsOnlyNumber kind (a *ℤ pos (2 ^ count)) in
    let e = not_negative count (number kind (shifted_left (width kind) a count)) ∙ ap (number kind) (left_few (width kind) count a few) in
    subst P (sym e) (only_number kind (a *ℤ pos (2 ^ count)))
left_cases kind a count (inr many) =
    let P : Result Value ValueFault → Type 0 = IsOnlyNumber kind (a *ℤ pos (2 ^ count)) in
    let e = not_negative count (number kind (shifted_left (width kind) a count)) ∙ ap (number kind) (left_many (width kind) count a many) in
    subst P (sym e) (only_as kind (a *ℤ pos (2 ^ count)) (pos 0) (shifted_out kind a count many))

floor_has : (kind : Kind) (a : ℤ) (m : ℕ) → HasNumber kind a → HasNumber kind (int_div_euclid a (pos m))
floor_has kind (pos n) m h = has_above kind (pos n) (pos (n / m)) h (omega (arith, ints)) (omega (arith, ints, div-le_self n m))
floor_has kind (negsuc n) m h = has_below kind (negsuc n) (negsuc (n / m)) h (omega (arith, ints, div-le_self n m)) (omega (arith, ints))

as_value : (kind : Kind) (x y : ℤ) → x ≡ y → HasNumber kind y → number kind x ≡ Ok (v.Int kind y)
as_value kind x y e h =
    let outcome : ℤ → Result Value ValueFault = λ n. Ok (v.Int kind n) in
    ap outcome (ap (wrapped kind) e ∙ wrapped-same kind y h)

right_few : (bits count : ℕ) (z : ℤ) → count < bits → shifted_right bits z count ≡ int_div_euclid z (pos (2 ^ count))
right_few bits count z h = ap (λ (b : Bool). if b then int_div_euclid z (pos (2 ^ count)) else (if int_lt z (pos 0) then negsuc 0 else pos 0)) (lt-ltb count bits h)

right_many : (bits count : ℕ) (z : ℤ) → bits ≤ count → shifted_right bits z count ≡ (if int_lt z (pos 0) then negsuc 0 else pos 0)
right_many bits count z h = ap (λ (b : Bool). if b then int_div_euclid z (pos (2 ^ count)) else (if int_lt z (pos 0) then negsuc 0 else pos 0)) (le-ltb count bits h)

small : (kind : Kind) (n : ℕ) → HasNumber kind (pos n) → n < 2 ^ width kind
small k.Int8 n h = omega (arith, ints, h.1)
small k.Int16 n h = omega (arith, ints, h.1)
small k.Int32 n h = omega (arith, ints, h.1)
small k.Int64 n h = omega (arith, ints, h.1)
small k.Uint8 n h = omega (arith, ints, h.1)
small k.Uint16 n h = omega (arith, ints, h.1)
small k.Uint32 n h = omega (arith, ints, h.1)
small k.Uint64 n h = omega (arith, ints, h.1)
small _ n h = omega (arith, ints, h.1)

small_below : (kind : Kind) (n : ℕ) → HasNumber kind (negsuc n) → n < 2 ^ width kind
small_below k.Int8 n h = omega (arith, ints, h.0)
small_below k.Int16 n h = omega (arith, ints, h.0)
small_below k.Int32 n h = omega (arith, ints, h.0)
small_below k.Int64 n h = omega (arith, ints, h.0)
small_below k.Uint8 n h = omega (arith, ints, h.0)
small_below k.Uint16 n h = omega (arith, ints, h.0)
small_below k.Uint32 n h = omega (arith, ints, h.0)
small_below k.Uint64 n h = omega (arith, ints, h.0)
small_below _ n h = omega (arith, ints, h.0)

pow_more : (i j n : ℕ) → i ≤ j → n < 2 ^ i → n < 2 ^ j
pow_more i j n h below = omega (arith, below, pow-le-pow_right {n = 2} (omega arith) {i = i} {j = j} h)

floor_many : (kind : Kind) (z : ℤ) (count : ℕ) → width kind ≤ count → HasNumber kind z → (if int_lt z (pos 0) then negsuc 0 else pos 0) ≡ int_div_euclid z (pos (2 ^ count))
floor_many kind (pos n) count h f =
    let below = pow_more (width kind) count n h (small kind n f) in
    ap (λ (b : Bool). if b then negsuc 0 else pos 0) (le-ltb n 0 (omega arith)) ∙ ap pos (sym (div-eq_of_lt below))
floor_many kind (negsuc n) count h f =
    let below = pow_more (width kind) count n h (small_below kind n f) in
    ap negsuc (sym (div-eq_of_lt below))

right_cases : (kind : Kind) (a : ℤ) (count : ℕ) → HasNumber kind a → (count < width kind) ⊎ (width kind ≤ count) → at_kind kind op.Shr a (pos count) ≡ Ok (v.Int kind (int_div_euclid a (pos (2 ^ count))))
right_cases kind a count f (inl few) =
    not_negative count (number kind (shifted_right (width kind) a count))
    ∙ as_value kind _ _ (right_few (width kind) count a few) (floor_has kind a (2 ^ count) f)
right_cases kind a count f (inr many) =
    not_negative count (number kind (shifted_right (width kind) a count))
    ∙ as_value kind _ _ (right_many (width kind) count a many ∙ floor_many kind a count many f) (floor_has kind a (2 ^ count) f)

-- ---- quotients

abs_some : (b : ℤ) → b ≢ pos 0 → 0 < unsigned_abs b
abs_some (pos zero) h = absurd (h refl)
abs_some (pos (suc n)) h = omega arith
abs_some (negsuc n) h = omega arith

not_zero : (b : ℤ) (outcome : Result Value ValueFault) → 0 < unsigned_abs b → divided b outcome ≡ outcome
not_zero b outcome h =
    let chosen : Bool → Result Value ValueFault = λ t. if t then Err fault.Divide else outcome in
    ap chosen (ne_eqb (unsigned_abs b) 0 (λ e. omega (arith, e, h)))

rem_not_below : (a b : ℤ) → pos 0 ≤ℤ a → pos 0 ≤ℤ int_rem a b
rem_not_below (pos n) b h = omega (arith, ints)
rem_not_below (negsuc n) b h = absurd (omega (arith, ints, h))

rem_not_above : (a b : ℤ) → a ≤ℤ pos 0 → int_rem a b ≤ℤ pos 0
rem_not_above (pos n) b h = omega (arith, ints, h, mod-le n (unsigned_abs b))
rem_not_above (negsuc n) b h = omega (arith, ints)

rem_has : (kind : Kind) (a b : ℤ) → HasNumber kind a → HasNumber kind (int_rem a b)
rem_has kind (pos n) b h = has_above kind (pos n) (pos (n % unsigned_abs b)) h (omega (arith, ints)) (omega (arith, ints, mod-le n (unsigned_abs b)))
rem_has kind (negsuc n) b h = has_below kind (negsuc n) (neg_ℤ (pos (suc n % unsigned_abs b))) h (omega (arith, ints, mod-le (suc n) (unsigned_abs b))) (omega (arith, ints))

division : (kind : Kind) (a b : ℤ) → HasNumber kind a → b ≢ pos 0 → IsDivided kind a b
division kind a b h some =
    let above = abs_some b some in
    let P : Result Value ValueFault → Type 0 = IsOnlyNumber kind (int_div a b) in
    record {
      q = int_div a b;
      r = int_rem a b;
      truncated = record { whole = quot-rem a b; smaller = rem_below a b above; not_below = rem_not_below a b; not_above = rem_not_above a b };
      quotient = subst P (sym (not_zero b (number kind (int_div a b)) above)) (only_number kind (int_div a b));
      rest = not_zero b (number kind (int_rem a b)) above ∙ as_value kind _ _ refl (rem_has kind a b h);
    }

-- ---- bits

less_by : (r m : ℕ) → r < m → pos r -ℤ pos m ≡ negsuc (m - suc r)
less_by r m h = omega (arith, ints)

residue_of : (kind : Kind) (b : Bool) (r : ℕ) → r < 2 ^ width kind → residue kind (if b then pos r else pos r -ℤ pos (2 ^ width kind)) ≡ r
residue_of kind true r h = mod-eq_of_lt h
residue_of kind false r h =
    let m : ℕ = 2 ^ width kind in
    let small_enough : m - suc r < m = omega arith in
    ap (residue kind) (less_by r m h) ∙ ap (λ (x : ℕ). m - 1 - x) (mod-eq_of_lt small_enough) ∙ omega arith

residue-wrapped : (kind : Kind) (m : ℕ) → m < 2 ^ width kind → residue kind (wrapped kind (pos m)) ≡ m
residue-wrapped kind m h =
    let same : residue kind (pos m) ≡ m = mod-eq_of_lt h in
    residue_of kind (int_le (pos (residue kind (pos m))) (greatest kind)) (residue kind (pos m)) (omega arith) ∙ same

with_bits : (kind : Kind) (m : ℕ) (bit : ℕ → ℕ) → m < 2 ^ width kind → ((i : ℕ) → i < width kind → bit_at m i ≡ bit i) → HasBits kind bit (number kind (pos m))
with_bits kind m bit h each = record {
  number = wrapped kind (pos m);
  gives = refl;
  of_kind = (stands kind (pos m)).of_kind;
  each = λ i below. ap (λ (x : ℕ). bit_at x i) (residue-wrapped kind m h) ∙ each i below;
}

flipped_bit : (kind : Kind) (n i : ℕ) → n < 2 ^ width kind → i < width kind → bit_at (2 ^ width kind - 1 - n) i ≡ 1 - bit_at n i
flipped_bit k.Int8 n i h g = bit_at_not w8 n i h g
flipped_bit k.Int16 n i h g = bit_at_not w16 n i h g
flipped_bit k.Int32 n i h g = bit_at_not w32 n i h g
flipped_bit k.Int64 n i h g = bit_at_not w64 n i h g
flipped_bit k.Uint8 n i h g = bit_at_not w8 n i h g
flipped_bit k.Uint16 n i h g = bit_at_not w16 n i h g
flipped_bit k.Uint32 n i h g = bit_at_not w32 n i h g
flipped_bit k.Uint64 n i h g = bit_at_not w64 n i h g
flipped_bit _ n i h g = absurd (omega (arith, g))

both : (kind : Kind) (a b : ℤ) → HasBits kind (λ i. min (bit_of kind a i) (bit_of kind b i)) (at_kind kind op.And a b)
both kind a b =
    with_bits kind (bit_and (residue kind a) (residue kind b)) _
    (omega (arith, and_le_l (residue kind a) (residue kind b), residue_below kind a))
    (λ i below. bit_at_and (residue kind a) (residue kind b) i)

first_alone : (kind : Kind) (a b : ℤ) → HasBits kind (λ i. min (bit_of kind a i) (1 - bit_of kind b i)) (at_kind kind op.AndNot a b)
first_alone kind a b =
    with_bits kind (bit_and (residue kind a) (flipped kind b)) _
    (omega (arith, and_le_l (residue kind a) (flipped kind b), residue_below kind a))
    (λ i below. bit_at_and (residue kind a) (flipped kind b) i ∙ ap (λ (x : ℕ). min (bit_of kind a i) x) (flipped_bit kind (residue kind b) i (residue_below kind b) below))

either : (kind : Kind) (a b : ℤ) → HasBits kind (λ i. max (bit_of kind a i) (bit_of kind b i)) (at_kind kind op.Or a b)
either kind a b =
    with_bits kind (bit_or (residue kind a) (residue kind b)) _
    (or_lt (width kind) _ _ (residue_below kind a) (residue_below kind b))
    (λ i below. bit_at_or (residue kind a) (residue kind b) i)

one : (kind : Kind) (a b : ℤ) → HasBits kind (λ i. (bit_of kind a i + bit_of kind b i) % 2) (at_kind kind op.Xor a b)
one kind a b =
    with_bits kind (bit_xor (residue kind a) (residue kind b)) _
    (xor_lt (width kind) _ _ (residue_below kind a) (residue_below kind b))
    (λ i below. bit_at_xor (residue kind a) (residue kind b) i)

pub the_arith_laws : ArithIsExact
the_arith_laws = λ kind h. record {
  product = λ a b. only_number kind (a *ℤ b);
  sum = λ a b. only_number kind (a +ℤ b);
  difference = λ a b. only_number kind (a -ℤ b);
  shift_left = λ a count. left_cases kind a count (cases_lt count (width kind));
  shift_right = λ a count f. right_cases kind a count f (cases_lt count (width kind));
  division = division kind;
  both = both kind;
  first_alone = first_alone kind;
  either = either kind;
  one = one kind;
}
