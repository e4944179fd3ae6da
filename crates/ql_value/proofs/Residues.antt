-- What a number of 128 bits leaves modulo a power of 2 that is no larger.
use Rattle.std.proofs.Common.{◌≡◌, ℕ, ◌+◌, ◌-◌, ◌*◌, ◌/◌, ◌%◌, ◌^◌, ◌<◌, ◌≤◌, ◌⊎◌, zero, suc, neg_ℤ, ℤ, pos, negsuc, ◌+ℤ◌, ◌-ℤ◌, ◌*ℤ◌, unsigned_abs, bit_and, bit_or, bit_xor, to_z, of_z, refl, sym, ap, ◌∙◌, inl, inr, arith, FitsSigned, int_div}
use Rattle.std.proofs.Math.Nat.{div-add-mod', mod-mod, div-le_self}
use borrow.Author.Gap.{read_sfits}
use Rattle.std.proofs.lemmas.Nat.{same_from_place, mod_below, pow_pos, pow-add, and_mod, or_mod, xor_mod, pow_below, and_le_l, or_lt, xor_lt}
use Rattle.std.proofs.lemmas.Int.{to_z-of_z, of_z-to_z, wrapping_add_is, wrapping_sub_is, wrapping_mul_is}
use Rattle.std.proofs.lemmas.Bool.{cases_lt}
use Rattle.std.specs.Int.{w128, cast_signed, cast_unsigned, int_wrap, int_rem_euclid, int_div_euclid, int_wrapping_add, int_wrapping_sub, int_wrapping_mul, int_wrapping_div, int_bit_and, int_bit_or, int_bit_xor, int_shl, int_shr}
use lib.Signed.{mag}
use lib.Pow.{mod-mod-pow}
use Rattle.ql_value.specs.declared.value.Kind.{Kind}
use Rattle.ql_value.specs.declared.value.Kind.TheVariants as k
use Rattle.ql_value.specs.Number.{width, residue, with_residue, wrapped}
use Rattle.ql_value.specs.Arith.{flipped}

complement_by : (m a r b s q : ℕ) → (r + s + 1 < m) ⊎ (m ≤ r + s + 1) → r < m → s < m → (a * m + r) + (b * m + s) + 1 ≡ q * m → s ≡ m - 1 - r
complement_by m a r b s q (inl few) below_r below_s e =
    let same = same_from_place (a + b) (r + s + 1) q 0 m few (omega arith) (omega arith) in
    absurd (omega (arith, same.1))
complement_by m a r b s q (inr many) below_r below_s e =
    let same = same_from_place (a + b + 1) (r + s + 1 - m) q 0 m (omega arith) (omega arith) (omega arith) in
    omega (arith, same.1)

-- the residues of two numbers that add up to one less than a multiple of m add up to m - 1
pub complement : (m x y q : ℕ) → 0 < m → x + y + 1 ≡ q * m → y % m ≡ m - 1 - x % m
complement m x y q some e =
    complement_by m (x / m) (x % m) (y / m) (y % m) q (cases_lt (x % m + y % m + 1) m) (mod_below x m some) (mod_below y m some)
    (omega (arith, div-add-mod' x m, div-add-mod' y m))

pub width-le : (kind : Kind) → width kind ≤ 64
width-le k.Int8 = omega arith
width-le k.Int16 = omega arith
width-le k.Int32 = omega arith
width-le k.Int64 = omega arith
width-le k.Uint8 = omega arith
width-le k.Uint16 = omega arith
width-le k.Uint32 = omega arith
width-le k.Uint64 = omega arith
width-le _ = omega arith

narrow_by : (n j i w : ℕ) → j + i ≡ w → n % 2 ^ w % 2 ^ i ≡ n % 2 ^ i
narrow_by n j i w e = ap (λ (x : ℕ). n % 2 ^ x % 2 ^ i) (sym e) ∙ mod-mod-pow n j i

pub narrow : (n i : ℕ) → i ≤ 128 → n % 2 ^ 128 % 2 ^ i ≡ n % 2 ^ i
narrow n i h = narrow_by n (128 - i) i 128 (omega arith)

parts : (j i w : ℕ) → j + i ≡ w → 2 ^ w ≡ 2 ^ j * 2 ^ i
parts j i w e = ap (λ (x : ℕ). 2 ^ x) (sym e) ∙ pow-add 2 j i

-- the complement of a number in 128 bits has the complement's residue
pub flipped_bits : (n m i : ℕ) → i ≤ 128 → n + m + 1 ≡ 2 ^ 128 → m % 2 ^ i ≡ 2 ^ i - 1 - n % 2 ^ i
flipped_bits n m i h e =
    complement (2 ^ i) n m (2 ^ (128 - i)) (pow_pos i) (e ∙ parts (128 - i) i 128 (omega arith))

mag_neg : (n : ℕ) → mag (neg_ℤ (pos n)) ≤ n
mag_neg zero = omega arith
mag_neg (suc n) = omega arith

-- the residue of a number is that of its bits
pub residue-bits : (kind : Kind) (z : ℤ) → mag z < 2 ^ 128 → cast_unsigned w128 z % 2 ^ width kind ≡ residue kind z
residue-bits kind (pos a) h = refl
residue-bits kind (negsuc a) h = flipped_bits a _ (width kind) (omega (arith, width-le kind)) (omega arith)

-- the residue of bits that are read as a signed number is that of the bits
pub residue-signed : (kind : Kind) (n : ℕ) → n < 2 ^ 128 → residue kind (cast_signed w128 n) ≡ n % 2 ^ width kind
residue-signed kind n h =
    let small = (read_sfits w128 n).sfits in
    sym (residue-bits kind (cast_signed w128 n) (omega (arith, small))) ∙ ap (λ (x : ℕ). x % 2 ^ width kind) (of_z-to_z w128 n h)

narrowed : (kind : Kind) (z : ℤ) → unsigned_abs (int_rem_euclid z (pos (2 ^ 128))) % 2 ^ width kind ≡ residue kind z
narrowed kind (pos a) = narrow a (width kind) (omega (arith, width-le kind))
narrowed kind (negsuc a) =
    flipped_bits (a % 2 ^ 128) _ (width kind) (omega (arith, width-le kind)) (omega arith)
    ∙ ap (λ (x : ℕ). 2 ^ width kind - 1 - x) (narrow a (width kind) (omega (arith, width-le kind)))

below : (z : ℤ) → unsigned_abs (int_rem_euclid z (pos (2 ^ 128))) < 2 ^ 128
below (pos a) = omega arith
below (negsuc a) = omega arith

pub residue-wrap : (kind : Kind) (z : ℤ) → residue kind (int_wrap w128 z) ≡ residue kind z
unfolding int_wrap
residue-wrap kind z = residue-signed kind _ (below z) ∙ narrowed kind z

pub wrapped-wrap : (kind : Kind) (z : ℤ) → wrapped kind (int_wrap w128 z) ≡ wrapped kind z
wrapped-wrap kind z = ap (with_residue kind) (residue-wrap kind z)

pub wrapped_add : (kind : Kind) (a b : ℤ) → FitsSigned w128 a → FitsSigned w128 b → wrapped kind (int_wrapping_add w128 a b) ≡ wrapped kind (a +ℤ b)
wrapped_add kind a b f g = ap (wrapped kind) (wrapping_add_is w128 a b f g) ∙ wrapped-wrap kind (a +ℤ b)

pub wrapped_sub : (kind : Kind) (a b : ℤ) → FitsSigned w128 a → FitsSigned w128 b → wrapped kind (int_wrapping_sub w128 a b) ≡ wrapped kind (a -ℤ b)
wrapped_sub kind a b f g = ap (wrapped kind) (wrapping_sub_is w128 a b f g) ∙ wrapped-wrap kind (a -ℤ b)

pub wrapped_mul : (kind : Kind) (a b : ℤ) → FitsSigned w128 a → FitsSigned w128 b → wrapped kind (int_wrapping_mul w128 a b) ≡ wrapped kind (a *ℤ b)
wrapped_mul kind a b f g = ap (wrapped kind) (wrapping_mul_is w128 a b f g) ∙ wrapped-wrap kind (a *ℤ b)

bits_below : (z : ℤ) → FitsSigned w128 z → cast_unsigned w128 z < 2 ^ 128
bits_below (pos a) f = omega (arith, f.sfits)
bits_below (negsuc a) f = omega (arith, f.sfits)

bits_residue : (kind : Kind) (z : ℤ) → FitsSigned w128 z → cast_unsigned w128 z % 2 ^ width kind ≡ residue kind z
bits_residue kind z f = residue-bits kind z (omega (arith, f.sfits))

-- bits and numbers that agree modulo 2 to the width become one number of the kind
from_bits : (kind : Kind) (n r : ℕ) → n < 2 ^ 128 → n % 2 ^ width kind ≡ r → wrapped kind (cast_signed w128 n) ≡ wrapped kind (pos r)
from_bits kind n r h e =
    ap (with_residue kind) (residue-signed kind n h ∙ sym (mod-mod n (2 ^ width kind)) ∙ ap (λ (x : ℕ). x % 2 ^ width kind) e)

pub wrapped_and : (kind : Kind) (a b : ℤ) → FitsSigned w128 a → FitsSigned w128 b → wrapped kind (int_bit_and w128 a b) ≡ wrapped kind (pos (bit_and (residue kind a) (residue kind b)))
wrapped_and kind a b f g =
    let x = bits_residue kind a f in
    let y = bits_residue kind b g in
    from_bits kind _ _ (omega (arith, and_le_l (cast_unsigned w128 a) (cast_unsigned w128 b), bits_below a f))
    (and_mod (cast_unsigned w128 a) (cast_unsigned w128 b) (width kind) ∙ cc)

pub wrapped_or : (kind : Kind) (a b : ℤ) → FitsSigned w128 a → FitsSigned w128 b → wrapped kind (int_bit_or w128 a b) ≡ wrapped kind (pos (bit_or (residue kind a) (residue kind b)))
wrapped_or kind a b f g =
    let x = bits_residue kind a f in
    let y = bits_residue kind b g in
    from_bits kind _ _ (or_lt 128 _ _ (bits_below a f) (bits_below b g))
    (or_mod (cast_unsigned w128 a) (cast_unsigned w128 b) (width kind) ∙ cc)

pub wrapped_xor : (kind : Kind) (a b : ℤ) → FitsSigned w128 a → FitsSigned w128 b → wrapped kind (int_bit_xor w128 a b) ≡ wrapped kind (pos (bit_xor (residue kind a) (residue kind b)))
wrapped_xor kind a b f g =
    let x = bits_residue kind a f in
    let y = bits_residue kind b g in
    from_bits kind _ _ (xor_lt 128 _ _ (bits_below a f) (bits_below b g))
    (xor_mod (cast_unsigned w128 a) (cast_unsigned w128 b) (width kind) ∙ cc)

pub wrapped_and_not : (kind : Kind) (a b : ℤ) → FitsSigned w128 a → FitsSigned w128 b → wrapped kind (cast_signed w128 (bit_and (cast_unsigned w128 a) (2 ^ 128 - 1 - cast_unsigned w128 b))) ≡ wrapped kind (pos (bit_and (residue kind a) (flipped kind b)))
wrapped_and_not kind a b f g =
    let x = bits_residue kind a f in
    let y = bits_residue kind b g in
    let below_b = bits_below b g in
    let n : ℕ = 2 ^ 128 - 1 - cast_unsigned w128 b in
    let t = flipped_bits (cast_unsigned w128 b) n (width kind) (omega (arith, width-le kind)) (omega (arith, below_b)) in
    let u : n % 2 ^ width kind ≡ flipped kind b = t ∙ ap (λ (r : ℕ). 2 ^ width kind - 1 - r) y in
    from_bits kind _ _ (omega (arith, and_le_l (cast_unsigned w128 a) n, bits_below a f))
    (and_mod (cast_unsigned w128 a) n (width kind) ∙ cc)

pub wrapped_shl : (kind : Kind) (a : ℤ) (count : ℕ) → FitsSigned w128 a → count < 64 → wrapped kind (int_shl w128 a count) ≡ wrapped kind (a *ℤ pos (2 ^ count))
wrapped_shl kind a count f h = wrapped_mul kind a (pos (2 ^ count)) f (record { sfits = omega (arith, pow_below count 64 h) })

pub wrapped_shr : (kind : Kind) (a : ℤ) (count : ℕ) → wrapped kind (int_shr a count) ≡ wrapped kind (int_div_euclid a (pos (2 ^ count)))
wrapped_shr kind (pos a) count = refl
wrapped_shr kind (negsuc a) count = refl

div_below : (a b : ℤ) → mag a < 2 ^ 127 → mag (int_div a b) < 2 ^ 128
div_below (pos a) (pos b) h = omega (arith, div-le_self a b)
div_below (pos a) (negsuc b) h = omega (arith, mag_neg (a / suc b), div-le_self a (suc b))
div_below (negsuc a) (pos b) h = omega (arith, mag_neg (suc a / b), div-le_self (suc a) b)
div_below (negsuc a) (negsuc b) h = omega (arith, div-le_self (suc a) (suc b))

unsigned_below : (z : ℤ) → mag z < 2 ^ 128 → cast_unsigned w128 z < 2 ^ 128
unsigned_below (pos a) h = h
unsigned_below (negsuc a) h = omega arith

pub wrapped_div : (kind : Kind) (a b : ℤ) → FitsSigned w128 a → wrapped kind (int_wrapping_div w128 a b) ≡ wrapped kind (int_div a b)
wrapped_div kind a b f =
    let small = div_below a b f.sfits in
    ap (with_residue kind) (residue-signed kind (cast_unsigned w128 (int_div a b)) (unsigned_below (int_div a b) small) ∙ residue-bits kind (int_div a b) small)

-- what a call gives, read back as a signed number of 128 bits
pub read_back : (r z t : ℤ) → mag r < 2 ^ 127 → r ≡ z → z ≡ t → to_z w128 (of_z w128 r) ≡ t
read_back r z t h e f =
    let fits : FitsSigned w128 r = record { sfits = h } in
    to_z-of_z w128 r fits ∙ e ∙ f

pub passed : (z : ℤ) → FitsSigned w128 z → to_z w128 (of_z w128 z) ≡ z
passed z f = to_z-of_z w128 z f

mod_of_small : (n : ℕ) → n < 64 → n % 128 ≡ n
mod_of_small n h = omega arith

-- what a shift by less than 64 gives, read back
pub shl_passed : (a : ℤ) (count : ℕ) (r : ℤ) → mag r < 2 ^ 127 → r ≡ int_shl w128 (to_z w128 (of_z w128 a)) (count % 128) → FitsSigned w128 a → count < 64 → to_z w128 (of_z w128 r) ≡ int_shl w128 a count
shl_passed a count r h e f less =
    read_back r _ _ h e (ap (λ (x : ℤ). int_shl w128 x (count % 128)) (passed a f) ∙ ap (int_shl w128 a) (mod_of_small count less))

pub shr_passed : (a : ℤ) (count : ℕ) (r : ℤ) → mag r < 2 ^ 127 → r ≡ int_shr (to_z w128 (of_z w128 a)) (count % 128) → FitsSigned w128 a → count < 64 → to_z w128 (of_z w128 r) ≡ int_shr a count
shr_passed a count r h e f less =
    read_back r _ _ h e (ap (λ (x : ℤ). int_shr x (count % 128)) (passed a f) ∙ ap (int_shr a) (mod_of_small count less))

-- what a division gives, read back
pub div_passed : (a b r : ℤ) → mag r < 2 ^ 127 → r ≡ int_wrapping_div w128 (to_z w128 (of_z w128 a)) (to_z w128 (of_z w128 b)) → FitsSigned w128 a → FitsSigned w128 b → to_z w128 (of_z w128 r) ≡ int_wrapping_div w128 a b
div_passed a b r h e f g =
    read_back r _ _ h e (ap (λ (x : ℤ). int_wrapping_div w128 x (to_z w128 (of_z w128 b))) (passed a f) ∙ ap (int_wrapping_div w128 a) (passed b g))
