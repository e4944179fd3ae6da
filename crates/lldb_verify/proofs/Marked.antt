-- One bit of a byte, and of many.
use Rattle.std.proofs.Common.{◌≡◌, ℕ, ◌*◌, ◌/◌, ◌%◌, ◌^◌, ◌<◌, inl, inr, Bool, true, false, cond, List, length, get_or, sym, ◌∙◌, ap, arith, nat_eq}
use Rattle.std.proofs.Math.Nat.{mod-add-div'}
use Rattle.std.specs.Prelude.{slice_set}
use Rattle.std.specs.Int.{bit_not, w8}
use Rattle.std.specs.Int.Bits.{bit_or, bit_and}
use Rattle.std.proofs.lemmas.Bool.{cases_eq, eq-eqb, ne_eqb}
use Rattle.std.proofs.lemmas.List.{get_or-set_same, get_or-set_other}
use Rattle.std.proofs.lemmas.Nat.Bits.{bit_at_set_same, bit_at_set_other, bit_at_clear_same, bit_at_clear_other}
use Rattle.lldb_verify.specs.Marks.{bit_in, with_mark}

-- a bit that is told at one place, and left elsewhere
marked_by : (bits : ℕ → Bool) (at : ℕ) (value b : Bool) (i : ℕ) → (i ≡ at → b ≡ value) → ((i ≡ at → ⊥) → b ≡ bits i) → b ≡ with_mark bits at value i
marked_by bits at value b i here there = elim (cases_eq i at) [
  | inl same ↦ here same ∙ sym (ap (λ (t : Bool). cond t value (bits i)) (eq-eqb i at same))
  | inr other ↦ there other ∙ sym (ap (λ (t : Bool). cond t value (bits i)) (ne_eqb i at other))
]

pub bit_set : (n k i : ℕ) → k < 8 → i < 8 → bit_in (bit_or n (1 * 2 ^ k % 2 ^ 8)) i ≡ with_mark (bit_in n) k true i
bit_set n k i low within = marked_by (bit_in n) k true (bit_in (bit_or n (1 * 2 ^ k % 2 ^ 8)) i) i
    (λ same. ap (λ (j : ℕ). bit_in (bit_or n (1 * 2 ^ k % 2 ^ 8)) j) same ∙ ap (λ (b : ℕ). nat_eq b 1) (bit_at_set_same w8 n k low))
    (λ other. ap (λ (b : ℕ). nat_eq b 1) (bit_at_set_other w8 n k low i other))

pub bit_unset : (n k i : ℕ) → k < 8 → i < 8 → bit_in (bit_and n (bit_not w8 (1 * 2 ^ k % 2 ^ 8))) i ≡ with_mark (bit_in n) k false i
bit_unset n k i low within = marked_by (bit_in n) k false (bit_in (bit_and n (bit_not w8 (1 * 2 ^ k % 2 ^ 8))) i) i
    (λ same. ap (λ (j : ℕ). bit_in (bit_and n (bit_not w8 (1 * 2 ^ k % 2 ^ 8))) j) same ∙ ap (λ (b : ℕ). nat_eq b 1) (bit_at_clear_same w8 n k low))
    (λ other. ap (λ (b : ℕ). nat_eq b 1) (bit_at_clear_other w8 n k low i within other))

-- the byte that has a number's bit is another one
pub mark_set : (bytes : List ℕ) (at v : ℕ) (value : Bool) (i : ℕ) → at / 8 < length bytes
    → ((j : ℕ) → j < 8 → bit_in v j ≡ with_mark (bit_in (get_or bytes (at / 8) 0)) (at % 8) value j)
    → bit_in (get_or (slice_set bytes (at / 8) v) (i / 8) 0) (i % 8) ≡ with_mark (λ k. bit_in (get_or bytes (k / 8) 0) (k % 8)) at value i
mark_set bytes at v value i within bits =
    let low : i % 8 < 8 = omega arith in
    elim (cases_eq (i / 8) (at / 8)) [
      | inl same ↦
          let byte : get_or (slice_set bytes (at / 8) v) (i / 8) 0 ≡ v = ap (λ (k : ℕ). get_or (slice_set bytes (at / 8) v) k 0) same ∙ get_or-set_same bytes (at / 8) v 0 within in
          let told = bits (i % 8) low in
          ap (λ (b : ℕ). bit_in b (i % 8)) byte ∙ told
          ∙ (marked_by (λ k. bit_in (get_or bytes (k / 8) 0) (k % 8)) at value (with_mark (bit_in (get_or bytes (at / 8) 0)) (at % 8) value (i % 8)) i
          (λ here. ap (λ (t : Bool). cond t value (bit_in (get_or bytes (at / 8) 0) (i % 8))) (eq-eqb (i % 8) (at % 8) (ap (λ (k : ℕ). k % 8) here)))
          (λ other. ap (λ (t : Bool). cond t value (bit_in (get_or bytes (at / 8) 0) (i % 8))) (ne_eqb (i % 8) (at % 8) (λ rest. other (parts i at same rest)))
          ∙ ap (λ (k : ℕ). bit_in (get_or bytes k 0) (i % 8)) (sym same)))
      | inr other ↦
          let byte : get_or (slice_set bytes (at / 8) v) (i / 8) 0 ≡ get_or bytes (i / 8) 0 = get_or-set_other bytes (at / 8) (i / 8) v 0 other in
          marked_by (λ k. bit_in (get_or bytes (k / 8) 0) (k % 8)) at value (bit_in (get_or (slice_set bytes (at / 8) v) (i / 8) 0) (i % 8)) i
          (λ here. absurd (other (ap (λ (k : ℕ). k / 8) here)))
          (λ there. ap (λ (b : ℕ). bit_in b (i % 8)) byte)
    ]
  where
    parts : (i at : ℕ) → i / 8 ≡ at / 8 → i % 8 ≡ at % 8 → i ≡ at
    parts i at high low =
        let one = mod-add-div' i 8 in
        let two = mod-add-div' at 8 in
        omega (arith, one, two, high, low)
