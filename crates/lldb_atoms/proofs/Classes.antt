-- Classes of free blocks.
use Rattle.std.proofs.Common.{◌≡◌, ℕ, zero, suc, ◌+◌, ◌*◌, ◌/◌, ◌^◌, ◌≤◌, ◌<◌, min, inl, inr, ap, ◌∙◌, arith, nat_lt}
use Rattle.std.proofs.Math.Nat.{pow-succ', pow-le-pow_right}
use Rattle.std.proofs.lemmas.Bool.{cond_both, ltb-true, ltb-false, cases_order, cases_lt}
use Rattle.lldb_atoms.specs.Lists.{halvings, class_of, IsClass}

record IsHalved (most n k : ℕ) : Type 0 where
  at_most : k ≤ most
  low : 2 ^ k ≤ n
  high : k < most → n < 2 * 2 ^ k

halved_once : (most n k : ℕ) → 2 ≤ n → IsHalved most (n / 2) k → IsHalved (suc most) n (1 + k)
halved_once most n k two half =
    let step : 2 ^ (1 + k) ≡ 2 * 2 ^ k = let more : 1 + k ≡ suc k = omega arith in ap (λ (z : ℕ). 2 ^ z) more ∙ pow-succ' 2 k in
    record { at_most = omega (arith, half.at_most); low = rw step (omega (arith, half.low)); high = λ below. rw step (omega (arith, half.high (omega arith))) }

halved : (most n : ℕ) → 1 ≤ n → IsHalved most n (halvings most n)
halved zero n some = record { at_most = omega arith; low = some; high = λ below. absurd (omega arith) }
halved (suc most) n some =
    cond_both (nat_lt n 2) 0 (1 + halvings most (n / 2)) (IsHalved (suc most) n)
    (λ test. let low : n < 2 = ltb-true n 2 test in record { at_most = omega arith; low = some; high = λ below. omega arith })
    (λ test. let two : 2 ≤ n = ltb-false n 2 test in halved_once most n (halvings most (n / 2)) two (halved most (n / 2) (omega arith)))

pub class_is : (atoms : ℕ) → 1 ≤ atoms → IsClass atoms (class_of atoms)
unfolding class_of
class_is atoms some =
    let h = halved 15 atoms some in
    record { most = h.at_most; low = h.low; high = h.high }

-- no number has two classes
below_not : (atoms j k : ℕ) → IsClass atoms j → IsClass atoms k → j < k → ⊥
below_not atoms j k small large below =
    let grows : 2 ^ (suc j) ≤ 2 ^ k = pow-le-pow_right {n = 2} (omega arith) (omega arith) in
    let step : 2 ^ (suc j) ≡ 2 * 2 ^ j = pow-succ' 2 j in
    let most = large.most in
    let low = large.low in
    let high = small.high (omega arith) in
    omega arith

pub one_class : (atoms j k : ℕ) → IsClass atoms j → IsClass atoms k → j ≡ k
one_class atoms j k first second =
    elim (cases_order j k) [
      | inl same ↦ same
      | inr other ↦ elim other [
        | inl below ↦ absurd (below_not atoms j k first second below)
        | inr above ↦ absurd (below_not atoms k j second first above)
      ]
    ]

small_min : (r m : ℕ) → m ≡ min r 15 → r ≤ 15 → m ≡ r
small_min r m is small = omega arith

large_min : (r m : ℕ) → m ≡ min r 15 → 15 ≤ r → m ≡ 15
large_min r m is large = omega arith

-- the class is the logarithm, 15 at most
pub class_by_log : (atoms r m : ℕ) → 2 ^ r ≤ atoms → atoms < 2 * 2 ^ r → m ≡ min r 15 → IsClass atoms m
class_by_log atoms r m low high is =
    elim (cases_lt r 15) [
      | inl small ↦ rw (small_min r m is (omega arith)) (record { most = omega arith; low = low; high = λ below. high })
      | inr large ↦
          let grows : 2 ^ 15 ≤ 2 ^ r = pow-le-pow_right {n = 2} (omega arith) large in
          rw (large_min r m is large) (record { most = omega arith; low = omega arith; high = λ below. absurd (omega arith) })
    ]

pub class_known : (atoms r m : ℕ) → 1 ≤ atoms → 2 ^ r ≤ atoms → atoms < 2 * 2 ^ r → m ≡ min r 15 → m ≡ class_of atoms
class_known atoms r m some low high is = one_class atoms m (class_of atoms) (class_by_log atoms r m low high is) (class_is atoms some)
