-- How much is shown.
use Rattle.std.specs.Prelude.{ℕ, ◌≤◌, length, Some, None}
use Rattle.std.proofs.Common.{arith}
use Rattle.std.proofs.Math.Nat.{le_refl}
use Rattle.ql_edge.specs.Told.{Told}

-- how many bytes are shown, where it is told
abbrev pub count_shown : Told → ℕ
count_shown None = 0
count_shown (Some t) = length t.0

-- a front that is shown is no longer than one with more
pub shown_again : (told : Told) → count_shown told ≤ count_shown told
shown_again told = le_refl (count_shown told)

pub shown_more : (x y z : Told) → count_shown x ≤ count_shown y → count_shown y ≤ count_shown z → count_shown x ≤ count_shown z
shown_more x y z first second = omega (arith, first, second)
