use Rattle.std.proofs.Common.{◌≡◌}
use Rattle.test_commits.specs.Grown.{IsGrown}
use Rattle.test_commits.proofs.timing.row_batch.Given as goal

abbrev pub invariant-loop-turn : goal.invariant-loop-turn
invariant-loop-turn l =
    IsGrown l.growing.shift l.growing.size l.growing.far l.growing.end l.growing.spent l.growing.batch.pieces
    × (l.growing.size ≡ l.size)
