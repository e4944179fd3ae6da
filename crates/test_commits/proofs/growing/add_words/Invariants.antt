use Rattle.std.proofs.Common.{◌≡◌}
use Rattle.test_commits.specs.Grown.{IsGrown}
use Rattle.test_commits.proofs.growing.add_words.Given as goal

abbrev pub invariant-loop-word : goal.invariant-loop-word
invariant-loop-word l =
    IsGrown l.growing.shift l.growing.size l.growing.far l.growing.end l.growing.spent l.growing.batch.pieces
    × (l.growing.size ≡ l.fn.growing.size)
