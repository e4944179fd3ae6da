use Rattle.std.proofs.Common.{IsTrue}
use Rattle.test_commits.proofs.timing.commit_pages.Given as goal

abbrev pub invariant-loop-turn : goal.invariant-loop-turn
invariant-loop-turn g l = IsTrue l.filer.sound
