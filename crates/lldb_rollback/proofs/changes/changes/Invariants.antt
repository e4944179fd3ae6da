use Rattle.std.proofs.Common.{◌-◌, length}
use Rattle.lldb_rollback.proofs.Gathered.{Gathers}
use Rattle.lldb_rollback.proofs.changes.changes.Given as goal

abbrev pub invariant-loop-at : goal.invariant-loop-at
invariant-loop-at l = Gathers l.old l.new l.batch l.at

abbrev pub decreases-loop-at : goal.decreases-loop-at
decreases-loop-at l = length l.new - l.at
