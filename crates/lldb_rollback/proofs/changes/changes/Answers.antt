use Rattle.std.proofs.Common.{refl, rules}
use Rattle.lldb_rollback.proofs.Gathered.{turn_kept, turn_written}
use Rattle.lldb_rollback.proofs.changes.changes.Goals as goal

pub loop-at-preserved-in_ok-push : goal.loop-at-preserved-in_ok-push
loop-at-preserved-in_ok-push c =
    turn_written _ _ _ _ _ _ _ c.loop-at-test.true c.min-end.ensures refl (search rules) c.in_ok-push.ensures.ok c.in_ok-push.ensures.size c.loop-at.invariant

pub loop-at-preserved : goal.loop-at-preserved
loop-at-preserved c =
    turn_kept _ _ _ _ _ _ c.loop-at-test.true c.min-end.ensures refl (search rules) c.loop-at.invariant
