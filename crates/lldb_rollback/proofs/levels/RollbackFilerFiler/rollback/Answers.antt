use Rattle.lldb_rollback.proofs.Copied.{copied_popped}
use Rattle.lldb_rollback.proofs.levels.RollbackFilerFiler.rollback.Goals as goal

pub invariant_of-self-clause-copied : goal.invariant_of-self-clause-copied
invariant_of-self-clause-copied g c = rw c.into_vec.ensures (copied_popped c.in-Some.ensures c.args.self.now.copied)
