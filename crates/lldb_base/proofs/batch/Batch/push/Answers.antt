use Rattle.lldb_base.proofs.Pieces.{batch_push}
use Rattle.lldb_base.proofs.batch.Batch.push.Goals as goal

pub invariant_of-self-2 : goal.invariant_of-self-2
invariant_of-self-2 c =
    rw c.in_ok-push.ensures.ok (batch_push _ _ _ _ c.self.view_is c.self.invariant c.requires.behind (rw c.in_ok-bytes.ensures c.requires.some) (rw c.in_ok-bytes.ensures c.requires.most) (rw c.in_ok-bytes.ensures c.requires.within) (rw c.in_ok-bytes.ensures c.requires.room))
