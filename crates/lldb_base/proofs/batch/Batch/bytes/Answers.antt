use Rattle.std.proofs.Common.{sym, arith}
use Rattle.lldb_base.proofs.Pieces.{piece_counted}
use Rattle.lldb_base.proofs.batch.Batch.bytes.Goals as goal

pub overflow_add-bytes : goal.overflow_add-bytes
overflow_add-bytes c =
    let fits = piece_counted _ _ _ _ c.loop-piece-test.true (sym c.piece-item.is) c.loop-piece.invariant (rw c.as_slice-pieces.ensures c.self.invariant.room) in
    omega (arith, fits, c.len.ensures)
