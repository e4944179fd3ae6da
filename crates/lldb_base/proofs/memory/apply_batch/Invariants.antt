use Rattle.std.proofs.Common.{drop}
use Rattle.lldb_base.proofs.Puts.{Writes}
use Rattle.lldb_base.proofs.memory.apply_batch.Given as goal

abbrev pub invariant-loop-piece : goal.invariant-loop-piece
invariant-loop-piece l = Writes l.shift l.pieces l.bytes (drop l.piece-index l.pieces) l.copy.items
