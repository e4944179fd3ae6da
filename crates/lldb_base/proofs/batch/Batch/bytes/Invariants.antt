use Rattle.std.proofs.Common.{◌≡◌, ◌+◌, drop}
use Rattle.lldb_base.specs.Batch.{bytes_of}
use Rattle.lldb_base.proofs.batch.Batch.bytes.Given as goal

abbrev pub invariant-loop-piece : goal.invariant-loop-piece
invariant-loop-piece l = l.bytes + bytes_of (drop l.piece-index l.pieces) ≡ bytes_of l.pieces
