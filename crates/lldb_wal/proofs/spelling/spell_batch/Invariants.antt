use Rattle.std.proofs.Common.{drop, length}
use Rattle.std.specs.Int.{w64, to_be_bytes}
use Rattle.lldb_wal.proofs.Spells.{Spells}
use Rattle.lldb_wal.proofs.spelling.spell_batch.Given as goal

abbrev pub invariant-loop-piece : goal.invariant-loop-piece
invariant-loop-piece l = Spells l.shift l.batch.size (to_be_bytes w64 (length l.pieces)) l.pieces (drop l.piece-index l.pieces) l.out
