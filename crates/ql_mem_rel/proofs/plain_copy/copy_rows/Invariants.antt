use Rattle.std.proofs.Common.{◌≡◌, take}
use Rattle.ql_mem_rel.specs.Pieces.{rows_of}
use Rattle.ql_mem_rel.proofs.plain_copy.copy_rows.Given as goal

abbrev pub invariant-loop-piece : goal.invariant-loop-piece
invariant-loop-piece l = l.copy ≡ rows_of (take l.piece-index l.pieces)
