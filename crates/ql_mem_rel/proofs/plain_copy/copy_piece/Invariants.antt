use Rattle.std.proofs.Common.{◌≡◌, take}
use Rattle.ql_mem_rel.proofs.plain_copy.copy_piece.Given as goal

abbrev pub invariant-loop-row : goal.invariant-loop-row
invariant-loop-row l = l.copy ≡ take l.row-index l.rows
