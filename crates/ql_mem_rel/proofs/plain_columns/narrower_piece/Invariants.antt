use Rattle.std.proofs.Common.{◌≡◌, map, take}
use Rattle.ql_rel.specs.Changes.{without_value}
use Rattle.ql_mem_rel.proofs.plain_columns.narrower_piece.Given as goal

abbrev pub invariant-loop-row : goal.invariant-loop-row
invariant-loop-row l = l.narrow ≡ map (without_value l.place) (take l.row-index l.rows)
