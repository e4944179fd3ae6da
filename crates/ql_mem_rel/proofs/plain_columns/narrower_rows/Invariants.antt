use Rattle.std.proofs.Common.{◌≡◌, map, take}
use Rattle.ql_rel.specs.Changes.{without_value}
use Rattle.ql_mem_rel.specs.Pieces.{rows_of}
use Rattle.ql_mem_rel.proofs.plain_columns.narrower_rows.Given as goal

abbrev pub invariant-loop-piece : goal.invariant-loop-piece
invariant-loop-piece l = l.narrow ≡ map (without_value l.place) (rows_of (take l.piece-index l.pieces))
