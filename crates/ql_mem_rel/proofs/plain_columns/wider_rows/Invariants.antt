use Rattle.std.proofs.Common.{◌≡◌, map, take, drop}
use Rattle.std.specs.List.{list_any}
use Rattle.ql_rel.specs.Changes.{with_null}
use Rattle.ql_rel.specs.Refusals.{is_long_with_null}
use Rattle.ql_mem_rel.specs.Pieces.{rows_of}
use Rattle.ql_mem_rel.proofs.plain_columns.wider_rows.Given as goal

abbrev pub invariant-loop-piece : goal.invariant-loop-piece
invariant-loop-piece l =
    (l.wide ≡ map with_null (rows_of (take l.piece-index l.pieces))) × (list_any is_long_with_null (rows_of (drop l.piece-index l.pieces)) ≡ list_any is_long_with_null (rows_of l.pieces))
