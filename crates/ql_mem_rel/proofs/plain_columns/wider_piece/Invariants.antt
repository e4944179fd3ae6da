use Rattle.std.proofs.Common.{◌≡◌, map, take, drop}
use Rattle.std.specs.List.{list_any}
use Rattle.ql_rel.specs.Changes.{with_null}
use Rattle.ql_rel.specs.Refusals.{is_long_with_null}
use Rattle.ql_mem_rel.proofs.plain_columns.wider_piece.Given as goal

abbrev pub invariant-loop-row : goal.invariant-loop-row
invariant-loop-row l =
    (l.wide ≡ map with_null (take l.row-index l.rows)) × (list_any is_long_with_null (drop l.row-index l.rows) ≡ list_any is_long_with_null l.rows)
