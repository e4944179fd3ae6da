use Rattle.std.proofs.Common.{◌≡◌, drop}
use Rattle.ql_rel.specs.Changes.{row_of}
use Rattle.ql_rel.specs.Limits.{first_long_key}
use Rattle.ql_mem_rel.proofs.row_check.check_row.Given as goal

abbrev pub invariant-loop-index : goal.invariant-loop-index
invariant-loop-index l =
    first_long_key l.table.name l.table.columns (drop l.index-index l.schema.indexes) (row_of l.id l.values) ≡ first_long_key l.table.name l.table.columns l.schema.indexes (row_of l.id l.values)
