use Rattle.std.proofs.Common.{◌≡◌, filter, take}
use Rattle.ql_rel.specs.Changes.{is_not_by}
use Rattle.ql_mem_rel.proofs.schema_change.indexes_beside.Given as goal

abbrev pub invariant-loop-index : goal.invariant-loop-index
invariant-loop-index l = l.copy ≡ filter (is_not_by l.table l.column) (take l.index-index l.indexes)
