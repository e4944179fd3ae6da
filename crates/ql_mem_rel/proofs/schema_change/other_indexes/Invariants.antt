use Rattle.std.proofs.Common.{◌≡◌, filter, take}
use Rattle.ql_rel.specs.Changes.{is_of_other}
use Rattle.ql_mem_rel.proofs.schema_change.other_indexes.Given as goal

abbrev pub invariant-loop-index : goal.invariant-loop-index
invariant-loop-index l = l.copy ≡ filter (is_of_other l.table) (take l.index-index l.indexes)
