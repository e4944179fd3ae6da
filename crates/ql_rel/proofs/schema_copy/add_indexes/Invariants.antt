use Rattle.std.proofs.Common.{◌≡◌, ◌++◌, take}
use Rattle.ql_rel.proofs.schema_copy.add_indexes.Given as goal

abbrev pub invariant-loop-index : goal.invariant-loop-index
invariant-loop-index l = l.copy ≡ l.initial.copy ++ take l.index-index l.indexes
