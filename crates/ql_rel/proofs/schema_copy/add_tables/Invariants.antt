use Rattle.std.proofs.Common.{◌≡◌, ◌++◌, take}
use Rattle.ql_rel.proofs.schema_copy.add_tables.Given as goal

abbrev pub invariant-loop-table : goal.invariant-loop-table
invariant-loop-table l = l.copy ≡ l.initial.copy ++ take l.table-index l.tables
