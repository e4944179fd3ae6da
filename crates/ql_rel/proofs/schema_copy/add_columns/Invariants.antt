use Rattle.std.proofs.Common.{◌≡◌, ◌++◌, take}
use Rattle.ql_rel.proofs.schema_copy.add_columns.Given as goal

abbrev pub invariant-loop-column : goal.invariant-loop-column
invariant-loop-column l = l.copy ≡ l.initial.copy ++ take l.column-index l.columns
