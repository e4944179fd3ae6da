use Rattle.std.proofs.Common.{◌≡◌, drop}
use Rattle.ql_rel.specs.Names.{column_names, has_name}
use Rattle.test_rel.proofs.columns.has_column.Given as goal

abbrev pub invariant-loop-column : goal.invariant-loop-column
invariant-loop-column l = has_name l.name (column_names (drop l.column-index l.columns)) ≡ has_name l.name (column_names l.columns)
