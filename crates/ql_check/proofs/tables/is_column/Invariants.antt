use Rattle.std.proofs.Common.{◌≡◌, drop}
use Rattle.ql_rel.specs.Names.{has_name, column_names}
use Rattle.ql_check.proofs.tables.is_column.Given as goal

-- none of the columns before has the name
abbrev pub invariant-columns : goal.invariant-columns
invariant-columns l = has_name l.name (column_names (drop l.column-index l.columns)) ≡ has_name l.name (column_names l.columns)
