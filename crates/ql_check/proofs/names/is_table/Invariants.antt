use Rattle.std.proofs.Common.{◌≡◌, drop}
use Rattle.ql_rel.specs.Names.{has_name, table_names}
use Rattle.ql_check.proofs.names.is_table.Given as goal

-- none of the tables before has the name
abbrev pub invariant-tables : goal.invariant-tables
invariant-tables l = has_name l.name (table_names (drop l.table-index l.tables)) ≡ has_name l.name (table_names l.tables)
