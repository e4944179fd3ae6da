use Rattle.std.proofs.Common.{◌≡◌, drop}
use Rattle.ql_rel.specs.Plans as spec
use Rattle.ql_check.proofs.from.table_named.Given as goal

-- none of the tables before has the name
abbrev pub invariant-tables : goal.invariant-tables
invariant-tables l = spec.table_named l.name (drop l.table-index l.tables) ≡ spec.table_named l.name l.tables
