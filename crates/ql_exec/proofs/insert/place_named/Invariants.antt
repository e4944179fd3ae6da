use Rattle.std.proofs.Common.{◌≡◌, ◌+◌, drop}
use Rattle.ql_rel.specs.NewNames as spec
use Rattle.ql_exec.proofs.insert.place_named.Given as goal

-- none of the tables before has the name
abbrev pub invariant-tables : goal.invariant-tables
invariant-tables l = record {
  place : l.place ≡ l.table-index;
  named : l.place + spec.place_named l.name (drop l.table-index l.tables) ≡ spec.place_named l.name l.tables;
}
