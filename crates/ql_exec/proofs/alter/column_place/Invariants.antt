use Rattle.std.proofs.Common.{◌≡◌, ◌+◌, drop}
use Rattle.ql_rel.specs.NewNames as spec
use Rattle.ql_exec.proofs.alter.column_place.Given as goal

-- none of the columns before has the name
abbrev pub invariant-columns : goal.invariant-columns
invariant-columns l = record {
  place : l.place ≡ l.column-index;
  named : l.place + spec.column_place l.name (drop l.column-index l.columns) ≡ spec.column_place l.name l.columns;
}
