use Rattle.std.proofs.Common.{◌≡◌, [], take, drop}
use Rattle.ql_rel.specs.CreatePlans as spec
use Rattle.ql_rel.specs.Names.{column_names}
use Rattle.ql_check.specs.NameSets.{HoldsNames}
use Rattle.ql_check.proofs.create.new_columns.Given as goal

-- the names are those of the columns before; the columns that are left are new behind these exactly where all are
abbrev pub invariant-columns : goal.invariant-columns
invariant-columns l = record {
  names : HoldsNames l.names (column_names (take l.column-index l.columns));
  columns : spec.new_columns (column_names (take l.column-index l.columns)) (drop l.column-index l.columns) ≡ spec.new_columns [] l.columns;
}
