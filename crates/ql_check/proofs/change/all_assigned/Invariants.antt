use Rattle.std.proofs.Common.{◌≡◌, [], take, drop}
use Rattle.ql_rel.specs.ChangePlans as spec
use Rattle.ql_check_expr.proofs.Turns.{behind}
use Rattle.ql_check.specs.Changes.{set_names}
use Rattle.ql_check.specs.NameSets.{HoldsNames}
use Rattle.ql_check.proofs.change.all_assigned.Given as goal

-- the names are those of the assignments before; these, and what the ones that are left come to behind them, are what all come to
abbrev pub invariant-sets : goal.invariant-sets
invariant-sets l = record {
  names : HoldsNames l.names (set_names (take l.assign-index l.sets));
  list : behind l.list (spec.all_assigned l.scope l.columns (set_names (take l.assign-index l.sets)) (drop l.assign-index l.sets)) ≡ spec.all_assigned l.scope l.columns [] l.sets;
}
