-- One assignment more, and one that is refused.
use Rattle.std.proofs.Common.{refl, sym, subst}
use Rattle.ql_syntax.specs.declared.statement.Assign.{Assign}
use Rattle.ql_rel.specs.ChangePlans.{assigned, all_assigned}
use Rattle.ql_check.specs.NameSets.{HoldsNames}
use Rattle.ql_check.proofs.Behind.{names_more, things_more, stops_here}
use Rattle.ql_check.proofs.change.all_assigned.Goals as goal

pub returns-in_err-assigned : goal.returns-in_err-assigned
returns-in_err-assigned c =
    stops_here (λ (a : Assign). a.column) (assigned c.args.scope.now c.args.columns.now) (all_assigned c.args.scope.now c.args.columns.now) (λ before x sets. refl)
    c.args.sets.now c.sets.assign-index c.assign-item.result c.assign-item.result c.sets-test.true c.assign-item.is
    c.sets.list c.in_err-assigned.field-0.0 c.from_residual.result _
    (c.in_err-assigned.ensures.new _ c.sets.invariant.names) c.from_residual.ensures.1 c.sets.invariant.list

pub sets-preserved : goal.sets-preserved
sets-preserved c = record {
  names =
      subst (HoldsNames c.assigned.new.names) (sym (names_more (λ (a : Assign). a.column) c.args.sets.now c.sets.assign-index c.assign-item.result c.assign-item.result c.sets-test.true c.assign-item.is))
      (c.in_ok-assigned.ensures.names _ c.sets.invariant.names);
  list =
      things_more (λ (a : Assign). a.column) (assigned c.args.scope.now c.args.columns.now) (all_assigned c.args.scope.now c.args.columns.now) (λ before x sets. refl)
      c.args.sets.now c.sets.assign-index c.assign-item.result c.assign-item.result c.sets-test.true c.assign-item.is
      c.sets.list c.push.new.self c.in_ok-assigned.field-0 _ (c.in_ok-assigned.ensures.new _ c.sets.invariant.names) c.in_ok-push.ensures.ok c.sets.invariant.list;
}
