-- One column more, and one that is refused.
use Rattle.std.proofs.Common.{ℕ, List, refl, sym, subst}
use Rattle.ql_rel.specs.Targets.{new_target, named_targets}
use Rattle.ql_check.specs.NameSets.{HoldsNames}
use Rattle.ql_check.proofs.Behind.{names_more, things_more, stops_here}
use Rattle.ql_check.proofs.targets.named_targets.Goals as goal

pub returns-in_err-new_target : goal.returns-in_err-new_target
returns-in_err-new_target c =
    stops_here (λ (n : List ℕ). n) (new_target c.args.columns.now) (named_targets c.args.columns.now) (λ before x names. refl)
    c.args.named.now c.named.name-index c.name-item.result c.name-item.result c.named-test.true c.name-item.is
    c.named.targets c.in_err-new_target.field-0.0 c.from_residual.result _
    (c.in_err-new_target.ensures.new _ c.named.invariant.names) c.from_residual.ensures.1 c.named.invariant.targets

pub named-preserved : goal.named-preserved
named-preserved c = record {
  names =
      subst (HoldsNames c.new_target.new.names) (sym (names_more (λ (n : List ℕ). n) c.args.named.now c.named.name-index c.name-item.result c.name-item.result c.named-test.true c.name-item.is))
      (c.in_ok-new_target.ensures.names _ c.named.invariant.names);
  targets =
      things_more (λ (n : List ℕ). n) (new_target c.args.columns.now) (named_targets c.args.columns.now) (λ before x names. refl)
      c.args.named.now c.named.name-index c.name-item.result c.name-item.result c.named-test.true c.name-item.is
      c.named.targets c.push.new.self c.in_ok-new_target.field-0 _ (c.in_ok-new_target.ensures.new _ c.named.invariant.names) c.in_ok-push.ensures.ok c.named.invariant.targets;
}
