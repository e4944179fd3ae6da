use Rattle.std.proofs.Common.{◌≡◌, ◌<◌, sym, ap, subst, length, get_or}
use Rattle.ql_syntax.specs.Resolving as spec
use Rattle.ql_check_expr.specs.declared.fault.CheckFault.TheVariants as fault
use Rattle.ql_check_expr.proofs.Ids.{id_named, id_of_fault, id_of_other}
use Rattle.ql_check_expr.proofs.Turns.{turn_at}
use Rattle.ql_check_expr.proofs.expression.+check.Goals as goal

pub check_exprs-exprs-preserved : goal.check_exprs-exprs-preserved
check_exprs-exprs-preserved t c =
    let s = c.args.scope.now in
    let a = c.args.aggregates in
    let same = c.as_slice-expr-items.ensures in
    let at = c.exprs.expr-index in
    let x = c.expr-item.result in
    turn_at (λ j. j.answer a) (spec.judge s) c.args.exprs.now at x x c.exprs.list c.push.new.self c.in_ok-check_expr.field-0 _
    (subst (λ l. at < length l) same c.exprs-test.true) (subst (λ l. x ≡ get_or l at x) same c.expr-item.is) c.in_ok-check_expr.ensures c.in_ok-push.ensures.ok c.exprs.invariant

pub id_of_part-returns-in-Some : goal.id_of_part-returns-in-Some
id_of_part-returns-in-Some t c =
    let s = c.args.scope.now in
    let j = spec.judge s c.args.part.now in
    id_named s (spec.bare_name j.ref) c.in-Some.name.now (j.answer c.args.aggregates) c.id_of_set.result (sym (c.in-Some.ensures s)) c.id_of_set.ensures

pub id_of_part-returns-in_err-check_expr-in-None : goal.id_of_part-returns-in_err-check_expr-in-None
id_of_part-returns-in_err-check_expr-in-None t c =
    let s = c.args.scope.now in
    let j = spec.judge s c.args.part.now in
    id_of_fault s (spec.bare_name j.ref) (j.answer c.args.aggregates) c.in_err-check_expr-in-None.field-0.0 c.from_residual.result (sym (c.in-None.ensures s)) c.in_err-check_expr-in-None.ensures c.from_residual.ensures.1

pub id_of_part-returns-in_ok-check_expr-in-None : goal.id_of_part-returns-in_ok-check_expr-in-None
id_of_part-returns-in_ok-check_expr-in-None t c =
    let s = c.args.scope.now in
    let j = spec.judge s c.args.part.now in
    id_of_other s (spec.bare_name j.ref) (j.answer c.args.aggregates) c.in_ok-check_expr-in-None.field-0 (fault.Refused c.new.result) (sym (c.in-None.ensures s)) c.in_ok-check_expr-in-None.ensures (ap fault.Refused c.new.ensures)
