-- One expression more.
use Rattle.std.proofs.Common.{◌≡◌, ◌<◌, false, subst, length, get_or}
use Rattle.ql_syntax.specs.Resolving.{check_expr}
use Rattle.ql_check_expr.proofs.Turns.{turn_same}
use Rattle.ql_check.proofs.insert.check_each.Goals as goal

pub exprs-preserved : goal.exprs-preserved
exprs-preserved c =
    let same = c.as_slice-expr-items.ensures in
    let at = c.exprs.expr-index in
    let x = c.expr-item.result in
    turn_same (check_expr c.args.scope.now false) c.args.exprs.now at x x c.exprs.parts c.push.new.self c.in_ok-check_expr.field-0 _
    (subst (λ l. at < length l) same c.exprs-test.true) (subst (λ l. x ≡ get_or l at x) same c.expr-item.is) c.in_ok-check_expr.ensures c.in_ok-push.ensures.ok c.exprs.invariant
