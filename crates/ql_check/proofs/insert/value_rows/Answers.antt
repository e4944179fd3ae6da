-- One row more.
use Rattle.std.proofs.Common.{◌≡◌, ◌<◌, subst, length, get_or}
use Rattle.ql_rel.specs.InsertPlans.{value_row}
use Rattle.ql_check_expr.proofs.Turns.{turn_same}
use Rattle.ql_check.proofs.insert.value_rows.Goals as goal

pub rows-preserved : goal.rows-preserved
rows-preserved c =
    let same = c.as_slice-exprs-items.ensures in
    let at = c.rows.exprs-index in
    let x = c.exprs-item.result in
    turn_same (value_row c.args.targets.now) c.args.rows.now at x x c.rows.list c.push.new.self c.in_ok-value_row.field-0 _
    (subst (λ l. at < length l) same c.rows-test.true) (subst (λ l. x ≡ get_or l at x) same c.exprs-item.is) c.in_ok-value_row.ensures c.in_ok-push.ensures.ok c.rows.invariant
