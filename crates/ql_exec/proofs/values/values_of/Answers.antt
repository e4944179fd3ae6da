-- One value more.
use Rattle.std.proofs.Common.{◌≡◌, ◌<◌, subst, length, get_or}
use Rattle.ql_syntax.specs.Typing.{WellTyped}
use Rattle.ql_syntax.specs.Values.{value_at}
use Rattle.ql_rel.specs.Rows.{answer_of}
use Rattle.ql_rel.proofs.Gathered.{turn_same}
use Rattle.ql_exec.proofs.Rows.{next_all}
use Rattle.ql_exec.proofs.values.values_of.Goals as goal

pub exprs-preserved : goal.exprs-preserved
exprs-preserved c =
    let same = c.as_slice-expr-items.ensures in
    let at = c.exprs.expr-index in
    let x = c.expr-item.result in
    let within = subst (λ l. at < length l) same c.exprs-test.true in
    let here = subst (λ l. x ≡ get_or l at x) same c.expr-item.is in
    record {
      values = turn_same (λ e. answer_of (value_at c.args.row.now e)) c.args.exprs.now at x x c.exprs.values c.push.new.self c.in_ok-value_of.field-0 _ within here c.in_ok-value_of.ensures c.in_ok-push.ensures.ok c.exprs.invariant.values;
      typed = (next_all (WellTyped c.args.row.now) c.args.exprs.now at x x within here c.exprs.invariant.typed).1;
    }
