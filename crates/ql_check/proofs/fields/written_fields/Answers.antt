-- One field more.
use Rattle.std.proofs.Common.{◌≡◌, ◌<◌, subst, length, get_or}
use Rattle.ql_syntax.specs.declared.syntax.Field.{out-Field}
use Rattle.ql_rel.specs.Plans as spec
use Rattle.ql_check_expr.proofs.Turns.{turn_same}
use Rattle.ql_check.proofs.fields.written_fields.Goals as goal

pub fields-preserved : goal.fields-preserved
fields-preserved c =
    let same = c.as_slice-field-items.ensures in
    let at = c.fields.field-index in
    let x = c.field-item.result in
    let scope = c.args.scope.now in
    turn_same (λ f. spec.result_field scope (out-Field f).alias (out-Field f).expr) c.args.fields.now at x x c.fields.list c.push.new.self c.in_ok-result_field.field-0 _
    (subst (λ l. at < length l) same c.fields-test.true) (subst (λ l. x ≡ get_or l at x) same c.field-item.is) c.in_ok-result_field.ensures c.in_ok-push.ensures.ok c.fields.invariant
