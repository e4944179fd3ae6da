-- One row more.
use Rattle.std.proofs.Common.{◌≡◌, ◌<◌, [], subst, length, get_or}
use Rattle.ql_syntax.specs.Typing.{type_of}
use Rattle.ql_rel.specs.InsertEffects as effect
use Rattle.ql_rel.specs.PlanTypes.{AreValuesFor}
use Rattle.ql_rel.proofs.Gathered.{turn_same}
use Rattle.ql_exec.proofs.Rows.{next_all}
use Rattle.ql_exec.proofs.insert.new_rows.Goals as goal

pub rows-preserved : goal.rows-preserved
rows-preserved c =
    let same = c.as_slice-row-items.ensures in
    let at = c.rows.row-index in
    let x = c.row-item.result in
    let within = subst (λ l. at < length l) same c.rows-test.true in
    let here = subst (λ l. x ≡ get_or l at x) same c.row-item.is in
    record {
      values = turn_same (effect.new_row c.args.targets.now c.args.columns.now) c.args.rows.now at x x c.rows.values c.push.new.self c.in_ok-new_row.field-0 _ within here c.in_ok-new_row.ensures c.in_ok-push.ensures.ok c.rows.invariant.values;
      typed = (next_all (AreValuesFor (type_of []) c.args.columns.now c.args.targets.now) c.args.rows.now at x x within here c.rows.invariant.typed).1;
    }
