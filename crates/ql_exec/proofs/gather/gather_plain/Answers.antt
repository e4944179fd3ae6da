-- A row more, and the last one.
use Rattle.std.proofs.Common.{refl, sym, subst}
use Rattle.std.specs.List.{AllByRecursion}
use Rattle.ql_exec.specs.Selections.{IsResultOf}
use Rattle.ql_exec.specs.Turns.{Rises}
use Rattle.ql_exec.proofs.Turned.{over_here, fewer}
use Rattle.ql_exec.proofs.Collected.{rows_start, rows_end}
use Rattle.ql_exec.proofs.gather.gather_plain.Goals as goal

pub rows-init : goal.rows-init
rows-init g c = record {
  goes = rows_start c.args.window.now _ c.new-rows.result _ c.new-rows.ensures;
  made = subst (AllByRecursion (IsResultOf _ c.args.plan.now.fields)) (sym c.new-rows.ensures) tt;
  table = refl;
  db = refl;
  schema = refl;
  ready = refl;
  leaves = (refl, refl, refl, refl, refl);
  faults = refl;
}

pub rows-smaller : goal.rows-smaller
rows-smaller g c =
    let over : Rises c.rows.left.after c.next_result.new.left.after = over_here _ c.in_ok-row.field-0 c.in-Some.row c.in-Some.is c.in_ok-row.ensures.over in
    fewer c.rows.left.after c.next_result.new.left.after over

pub returns-clause-rows : goal.returns-clause-rows
returns-clause-rows g c =
    rows_end c.args.window.now c.rows.window c.in_ok-row.field-0 _ _ _ c.rows.rows _ _ c.in_default.not-Some c.rows.invariant.db c.rows.invariant.goes c.in_ok-row.ensures.row
