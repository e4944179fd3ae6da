-- A line more, and the last one.
use Rattle.std.proofs.Common.{refl}
use Rattle.ql_exec.specs.Turns.{Rises}
use Rattle.ql_exec.proofs.Turned.{same_start, over_here, fewer}
use Rattle.ql_exec.proofs.Selected.{text_ends}
use Rattle.ql_exec.proofs.select.add_lines.Goals as goal

pub rows-init : goal.rows-init
rows-init g c = record {
  goes = same_start _ _;
  table = refl;
  db = refl;
  schema = refl;
  ready = refl;
  leaves = (refl, refl, refl, refl, refl);
  faults = refl;
}

pub rows-smaller : goal.rows-smaller
rows-smaller g c =
    let over : Rises c.rows.left.after c.next_result.new.left.after = over_here _ c.in_ok-row.field-0 c.in-Some.row c.in-Some.is c.in_ok-row.ensures.over in
    fewer c.rows.left.after c.next_result.new.left.after over

pub returns-clause-text : goal.returns-clause-text
returns-clause-text g c =
    text_ends c.args.window.now c.rows.window c.in_ok-row.field-0 _ _ _ c.args.text.now c.rows.text _ _ c.in_default.not-Some c.rows.invariant.db c.rows.invariant.goes c.in_ok-row.ensures.row
