-- All rows that are left are judged, up to the first that is refused.
use Rattle.std.proofs.Common.{refl}
use Rattle.ql_exec.specs.Turns.{Rises}
use Rattle.ql_exec.proofs.Turned.{ends_start, over_here, fewer}
use Rattle.ql_exec.proofs.source.pass_rows.Goals as goal

pub rows-init : goal.rows-init
rows-init g c = record {
  goes = ends_start _ _;
  table = refl;
  db = refl;
  schema = refl;
  ready = refl;
  leaves = (refl, refl, refl, refl, refl);
  faults = refl;
}

pub rows-smaller-in-Some : goal.rows-smaller-in-Some
rows-smaller-in-Some g c =
    let over : Rises c.rows.left.after c.next_meant.new.left.after = over_here _ c.in_ok-next_meant.field-0 c.in-Some.field-0 c.in-Some.is c.in_ok-next_meant.ensures.over in
    fewer c.rows.left.after c.next_meant.new.left.after over
