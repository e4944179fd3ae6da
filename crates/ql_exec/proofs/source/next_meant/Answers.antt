-- A row that WHERE does not mean, one that it means, and no row.
use Rattle.std.proofs.Common.{refl, ◌∙◌, arith}
use Rattle.ql_exec.specs.Turns.{Rises}
use Rattle.ql_exec.proofs.Turned.{same_start, meant_typed, rows_pass, over_here, fewer}
use Rattle.ql_exec.proofs.source.next_meant.Goals as goal

pub rows-init : goal.rows-init
rows-init g c = record {
  goes = same_start _ _;
  over = omega arith;
  table = refl;
  db = refl;
  schema = refl;
  ready = refl;
  leaves = (refl, refl, refl, refl, refl);
  faults = refl;
}

pub is_meant-requires : goal.is_meant-requires
is_meant-requires g c =
    meant_typed c.in_ok-row.field-0 c.in-Some.row _ _ _ _ _ c.args.filter.now c.in-Some.is c.as_slice.ensures c.rows.invariant.table c.rows.invariant.schema c.in_ok-row.ensures.fits c.requires.typed

pub rows-preserved : goal.rows-preserved
rows-preserved g c =
    let more = c.in_ok-row.ensures.leaves in
    let kept = c.rows.invariant.leaves in
    let over : Rises c.rows.left.after c.next_source.new.left.after = over_here _ c.in_ok-row.field-0 c.in-Some.row c.in-Some.is c.in_ok-row.ensures.over in
    record {
      goes = rows_pass c.args.filter.now c.in_ok-row.field-0 c.in-Some.row _ _ _ _ _ _ _ c.in-Some.is c.as_slice.ensures c.rows.invariant.db c.rows.invariant.goes c.in_ok-row.ensures.row c.in_ok-is_meant.ensures c.if-branch.false;
      over = omega (arith, c.rows.invariant.over, over.0);
      table = c.in_ok-row.ensures.table ∙ c.rows.invariant.table;
      db = c.in_ok-row.ensures.db ∙ c.rows.invariant.db;
      schema = c.in_ok-row.ensures.schema ∙ c.rows.invariant.schema;
      ready = c.in_ok-row.ensures.ready ∙ c.rows.invariant.ready;
      leaves = (more.0 ∙ kept.0, more.1 ∙ kept.1, more.2 ∙ kept.2, more.3 ∙ kept.3, more.4 ∙ kept.4);
      faults = c.in_ok-row.ensures.cause ∙ c.rows.invariant.faults;
    }

pub rows-smaller : goal.rows-smaller
rows-smaller g c =
    let over : Rises c.rows.left.after c.next_source.new.left.after = over_here _ c.in_ok-row.field-0 c.in-Some.row c.in-Some.is c.in_ok-row.ensures.over in
    fewer c.rows.left.after c.next_source.new.left.after over
