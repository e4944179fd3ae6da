-- One row more.
use Rattle.std.proofs.Common.{◌≡◌, ◌<◌, length, get_or, subst, ◌∙◌}
use Rattle.ql_rel.specs.Databases.{columns_at}
use Rattle.ql_rel.specs.InsertEffects.{rows_added}
use Rattle.ql_rel.specs.WellFormed.{Fits}
use Rattle.ql_exec.proofs.Added.{turn_added}
use Rattle.ql_exec.proofs.Rows.{next_all}
use Rattle.ql_exec.proofs.insert.add_rows.Goals as goal

pub rows-preserved : goal.rows-preserved
rows-preserved g c =
    let same = c.as_slice-values-items.ensures in
    let at = c.rows.values-index in
    let x = c.values-item.result in
    let within = subst (λ l. at < length l) same c.rows-test.true in
    let here = subst (λ l. x ≡ get_or l at x) same c.values-item.is in
    let more = c.in_ok-add_row.ensures.leaves in
    let kept = c.rows.invariant.leaves in
    record {
      onto = turn_added c.args.table c.args.rows.now at x x (rows_added c.args.table c.args.rows.now) _ _ _ within here c.rows.invariant.onto c.in_ok-add_row.ensures.done;
      fits = (next_all (Fits (columns_at c.args.table (g.R.Rel.schema c.args.rel.now))) c.args.rows.now at x x within here c.rows.invariant.fits).1;
      schema = c.in_ok-add_row.ensures.schema ∙ c.rows.invariant.schema;
      ready = c.in_ok-add_row.ensures.ready ∙ c.rows.invariant.ready;
      leaves = (more.0 ∙ kept.0, more.1 ∙ kept.1, more.2 ∙ kept.2, more.3 ∙ kept.3, more.4 ∙ kept.4);
      faults = c.in_ok-add_row.ensures.cause ∙ c.rows.invariant.faults;
    }
