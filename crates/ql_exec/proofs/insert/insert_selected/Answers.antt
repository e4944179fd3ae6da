-- The rows that the SELECT shows fit, and do what the INSERT does.
use Rattle.ql_exec.proofs.Rowed.{selected_done, selected_stops, shown_for, placed_at}
use Rattle.ql_exec.proofs.insert.insert_selected.Goals as goal

pub place_rows-requires : goal.place_rows-requires
place_rows-requires g c =
    shown_for c.table_named-table.result _ (g.R.Rel.schema c.args.rel.now) (g.R.Rel.schema c.gather_shown.new.rel) c.columns_of.result.now _ c.args.plan.now c.as_slice.result.now c.in_ok-shown.shown
    c.columns_of.ensures c.in_ok-shown.ensures.schema c.table_named-table.ensures c.as_slice.ensures c.requires.typed c.in_ok-shown.ensures.made

pub add_rows-requires-clause-fits : goal.add_rows-requires-clause-fits
add_rows-requires-clause-fits g c =
    placed_at c.table_named-table.result (g.R.Rel.schema c.gather_shown.new.rel) c.columns_of.result.now c.as_slice.result.now c.in_ok-shown.shown c.in_ok-rows.rows c.columns_of.ensures c.in_ok-rows.ensures
    (shown_for c.table_named-table.result _ (g.R.Rel.schema c.args.rel.now) (g.R.Rel.schema c.gather_shown.new.rel) c.columns_of.result.now _ c.args.plan.now c.as_slice.result.now c.in_ok-shown.shown
    c.columns_of.ensures c.in_ok-shown.ensures.schema c.table_named-table.ensures c.as_slice.ensures c.requires.typed c.in_ok-shown.ensures.made)

pub returns-in_err-shown-clause-done : goal.returns-in_err-shown-clause-done
returns-in_err-shown-clause-done g c =
    selected_stops (Unit {0}) c.args.name.now c.args.select.now c.args.plan.now c.in_err-shown.field-0.0 c.from_residual.result _ _ c.from_residual.ensures.1 c.in_err-shown.ensures.rows

pub returns-clause-done : goal.returns-clause-done
returns-clause-done g c =
    selected_done c.args.name.now c.args.select.now c.args.plan.now c.as_slice.result.now c.in_ok-shown.shown c.in_ok-rows.rows c.table_named-table.result (g.R.Rel.schema c.args.rel.now) (g.R.Rel.schema c.gather_shown.new.rel) c.columns_of.result.now _ _ _ _
    c.table_named-table.ensures c.columns_of.ensures c.in_ok-shown.ensures.schema c.as_slice.ensures c.in_ok-rows.ensures (g.met.R.Rel.told_schema c.args.rel.now) c.in_ok-shown.ensures.rows c.in_ok-shown.ensures.db c.add_rows.ensures.done
