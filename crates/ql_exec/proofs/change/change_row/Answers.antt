-- A row that stays, one that goes, and one that gets new values.
use Rattle.std.proofs.Common.{◌∙◌}
use Rattle.ql_rel.specs.Databases.{columns_at}
use Rattle.ql_exec.specs.Scans.{table_types}
use Rattle.ql_exec.proofs.Assigned.{row_fits_types, filter_typed, values_typed, targets_each, places_below, made_fits, stays_done, goes_done, puts_done}
use Rattle.ql_exec.proofs.Lined.{typed_each}
use Rattle.ql_exec.proofs.change.change_row.Goals as goal

pub is_meant-requires : goal.is_meant-requires
is_meant-requires g c =
    let columns = columns_at c.args.table (g.R.Rel.schema c.args.rel.now) in
    rw (c.as_slice.ensures, c.in_ok-row.ensures) (filter_typed (table_types columns) _ c.args.plan.now.filter (row_fits_types columns c.args.row c.requires.small c.requires.fits) c.requires.typed.filter)

pub returns-then-not-branch-clause-done : goal.returns-then-not-branch-clause-done
returns-then-not-branch-clause-done g c =
    stays_done c.args.removes c.args.table c.args.plan.now c.args.row c.as_slice.result.now c.in_ok-is_meant.field-0 _ (c.as_slice.ensures ∙ c.in_ok-row.ensures) c.in_ok-is_meant.ensures c.if-not-branch.true

pub returns-then-removes-clause-done : goal.returns-then-removes-clause-done
returns-then-removes-clause-done g c =
    goes_done c.args.removes c.args.table c.args.plan.now c.args.row c.as_slice.result.now c.in_ok-is_meant.field-0 c.remove_row.result _ _ (c.as_slice.ensures ∙ c.in_ok-row.ensures) c.in_ok-is_meant.ensures c.if-not-branch.false c.if-removes.true c.remove_row.ensures.done

pub new_values-requires-clause-typed : goal.new_values-requires-clause-typed
new_values-requires-clause-typed g c =
    let columns = columns_at c.args.table (g.R.Rel.schema c.args.rel.now) in
    rw c.in_ok-row.ensures (typed_each (table_types columns) _ c.args.plan.now.fields (row_fits_types columns c.args.row c.requires.small c.requires.fits)
    (values_typed (table_types columns) columns c.args.plan.now.targets c.args.plan.now.fields c.requires.typed.values))

pub new_values-requires-clause-places : goal.new_values-requires-clause-places
new_values-requires-clause-places g c =
    let columns = columns_at c.args.table (g.R.Rel.schema c.args.rel.now) in
    places_below (table_types columns) columns c.args.plan.now.targets c.args.plan.now.fields c.args.row c.in_ok-row.row c.in_ok-row.ensures c.requires.fits c.requires.typed.values

pub new_values-requires-clause-each : goal.new_values-requires-clause-each
new_values-requires-clause-each g c =
    let columns = columns_at c.args.table (g.R.Rel.schema c.args.rel.now) in
    targets_each (table_types columns) columns c.args.plan.now.targets c.args.plan.now.fields c.requires.typed.values

pub put_row-requires-clause-fits : goal.put_row-requires-clause-fits
put_row-requires-clause-fits g c =
    made_fits (columns_at c.args.table (g.R.Rel.schema c.args.rel.now)) c.args.plan.now c.args.row c.in_ok-row.row c.in_ok-values.values c.in_ok-row.ensures c.requires.small c.requires.fits c.requires.typed c.in_ok-values.ensures

pub returns-clause-done : goal.returns-clause-done
returns-clause-done g c =
    puts_done c.args.removes c.args.table c.args.plan.now c.args.row c.as_slice.result.now c.in_ok-values.values c.in_ok-is_meant.field-0 c.put_row.result _ _ (c.as_slice.ensures ∙ c.in_ok-row.ensures) c.in_ok-is_meant.ensures c.if-not-branch.false c.if-removes.false
    (rw c.as_slice.ensures c.in_ok-values.ensures) c.put_row.ensures.done
