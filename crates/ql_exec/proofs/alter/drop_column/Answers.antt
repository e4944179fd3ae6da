-- The table and the column are there, the column is not the only one, and the CREATE statements make the schema after it.
use Rattle.ql_rel.specs.StatementEffects.{drops_column}
use Rattle.ql_exec.proofs.Added.{cause_kept}
use Rattle.ql_exec.proofs.Altered.{drop_planned, there_at, within_at, placed_within, several_at, drop_made, drop_done}
use Rattle.ql_exec.proofs.Dropped.{only_trouble}
use Rattle.ql_exec.proofs.alter.drop_column.Goals as goal

pub table_named-table-requires : goal.table_named-table-requires
table_named-table-requires g c = (drop_planned (g.R.Rel.schema c.args.rel.now) c.args.name.now c.args.column.now c.requires.plan).at.there

pub column_named-place-requires-clause-table : goal.column_named-place-requires-clause-table
column_named-place-requires-clause-table g c =
    let says = drop_planned (g.R.Rel.schema c.args.rel.now) c.args.name.now c.args.column.now c.requires.plan in
    there_at c.table_named-table.result (g.R.Rel.schema c.args.rel.now) c.args.name.now says.table c.table_named-table.ensures says.at

pub column_named-place-requires-clause-column : goal.column_named-place-requires-clause-column
column_named-place-requires-clause-column g c =
    within_at c.table_named-table.result (g.R.Rel.schema c.args.rel.now) c.args.name.now c.args.column.now c.table_named-table.ensures (drop_planned (g.R.Rel.schema c.args.rel.now) c.args.name.now c.args.column.now c.requires.plan)

pub drop_column-requires-clause-table : goal.drop_column-requires-clause-table
drop_column-requires-clause-table g c =
    let says = drop_planned (g.R.Rel.schema c.args.rel.now) c.args.name.now c.args.column.now c.requires.plan in
    there_at c.table_named-table.result (g.R.Rel.schema c.args.rel.now) c.args.name.now says.table c.table_named-table.ensures says.at

pub drop_column-requires-clause-column : goal.drop_column-requires-clause-column
drop_column-requires-clause-column g c =
    let says = drop_planned (g.R.Rel.schema c.args.rel.now) c.args.name.now c.args.column.now c.requires.plan in
    placed_within c.column_named-place.result c.table_named-table.result (g.R.Rel.schema c.args.rel.now) c.args.name.now c.args.column.now c.column_named-place.ensures c.table_named-table.ensures says

pub drop_column-requires-clause-other : goal.drop_column-requires-clause-other
drop_column-requires-clause-other g c =
    several_at c.table_named-table.result (g.R.Rel.schema c.args.rel.now) c.args.name.now c.args.column.now c.table_named-table.ensures (drop_planned (g.R.Rel.schema c.args.rel.now) c.args.name.now c.args.column.now c.requires.plan)

pub drop_column-requires-clause-made : goal.drop_column-requires-clause-made
drop_column-requires-clause-made g c =
    drop_made c.made_laws.ensures.parts c.made_laws.ensures.made (g.R.Rel.schema c.args.rel.now) c.args.name.now c.args.column.now c.table_named-table.result c.column_named-place.result _ c.table_named-table.ensures c.column_named-place.ensures
    (drop_planned (g.R.Rel.schema c.args.rel.now) c.args.name.now c.args.column.now c.requires.plan) c.requires.formed (g.met.R.Rel.told_schema c.args.rel.now)

pub returns-in-Ok-clause-done : goal.returns-in-Ok-clause-done
returns-in-Ok-clause-done g c =
    drop_done c.args.name.now c.args.column.now c.table_named-table.result c.column_named-place.result (g.R.Rel.schema c.args.rel.now) _ _ c.table_named-table.ensures c.column_named-place.ensures (g.met.R.Rel.told_schema c.args.rel.now) c.in-Ok.ensures.db

pub returns-in-Err-clause-done : goal.returns-in-Err-clause-done
returns-in-Err-clause-done g c = rw c.fault_of_rel.ensures (only_trouble (Unit {0}) (Unit {0}) (drops_column c.args.name.now c.args.column.now) c.in-Err.fault _ _ c.in-Err.ensures.refused)

pub returns-in-Err-clause-cause : goal.returns-in-Err-clause-cause
returns-in-Err-clause-cause g c = rw c.fault_of_rel.ensures (cause_kept (Unit {0}) (Unit {0}) _ _ c.in-Err.fault _ _ c.in-Err.ensures.cause)
