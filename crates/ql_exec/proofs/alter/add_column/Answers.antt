-- The table is there, the column's name is free, and the CREATE statements make the schema after it.
use Rattle.std.proofs.Common.{Ok, Err}
use Rattle.ql_rel.specs.Changes.{column_added}
use Rattle.ql_rel.specs.Refusals.{column_refusal}
use Rattle.ql_exec.specs.Answers.{fault_of_rel}
use Rattle.ql_exec.proofs.Added.{change_done, change_refused, cause_kept}
use Rattle.ql_exec.proofs.Altered.{add_planned, there_at, free_at, add_made, adds_at}
use Rattle.ql_exec.proofs.alter.add_column.Goals as goal

pub table_named-table-requires : goal.table_named-table-requires
table_named-table-requires g c = (add_planned (g.R.Rel.schema c.args.rel.now) c.args.name.now c.args.column.now c.requires.plan).at.there

pub add_column-requires-clause-table : goal.add_column-requires-clause-table
add_column-requires-clause-table g c =
    let says = add_planned (g.R.Rel.schema c.args.rel.now) c.args.name.now c.args.column.now c.requires.plan in
    there_at c.table_named-table.result (g.R.Rel.schema c.args.rel.now) c.args.name.now says.table c.table_named-table.ensures says.at

pub add_column-requires-clause-free : goal.add_column-requires-clause-free
add_column-requires-clause-free g c =
    free_at c.table_named-table.result (g.R.Rel.schema c.args.rel.now) c.args.name.now c.args.column.now c.table_named-table.ensures (add_planned (g.R.Rel.schema c.args.rel.now) c.args.name.now c.args.column.now c.requires.plan)

pub add_column-requires-clause-made : goal.add_column-requires-clause-made
add_column-requires-clause-made g c =
    add_made c.made_laws.ensures.parts c.made_laws.ensures.made (g.R.Rel.schema c.args.rel.now) c.args.name.now c.args.column.now c.table_named-table.result _ c.table_named-table.ensures
    (add_planned (g.R.Rel.schema c.args.rel.now) c.args.name.now c.args.column.now c.requires.plan) c.requires.read c.requires.formed (g.met.R.Rel.told_schema c.args.rel.now)

pub returns-in-Ok-clause-done : goal.returns-in-Ok-clause-done
returns-in-Ok-clause-done g c =
    adds_at {T = Unit {0}} c.args.name.now c.args.column.now c.table_named-table.result (g.R.Rel.schema c.args.rel.now) (Ok tt) _ _ c.table_named-table.ensures (g.met.R.Rel.told_schema c.args.rel.now)
    (change_done {T = Unit {0}} (column_added c.table_named-table.result c.args.column.now) (column_refusal c.table_named-table.result c.args.column.now) tt _ _ c.in-Ok.ensures.db c.in-Ok.ensures.refused)

pub returns-in-Err-clause-done : goal.returns-in-Err-clause-done
returns-in-Err-clause-done g c =
    rw c.fault_of_rel.ensures (adds_at {T = Unit {0}} c.args.name.now c.args.column.now c.table_named-table.result (g.R.Rel.schema c.args.rel.now) (Err (fault_of_rel c.in-Err.fault)) _ _ c.table_named-table.ensures (g.met.R.Rel.told_schema c.args.rel.now)
    (change_refused (Unit {0}) (Unit {0}) (column_added c.table_named-table.result c.args.column.now) (column_refusal c.table_named-table.result c.args.column.now) c.in-Err.fault _ _ c.in-Err.ensures.refused))

pub returns-in-Err-clause-cause : goal.returns-in-Err-clause-cause
returns-in-Err-clause-cause g c = rw c.fault_of_rel.ensures (cause_kept (Unit {0}) (Unit {0}) _ _ c.in-Err.fault _ _ c.in-Err.ensures.cause)
