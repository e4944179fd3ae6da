-- A table that is there, one that is made, and one that is refused.
use Rattle.std.proofs.Common.{Ok, Err, sym}
use Rattle.ql_exec.specs.Answers.{fault_of_rel}
use Rattle.ql_exec.proofs.Added.{cause_kept}
use Rattle.ql_exec.proofs.Created.{planned_loud, made_after, idle_done, loud_done, table_done, table_refused}
use Rattle.ql_exec.proofs.create.create_table.Goals as goal

pub returns-then-is_idle-clause-done : goal.returns-then-is_idle-clause-done
returns-then-is_idle-clause-done g c = idle_done c.args.quiet (record { name = c.args.name.now; columns = c.args.columns.now }) (g.R.Rel.schema c.args.rel.now) _ (sym c.if-is_idle.ensures) (g.met.R.Rel.told_schema c.args.rel.now)

pub create_table-requires-clause-made : goal.create_table-requires-clause-made
create_table-requires-clause-made g c =
    made_after c.made_laws.ensures.parts c.made_laws.ensures.made c.args.quiet c.in_ok-table.table (record { name = c.args.name.now; columns = c.args.columns.now }) (g.R.Rel.schema c.args.rel.now) _ c.in_ok-table.ensures c.requires.formed (g.met.R.Rel.told_schema c.args.rel.now)
    (planned_loud (g.R.Rel.schema c.args.rel.now) c.args.quiet c.args.name.now c.args.columns.now (sym c.if-is_idle.ensures) c.requires.plan) c.requires.read

pub returns-in-Ok-clause-done : goal.returns-in-Ok-clause-done
returns-in-Ok-clause-done g c =
    loud_done {T = Unit {0}} c.args.quiet (record { name = c.args.name.now; columns = c.args.columns.now }) (g.R.Rel.schema c.args.rel.now) (Ok tt) _ _ (sym c.if-is_idle.ensures) (g.met.R.Rel.told_schema c.args.rel.now)
    (table_done {T = Unit {0}} c.in_ok-table.table (record { name = c.args.name.now; columns = c.args.columns.now }) (g.R.Rel.schema c.args.rel.now) tt _ _ c.in_ok-table.ensures (g.met.R.Rel.told_schema c.args.rel.now) c.in-Ok.ensures.db c.in-Ok.ensures.refused)

pub returns-clause-done : goal.returns-clause-done
returns-clause-done g c =
    rw c.fault_of_rel.ensures (loud_done {T = Unit {0}} c.args.quiet (record { name = c.args.name.now; columns = c.args.columns.now }) (g.R.Rel.schema c.args.rel.now) (Err (fault_of_rel c.in-Err.fault)) _ _ (sym c.if-is_idle.ensures) (g.met.R.Rel.told_schema c.args.rel.now)
    (table_refused (Unit {0}) (Unit {0}) c.in_ok-table.table (record { name = c.args.name.now; columns = c.args.columns.now }) (g.R.Rel.schema c.args.rel.now) c.in-Err.fault _ _ c.in_ok-table.ensures (g.met.R.Rel.told_schema c.args.rel.now) c.in-Err.ensures.refused))

pub returns-clause-cause : goal.returns-clause-cause
returns-clause-cause g c = rw c.fault_of_rel.ensures (cause_kept (Unit {0}) (Unit {0}) _ _ c.in-Err.fault _ _ c.in-Err.ensures.cause)
