-- Nothing to drop, and a table that goes.
use Rattle.std.proofs.Common.{sym}
use Rattle.ql_exec.proofs.Dropped.{idle_done, drop_done}
use Rattle.ql_exec.proofs.drop.drop_table.Goals as goal

pub returns-then-is_idle-clause-done : goal.returns-then-is_idle-clause-done
returns-then-is_idle-clause-done g c = idle_done c.args.quiet c.args.name.now (g.R.Rel.schema c.args.rel.now) _ (sym (c.if-is_idle.ensures)) (g.met.R.Rel.told_schema c.args.rel.now)

pub returns-in-Ok-clause-done : goal.returns-in-Ok-clause-done
returns-in-Ok-clause-done g c =
    drop_done c.args.quiet c.args.name.now c.table_named-table.result (g.R.Rel.schema c.args.rel.now) _ _ c.table_named-table.ensures (sym (c.if-is_idle.ensures)) (g.met.R.Rel.told_schema c.args.rel.now) c.in-Ok.ensures.db
