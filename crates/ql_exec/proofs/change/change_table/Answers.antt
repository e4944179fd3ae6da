-- The rows of the table with a name.
use Rattle.ql_exec.proofs.Rounds.{named_changes}
use Rattle.ql_exec.proofs.change.change_table.Goals as goal

pub returns-clause-done : goal.returns-clause-done
returns-clause-done g c =
    named_changes c.args.removes c.args.name.now c.args.plan.now c.table_named-table.result (g.R.Rel.schema c.args.rel.now) c.change_rows.result _ _ c.table_named-table.ensures (g.met.R.Rel.told_schema c.args.rel.now) c.change_rows.ensures.done
