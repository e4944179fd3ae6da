use Rattle.test_rel.proofs.OnlyTables.{made_wider}
use Rattle.test_rel.proofs.columns.may_add.Goals as goal

pub returns-clause-made : goal.returns-clause-made
returns-clause-made g c may =
    made_wider _ _ _ c.in-Some.table.now.name c.in-Some.table.now.columns _ _ _ (g.met.R.Rel.told_schema c.args.rel.now) c.schema.ensures c.in-Some.ensures c.as_slice-columns.ensures c.in_ok-wide.ensures (c.is_made.ensures may)
