-- The plan of a statement, and what was done by it.
use Rattle.std.proofs.Common.{◌≡◌, Ok, subst}
use Rattle.ql_rel.specs.declared.schema.Schema.{Schema}
use Rattle.ql_rel.specs.StatementPlans.{statement_plan}
use Rattle.ql_exec.proofs.Checked.{planned_does, stays_lawful}
use Rattle.ql_exec.proofs.execution.exec.Goals as goal

pub carry-requires-clause-formed : goal.carry-requires-clause-formed
carry-requires-clause-formed g c = g.met.R.Rel.formed c.args.rel.now c.requires.ready

pub carry-requires-clause-plan : goal.carry-requires-clause-plan
carry-requires-clause-plan g c = subst (λ (z : Schema). statement_plan z c.args.statement.now ≡ Ok c.in-Ok.plan) c.schema.ensures c.in-Ok.ensures.plan

pub returns-in-Ok-clause-done : goal.returns-in-Ok-clause-done
returns-in-Ok-clause-done g c =
    planned_does c.args.with_names c.args.statement.now (g.R.Rel.schema c.args.rel.now) c.in-Ok.plan c.carry.result _ _ _ _ (g.met.R.Rel.told_schema c.args.rel.now)
    (subst (λ (z : Schema). statement_plan z c.args.statement.now ≡ Ok c.in-Ok.plan) c.schema.ensures c.in-Ok.ensures.plan) c.carry.ensures.done

pub returns-in-Ok-clause-lawful : goal.returns-in-Ok-clause-lawful
returns-in-Ok-clause-lawful g c =
    stays_lawful c.effect_laws.ensures c.args.with_names c.args.statement.now c.carry.result _ _ _ _ c.requires.read
    (planned_does c.args.with_names c.args.statement.now (g.R.Rel.schema c.args.rel.now) c.in-Ok.plan c.carry.result _ _ _ _ (g.met.R.Rel.told_schema c.args.rel.now)
    (subst (λ (z : Schema). statement_plan z c.args.statement.now ≡ Ok c.in-Ok.plan) c.schema.ensures c.in-Ok.ensures.plan) c.carry.ensures.done)
