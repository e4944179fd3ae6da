-- The plan keeps what is promised of its types.
use Rattle.ql_check.proofs.Promises.{plans_typed}
use Rattle.ql_check.proofs.statement.check.Goals as goal

pub returns-clause-typed : goal.returns-clause-typed
returns-clause-typed c = plans_typed c.args.schema.now c.args.statement.now c.statement_plan.result c.statement_plan.ensures
