-- What the definition promises of a plan holds of the answer.
use Rattle.std.proofs.Common.{Result, Ok, Err, IfOk}
use Rattle.ql_syntax.specs.declared.statement.Statement.{Statement}
use Rattle.ql_rel.specs.declared.plan.Plan.{Plan}
use Rattle.ql_rel.specs.declared.schema.Schema.{Schema}
use Rattle.ql_rel.specs.PlanTypes.{PlanTyped}
use Rattle.ql_rel.specs.StatementPlans.{statement_plan}
use Rattle.ql_rel.proofs.ChangeFits.{statement_typed}
use Rattle.ql_check_expr.specs.declared.fault.CheckFault.{CheckFault}
use Rattle.ql_check_expr.specs.Gives.{Gives}

pub plans_typed : (schema : Schema) (statement : Statement) (r : Result Plan CheckFault) → Gives (statement_plan schema statement) r → IfOk r (PlanTyped schema statement)
plans_typed schema statement (Ok p) h = statement_typed schema statement p h
plans_typed schema statement (Err f) h = tt
