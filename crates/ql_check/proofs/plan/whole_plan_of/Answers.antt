-- The plan is that of its parts.
use Rattle.ql_check.proofs.WholePlans.{whole_is}
use Rattle.ql_check.proofs.plan.whole_plan_of.Goals as goal

pub returns : goal.returns
returns c = whole_is c.args.x c.in_ok-parts.field-0 c.in_ok-fields.fields c.bare_plan-rest.result c.bare_plan-rest.ensures c.in_ok-parts.ensures c.in_ok-fields.ensures
