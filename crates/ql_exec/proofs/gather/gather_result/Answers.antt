-- Groups come later, and without them there is each row.
use Rattle.ql_exec.proofs.Collected.{plain_results}
use Rattle.ql_exec.specs.Turns.{rows_of}
use Rattle.ql_exec.proofs.gather.gather_result.Goals as goal

pub returns-clause-rows : goal.returns-clause-rows
returns-clause-rows g c = plain_results c.args.window.now c.args.plan.now (rows_of c.args.left.now) _ _ c.if-plan.false c.gather_plain.ensures.rows
