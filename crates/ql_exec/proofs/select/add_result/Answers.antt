-- Groups come later, and without them there is a line for each row.
use Rattle.ql_exec.proofs.Shown.{plain_shows}
use Rattle.ql_exec.specs.Turns.{rows_of}
use Rattle.ql_exec.proofs.select.add_result.Goals as goal

pub returns-clause-text : goal.returns-clause-text
returns-clause-text g c =
    plain_shows c.args.window.now c.args.plan.now (rows_of c.args.left.now) _ _ _ _ c.if-plan.false c.add_lines.ensures.text
