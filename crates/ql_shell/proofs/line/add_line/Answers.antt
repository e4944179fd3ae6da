-- The line of a refusal, part by part.
use Rattle.ql_shell.proofs.Lines.{five_parts}
use Rattle.ql_shell.proofs.line.add_line.Goals as goal

pub returns-in_ok-extend-in-Refused-3 : goal.returns-in_ok-extend-in-Refused-3
returns-in_ok-extend-in-Refused-3 c =
    rw c.in-Refused.is (five_parts c.args.out.now _ _ _ _ _ _ _ _ _ _ c.in_ok-extend-in-Refused.ensures.ok c.in_ok-add_number-in-Refused.ensures c.in_ok-extend-in-Refused-2.ensures.ok c.in_ok-add_refusal-in-Refused.ensures c.in_ok-extend-in-Refused-3.ensures.ok)
