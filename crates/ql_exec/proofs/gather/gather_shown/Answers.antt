-- DISTINCT and ORDER BY are refused.
use Rattle.std.proofs.Common.{sym, ◌∙◌}
use Rattle.ql_exec.proofs.Collected.{rows_later}
use Rattle.ql_exec.proofs.gather.gather_shown.Goals as goal

pub returns-then-not-is_in_turn-clause-rows : goal.returns-then-not-is_in_turn-clause-rows
returns-then-not-is_in_turn-clause-rows g c = rw c.refusal.ensures (rows_later c.args.select.now c.args.plan.now _ (sym c.is_in_turn.ensures ∙ c.if-not-is_in_turn.true))
