use Rattle.std.proofs.Common.{arith}
use Rattle.ql_cursor.proofs.StepLemmas.{exits}
use Rattle.ql_parse.proofs.ScriptLemmas.{gives_script, fails_left, none_left}
use Rattle.ql_cursor.proofs.Sequences.{fails_first, fails_second}
use Rattle.ql_parse.proofs.scripts.statements.Goals as goal

pub returns-in_err-first : goal.returns-in_err-first
returns-in_err-first c = exits _ _ _ _ c.from_residual.ensures.1 (fails_first c.in_err-first.ensures)

pub returns-in_err-add_later : goal.returns-in_err-add_later
returns-in_err-add_later c = exits _ _ _ _ c.from_residual-in_err-add_later.ensures.1 (fails_second c.in_ok-first.ensures (fails_first c.in_err-add_later.ensures.err))

pub returns-then-left-gt0 : goal.returns-then-left-gt0
returns-then-left-gt0 c = fails_left c.in_ok-first.ensures c.in_ok-add_later.ensures.ok (omega (arith, c.left.ensures)) c.unexpected.ensures

pub returns : goal.returns
returns c = rw c.shrink_to_fit.ensures (gives_script c.in_ok-first.ensures c.new-found.ensures c.in_ok-add.ensures c.in_ok-add_later.ensures.ok (none_left _ (omega (arith, c.left.ensures))))
