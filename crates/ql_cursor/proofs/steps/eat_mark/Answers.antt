use Rattle.std.proofs.Common.{refl, sym, ◌∙◌}
use Rattle.ql_cursor.proofs.StepLemmas.{gives_maybe, gives_absent}
use Rattle.ql_cursor.proofs.steps.eat_mark.Goals as goal

pub returns-then-found-clause-read : goal.returns-then-found-clause-read
returns-then-found-clause-read c n = rw c.if-found.true (gives_maybe n _ _ _ (sym c.sees_mark-found.ensures ∙ c.if-found.true) c.skip.ensures)

pub returns-else-found-clause-read : goal.returns-else-found-clause-read
returns-else-found-clause-read c n = rw c.if-found.false (gives_absent n _ _ _ (sym c.sees_mark-found.ensures ∙ c.if-found.false) refl)
