use Rattle.std.proofs.Common.{refl, sym, ◌∙◌}
use Rattle.ql_cursor.proofs.StepLemmas.{gives_maybe, gives_absent}
use Rattle.ql_cursor.proofs.steps.eat_word.Goals as goal

pub returns-then-found : goal.returns-then-found
returns-then-found c n = rw c.if-found.true (gives_maybe n _ _ _ (sym c.sees_word-found.ensures ∙ c.if-found.true) c.skip.ensures)

pub returns-else-found : goal.returns-else-found
returns-else-found c n = rw c.if-found.false (gives_absent n _ _ _ (sym c.sees_word-found.ensures ∙ c.if-found.false) refl)
