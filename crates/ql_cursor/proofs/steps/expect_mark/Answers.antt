use Rattle.std.proofs.Common.{refl, sym, ◌∙◌}
use Rattle.ql_cursor.proofs.StepLemmas.{gives_token, fails_token}
use Rattle.ql_cursor.proofs.steps.expect_mark.Goals as goal

pub returns-then-sees_mark : goal.returns-then-sees_mark
returns-then-sees_mark c n = gives_token n _ _ _ _ _ (sym c.sees_mark.ensures ∙ c.if-sees_mark.true) c.skip.ensures (λ t ts e. refl)

pub returns-else-sees_mark : goal.returns-else-sees_mark
returns-else-sees_mark c n = fails_token n _ _ _ (sym c.sees_mark.ensures ∙ c.if-sees_mark.false) c.unexpected.ensures
