use Rattle.std.proofs.Common.{refl, sym, ◌∙◌}
use Rattle.ql_cursor.proofs.StepLemmas.{gives_token, fails_token}
use Rattle.ql_cursor.proofs.steps.expect_word.Goals as goal

pub returns-then-sees_word : goal.returns-then-sees_word
returns-then-sees_word c n = gives_token n _ _ _ _ _ (sym c.sees_word.ensures ∙ c.if-sees_word.true) c.skip.ensures (λ t ts e. refl)

pub returns-else-sees_word : goal.returns-else-sees_word
returns-else-sees_word c n = fails_token n _ _ _ (sym c.sees_word.ensures ∙ c.if-sees_word.false) c.unexpected.ensures
