use Rattle.std.proofs.Common.{sym, ap, ◌∙◌}
use Rattle.ql_syntax.specs.Lexemes.{text_at}
use Rattle.ql_cursor.proofs.StepLemmas.{gives_token, fails_token}
use Rattle.ql_cursor.proofs.steps.expect_name.Goals as goal

pub returns : goal.returns
returns c n = gives_token n _ _ _ _ _ (sym c.sees_name.ensures ∙ c.if-not-sees_name.false) c.skip.ensures (λ t ts e. c.in_ok-name.ensures ∙ ap text_at e)

pub returns-then-not-sees_name : goal.returns-then-not-sees_name
returns-then-not-sees_name c n = fails_token n _ _ _ (sym c.sees_name.ensures ∙ c.if-not-sees_name.true) c.unexpected.ensures
