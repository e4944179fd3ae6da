use Rattle.std.proofs.Common.{ap, ◌∙◌}
use Rattle.ql_cursor.specs.Kinds.{kind_of_next}
use Rattle.ql_cursor.proofs.StepLemmas.{gives_token, fails_token}
use Rattle.ql_parse.proofs.columns.expect_kind.Goals as goal

pub returns-in_default : goal.returns-in_default
returns-in_default c n = fails_token n _ _ _ c.in_default.ensures c.unexpected.ensures

pub returns : goal.returns
returns c n = gives_token n _ _ _ _ _ c.in-Some.ensures.0 c.skip.ensures (λ t ts e. c.in-Some.ensures.1 ∙ ap kind_of_next e)
