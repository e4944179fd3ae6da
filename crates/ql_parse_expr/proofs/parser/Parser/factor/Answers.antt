use Rattle.ql_syntax.specs.Rules as rule
use Rattle.ql_cursor.proofs.StepLemmas.{exits}
use Rattle.ql_cursor.proofs.Sequences.{fails_the}
use Rattle.ql_parse_expr.proofs.ChainLemmas.{gives_factor, fails_front, fails_behind}
use Rattle.ql_parse_expr.proofs.parser.Parser.factor.Goals as goal

pub returns-in_err-part : goal.returns-in_err-part
returns-in_err-part g c = exits _ _ _ _ c.from_residual.ensures.1 (fails_the rule.factor (fails_front c.in_err-part.ensures))

pub returns-in_err-maybe_predicate : goal.returns-in_err-maybe_predicate
returns-in_err-maybe_predicate g c = exits _ _ _ _ c.from_residual-in_err-maybe_predicate.ensures.1 (fails_the rule.factor (fails_behind c.in_ok-part.ensures c.in_err-maybe_predicate.ensures))

pub returns : goal.returns
returns g c = gives_factor c.in_ok-part.ensures c.in_ok-maybe_predicate.ensures
