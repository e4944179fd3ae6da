use Rattle.ql_syntax.specs.Rules as rule
use Rattle.ql_syntax.specs.Readings.{pair, node, both, by_rule}
use Rattle.ql_cursor.proofs.StepLemmas.{exits}
use Rattle.ql_cursor.proofs.Sequences.{fails_the, fails_first, fails_second}
use Rattle.ql_parse_expr.proofs.SelectLemmas.{same_set}
use Rattle.ql_parse_expr.proofs.parser.Parser.set.Goals as goal

pub returns-in_err-source : goal.returns-in_err-source
returns-in_err-source g c = exits _ _ _ _ c.from_residual.ensures.1 (fails_the rule.set (fails_first c.in_err-source.ensures))

pub returns-in_err-alias : goal.returns-in_err-alias
returns-in_err-alias g c = exits _ _ _ _ c.from_residual-in_err-alias.ensures.1 (fails_the rule.set (fails_second c.in_ok-source.ensures (c.in_err-alias.ensures _)))

pub returns : goal.returns
returns g c = record {
  parse = node rule.set (pair c.in_ok-source.ensures.parse (c.in_ok-alias.ensures c.args.self.now.room).parse);
  reads = by_rule (both c.in_ok-source.ensures.reads (c.in_ok-alias.ensures c.args.self.now.room).reads);
  means = same_set c.in_ok-source.ensures.means (c.in_ok-alias.ensures c.args.self.now.room).means;
}
