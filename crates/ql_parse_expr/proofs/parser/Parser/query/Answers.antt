use Rattle.ql_syntax.specs.Rules as rule
use Rattle.ql_syntax.specs.Readings.{pair, node, both, by_rule}
use Rattle.ql_cursor.proofs.StepLemmas.{exits}
use Rattle.ql_cursor.proofs.Sequences.{fails_the, fails_first, fails_second}
use Rattle.ql_parse_expr.proofs.SelectLemmas.{select_made}
use Rattle.ql_parse_expr.proofs.parser.Parser.query.Goals as goal

pub returns-in_err-expect_word : goal.returns-in_err-expect_word
returns-in_err-expect_word g c = exits _ _ _ _ c.from_residual.ensures.1 (fails_the rule.select (fails_first (c.in_err-expect_word.ensures _)))

pub returns-in_err-fields : goal.returns-in_err-fields
returns-in_err-fields g c = exits _ _ _ _ c.from_residual-in_err-fields.ensures.1
    (fails_the rule.select (fails_second (c.in_ok-expect_word.ensures _) (fails_second (c.eat_word-distinct.ensures _) (fails_first c.in_err-fields.ensures))))

pub returns-in_err-sources : goal.returns-in_err-sources
returns-in_err-sources g c = exits _ _ _ _ c.from_residual-in_err-sources.ensures.1
    (fails_the rule.select (fails_second (c.in_ok-expect_word.ensures _) (fails_second (c.eat_word-distinct.ensures _) (fails_second c.in_ok-fields.ensures (fails_first c.in_err-sources.ensures)))))

pub returns-in_err-tail : goal.returns-in_err-tail
returns-in_err-tail g c = exits _ _ _ _ c.from_residual-in_err-tail.ensures.1
    (fails_the rule.select (fails_second (c.in_ok-expect_word.ensures _) (fails_second (c.eat_word-distinct.ensures _) (fails_second c.in_ok-fields.ensures (fails_second c.in_ok-sources.ensures c.in_err-tail.ensures)))))

pub returns : goal.returns
returns g c = record {
  parse = node rule.select (pair (c.in_ok-expect_word.ensures c.args.self.now.room).parse (pair (c.eat_word-distinct.ensures c.args.self.now.room).parse (pair c.in_ok-fields.ensures.parse
      (pair c.in_ok-sources.ensures.parse c.in_ok-tail.ensures.parse))));
  reads = by_rule (both (c.in_ok-expect_word.ensures c.args.self.now.room).reads (both (c.eat_word-distinct.ensures c.args.self.now.room).reads (both c.in_ok-fields.ensures.reads
      (both c.in_ok-sources.ensures.reads c.in_ok-tail.ensures.reads))));
  means = select_made (c.in_ok-expect_word.ensures c.args.self.now.room).parse (c.eat_word-distinct.ensures c.args.self.now.room).parse c.in_ok-fields.ensures.parse c.in_ok-sources.ensures.parse
      c.in_ok-sources.sources c.in_ok-tail.tail c.in_ok-tail.ensures.reads (c.eat_word-distinct.ensures c.args.self.now.room).means c.in_ok-fields.ensures.means
      c.in_ok-sources.ensures.means c.in_ok-tail.ensures.means;
}
