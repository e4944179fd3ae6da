use Rattle.ql_syntax.specs.Readings.{pair, both}
use Rattle.ql_cursor.proofs.StepLemmas.{exits}
use Rattle.ql_cursor.proofs.Sequences.{fails_first, fails_second}
use Rattle.ql_parse_expr.proofs.PredicateLemmas.{same_between}
use Rattle.ql_parse_expr.proofs.parser.Parser.range.Goals as goal

pub returns-in_err-expect_word : goal.returns-in_err-expect_word
returns-in_err-expect_word g c = exits _ _ _ _ c.from_residual.ensures.1 (fails_first (c.in_err-expect_word.ensures _))

pub returns-in_err-low : goal.returns-in_err-low
returns-in_err-low g c = exits _ _ _ _ c.from_residual-in_err-low.ensures.1 (fails_second (c.in_ok-expect_word.ensures _) (fails_first c.in_err-low.ensures))

pub returns-in_err-expect_word-2 : goal.returns-in_err-expect_word-2
returns-in_err-expect_word-2 g c = exits _ _ _ _ c.from_residual-in_err-expect_word-2.ensures.1
    (fails_second (c.in_ok-expect_word.ensures _) (fails_second c.in_ok-low.ensures (fails_first (c.in_err-expect_word-2.ensures _))))

pub returns-in_err-high : goal.returns-in_err-high
returns-in_err-high g c = exits _ _ _ _ c.from_residual-in_err-high.ensures.1
    (fails_second (c.in_ok-expect_word.ensures _) (fails_second c.in_ok-low.ensures (fails_second (c.in_ok-expect_word-2.ensures _) c.in_err-high.ensures)))

pub returns : goal.returns
returns g c = record {
  parse = pair (c.in_ok-expect_word.ensures c.args.self.now.room).parse (pair c.in_ok-low.ensures.parse (pair (c.in_ok-expect_word-2.ensures c.args.self.now.room).parse c.in_ok-high.ensures.parse));
  reads = both (c.in_ok-expect_word.ensures c.args.self.now.room).reads (both c.in_ok-low.ensures.reads (both (c.in_ok-expect_word-2.ensures c.args.self.now.room).reads c.in_ok-high.ensures.reads));
  means = same_between c.args.not c.in_ok-part.ensures c.in_ok-low.ensures.means c.in_ok-high.ensures.means;
}
