use Rattle.std.proofs.Common.{◌∙◌}
use Rattle.ql_syntax.specs.Readings.{pair, both}
use Rattle.ql_cursor.proofs.StepLemmas.{exits}
use Rattle.ql_cursor.proofs.Sequences.{fails_first, fails_second}
use Rattle.ql_parse_expr.proofs.SelectLemmas.{same_join}
use Rattle.ql_parse_expr.proofs.parser.Parser.join.Goals as goal

pub returns-in_err-side : goal.returns-in_err-side
returns-in_err-side g c = exits _ _ _ _ c.from_residual.ensures.1 (fails_first (c.in_err-side.ensures _))

pub returns-in_err-expect_word : goal.returns-in_err-expect_word
returns-in_err-expect_word g c = exits _ _ _ _ c.from_residual-in_err-expect_word.ensures.1
    (fails_second (c.in_ok-side.ensures _) (fails_second (c.eat_word.ensures _) (fails_first (c.in_err-expect_word.ensures _))))

pub returns-in_err-set : goal.returns-in_err-set
returns-in_err-set g c = exits _ _ _ _ c.from_residual-in_err-set.ensures.1
    (fails_second (c.in_ok-side.ensures _) (fails_second (c.eat_word.ensures _) (fails_second (c.in_ok-expect_word.ensures _) (fails_first c.in_err-set.ensures))))

pub returns-in_err-expect_word-2 : goal.returns-in_err-expect_word-2
returns-in_err-expect_word-2 g c = exits _ _ _ _ c.from_residual-in_err-expect_word-2.ensures.1
    (fails_second (c.in_ok-side.ensures _) (fails_second (c.eat_word.ensures _) (fails_second (c.in_ok-expect_word.ensures _) (fails_second c.in_ok-set.ensures (fails_first (c.in_err-expect_word-2.ensures _))))))

pub returns-in_err-on : goal.returns-in_err-on
returns-in_err-on g c = exits _ _ _ _ c.from_residual-in_err-on.ensures.1
    (fails_second (c.in_ok-side.ensures _) (fails_second (c.eat_word.ensures _) (fails_second (c.in_ok-expect_word.ensures _) (fails_second c.in_ok-set.ensures (fails_second (c.in_ok-expect_word-2.ensures _) c.in_err-on.ensures)))))

pub returns : goal.returns
returns g c = record {
  parse = pair (c.in_ok-side.ensures c.args.self.now.room).parse (pair (c.eat_word.ensures c.args.self.now.room).parse (pair (c.in_ok-expect_word.ensures c.args.self.now.room).parse
      (pair c.in_ok-set.ensures.parse (pair (c.in_ok-expect_word-2.ensures c.args.self.now.room).parse c.in_ok-on.ensures.parse))));
  reads = both (c.in_ok-side.ensures c.args.self.now.room).reads (both (c.eat_word.ensures c.args.self.now.room).reads (both (c.in_ok-expect_word.ensures c.args.self.now.room).reads
      (both c.in_ok-set.ensures.reads (both (c.in_ok-expect_word-2.ensures c.args.self.now.room).reads c.in_ok-on.ensures.reads))));
  means = c.in_ok-new.ensures ∙ same_join (c.in_ok-side.ensures c.args.self.now.room).means c.in_ok-set.ensures.means c.in_ok-on.ensures.means;
}
