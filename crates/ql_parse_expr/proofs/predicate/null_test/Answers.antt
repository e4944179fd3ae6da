use Rattle.ql_syntax.specs.Readings.{pair, both}
use Rattle.ql_cursor.proofs.StepLemmas.{exits}
use Rattle.ql_cursor.proofs.Sequences.{fails_first, fails_second}
use Rattle.ql_parse_expr.proofs.predicate.null_test.Goals as goal

pub returns-in_err-expect_word : goal.returns-in_err-expect_word
returns-in_err-expect_word c n = exits _ _ _ _ c.from_residual.ensures.1 (fails_first (c.in_err-expect_word.ensures n))

pub returns-in_err-expect_word-2 : goal.returns-in_err-expect_word-2
returns-in_err-expect_word-2 c n = exits _ _ _ _ c.from_residual-in_err-expect_word-2.ensures.1
    (fails_second (c.in_ok-expect_word.ensures n) (fails_second (c.eat_word-not.ensures n) (c.in_err-expect_word-2.ensures n)))

pub returns : goal.returns
returns c n = record {
  parse = pair (c.in_ok-expect_word.ensures n).parse (pair (c.eat_word-not.ensures n).parse (c.in_ok-expect_word-2.ensures n).parse);
  reads = both (c.in_ok-expect_word.ensures n).reads (both (c.eat_word-not.ensures n).reads (c.in_ok-expect_word-2.ensures n).reads);
  means = cc ((c.eat_word-not.ensures n).means, c.in_ok-part.ensures);
}
