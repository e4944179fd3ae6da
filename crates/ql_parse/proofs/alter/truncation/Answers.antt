use Rattle.std.proofs.Common.{ap}
use Rattle.ql_syntax.specs.declared.statement.Statement.TheVariants as s
use Rattle.ql_syntax.specs.Readings.{pair, both}
use Rattle.ql_cursor.proofs.StepLemmas.{exits}
use Rattle.ql_cursor.proofs.Sequences.{fails_first, fails_second}
use Rattle.ql_parse.proofs.alter.truncation.Goals as goal

pub returns-in_err-expect_word : goal.returns-in_err-expect_word
returns-in_err-expect_word c n = exits _ _ _ _ c.from_residual.ensures.1 (fails_first (c.in_err-expect_word.ensures n))

pub returns-in_err-expect_word-2 : goal.returns-in_err-expect_word-2
returns-in_err-expect_word-2 c n = exits _ _ _ _ c.from_residual-in_err-expect_word-2.ensures.1 (fails_second (c.in_ok-expect_word.ensures n) (fails_first (c.in_err-expect_word-2.ensures n)))

pub returns-in_err-table : goal.returns-in_err-table
returns-in_err-table c n = exits _ _ _ _ c.from_residual-in_err-table.ensures.1
    (fails_second (c.in_ok-expect_word.ensures n) (fails_second (c.in_ok-expect_word-2.ensures n) (c.in_err-table.ensures n)))

pub returns : goal.returns
returns c n = record {
  parse = pair (c.in_ok-expect_word.ensures n).parse (pair (c.in_ok-expect_word-2.ensures n).parse (c.in_ok-table.ensures n).parse);
  reads = both (c.in_ok-expect_word.ensures n).reads (both (c.in_ok-expect_word-2.ensures n).reads (c.in_ok-table.ensures n).reads);
  means = ap s.Truncate (c.in_ok-table.ensures n).means;
}
