use Rattle.ql_syntax.specs.Readings.{pair, both}
use Rattle.ql_cursor.proofs.Answering.{same_pair}
use Rattle.ql_cursor.proofs.StepLemmas.{exits}
use Rattle.ql_cursor.proofs.Sequences.{fails_first, fails_second}
use Rattle.ql_parse.proofs.alter.quiet_name.Goals as goal

pub returns-in_err-expect_word : goal.returns-in_err-expect_word
returns-in_err-expect_word c n = exits _ _ _ _ c.from_residual.ensures.1 (fails_first (c.in_err-expect_word.ensures n))

pub returns-in_err-quiet : goal.returns-in_err-quiet
returns-in_err-quiet c n = exits _ _ _ _ c.from_residual-in_err-quiet.ensures.1 (fails_second (c.in_ok-expect_word.ensures n) (fails_first (c.in_err-quiet.ensures n)))

pub returns-in_err-name : goal.returns-in_err-name
returns-in_err-name c n = exits _ _ _ _ c.from_residual-in_err-name.ensures.1 (fails_second (c.in_ok-expect_word.ensures n) (fails_second (c.in_ok-quiet.ensures n) (c.in_err-name.ensures n)))

pub returns : goal.returns
returns c n = record {
  parse = pair (c.in_ok-expect_word.ensures n).parse (pair (c.in_ok-quiet.ensures n).parse (c.in_ok-name.ensures n).parse);
  reads = both (c.in_ok-expect_word.ensures n).reads (both (c.in_ok-quiet.ensures n).reads (c.in_ok-name.ensures n).reads);
  means = same_pair (c.in_ok-quiet.ensures n).means (c.in_ok-name.ensures n).means;
}
