use Rattle.ql_syntax.specs.Readings.{pair, both}
use Rattle.ql_parse.proofs.StatementLemmas.{same_assign}
use Rattle.ql_cursor.proofs.StepLemmas.{exits}
use Rattle.ql_cursor.proofs.Sequences.{fails_first, fails_second}
use Rattle.ql_parse.proofs.update.assign.Goals as goal

pub returns-in_err-column : goal.returns-in_err-column
returns-in_err-column c = exits _ _ _ _ c.from_residual.ensures.1 (fails_first (c.in_err-column.ensures _))

pub returns-in_err-expect_mark : goal.returns-in_err-expect_mark
returns-in_err-expect_mark c = exits _ _ _ _ c.from_residual-in_err-expect_mark.ensures.1 (fails_second (c.in_ok-column.ensures _) (fails_first (c.in_err-expect_mark.ensures _)))

pub returns-in_err-value : goal.returns-in_err-value
returns-in_err-value c = exits _ _ _ _ c.from_residual-in_err-value.ensures.1 (fails_second (c.in_ok-column.ensures _) (fails_second (c.in_ok-expect_mark.ensures _) c.in_err-value.ensures))

pub returns : goal.returns
returns c = record {
  parse = pair (c.in_ok-column.ensures c.args.room).parse (pair (c.in_ok-expect_mark.ensures c.args.room).parse c.in_ok-value.ensures.parse);
  reads = both (c.in_ok-column.ensures c.args.room).reads (both (c.in_ok-expect_mark.ensures c.args.room).reads c.in_ok-value.ensures.reads);
  means = same_assign (c.in_ok-column.ensures c.args.room).means c.in_ok-value.ensures.means;
}
