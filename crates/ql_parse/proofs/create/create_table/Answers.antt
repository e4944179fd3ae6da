use Rattle.ql_syntax.specs.Readings.{pair, group, both}
use Rattle.ql_parse.proofs.StatementLemmas.{same_table}
use Rattle.ql_cursor.proofs.StepLemmas.{exits}
use Rattle.ql_cursor.proofs.Sequences.{fails_first, fails_second}
use Rattle.ql_parse.proofs.create.create_table.Goals as goal

pub returns-in_err-expect_word : goal.returns-in_err-expect_word
returns-in_err-expect_word c = exits _ _ _ _ c.from_residual.ensures.1 (fails_first (c.in_err-expect_word.ensures _))

pub returns-in_err-quiet : goal.returns-in_err-quiet
returns-in_err-quiet c = exits _ _ _ _ c.from_residual-in_err-quiet.ensures.1 (fails_second (c.in_ok-expect_word.ensures _) (fails_first (c.in_err-quiet.ensures _)))

pub returns-in_err-table : goal.returns-in_err-table
returns-in_err-table c = exits _ _ _ _ c.from_residual-in_err-table.ensures.1
    (fails_second (c.in_ok-expect_word.ensures _) (fails_second (c.in_ok-quiet.ensures _) (fails_first (c.in_err-table.ensures _))))

pub returns-in_err-columns : goal.returns-in_err-columns
returns-in_err-columns c = exits _ _ _ _ c.from_residual-in_err-columns.ensures.1
    (fails_second (c.in_ok-expect_word.ensures _) (fails_second (c.in_ok-quiet.ensures _) (fails_second (c.in_ok-table.ensures _) c.in_err-columns.ensures)))

pub returns : goal.returns
returns c = record {
  parse = pair (c.in_ok-expect_word.ensures c.args.room).parse (pair (c.in_ok-quiet.ensures c.args.room).parse
      (pair (c.in_ok-table.ensures c.args.room).parse (group c.in_ok-columns.ensures.parse)));
  reads = both (c.in_ok-expect_word.ensures c.args.room).reads (both (c.in_ok-quiet.ensures c.args.room).reads
      (both (c.in_ok-table.ensures c.args.room).reads c.in_ok-columns.ensures.reads));
  means = same_table (c.in_ok-quiet.ensures c.args.room).means (c.in_ok-table.ensures c.args.room).means c.in_ok-columns.ensures.means;
}
