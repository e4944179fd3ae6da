use Rattle.ql_syntax.specs.Readings.{pair, both}
use Rattle.ql_parse.proofs.StatementLemmas.{same_index}
use Rattle.ql_cursor.proofs.StepLemmas.{exits}
use Rattle.ql_cursor.proofs.Sequences.{fails_first, fails_second}
use Rattle.ql_parse.proofs.create.create_index.Goals as goal

pub returns-in_err-expect_word : goal.returns-in_err-expect_word
returns-in_err-expect_word c = exits _ _ _ _ c.from_residual.ensures.1 (fails_second (c.eat_word-unique.ensures _) (fails_first (c.in_err-expect_word.ensures _)))

pub returns-in_err-quiet : goal.returns-in_err-quiet
returns-in_err-quiet c = exits _ _ _ _ c.from_residual-in_err-quiet.ensures.1 (fails_second (c.eat_word-unique.ensures _) (fails_second (c.in_ok-expect_word.ensures _) (fails_first (c.in_err-quiet.ensures _))))

pub returns-in_err-index : goal.returns-in_err-index
returns-in_err-index c = exits _ _ _ _ c.from_residual-in_err-index.ensures.1
    (fails_second (c.eat_word-unique.ensures _) (fails_second (c.in_ok-expect_word.ensures _) (fails_second (c.in_ok-quiet.ensures _) (fails_first (c.in_err-index.ensures _)))))

pub returns-in_err-table : goal.returns-in_err-table
returns-in_err-table c = exits _ _ _ _ c.from_residual-in_err-table.ensures.1
    (fails_second (c.eat_word-unique.ensures _) (fails_second (c.in_ok-expect_word.ensures _) (fails_second (c.in_ok-quiet.ensures _) (fails_second (c.in_ok-index.ensures _) c.in_err-table.ensures))))

pub returns : goal.returns
returns c = record {
  parse = pair (c.eat_word-unique.ensures c.args.room).parse (pair (c.in_ok-expect_word.ensures c.args.room).parse (pair (c.in_ok-quiet.ensures c.args.room).parse
      (pair (c.in_ok-index.ensures c.args.room).parse c.in_ok-table.ensures.parse)));
  reads = both (c.eat_word-unique.ensures c.args.room).reads (both (c.in_ok-expect_word.ensures c.args.room).reads (both (c.in_ok-quiet.ensures c.args.room).reads
      (both (c.in_ok-index.ensures c.args.room).reads c.in_ok-table.ensures.reads)));
  means = same_index (c.eat_word-unique.ensures c.args.room).means (c.in_ok-quiet.ensures c.args.room).means (c.in_ok-index.ensures c.args.room).means c.in_ok-table.ensures.means;
}
