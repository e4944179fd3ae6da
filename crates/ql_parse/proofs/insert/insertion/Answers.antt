use Rattle.std.proofs.Common.{◌∙◌}
use Rattle.ql_syntax.specs.Rules as rule
use Rattle.ql_syntax.specs.Readings.{pair, node, both, by_rule}
use Rattle.ql_parse.proofs.StatementLemmas.{same_insert}
use Rattle.ql_cursor.proofs.StepLemmas.{exits}
use Rattle.ql_cursor.proofs.Sequences.{fails_the, fails_first, fails_second}
use Rattle.ql_parse.proofs.insert.insertion.Goals as goal

pub returns-in_err-expect_word : goal.returns-in_err-expect_word
returns-in_err-expect_word c = exits _ _ _ _ c.from_residual.ensures.1 (fails_the rule.insertion (fails_first (c.in_err-expect_word.ensures _)))

pub returns-in_err-expect_word-2 : goal.returns-in_err-expect_word-2
returns-in_err-expect_word-2 c = exits _ _ _ _ c.from_residual-in_err-expect_word-2.ensures.1
    (fails_the rule.insertion (fails_second (c.in_ok-expect_word.ensures _) (fails_first (c.in_err-expect_word-2.ensures _))))

pub returns-in_err-table : goal.returns-in_err-table
returns-in_err-table c = exits _ _ _ _ c.from_residual-in_err-table.ensures.1
    (fails_the rule.insertion (fails_second (c.in_ok-expect_word.ensures _) (fails_second (c.in_ok-expect_word-2.ensures _) (fails_first (c.in_err-table.ensures _)))))

pub returns-in_err-columns : goal.returns-in_err-columns
returns-in_err-columns c = exits _ _ _ _ c.from_residual-in_err-columns.ensures.1
    (fails_the rule.insertion (fails_second (c.in_ok-expect_word.ensures _) (fails_second (c.in_ok-expect_word-2.ensures _) (fails_second (c.in_ok-table.ensures _) (fails_first c.in_err-columns.ensures)))))

pub returns-in_err-source : goal.returns-in_err-source
returns-in_err-source c = exits _ _ _ _ c.from_residual-in_err-source.ensures.1
    (fails_the rule.insertion (fails_second (c.in_ok-expect_word.ensures _) (fails_second (c.in_ok-expect_word-2.ensures _) (fails_second (c.in_ok-table.ensures _)
    (fails_second c.in_ok-columns.ensures c.in_err-source.ensures)))))

pub returns : goal.returns
returns c = record {
  parse = node rule.insertion (pair (c.in_ok-expect_word.ensures c.args.room).parse (pair (c.in_ok-expect_word-2.ensures c.args.room).parse
      (pair (c.in_ok-table.ensures c.args.room).parse (pair c.in_ok-columns.ensures.parse c.in_ok-source.ensures.parse))));
  reads = by_rule (both (c.in_ok-expect_word.ensures c.args.room).reads (both (c.in_ok-expect_word-2.ensures c.args.room).reads
      (both (c.in_ok-table.ensures c.args.room).reads (both c.in_ok-columns.ensures.reads c.in_ok-source.ensures.reads))));
  means = same_insert (c.in_ok-table.ensures c.args.room).means c.in_ok-columns.ensures.means (c.in_ok-source-2.ensures ∙ c.in_ok-source.ensures.means);
}
