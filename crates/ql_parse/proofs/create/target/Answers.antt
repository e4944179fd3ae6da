use Rattle.std.proofs.Common.{◌∙◌}
use Rattle.ql_syntax.specs.Readings.{pair, group, both}
use Rattle.ql_cursor.proofs.Answering.{same_pair}
use Rattle.ql_parse.proofs.StatementLemmas.{enclosed_item}
use Rattle.ql_cursor.proofs.StepLemmas.{exits}
use Rattle.ql_cursor.proofs.Sequences.{fails_first, fails_second}
use Rattle.ql_parse.proofs.create.target.Goals as goal

pub returns-in_err-expect_word : goal.returns-in_err-expect_word
returns-in_err-expect_word c = exits _ _ _ _ c.from_residual.ensures.1 (fails_first (c.in_err-expect_word.ensures _))

pub returns-in_err-table : goal.returns-in_err-table
returns-in_err-table c = exits _ _ _ _ c.from_residual-in_err-table.ensures.1 (fails_second (c.in_ok-expect_word.ensures _) (fails_first (c.in_err-table.ensures _)))

pub returns-in_err-item : goal.returns-in_err-item
returns-in_err-item c = exits _ _ _ _ c.from_residual-in_err-item.ensures.1 (fails_second (c.in_ok-expect_word.ensures _) (fails_second (c.in_ok-table.ensures _) c.in_err-item.ensures))

pub returns : goal.returns
returns c = record {
  parse = pair (c.in_ok-expect_word.ensures c.args.room).parse (pair (c.in_ok-table.ensures c.args.room).parse (group c.in_ok-item.ensures.parse));
  reads = both (c.in_ok-expect_word.ensures c.args.room).reads (both (c.in_ok-table.ensures c.args.room).reads c.in_ok-item.ensures.reads);
  means = same_pair (c.in_ok-table.ensures c.args.room).means (c.in_ok-item-2.ensures ∙ c.in_ok-item.ensures.means ∙ enclosed_item c.in_ok-item.ensures.reads);
}
