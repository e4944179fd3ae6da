use Rattle.std.proofs.Common.{refl}
use Rattle.ql_syntax.specs.Rules as rule
use Rattle.ql_syntax.specs.Readings.{node}
use Rattle.ql_parse.specs.StatementParts.{table_or_index_of}
use Rattle.ql_syntax.specs.Statements.{creation_of}
use Rattle.ql_cursor.proofs.Answering.{second_answers, the_answers}
use Rattle.ql_parse.proofs.StatementLemmas.{table_or_index_tree}
use Rattle.ql_cursor.proofs.StepLemmas.{exits}
use Rattle.ql_cursor.proofs.Sequences.{fails_the, fails_first}
use Rattle.ql_parse.proofs.create.creation.Goals as goal

pub returns-in_err-expect_word : goal.returns-in_err-expect_word
returns-in_err-expect_word c = exits _ _ _ _ c.from_residual.ensures.1 (fails_the rule.creation (fails_first (c.in_err-expect_word.ensures _)))

pub returns : goal.returns
returns c =
    the_answers rule.creation (λ a. creation_of (node rule.creation a)) creation_of c.table_or_index.result
    (second_answers table_or_index_of (λ a. creation_of (node rule.creation a)) c.table_or_index.result (c.in_ok-expect_word.ensures c.args.room) c.table_or_index.ensures (table_or_index_tree (c.in_ok-expect_word.ensures c.args.room).parse))
    (λ a h. refl)
