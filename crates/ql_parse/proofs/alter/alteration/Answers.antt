use Rattle.std.proofs.Common.{refl}
use Rattle.ql_syntax.specs.Rules as rule
use Rattle.ql_syntax.specs.Readings.{pair, node}
use Rattle.ql_parse.specs.StatementParts.{change_of}
use Rattle.ql_syntax.specs.Statements.{alteration_of}
use Rattle.ql_cursor.proofs.Answering.{second_answers, the_answers}
use Rattle.ql_parse.proofs.StatementLemmas.{change_tree}
use Rattle.ql_cursor.proofs.StepLemmas.{exits}
use Rattle.ql_cursor.proofs.Sequences.{fails_the, fails_first, fails_second}
use Rattle.ql_parse.proofs.alter.alteration.Goals as goal

pub returns-in_err-expect_word : goal.returns-in_err-expect_word
returns-in_err-expect_word c = exits _ _ _ _ c.from_residual.ensures.1 (fails_the rule.alteration (fails_first (c.in_err-expect_word.ensures _)))

pub returns-in_err-expect_word-2 : goal.returns-in_err-expect_word-2
returns-in_err-expect_word-2 c = exits _ _ _ _ c.from_residual-in_err-expect_word-2.ensures.1
    (fails_the rule.alteration (fails_second (c.in_ok-expect_word.ensures _) (fails_first (c.in_err-expect_word-2.ensures _))))

pub returns-in_err-table : goal.returns-in_err-table
returns-in_err-table c = exits _ _ _ _ c.from_residual-in_err-table.ensures.1
    (fails_the rule.alteration (fails_second (c.in_ok-expect_word.ensures _) (fails_second (c.in_ok-expect_word-2.ensures _) (fails_first (c.in_err-table.ensures _)))))

pub returns : goal.returns
returns c =
    the_answers rule.alteration (λ a. alteration_of (node rule.alteration a)) alteration_of c.change.result
    (second_answers (λ a. alteration_of (node rule.alteration (pair (c.in_ok-expect_word.ensures c.args.room).parse a))) (λ a. alteration_of (node rule.alteration a)) c.change.result
    (c.in_ok-expect_word.ensures c.args.room)
    (second_answers (λ a. alteration_of (node rule.alteration (pair (c.in_ok-expect_word.ensures c.args.room).parse (pair (c.in_ok-expect_word-2.ensures c.args.room).parse a))))
    (λ a. alteration_of (node rule.alteration (pair (c.in_ok-expect_word.ensures c.args.room).parse a))) c.change.result
    (c.in_ok-expect_word-2.ensures c.args.room)
    (second_answers (change_of c.in_ok-table.table)
    (λ a. alteration_of (node rule.alteration (pair (c.in_ok-expect_word.ensures c.args.room).parse (pair (c.in_ok-expect_word-2.ensures c.args.room).parse a)))) c.change.result
    (c.in_ok-table.ensures c.args.room) c.change.ensures
    (change_tree (c.in_ok-expect_word.ensures c.args.room).parse (c.in_ok-expect_word-2.ensures c.args.room).parse (c.in_ok-table.ensures c.args.room).parse
    (c.in_ok-table.ensures c.args.room).means))
    (λ b h. refl))
    (λ b h. refl))
    (λ a h. refl)
