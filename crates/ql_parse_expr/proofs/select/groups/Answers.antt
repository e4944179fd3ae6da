use Rattle.std.proofs.Common.{sym, ◌∙◌}
use Rattle.ql_syntax.specs.Readings.{pair, absent, present, both, left_out, entered}
use Rattle.ql_cursor.proofs.StepLemmas.{exits}
use Rattle.ql_cursor.proofs.Sequences.{fails_first, fails_second, fails_part}
use Rattle.ql_parse_expr.proofs.SelectLemmas.{groups_tree}
use Rattle.ql_parse_expr.proofs.select.groups.Goals as goal

pub returns-then-not-sees_word : goal.returns-then-not-sees_word
returns-then-not-sees_word c = record { parse = absent; reads = left_out (sym c.sees_word.ensures ∙ c.if-not-sees_word.true); means = c.new.ensures }

pub returns-in_err-expect_word : goal.returns-in_err-expect_word
returns-in_err-expect_word c = exits _ _ _ _ c.from_residual.ensures.1 (fails_part (sym c.sees_word.ensures ∙ c.if-not-sees_word.false) (fails_first (c.in_err-expect_word.ensures _)))

pub returns-in_err-expect_word-2 : goal.returns-in_err-expect_word-2
returns-in_err-expect_word-2 c = exits _ _ _ _ c.from_residual-in_err-expect_word-2.ensures.1
    (fails_part (sym c.sees_word.ensures ∙ c.if-not-sees_word.false) (fails_second (c.in_ok-expect_word.ensures _) (fails_first (c.in_err-expect_word-2.ensures _))))

pub returns-in_err-list : goal.returns-in_err-list
returns-in_err-list c = exits _ _ _ _ c.from_residual-in_err-list.ensures.1
    (fails_part (sym c.sees_word.ensures ∙ c.if-not-sees_word.false) (fails_second (c.in_ok-expect_word.ensures _) (fails_second (c.in_ok-expect_word-2.ensures _) c.in_err-list.ensures)))

pub returns : goal.returns
returns c = record {
  parse = present (pair (c.in_ok-expect_word.ensures c.args.room).parse (pair (c.in_ok-expect_word-2.ensures c.args.room).parse c.in_ok-list.ensures.parse));
  reads = entered (sym c.sees_word.ensures ∙ c.if-not-sees_word.false) (both (c.in_ok-expect_word.ensures c.args.room).reads (both (c.in_ok-expect_word-2.ensures c.args.room).reads c.in_ok-list.ensures.reads));
  means = c.in_ok-list.ensures.means ∙ groups_tree (c.in_ok-expect_word.ensures c.args.room).parse (c.in_ok-expect_word-2.ensures c.args.room).parse c.in_ok-list.ensures.reads;
}
