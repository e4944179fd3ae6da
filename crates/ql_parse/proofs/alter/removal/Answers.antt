use Rattle.std.proofs.Common.{sym, ◌∙◌}
use Rattle.ql_lex.specs.declared.words.Word.TheVariants as w
use Rattle.ql_syntax.specs.Rules as rule
use Rattle.ql_syntax.specs.Readings.{pair, left, right, node, both, first, second, by_rule}
use Rattle.ql_parse.proofs.StatementLemmas.{dropped_table, dropped_index}
use Rattle.ql_cursor.proofs.StepLemmas.{exits}
use Rattle.ql_cursor.proofs.Sequences.{fails_the, fails_first, fails_second, fails_left, fails_right, fails_neither}
use Rattle.ql_parse.proofs.alter.removal.Goals as goal

pub returns-in_err-expect_word : goal.returns-in_err-expect_word
returns-in_err-expect_word c n = exits _ _ _ _ c.from_residual.ensures.1 (fails_the rule.removal (fails_first (c.in_err-expect_word.ensures n)))

pub returns-in_err-quiet : goal.returns-in_err-quiet
returns-in_err-quiet c n = exits _ _ _ _ c.from_residual-in_err-quiet.ensures.1
    (fails_the rule.removal (fails_second (c.in_ok-expect_word.ensures n) (fails_left (sym c.sees_word.ensures ∙ c.if-sees_word.true) (c.in_err-quiet.ensures n))))

pub returns-then-sees_word : goal.returns-then-sees_word
returns-then-sees_word c n = record {
  parse = node rule.removal (pair (c.in_ok-expect_word.ensures n).parse (left (c.in_ok-quiet.ensures n).parse));
  reads = by_rule (both (c.in_ok-expect_word.ensures n).reads (first (sym c.sees_word.ensures ∙ c.if-sees_word.true) (c.in_ok-quiet.ensures n).reads));
  means = dropped_table w.Table (c.in_ok-expect_word.ensures n).parse (c.in_ok-quiet.ensures n).reads (c.in_ok-quiet.ensures n).means;
}

pub returns-in_err-quiet-2 : goal.returns-in_err-quiet-2
returns-in_err-quiet-2 c n = exits _ _ _ _ c.from_residual-in_err-quiet-2.ensures.1
    (fails_the rule.removal (fails_second (c.in_ok-expect_word.ensures n)
    (fails_right (sym c.sees_word.ensures ∙ c.if-sees_word.false) (sym c.sees_word-2.ensures ∙ c.if-sees_word-2.true) (c.in_err-quiet-2.ensures n))))

pub returns-then-sees_word-2 : goal.returns-then-sees_word-2
returns-then-sees_word-2 c n = record {
  parse = node rule.removal (pair (c.in_ok-expect_word.ensures n).parse (right (c.in_ok-quiet-2.ensures n).parse));
  reads = by_rule (both (c.in_ok-expect_word.ensures n).reads
      (second (sym c.sees_word.ensures ∙ c.if-sees_word.false) (sym c.sees_word-2.ensures ∙ c.if-sees_word-2.true) (c.in_ok-quiet-2.ensures n).reads));
  means = dropped_index w.Index (c.in_ok-expect_word.ensures n).parse (c.in_ok-quiet-2.ensures n).reads (c.in_ok-quiet-2.ensures n).means;
}

pub returns : goal.returns
returns c n = fails_the rule.removal (fails_second (c.in_ok-expect_word.ensures n)
    (fails_neither (sym c.sees_word.ensures ∙ c.if-sees_word.false) (sym c.sees_word-2.ensures ∙ c.if-sees_word-2.false) c.unexpected.ensures))
