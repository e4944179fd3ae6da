use Rattle.std.proofs.Common.{Some, refl, sym, ap, ◌∙◌}
use Rattle.ql_syntax.specs.Readings.{pair, absent, present, both, left_out, entered}
use Rattle.ql_cursor.proofs.StepLemmas.{exits}
use Rattle.ql_cursor.proofs.Sequences.{fails_first, fails_second, fails_part}
use Rattle.ql_parse_expr.proofs.from.alias.Goals as goal

pub returns-then-not-sees_word : goal.returns-then-not-sees_word
returns-then-not-sees_word c n = record { parse = absent; reads = left_out (sym c.sees_word.ensures ∙ c.if-not-sees_word.true); means = refl }

pub returns-in_err-expect_word : goal.returns-in_err-expect_word
returns-in_err-expect_word c n = exits _ _ _ _ c.from_residual.ensures.1 (fails_part (sym c.sees_word.ensures ∙ c.if-not-sees_word.false) (fails_first (c.in_err-expect_word.ensures n)))

pub returns-in_err-name : goal.returns-in_err-name
returns-in_err-name c n = exits _ _ _ _ c.from_residual-in_err-name.ensures.1
    (fails_part (sym c.sees_word.ensures ∙ c.if-not-sees_word.false) (fails_second (c.in_ok-expect_word.ensures n) (c.in_err-name.ensures n)))

pub returns : goal.returns
returns c n = record {
  parse = present (pair (c.in_ok-expect_word.ensures n).parse (c.in_ok-name.ensures n).parse);
  reads = entered (sym c.sees_word.ensures ∙ c.if-not-sees_word.false) (both (c.in_ok-expect_word.ensures n).reads (c.in_ok-name.ensures n).reads);
  means = ap Some (c.in_ok-name.ensures n).means;
}
