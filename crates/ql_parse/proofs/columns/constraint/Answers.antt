use Rattle.std.proofs.Common.{false, Some, refl, sym, ap, ◌∙◌}
use Rattle.ql_syntax.specs.Readings.{pair, absent, present, left, right, both, first, second, left_out, entered}
use Rattle.ql_cursor.proofs.StepLemmas.{exits, taken}
use Rattle.ql_cursor.proofs.Sequences.{fails_second, fails_left, fails_right, fails_part}
use Rattle.ql_parse.proofs.columns.constraint.Goals as goal

pub returns-in_err-expect_word : goal.returns-in_err-expect_word
returns-in_err-expect_word c =
    let seen = sym c.sees_word.ensures ∙ c.if-sees_word.true in
    exits _ _ _ _ c.from_residual.ensures.1 (fails_part (rw seen refl) (fails_left seen (fails_second (taken c.args.room seen c.skip.ensures) (c.in_err-expect_word.ensures _))))

pub returns-then-sees_word : goal.returns-then-sees_word
returns-then-sees_word c =
    let seen = sym c.sees_word.ensures ∙ c.if-sees_word.true in
    let word = taken c.args.room seen c.skip.ensures in
    record {
      parse = present (left (pair word.parse (c.in_ok-expect_word.ensures c.args.room).parse));
      reads = entered (rw seen refl) (first seen (both word.reads (c.in_ok-expect_word.ensures c.args.room).reads));
      means = refl;
    }

pub returns-in_err-rule : goal.returns-in_err-rule
returns-in_err-rule c =
    let other = sym c.sees_word.ensures ∙ c.if-sees_word.false in
    let begun = sym c.begins_expr.ensures ∙ c.if-begins_expr.true in
    exits _ _ _ _ c.from_residual-in_err-rule.ensures.1 (fails_part (rw (other, begun) refl) (fails_right other begun c.in_err-rule.ensures))

pub returns-then-begins_expr : goal.returns-then-begins_expr
returns-then-begins_expr c =
    let other = sym c.sees_word.ensures ∙ c.if-sees_word.false in
    let begun = sym c.begins_expr.ensures ∙ c.if-begins_expr.true in
    record {
      parse = present (right c.in_ok-rule.ensures.parse);
      reads = entered (rw (other, begun) refl) (second other begun c.in_ok-rule.ensures.reads);
      means = ap (λ e. (false, Some e)) c.in_ok-rule.ensures.means;
    }

pub returns : goal.returns
returns c =
    let other = sym c.sees_word.ensures ∙ c.if-sees_word.false in
    let none = sym c.begins_expr.ensures ∙ c.if-begins_expr.false in
    record { parse = absent; reads = left_out (rw (other, none) refl); means = refl }
