use Rattle.std.proofs.Common.{refl, sym, ◌∙◌}
use Rattle.ql_syntax.specs.Readings.{pair, absent, present, both, left_out, entered}
use Rattle.ql_cursor.proofs.StepLemmas.{exits, taken}
use Rattle.ql_cursor.proofs.Sequences.{fails_second, fails_part}
use Rattle.ql_parse.proofs.exists.if_exists.Goals as goal

pub returns-then-not-sees_word : goal.returns-then-not-sees_word
returns-then-not-sees_word c n = record { parse = absent; reads = left_out (sym c.sees_word.ensures ∙ c.if-not-sees_word.true); means = refl }

pub returns-in_err-expect_word : goal.returns-in_err-expect_word
returns-in_err-expect_word c n =
    let seen = sym c.sees_word.ensures ∙ c.if-not-sees_word.false in
    exits _ _ _ _ c.from_residual.ensures.1 (fails_part seen (fails_second (taken n seen c.skip.ensures) (c.in_err-expect_word.ensures n)))

pub returns : goal.returns
returns c n =
    let seen = sym c.sees_word.ensures ∙ c.if-not-sees_word.false in
    let word = taken n seen c.skip.ensures in
    record { parse = present (pair word.parse (c.in_ok-expect_word.ensures n).parse); reads = entered seen (both word.reads (c.in_ok-expect_word.ensures n).reads); means = refl }
