use Rattle.std.proofs.Common.{sym, ap, ◌∙◌}
use Rattle.ql_syntax.specs.declared.statement.Statement.TheVariants as s
use Rattle.ql_syntax.specs.Readings.{pair, left, right, both, first, second}
use Rattle.ql_cursor.proofs.StepLemmas.{exits, taken}
use Rattle.ql_cursor.proofs.Sequences.{fails_first, fails_second, fails_left, fails_right, fails_neither}
use Rattle.ql_parse.proofs.alter.change.Goals as goal

pub returns-in_err-definition : goal.returns-in_err-definition
returns-in_err-definition c =
    let seen = sym c.sees_word.ensures ∙ c.if-sees_word.true in
    exits _ _ _ _ c.from_residual.ensures.1 (fails_left seen (fails_second (taken c.args.room seen c.skip.ensures) c.in_err-definition.ensures))

pub returns-then-sees_word : goal.returns-then-sees_word
returns-then-sees_word c =
    let seen = sym c.sees_word.ensures ∙ c.if-sees_word.true in
    let word = taken c.args.room seen c.skip.ensures in
    record {
      parse = left (pair word.parse c.in_ok-definition.ensures.parse);
      reads = first seen (both word.reads c.in_ok-definition.ensures.reads);
      means = ap (s.AddColumn c.args.table) (c.in_ok-column.ensures ∙ c.in_ok-definition.ensures.means);
    }

pub returns-then-not-sees_word : goal.returns-then-not-sees_word
returns-then-not-sees_word c = fails_neither (sym c.sees_word.ensures ∙ c.if-sees_word.false) (sym c.sees_word-2.ensures ∙ c.if-not-sees_word.true) c.unexpected.ensures

pub returns-in_err-expect_word : goal.returns-in_err-expect_word
returns-in_err-expect_word c =
    let other = sym c.sees_word.ensures ∙ c.if-sees_word.false in
    let seen = sym c.sees_word-2.ensures ∙ c.if-not-sees_word.false in
    exits _ _ _ _ c.from_residual-in_err-expect_word.ensures.1 (fails_right other seen (fails_second (taken c.args.room seen c.skip-2.ensures) (fails_first (c.in_err-expect_word.ensures _))))

pub returns-in_err-column-2 : goal.returns-in_err-column-2
returns-in_err-column-2 c =
    let other = sym c.sees_word.ensures ∙ c.if-sees_word.false in
    let seen = sym c.sees_word-2.ensures ∙ c.if-not-sees_word.false in
    exits _ _ _ _ c.from_residual-in_err-column-2.ensures.1
    (fails_right other seen (fails_second (taken c.args.room seen c.skip-2.ensures) (fails_second (c.in_ok-expect_word.ensures _) (c.in_err-column-2.ensures _))))

pub returns : goal.returns
returns c =
    let other = sym c.sees_word.ensures ∙ c.if-sees_word.false in
    let seen = sym c.sees_word-2.ensures ∙ c.if-not-sees_word.false in
    let word = taken c.args.room seen c.skip-2.ensures in
    record {
      parse = right (pair word.parse (pair (c.in_ok-expect_word.ensures c.args.room).parse (c.in_ok-column-2.ensures c.args.room).parse));
      reads = second other seen (both word.reads (both (c.in_ok-expect_word.ensures c.args.room).reads (c.in_ok-column-2.ensures c.args.room).reads));
      means = ap (s.DropColumn c.args.table) (c.in_ok-column-2.ensures c.args.room).means;
    }
