use Rattle.std.proofs.Common.{sym, ap, ◌∙◌}
use Rattle.ql_syntax.specs.declared.statement.RowSource.TheVariants as rows
use Rattle.ql_syntax.specs.Readings.{pair, left, right, both, first, second}
use Rattle.ql_cursor.proofs.StepLemmas.{exits, taken}
use Rattle.ql_cursor.proofs.Sequences.{fails_second, fails_left, fails_right, fails_neither}
use Rattle.ql_parse.proofs.insert.rows.Goals as goal

pub returns-in_err-rows : goal.returns-in_err-rows
returns-in_err-rows c =
    let seen = sym c.sees_word.ensures ∙ c.if-sees_word.true in
    exits _ _ _ _ c.from_residual.ensures.1 (fails_left seen (fails_second (taken c.args.room seen c.skip.ensures) c.in_err-rows.ensures))

pub returns-then-sees_word : goal.returns-then-sees_word
returns-then-sees_word c =
    let seen = sym c.sees_word.ensures ∙ c.if-sees_word.true in
    let word = taken c.args.room seen c.skip.ensures in
    record {
      parse = left (pair word.parse c.in_ok-rows.ensures.parse);
      reads = first seen (both word.reads c.in_ok-rows.ensures.reads);
      means = ap rows.Rows c.in_ok-rows.ensures.means;
    }

pub returns-in_err-parse_boxed_select : goal.returns-in_err-parse_boxed_select
returns-in_err-parse_boxed_select c = exits _ _ _ _ c.from_residual-in_err-parse_boxed_select.ensures.1
    (fails_right (sym c.sees_word.ensures ∙ c.if-sees_word.false) (sym c.sees_word-2.ensures ∙ c.if-sees_word-2.true) c.in_err-parse_boxed_select.ensures)

pub returns-then-sees_word-2 : goal.returns-then-sees_word-2
returns-then-sees_word-2 c = record {
  parse = right c.in_ok-parse_boxed_select.ensures.parse;
  reads = second (sym c.sees_word.ensures ∙ c.if-sees_word.false) (sym c.sees_word-2.ensures ∙ c.if-sees_word-2.true) c.in_ok-parse_boxed_select.ensures.reads;
  means = ap rows.Query c.in_ok-parse_boxed_select.ensures.means;
}

pub returns : goal.returns
returns c = fails_neither (sym c.sees_word.ensures ∙ c.if-sees_word.false) (sym c.sees_word-2.ensures ∙ c.if-sees_word-2.false) c.unexpected.ensures
