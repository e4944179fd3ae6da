use Rattle.std.proofs.Common.{refl, sym, ap, ◌∙◌}
use Rattle.ql_syntax.specs.Readings.{pair, left, right, group, both, first, second}
use Rattle.ql_syntax.specs.declared.statement.Item.TheVariants as item
use Rattle.ql_cursor.proofs.Answering.{fails_last, token_seen}
use Rattle.ql_parse.proofs.StatementLemmas.{taken_before}
use Rattle.ql_cursor.proofs.StepLemmas.{exits}
use Rattle.ql_cursor.proofs.Sequences.{fails_second, fails_left}
use Rattle.ql_parse.proofs.create.one_item.Goals as goal

pub returns-in_err-in_brackets : goal.returns-in_err-in_brackets
returns-in_err-in_brackets c =
    let seen = sym c.sees_id.ensures ∙ c.if-sees_id.true in
    exits _ _ _ _ c.from_residual.ensures.1 (fails_left seen (fails_second (taken_before c.args.room seen c.skip.ensures) c.in_err-in_brackets.ensures))

pub returns-then-sees_id : goal.returns-then-sees_id
returns-then-sees_id c =
    let seen = sym c.sees_id.ensures ∙ c.if-sees_id.true in
    let word = taken_before c.args.room seen c.skip.ensures in
    record { parse = left (pair word.parse (group c.in_ok-in_brackets.ensures.parse)); reads = first seen (both word.reads c.in_ok-in_brackets.ensures.reads); means = refl }

pub returns-in_err-name : goal.returns-in_err-name
returns-in_err-name c = exits _ _ _ _ c.from_residual-in_err-name.ensures.1 (fails_last (sym c.sees_id.ensures ∙ c.if-sees_id.false) (c.in_err-name.ensures _))

pub returns : goal.returns
returns c = record {
  parse = right (c.in_ok-name.ensures c.args.room).parse;
  reads = second (sym c.sees_id.ensures ∙ c.if-sees_id.false) (token_seen (c.in_ok-name.ensures c.args.room).reads) (c.in_ok-name.ensures c.args.room).reads;
  means = ap item.Column (c.in_ok-name.ensures c.args.room).means;
}
