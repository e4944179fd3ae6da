use Rattle.std.proofs.Common.{sym, ap, ◌∙◌}
use Rattle.ql_parse_expr.specs.declared.members.Members.TheVariants as m
use Rattle.ql_syntax.specs.Readings.{left, right, first, second}
use Rattle.ql_cursor.proofs.StepLemmas.{exits}
use Rattle.ql_cursor.proofs.Sequences.{fails_left, fails_right, fails_neither}
use Rattle.ql_parse_expr.proofs.parser.Parser.members.Goals as goal

pub returns-in_err-exprs : goal.returns-in_err-exprs
returns-in_err-exprs g c = exits _ _ _ _ c.from_residual.ensures.1 (fails_left (sym c.begins_expr.ensures ∙ c.if-begins_expr.true) c.in_err-exprs.ensures)

pub returns-then-begins_expr : goal.returns-then-begins_expr
returns-then-begins_expr g c = record {
  parse = left c.in_ok-exprs.ensures.parse;
  reads = first (sym c.begins_expr.ensures ∙ c.if-begins_expr.true) c.in_ok-exprs.ensures.reads;
  means = ap m.Listed c.in_ok-exprs.ensures.means;
}

pub returns-in_err-subselect : goal.returns-in_err-subselect
returns-in_err-subselect g c = exits _ _ _ _ c.from_residual-in_err-subselect.ensures.1
    (fails_right (sym c.begins_expr.ensures ∙ c.if-begins_expr.false) (sym c.sees_word.ensures ∙ c.if-sees_word.true) c.in_err-subselect.ensures)

pub returns-then-sees_word : goal.returns-then-sees_word
returns-then-sees_word g c = record {
  parse = right c.in_ok-subselect.ensures.parse;
  reads = second (sym c.begins_expr.ensures ∙ c.if-begins_expr.false) (sym c.sees_word.ensures ∙ c.if-sees_word.true) c.in_ok-subselect.ensures.reads;
  means = ap m.Query c.in_ok-subselect.ensures.means;
}

pub returns : goal.returns
returns g c = fails_neither (sym c.begins_expr.ensures ∙ c.if-begins_expr.false) (sym c.sees_word.ensures ∙ c.if-sees_word.false) c.unexpected.ensures
