use Rattle.std.proofs.Common.{sym, ◌∙◌}
use Rattle.ql_syntax.specs.Readings.{left, right, first, second}
use Rattle.ql_cursor.proofs.StepLemmas.{exits, taken}
use Rattle.ql_cursor.proofs.Sequences.{fails_right, fails_neither}
use Rattle.ql_parse_expr.proofs.parser.Parser.fields.Goals as goal

pub returns-then-sees_mark : goal.returns-then-sees_mark
returns-then-sees_mark g c =
    let e = sym c.sees_mark.ensures ∙ c.if-sees_mark.true in
    let t = taken c.args.self.now.room e c.skip.ensures in
    record { parse = left t.parse; reads = first e t.reads; means = c.new.ensures }

pub returns-then-not-begins_expr : goal.returns-then-not-begins_expr
returns-then-not-begins_expr g c = fails_neither (sym c.sees_mark.ensures ∙ c.if-sees_mark.false) (sym c.begins_expr.ensures ∙ c.if-not-begins_expr.true) c.unexpected.ensures

pub returns-in_err-list : goal.returns-in_err-list
returns-in_err-list g c = exits _ _ _ _ c.from_residual.ensures.1 (fails_right (sym c.sees_mark.ensures ∙ c.if-sees_mark.false) (sym c.begins_expr.ensures ∙ c.if-not-begins_expr.false) c.in_err-list.ensures)

pub returns : goal.returns
returns g c = record {
  parse = right c.in_ok-list.ensures.parse;
  reads = second (sym c.sees_mark.ensures ∙ c.if-sees_mark.false) (sym c.begins_expr.ensures ∙ c.if-not-begins_expr.false) c.in_ok-list.ensures.reads;
  means = c.in_ok-list.ensures.means;
}
