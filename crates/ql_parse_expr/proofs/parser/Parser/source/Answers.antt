use Rattle.std.proofs.Common.{sym, ap, ◌∙◌}
use Rattle.ql_syntax.specs.declared.syntax.SetSource.TheVariants as source
use Rattle.ql_syntax.specs.Readings.{left, right, group, first, second}
use Rattle.ql_cursor.proofs.StepLemmas.{exits}
use Rattle.ql_cursor.proofs.Sequences.{fails_left, fails_right, fails_neither}
use Rattle.ql_parse_expr.proofs.SelectLemmas.{source_tree}
use Rattle.ql_parse_expr.proofs.parser.Parser.source.Goals as goal

pub returns-in_err-expect_boxed_name : goal.returns-in_err-expect_boxed_name
returns-in_err-expect_boxed_name g c = exits _ _ _ _ c.from_residual.ensures.1 (fails_left (sym c.sees_name.ensures ∙ c.if-sees_name.true) (c.in_err-expect_boxed_name.ensures _))

pub returns-then-sees_name : goal.returns-then-sees_name
returns-then-sees_name g c = record {
  parse = left (c.in_ok-expect_boxed_name.ensures c.args.self.now.room).parse;
  reads = first (sym c.sees_name.ensures ∙ c.if-sees_name.true) (c.in_ok-expect_boxed_name.ensures c.args.self.now.room).reads;
  means = ap source.Table (c.in_ok-expect_boxed_name.ensures c.args.self.now.room).means;
}

pub returns-then-not-sees_mark : goal.returns-then-not-sees_mark
returns-then-not-sees_mark g c = fails_neither (sym c.sees_name.ensures ∙ c.if-sees_name.false) (sym c.sees_mark.ensures ∙ c.if-not-sees_mark.true) c.unexpected.ensures

pub returns-in_err-query : goal.returns-in_err-query
returns-in_err-query g c = exits _ _ _ _ c.from_residual-in_err-query.ensures.1
    (fails_right (sym c.sees_name.ensures ∙ c.if-sees_name.false) (sym c.sees_mark.ensures ∙ c.if-not-sees_mark.false) c.in_err-query.ensures)

pub returns : goal.returns
returns g c = record {
  parse = right (group c.in_ok-query.ensures.parse);
  reads = second (sym c.sees_name.ensures ∙ c.if-sees_name.false) (sym c.sees_mark.ensures ∙ c.if-not-sees_mark.false) c.in_ok-query.ensures.reads;
  means = ap source.Query (c.in_ok-new.ensures ∙ c.in_ok-query.ensures.means) ∙ source_tree c.in_ok-query.ensures.reads;
}
