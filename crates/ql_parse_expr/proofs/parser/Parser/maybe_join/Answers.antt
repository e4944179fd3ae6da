use Rattle.std.proofs.Common.{Some, refl, sym, ap, ◌∙◌}
use Rattle.ql_syntax.specs.Readings.{absent, present, left_out, entered}
use Rattle.ql_cursor.proofs.StepLemmas.{exits}
use Rattle.ql_cursor.proofs.Sequences.{fails_part}
use Rattle.ql_parse_expr.proofs.parser.Parser.maybe_join.Goals as goal

pub returns-then-not-begins_join : goal.returns-then-not-begins_join
returns-then-not-begins_join g c = record { parse = absent; reads = left_out (sym c.begins_join.ensures ∙ c.if-not-begins_join.true); means = refl }

pub returns-in_err-join : goal.returns-in_err-join
returns-in_err-join g c = exits _ _ _ _ c.from_residual.ensures.1 (fails_part (sym c.begins_join.ensures ∙ c.if-not-begins_join.false) c.in_err-join.ensures)

pub returns : goal.returns
returns g c = record {
  parse = present c.in_ok-join.ensures.parse;
  reads = entered (sym c.begins_join.ensures ∙ c.if-not-begins_join.false) c.in_ok-join.ensures.reads;
  means = ap Some c.in_ok-join.ensures.means;
}
