use Rattle.std.proofs.Common.{sym, ◌∙◌}
use Rattle.ql_syntax.specs.Readings.{present, absent, entered, left_out}
use Rattle.ql_cursor.proofs.StepLemmas.{exits}
use Rattle.ql_cursor.proofs.Sequences.{fails_part}
use Rattle.ql_parse_expr.proofs.parser.Parser.parts.Goals as goal

pub returns-in_err-exprs : goal.returns-in_err-exprs
returns-in_err-exprs g c = exits _ _ _ _ c.from_residual.ensures.1 (fails_part (sym c.begins_expr.ensures ∙ c.if-begins_expr.true) c.in_err-exprs.ensures)

pub returns-in_ok-exprs : goal.returns-in_ok-exprs
returns-in_ok-exprs g c = record { parse = present c.in_ok-exprs.ensures.parse; reads = entered (sym c.begins_expr.ensures ∙ c.if-begins_expr.true) c.in_ok-exprs.ensures.reads; means = c.in_ok-exprs.ensures.means }

pub returns-else-begins_expr : goal.returns-else-begins_expr
returns-else-begins_expr g c = record { parse = absent; reads = left_out (sym c.begins_expr.ensures ∙ c.if-begins_expr.false); means = c.new.ensures }
