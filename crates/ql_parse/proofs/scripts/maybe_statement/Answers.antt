use Rattle.std.proofs.Common.{Some, refl, sym, ap, ◌∙◌}
use Rattle.ql_syntax.specs.Readings.{absent, present, left_out, entered}
use Rattle.ql_cursor.proofs.StepLemmas.{exits}
use Rattle.ql_cursor.proofs.Sequences.{fails_part}
use Rattle.ql_parse.proofs.scripts.maybe_statement.Goals as goal

pub returns-then-not-begins_statement : goal.returns-then-not-begins_statement
returns-then-not-begins_statement c = record { parse = absent; reads = left_out (sym c.begins_statement.ensures ∙ c.if-not-begins_statement.true); means = refl }

pub returns-in_err-statement : goal.returns-in_err-statement
returns-in_err-statement c = exits _ _ _ _ c.from_residual.ensures.1 (fails_part (sym c.begins_statement.ensures ∙ c.if-not-begins_statement.false) c.in_err-statement.ensures)

pub returns : goal.returns
returns c = record {
  parse = present c.in_ok-statement.ensures.parse;
  reads = entered (sym c.begins_statement.ensures ∙ c.if-not-begins_statement.false) c.in_ok-statement.ensures.reads;
  means = ap Some c.in_ok-statement.ensures.means;
}
