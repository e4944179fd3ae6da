use Rattle.ql_syntax.specs.Readings.{pair, both}
use Rattle.ql_cursor.proofs.StepLemmas.{exits}
use Rattle.ql_cursor.proofs.Sequences.{fails_first, fails_second}
use Rattle.ql_cursor.proofs.Answering.{same_pair}
use Rattle.ql_parse_expr.proofs.parser.Parser.ending.Goals as goal

pub returns-in_err-order : goal.returns-in_err-order
returns-in_err-order g c = exits _ _ _ _ c.from_residual.ensures.1 (fails_first c.in_err-order.ensures)

pub returns-in_err-limits : goal.returns-in_err-limits
returns-in_err-limits g c = exits _ _ _ _ c.from_residual-in_err-limits.ensures.1 (fails_second c.in_ok-order.ensures c.in_err-limits.ensures)

pub returns : goal.returns
returns g c = record {
  parse = pair c.in_ok-order.ensures.parse c.in_ok-limits.ensures.parse;
  reads = both c.in_ok-order.ensures.reads c.in_ok-limits.ensures.reads;
  means = same_pair c.in_ok-order.ensures.means c.in_ok-limits.ensures.means;
}
