use Rattle.ql_syntax.specs.Readings.{pair, both}
use Rattle.ql_cursor.proofs.StepLemmas.{exits}
use Rattle.ql_cursor.proofs.Sequences.{fails_first, fails_second}
use Rattle.ql_cursor.proofs.Answering.{same_pair}
use Rattle.ql_parse_expr.proofs.parser.Parser.limits.Goals as goal

pub returns-in_err-limit : goal.returns-in_err-limit
returns-in_err-limit g c = exits _ _ _ _ c.from_residual.ensures.1 (fails_first c.in_err-limit.ensures)

pub returns-in_err-offset : goal.returns-in_err-offset
returns-in_err-offset g c = exits _ _ _ _ c.from_residual-in_err-offset.ensures.1 (fails_second c.in_ok-limit.ensures c.in_err-offset.ensures)

pub returns : goal.returns
returns g c = record {
  parse = pair c.in_ok-limit.ensures.parse c.in_ok-offset.ensures.parse;
  reads = both c.in_ok-limit.ensures.reads c.in_ok-offset.ensures.reads;
  means = same_pair c.in_ok-limit.ensures.means c.in_ok-offset.ensures.means;
}
