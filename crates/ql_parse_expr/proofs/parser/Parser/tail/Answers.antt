use Rattle.ql_syntax.specs.Readings.{pair, both}
use Rattle.ql_cursor.proofs.StepLemmas.{exits}
use Rattle.ql_cursor.proofs.Sequences.{fails_first, fails_second}
use Rattle.ql_parse_expr.proofs.SelectLemmas.{tail_made}
use Rattle.ql_parse_expr.proofs.parser.Parser.tail.Goals as goal

pub returns-in_err-filter : goal.returns-in_err-filter
returns-in_err-filter g c = exits _ _ _ _ c.from_residual.ensures.1 (fails_first c.in_err-filter.ensures)

pub returns-in_err-groups : goal.returns-in_err-groups
returns-in_err-groups g c = exits _ _ _ _ c.from_residual-in_err-groups.ensures.1 (fails_second c.in_ok-filter.ensures (fails_first c.in_err-groups.ensures))

pub returns-in_err-ending : goal.returns-in_err-ending
returns-in_err-ending g c = exits _ _ _ _ c.from_residual-in_err-ending.ensures.1 (fails_second c.in_ok-filter.ensures (fails_second c.in_ok-groups.ensures c.in_err-ending.ensures))

pub returns : goal.returns
returns g c = record {
  parse = pair c.in_ok-filter.ensures.parse (pair c.in_ok-groups.ensures.parse c.in_ok-ending.ensures.parse);
  reads = both c.in_ok-filter.ensures.reads (both c.in_ok-groups.ensures.reads c.in_ok-ending.ensures.reads);
  means = tail_made c.in_ok-filter.ensures.means c.in_ok-groups.ensures.means c.in_ok-ending.ensures.means;
}
