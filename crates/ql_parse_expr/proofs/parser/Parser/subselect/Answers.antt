use Rattle.ql_syntax.specs.Readings.{pair, both}
use Rattle.ql_cursor.proofs.StepLemmas.{exits}
use Rattle.ql_cursor.proofs.Sequences.{fails_first}
use Rattle.ql_parse_expr.proofs.parser.Parser.subselect.Goals as goal

pub returns-in_err-query : goal.returns-in_err-query
returns-in_err-query g c = exits _ _ _ _ c.from_residual.ensures.1 (fails_first c.in_err-query.ensures)

pub returns : goal.returns
returns g c = record {
  parse = pair c.in_ok-query.ensures.parse (c.eat_mark.ensures.read c.args.room).parse;
  reads = both c.in_ok-query.ensures.reads (c.eat_mark.ensures.read c.args.room).reads;
  means = c.in_ok-query.ensures.means;
}
