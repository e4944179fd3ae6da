use Rattle.ql_syntax.specs.Readings.{pair, both}
use Rattle.ql_cursor.proofs.StepLemmas.{exits}
use Rattle.ql_cursor.proofs.Sequences.{fails_first, fails_second}
use Rattle.ql_parse_expr.proofs.SelectLemmas.{same_field}
use Rattle.ql_parse_expr.proofs.parser.Parser.field.Goals as goal

pub returns-in_err-expr : goal.returns-in_err-expr
returns-in_err-expr g c = exits _ _ _ _ c.from_residual.ensures.1 (fails_first c.in_err-expr.ensures)

pub returns-in_err-alias : goal.returns-in_err-alias
returns-in_err-alias g c = exits _ _ _ _ c.from_residual-in_err-alias.ensures.1 (fails_second c.in_ok-expr.ensures (c.in_err-alias.ensures _))

pub returns : goal.returns
returns g c = record {
  parse = pair c.in_ok-expr.ensures.parse (c.in_ok-alias.ensures c.args.self.now.room).parse;
  reads = both c.in_ok-expr.ensures.reads (c.in_ok-alias.ensures c.args.self.now.room).reads;
  means = same_field c.in_ok-expr.ensures.means (c.in_ok-alias.ensures c.args.self.now.room).means;
}
