use Rattle.std.proofs.Common.{◌∙◌}
use Rattle.ql_syntax.specs.Readings.{pair, both}
use Rattle.ql_cursor.proofs.StepLemmas.{exits}
use Rattle.ql_cursor.proofs.Sequences.{fails_first, fails_second}
use Rattle.ql_parse_expr.proofs.ChainLemmas.{same_chain}
use Rattle.ql_parse_expr.proofs.parser.Parser.chain.Goals as goal

pub returns-in_err-first : goal.returns-in_err-first
returns-in_err-first g c = exits _ _ _ _ c.from_residual.ensures.1 (fails_first (c.requires.answers _ _ _ c.in_err-first.ensures))

pub returns-in_err-rest : goal.returns-in_err-rest
returns-in_err-rest g c = exits _ _ _ _ c.from_residual-in_err-rest.ensures.1 (fails_second (c.requires.answers _ _ _ c.in_ok-first.ensures) c.in_err-rest.ensures)

pub returns : goal.returns
returns g c =
    let first = c.requires.answers _ _ _ c.in_ok-first.ensures in
    record {
      parse = pair first.parse c.in_ok-rest.ensures.parse;
      reads = both first.reads c.in_ok-rest.ensures.reads;
      means = c.in_ok-make_chain.ensures ∙ same_chain first.means c.in_ok-rest.ensures.means;
    }
