use Rattle.std.proofs.Common.{◌∙◌}
use Rattle.ql_syntax.specs.Rules as rule
use Rattle.ql_syntax.specs.Readings.{pair, node, both, by_rule}
use Rattle.ql_cursor.proofs.StepLemmas.{exits}
use Rattle.ql_cursor.proofs.Sequences.{fails_the, fails_first, fails_second}
use Rattle.ql_parse_expr.proofs.ChainLemmas.{same_signed}
use Rattle.ql_parse_expr.proofs.parser.Parser.unary.Goals as goal

pub returns-in_err-ops : goal.returns-in_err-ops
returns-in_err-ops g c = exits _ _ _ _ c.from_residual.ensures.1 (fails_the rule.unary (fails_first (c.in_err-ops.ensures c.args.self.now.room)))

pub returns-in_err-part : goal.returns-in_err-part
returns-in_err-part g c = exits _ _ _ _ c.from_residual-in_err-part.ensures.1 (fails_the rule.unary (fails_second (c.in_ok-ops.ensures c.args.self.now.room) c.in_err-part.ensures))

pub returns : goal.returns
returns g c =
    let ops = c.in_ok-ops.ensures c.args.self.now.room in
    record {
      parse = node rule.unary (pair ops.parse c.in_ok-part.ensures.parse);
      reads = by_rule (both ops.reads c.in_ok-part.ensures.reads);
      means = c.in_ok-make_unary.ensures ∙ same_signed ops.means c.in_ok-part.ensures.means;
    }
