use Rattle.std.proofs.Common.{refl}
use Rattle.ql_parse_expr.specs.Levels.{chain_of}
use Rattle.ql_syntax.specs.Rules as rule
use Rattle.ql_syntax.specs.Readings.{node}
use Rattle.ql_syntax.specs.Trees.{expr_of}
use Rattle.ql_cursor.proofs.Answering.{the_answers}
use Rattle.ql_parse_expr.proofs.ChainLemmas.{chain_tree}
use Rattle.ql_parse_expr.proofs.parser.Parser.expression.Goals as goal

pub returns : goal.returns
returns g c = the_answers rule.expr chain_of expr_of c.chain.result c.chain.ensures (chain_tree (λ a. expr_of (node rule.expr a)) (λ a b. refl))
