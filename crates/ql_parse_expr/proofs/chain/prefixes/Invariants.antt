use Rattle.std.proofs.Common.{ℕ, length}
use Rattle.ql_syntax.specs.Lexemes.{is_prefix}
use Rattle.ql_syntax.specs.Rules.{many, token}
use Rattle.ql_syntax.specs.Trees.{ops_of}
use Rattle.ql_cursor.proofs.Loops.{Going}
use Rattle.ql_parse_expr.proofs.chain.prefixes.Given as goal

abbrev pub invariant-ops : goal.invariant-ops
invariant-ops l = (n : ℕ) → Going n (many (token is_prefix)) (many (token is_prefix)) ops_of ops_of l.fn.cursor l.cursor l.ops

abbrev pub decreases-ops : goal.decreases-ops
decreases-ops l = length l.cursor
