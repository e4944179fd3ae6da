use Rattle.std.proofs.Common.{length}
use Rattle.ql_lex.proofs.TokenLemmas.{GoesOn}
use Rattle.ql_lex.proofs.lexer.tokens.Given as goal

abbrev pub invariant-pieces : goal.invariant-pieces
invariant-pieces l = GoesOn (length l.fn.source) l.found l.z l.fn.source

abbrev pub decreases-pieces : goal.decreases-pieces
decreases-pieces l = length l.z
