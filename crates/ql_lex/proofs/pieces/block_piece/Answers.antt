use Rattle.ql_lex.proofs.PieceLemmas.{block_cut, block_flaw}
use Rattle.ql_lex.proofs.pieces.block_piece.Goals as goal

pub returns-in-Some : goal.returns-in-Some
returns-in-Some c = block_cut _ _ _ _ c.tail.ensures c.in-Some.ensures

pub returns-in-None : goal.returns-in-None
returns-in-None c = block_flaw _ _ _ c.tail.ensures c.in-None.ensures
