use Rattle.ql_lex.proofs.PieceLemmas.{mark_cut, mark_flaw}
use Rattle.ql_lex.proofs.pieces.mark_piece.Goals as goal

pub returns-in-Some : goal.returns-in-Some
returns-in-Some c = mark_cut _ _ _ _ _ c.requires c.in-Some.ensures.0 c.in-Some.ensures.1

pub returns-in-None : goal.returns-in-None
returns-in-None c = mark_flaw _ _ _ c.requires c.in-None.ensures
