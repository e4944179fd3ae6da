use Rattle.ql_lex.proofs.PieceLemmas.{number_cut, number_flaw}
use Rattle.ql_lex.proofs.pieces.number_piece.Goals as goal

pub returns-in-Some : goal.returns-in-Some
returns-in-Some c = number_cut _ _ _ _ c.word_at.ensures.word c.word_at.ensures.behind c.in-Some.ensures.0

pub returns-in-None : goal.returns-in-None
returns-in-None c = number_flaw _ _ _ c.word_at.ensures.word c.in-None.ensures
