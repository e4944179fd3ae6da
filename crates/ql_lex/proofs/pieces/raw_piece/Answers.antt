use Rattle.ql_lex.proofs.PieceLemmas.{raw_cut, raw_flaw}
use Rattle.ql_lex.proofs.pieces.raw_piece.Goals as goal

pub returns-in-Some : goal.returns-in-Some
returns-in-Some c = raw_cut _ _ _ _ _ c.after_run.ensures c.in-Some.ensures

pub returns-in-None : goal.returns-in-None
returns-in-None c = raw_flaw _ _ _ c.after_run.ensures c.in-None.ensures
