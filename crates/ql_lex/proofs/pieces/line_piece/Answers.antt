use Rattle.ql_lex.proofs.PieceLemmas.{line_cut}
use Rattle.ql_lex.proofs.pieces.line_piece.Goals as goal

pub returns : goal.returns
returns c = line_cut _ _ _ c.after_run.ensures
