use Rattle.ql_lex.specs.Pieces as piece
use Rattle.ql_lex.proofs.PieceLemmas.{cuts_at}
use Rattle.ql_lex.proofs.pieces.piece_at.Goals as goal

pub returns-in-Blank : goal.returns-in-Blank
returns-in-Blank c = cuts_at _ _ _ _ _ _ c.in-Blank.ensures piece.blank
