use Rattle.ql_lex.specs.Pieces as piece
use Rattle.ql_lex.proofs.pieces.string_piece.Goals as goal

pub returns-in-Ok : goal.returns-in-Ok
returns-in-Ok c = piece.string c.in-Ok.ensures

pub returns-in-Err : goal.returns-in-Err
returns-in-Err c = piece.bad_string c.in-Err.ensures
