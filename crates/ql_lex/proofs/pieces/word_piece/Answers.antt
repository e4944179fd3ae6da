use Rattle.std.proofs.Common.{arith}
use Rattle.ql_lex.proofs.PieceLemmas.{word_cut, word_flaw}
use Rattle.ql_lex.proofs.pieces.word_piece.Goals as goal

pub returns-then-len-gt-NAME_LIMIT : goal.returns-then-len-gt-NAME_LIMIT
returns-then-len-gt-NAME_LIMIT c = word_flaw _ _ _ c.word_at.ensures.word (omega arith)

pub returns : goal.returns
returns c = word_cut _ _ _ _ _ c.word_at.ensures.word c.word_at.ensures.behind (omega arith) c.kind_of.ensures
