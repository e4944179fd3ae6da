use Rattle.ql_lex.specs.Words as words
use Rattle.ql_lex.proofs.pieces.kind_of.Goals as goal

pub returns-in-Some : goal.returns-in-Some
returns-in-Some c = words.keyword c.in-Some.ensures

pub returns-in-None : goal.returns-in-None
returns-in-None c = words.name c.in-None.ensures
