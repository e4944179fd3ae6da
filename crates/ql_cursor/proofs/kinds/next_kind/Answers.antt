use Rattle.ql_lex.specs.declared.token.TokenKind.TheVariants as kind
use Rattle.ql_cursor.proofs.StepLemmas.{head_is}
use Rattle.ql_cursor.proofs.kinds.next_kind.Goals as goal

pub returns-in-Some-Word : goal.returns-in-Some-Word
returns-in-Some-Word c = rw (head_is c.args.cursor.now (kind.Word c.in-Some-Word.word) (cc (c.kind.ensures, c.in-Some-Word.is, c.in-Some-Word.field-0-is))) c.kind_of.ensures
