-- Every statement of a script is read back from what it prints.
use Rattle.std.proofs.Common.{ℕ, List, Ok, All}
use Rattle.ql_lex.specs.Tokens as lex
use Rattle.ql_lex.specs.declared.token.Token.{Token}
use Rattle.ql_syntax.specs.declared.statement.Statement.{Statement}
use Rattle.ql_syntax.specs.Lexemes.{lexemes}
use Rattle.ql_syntax.specs.ReadsBack.{IsReadBack, ReadBackLaws}
use Rattle.ql_syntax.specs.Statements.{IsRead}
use Rattle.ql_print.proofs.BackScripts.{Literals}
use Rattle.ql_print.proofs.BackScripts.{script_reads_back, is_read_back}
use Rattle.ql_print.proofs.PrintedNumbers.{number_again}
use Rattle.ql_print.proofs.PrintedTexts.{text_again}
use Rattle.ql_print.proofs.SoundStatements.{script_again}

literals : Literals
literals = record { numbers = number_again; texts = text_again }

pub each_read_back : {source : List ℕ} {tokens : List Token} {ss : List Statement} → lex.Reads source (Ok tokens) → IsRead (lexemes source tokens) ss → All IsReadBack ss
each_read_back {source = source} {tokens = tokens} {ss = ss} lexed read =
    let again = script_reads_back literals lexed read in
    let spelled = script_again source tokens ss lexed read in
    λ k d i. let s = spelled k d i in is_read_back _ (again k d i) s.tokens s.lexes s.same

pub read_back_laws : ReadBackLaws
read_back_laws = record { statements = λ source tokens ss lexed read. each_read_back lexed read }
