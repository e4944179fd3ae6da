-- The text that the statements of a script print is cut into the tokens that were read, but for what printing leaves out and puts in.
use Rattle.std.proofs.Common.{◌≡◌, ℕ, List, [], ◌∷◌, ◌++◌, Ok, map, refl}
use Rattle.std.specs.Prelude.{flat_map}
use Rattle.std.specs.List.{AllByRecursion}
use Rattle.ql_lex.specs.declared.marks.Mark.TheVariants as m
use Rattle.ql_lex.specs.declared.token.Token.{Token}
use Rattle.ql_lex.specs.Tokens as lex
use Rattle.ql_syntax.specs.declared.statement.Statement.{Statement}
use Rattle.ql_syntax.specs.Ink.{space, text_of, tokens_of, mark}
use Rattle.ql_syntax.specs.Lexemes.{Lexeme, lexemes}
use Rattle.ql_syntax.specs.Printing.{Inks}
use Rattle.ql_syntax.specs.SameTokens.{SameScript, ink_of_script, KeepsTokens, TokenLaws}
use Rattle.ql_syntax.specs.StatementPrinting.{ink_of_statement}
use Rattle.ql_syntax.specs.Statements.{IsRead, statements_of}
use Rattle.ql_print.proofs.CutLemmas.{mark_cut}
use Rattle.ql_print.proofs.Fits.{AreSpelled, fits}
use Rattle.ql_print.proofs.KeptStatements.{AreWorth, script_kept}
use Rattle.ql_print.proofs.LexedInk.{blank, token}
use Rattle.ql_print.proofs.SoundInk.{IsSound, IsLater, later_none, sound_then, later_then, empty_sound}
use Rattle.ql_print.proofs.SoundStatements.{Sound, script_sound, all_spelled, lexed_again, number_kept, text_kept}

-- a text of statements is cut into its tokens

-- `; ` between statements
abbrev gap : Inks
gap = mark m.Semicolon ∷ space ∷ []

gap_later : (x : Inks) → IsSound x → IsLater (gap ++ x)
gap_later x h = record { goes = λ tail e l. token (mark_cut m.Semicolon (text_of (x ++ tail))) (blank (h.goes tail e l)); apart = λ tail e. refl }

gaps_later : (ss : List Statement) → AllByRecursion Sound ss → IsLater (flat_map (λ (y : Inks). gap ++ y) (map ink_of_statement ss))
gaps_later [] h = later_none
gaps_later (s ∷ ss) h =
    later_then (gap ++ ink_of_statement s) (flat_map (λ (y : Inks). gap ++ y) (map ink_of_statement ss)) (gap_later (ink_of_statement s) h.0) (gaps_later ss h.1)

all_sound : (ss : List Statement) → AllByRecursion Sound ss → IsSound (ink_of_script ss)
all_sound [] h = empty_sound
all_sound (s ∷ ss) h = sound_then (ink_of_statement s) (flat_map (λ (y : Inks). gap ++ y) (map ink_of_statement ss)) h.0 (gaps_later ss h.1)

-- tokens that are spelled as their kinds are mean the same once they are printed
all_worth : (ts : List Lexeme) → AreSpelled ts → AreWorth ts
all_worth [] h = tt
all_worth (t ∷ ts) h = (record { number = λ e. number_kept t e h.0; text = λ e. text_kept t }, all_worth ts h.1)

keeps_all : (source : List ℕ) (tokens : List Token) (ss all : List Statement) → ss ≡ all → AllByRecursion Sound all → SameScript (lexemes source tokens) (tokens_of (ink_of_script all)) →
    KeepsTokens source tokens ss
keeps_all source tokens ss all e h k =
    let again = lexed_again (ink_of_script ss) (all_sound ss (rw e h)) in
    let kept : SameScript (lexemes source tokens) (tokens_of (ink_of_script ss)) = rw e k in
    record { printed = again.tokens; lexed = again.lexes; kept = rw again.same kept }

keeps : (source : List ℕ) (tokens : List Token) (ss : List Statement) → lex.Reads source (Ok tokens) → IsRead (lexemes source tokens) ss → KeepsTokens source tokens ss
keeps source tokens ss lexed read =
    let spelled = all_spelled source tokens lexed in
    keeps_all source tokens ss (statements_of read.parse) read.tree (script_sound (fits read.reads spelled).0) (script_kept (all_worth (lexemes source tokens) spelled) read.reads)

pub token_laws : TokenLaws
token_laws = record { scripts = keeps }
