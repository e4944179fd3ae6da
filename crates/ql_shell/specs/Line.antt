-- The line that is warned for each way in which a run may end.
use Rattle.std.specs.Prelude.{ℕ, List, [], ◌∷◌, ◌++◌, ◌==◌, if◌then◌else◌, codes, decimal}
use Rattle.ql_value.specs.Refusal.{refusal_word}
use Rattle.ql_value.specs.declared.refusal.Refusal.{Refusal}
use Rattle.ql_rel.specs.Sessions.{no_transaction, too_deep, unbalanced}
use Rattle.ql_shell.specs.declared.status.ScriptFault.TheVariants.{TooLong, BadByte, BadLiteral, Unclosed, Unexpected, TooNested}
use Rattle.ql_shell.specs.declared.status.Status.{Status}
use Rattle.ql_shell.specs.declared.status.Status.TheVariants.{Done, Script, Refused, Usage, Fault, NoMemory}

-- a name behind a space, or nothing where there is no name
abbrev pub spaced : List ℕ → List ℕ
spaced [] = []
spaced (b ∷ name) = 32 ∷ b ∷ name

-- the word for a refusal's number: those of levels, and those of statements on tables
abbrev pub word_of : ℕ → List ℕ
word_of number =
    if number == no_transaction then codes "NoTransaction" else
    if number == too_deep then codes "TooDeep" else
    if number == unbalanced then codes "Unbalanced" else refusal_word number

-- the number of a refusal, its word, and its name where there is one
abbrev pub refusal_text : Refusal → List ℕ
refusal_text refusal = decimal refusal.number ++ codes " " ++ word_of refusal.number ++ spaced refusal.name

-- what is wrong at the byte of a place, as a line
abbrev pub place_line : ℕ → List ℕ → List ℕ
place_line at what = codes "ql: byte " ++ decimal at ++ codes ": " ++ what ++ codes "\n"

-- the line with its newline; a run that is done warns nothing
abbrev pub line_of : Status → List ℕ
line_of Done = []
line_of (Script TooLong) = codes "ql: script too long\n"
line_of (Script (BadByte at)) = place_line at (codes "bad byte")
line_of (Script (BadLiteral at)) = place_line at (codes "bad literal")
line_of (Script (Unclosed at)) = place_line at (codes "unclosed")
line_of (Script (Unexpected at)) = place_line at (codes "unexpected")
line_of (Script (TooNested at)) = place_line at (codes "too nested")
line_of (Refused statement refusal) = codes "ql: statement " ++ decimal statement ++ codes ": " ++ refusal_text refusal ++ codes "\n"
line_of (Usage word) = codes "ql: usage, word " ++ decimal word ++ codes "\n"
line_of Fault = codes "ql: device fault\n"
line_of NoMemory = codes "ql: out of memory\n"
