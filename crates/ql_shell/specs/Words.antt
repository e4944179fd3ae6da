-- What the words of the command line ask for: those behind the program's name.
use Rattle.std.specs.Prelude.{ℕ, suc, Bool, true, false, ◌&&◌, ◌||◌, ◌==◌, not, nat_lt, if◌then◌else◌, List, [], ◌∷◌, ◌++◌, length, take, drop, slice_index, codes, Option, Some, None}
use Rattle.std.specs.List.{flat_map, prefix_len}
use Rattle.std.specs.Str.{bytes_eq}
use Rattle.ql_shell.specs.declared.options.Flag.{Flag}
use Rattle.ql_shell.specs.declared.options.Flag.TheVariants as flag
use Rattle.ql_shell.specs.declared.options.Options.{Options}
use Rattle.ql_shell.specs.declared.words.Command.{Command}
use Rattle.ql_shell.specs.declared.words.Command.TheVariants.{Usage, Text, Input}
use Rattle.ql_shell.specs.declared.words.Request.{Request}
use Rattle.ql_shell.specs.declared.words.Word.{Word}
use Rattle.ql_shell.specs.declared.words.Word.TheVariants as word

-- the word `--`, which ends the options and is dropped
abbrev pub ends_options : List ℕ → Bool
ends_options word = bytes_eq word (codes "--")

-- the word begins with `-`, and is not `-` alone
abbrev pub is_option : List ℕ → Bool
is_option word = nat_lt 1 (length word) && slice_index word 0 == 45

-- an option without its dashes, of which it has one or two
abbrev pub undashed : List ℕ → List ℕ
undashed word = if slice_index word 1 == 45 then drop 2 word else drop 1 word

-- a name goes on up to the first `=`
abbrev pub is_in_name : ℕ → Bool
is_in_name b = not (b == 61)

-- the name of an option
abbrev pub name_in : List ℕ → List ℕ
name_in text = take (prefix_len is_in_name text) text

-- what stands behind the first byte, where there is one
abbrev pub behind_first : List ℕ → Option (List ℕ)
behind_first [] = None
behind_first (b ∷ text) = Some text

-- the value of an option: what stands behind its first `=`
abbrev pub value_in : List ℕ → Option (List ℕ)
value_in text = behind_first (drop (prefix_len is_in_name text) text)

-- the options, a line each
unfoldable pub flag_named : List ℕ → Option Flag
flag_named name =
    if bytes_eq name (codes "bare") then Some flag.Bare else
    if bytes_eq name (codes "fld") then Some flag.Fld else None

-- a letter by which a flag is set
unfoldable pub is_yes_letter : List ℕ → Bool
is_yes_letter value = bytes_eq value (codes "1") || bytes_eq value (codes "t") || bytes_eq value (codes "T")

-- a word by which a flag is set
unfoldable pub is_yes_word : List ℕ → Bool
is_yes_word value = bytes_eq value (codes "TRUE") || bytes_eq value (codes "true") || bytes_eq value (codes "True")

-- a letter by which it is unset
unfoldable pub is_no_letter : List ℕ → Bool
is_no_letter value = bytes_eq value (codes "0") || bytes_eq value (codes "f") || bytes_eq value (codes "F")

-- a word by which it is unset
unfoldable pub is_no_word : List ℕ → Bool
is_no_word value = bytes_eq value (codes "FALSE") || bytes_eq value (codes "false") || bytes_eq value (codes "False")

-- whether a flag is set by its value, where that is one; a flag alone is
abbrev pub is_set : Option (List ℕ) → Option Bool
is_set None = Some true
is_set (Some value) = if is_yes_letter value || is_yes_word value then Some true else if is_no_letter value || is_no_word value then Some false else None

-- a flag that is known, with a value that is one
abbrev pub flag_word : Option Flag → Option Bool → Word
flag_word (Some flag) (Some on) = word.Flag flag on
flag_word (Some flag) None = word.Unknown
flag_word None on = word.Unknown

-- an option, by its text without dashes
unfoldable pub option_word : List ℕ → Word
option_word text = flag_word (flag_named (name_in text)) (is_set (value_in text))

-- what a word is, as long as options are read
unfoldable pub word_of : List ℕ → Word
word_of w = if ends_options w then word.End else if is_option w then option_word (undashed w) else word.Statement

-- options with a flag set or unset
abbrev pub with_flag : Options → Flag → Bool → Options
with_flag options flag.Bare on = record { bare = on; with_names = options.with_names }
with_flag options flag.Fld on = record { bare = options.bare; with_names = on }

-- the options without any word
abbrev pub no_options : Options
no_options = record { bare = false; with_names = false }

-- words joined by one space
abbrev pub joined : List (List ℕ) → List ℕ
joined [] = []
joined (w ∷ ws) = w ++ flat_map (λ word. 32 ∷ word) ws

-- the words of a statement are the script, and without any it comes from standard input
abbrev pub from_words : List (List ℕ) → Command
from_words [] = Input
from_words (w ∷ ws) = Text (joined (w ∷ ws))

-- options, and a command behind them
abbrev pub request : Options → Command → Request
request options command = record { options = options; command = command }

-- what follows from a word of this number and those behind it, by what it is
abbrev pub goes_on : ℕ → Options → Word → List ℕ → List (List ℕ) → (Options → Request) → Request
goes_on number options word.End w ws more = request options (from_words ws)
goes_on number options word.Statement w ws more = request options (from_words (w ∷ ws))
goes_on number options (word.Flag flag on) w ws more = more (with_flag options flag on)
goes_on number options word.Unknown w ws more = request options (Usage number)

-- words in order, the first of this number, behind options: further ones up to the first word that is none, and then the words of a statement; of two words for one flag the last counts
abbrev pub request_from : ℕ → Options → List (List ℕ) → Request
request_from number options [] = request options Input
request_from number options (w ∷ ws) = goes_on number options (word_of w) w ws (λ options. request_from (suc number) options ws)

-- what the words ask for
abbrev pub request_of : List (List ℕ) → Request
request_of words = request_from 1 no_options words

abbrev pub command_of : List (List ℕ) → Command
command_of words = (request_of words).command

abbrev pub options_of : List (List ℕ) → Options
options_of words = (request_of words).options
