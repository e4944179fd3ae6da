-- What a script comes to before it is carried out: its statements, or why it is refused as a whole.
use Rattle.std.specs.Prelude.{ℕ, ◌<◌, ◌≤◌, List, length, slice_get, option_map, unwrap_or, Result, Ok, Err}
use Rattle.ql_lex.specs.declared.token.LexFault.TheVariants as lex
use Rattle.ql_lex.specs.declared.token.Token.{Token}
use Rattle.ql_lex.specs.Tokens.{Reads}
use Rattle.ql_syntax.specs.declared.statement.Statement.{Statement}
use Rattle.ql_syntax.specs.Lexemes.{lexemes}
use Rattle.ql_syntax.specs.Scripts.{IsUnexpected, IsTooNested}
use Rattle.ql_syntax.specs.Statements.{IsRead}
use Rattle.ql_shell.specs.declared.status.ScriptFault.{ScriptFault}
use Rattle.ql_shell.specs.declared.status.ScriptFault.TheVariants.{TooLong, BadByte, BadLiteral, Unclosed, Unexpected, TooNested}
use Rattle.ql_shell.specs.declared.status.Status.{Status}
use Rattle.ql_shell.specs.declared.status.Status.TheVariants.{Script}

-- how many bytes a script has at most
abbrev pub longest_script : ℕ
longest_script = 16777216

-- the place of the first byte of the token with this number, and the length of the source where there is none
abbrev pub place_of : List ℕ → List Token → ℕ → ℕ
place_of source tokens at = unwrap_or (option_map (λ (t : Token). t.from) (slice_get tokens at)) (length source)

-- Its length is looked at first, then its tokens, and then its statements. A fault's number is the place of a byte.
pub data Comes (source : List ℕ) : Result (List Statement) ScriptFault → Type 0 where
  too_long : longest_script < length source → Comes source (Err TooLong)
  bad_byte : {at : ℕ} → length source ≤ longest_script → Reads source (Err (lex.BadByte at)) → Comes source (Err (BadByte at))
  bad_literal : {at : ℕ} → length source ≤ longest_script → Reads source (Err (lex.BadLiteral at)) → Comes source (Err (BadLiteral at))
  unclosed : {at : ℕ} → length source ≤ longest_script → Reads source (Err (lex.Unclosed at)) → Comes source (Err (Unclosed at))
  unexpected : {ts : List Token} {i : ℕ} → length source ≤ longest_script → Reads source (Ok ts) → IsUnexpected (lexemes source ts) i
      → Comes source (Err (Unexpected (place_of source ts i)))
  too_nested : {ts : List Token} {i : ℕ} → length source ≤ longest_script → Reads source (Ok ts) → IsTooNested (lexemes source ts) i
      → Comes source (Err (TooNested (place_of source ts i)))
  read : {ts : List Token} {ss : List Statement} → length source ≤ longest_script → Reads source (Ok ts) → IsRead (lexemes source ts) ss → Comes source (Ok ss)

-- what reading a script answers by what it comes to
abbrev pub read_as : Result (List Statement) ScriptFault → Result (List Statement) Status
read_as (Ok ss) = Ok ss
read_as (Err fault) = Err (Script fault)
