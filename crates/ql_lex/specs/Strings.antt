-- Interpreted strings, from behind the opening quote on.
use Rattle.std.specs.Prelude.{◌≡◌, ℕ, ◌==◌, if◌then◌else◌, List, [], ◌∷◌, Ok, Err}
use Rattle.ql_lex.specs.declared.strings.StringByte.{StringByte}
use Rattle.ql_lex.specs.declared.strings.StringByte.TheVariants as s
use Rattle.ql_lex.specs.declared.escapes.Code.{Code}
use Rattle.ql_lex.specs.declared.token.Flaw.{Flaw}
use Rattle.ql_lex.specs.declared.token.Flaw.TheVariants as flaw
use Rattle.ql_lex.specs.Escapes.{escape_at}

-- what a byte is in a string
abbrev pub byte_in_string : ℕ → StringByte
byte_in_string b = if b == 34 then s.Quote else (if b == 10 then s.Newline else (if b == 92 then s.Backslash else s.Plain))

-- what comes next in a string
abbrev pub next_in_string : List ℕ → StringByte
next_in_string [] = s.End
next_in_string (b ∷ text) = byte_in_string b

-- Bytes that stand for themselves and escapes come in turn, and then a quote, behind which `rest` stands.
-- The first argument is what comes next.
pub data ClosesAfter : StringByte → List ℕ → List ℕ → Type 0 where
  quote : {b : ℕ} {rest : List ℕ} → ClosesAfter s.Quote (b ∷ rest) rest
  plain : {b : ℕ} {text rest : List ℕ} → ClosesAfter (next_in_string text) text rest → ClosesAfter s.Plain (b ∷ text) rest
  escape : {b : ℕ} {text behind rest : List ℕ} {code : Code} →
      escape_at text ≡ Ok (code, behind) → ClosesAfter (next_in_string behind) behind rest → ClosesAfter s.Backslash (b ∷ text) rest

-- Bytes that stand for themselves and escapes come in turn, and then the end, a newline or a bad escape.
pub data SpoilsAfter : StringByte → List ℕ → Flaw → Type 0 where
  ended : SpoilsAfter s.End [] flaw.Unclosed
  newline : {b : ℕ} {text : List ℕ} → SpoilsAfter s.Newline (b ∷ text) flaw.BadLiteral
  bad_escape : {b : ℕ} {text : List ℕ} {f : Flaw} → escape_at text ≡ Err f → SpoilsAfter s.Backslash (b ∷ text) f
  after_plain : {b : ℕ} {text : List ℕ} {f : Flaw} → SpoilsAfter (next_in_string text) text f → SpoilsAfter s.Plain (b ∷ text) f
  after_escape : {b : ℕ} {text behind : List ℕ} {code : Code} {f : Flaw} →
      escape_at text ≡ Ok (code, behind) → SpoilsAfter (next_in_string behind) behind f → SpoilsAfter s.Backslash (b ∷ text) f

-- a text closes a string, and `rest` stands behind it
abbrev pub ClosesString : List ℕ → List ℕ → Type 0
ClosesString text rest = ClosesAfter (next_in_string text) text rest

-- a text spoils a string, and how
abbrev pub SpoilsString : List ℕ → Flaw → Type 0
SpoilsString text f = SpoilsAfter (next_in_string text) text f
