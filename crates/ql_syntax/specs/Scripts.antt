-- Where a script is not read, by the tokens' numbers.
use Rattle.std.specs.Prelude.{◌≡◌, ℕ, ◌+◌, List, length}
use Rattle.ql_syntax.specs.Lexemes.{Lexeme}
use Rattle.ql_syntax.specs.Rules.{script}
use Rattle.ql_syntax.specs.Readings.{Stops, unexpected, too_nested}

-- how many brackets may be open at once
abbrev pub limit : ℕ
limit = 200

-- the token with this number, counted from 0, is unexpected; the number of all tokens stands for an end that comes too early
pub record IsUnexpected (ts : List Lexeme) (at : ℕ) : Type 0 where
  pub here : List Lexeme
  pub stops : Stops limit script ts (unexpected here)
  pub place : at + length here ≡ length ts

-- the token with this number opens one bracket too many
pub record IsTooNested (ts : List Lexeme) (at : ℕ) : Type 0 where
  pub here : List Lexeme
  pub stops : Stops limit script ts (too_nested here)
  pub place : at + length here ≡ length ts
