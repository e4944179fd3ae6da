-- What the definition of scripts promises of every list of tokens.
use Rattle.std.specs.Prelude.{◌≡◌, ℕ, List}
use Rattle.ql_syntax.specs.declared.statement.Statement.{Statement}
use Rattle.ql_syntax.specs.Lexemes.{Lexeme}
use Rattle.ql_syntax.specs.Rules.{Production, begins_the, enters, rule_of}
use Rattle.ql_syntax.specs.Scripts.{IsUnexpected, IsTooNested}
use Rattle.ql_syntax.specs.Statements.{IsRead}

-- what a list of tokens comes to as a script
pub data Outcome (ts : List Lexeme) : Type 0 where
  read : (ss : List Statement) → IsRead ts ss → Outcome ts
  unexpected : (i : ℕ) → IsUnexpected ts i → Outcome ts
  nested : (i : ℕ) → IsTooNested ts i → Outcome ts

-- Tokens read as one list of statements, or stop at one token for one reason, and never both; and they always do one of these. What
-- the table of first tokens says of a production is what its rule says.
pub record ScriptLaws : Type 0 where
  pub some_outcome : (ts : List Lexeme) → Outcome ts
  pub one_script : (ts : List Lexeme) (ss rs : List Statement) → IsRead ts ss → IsRead ts rs → ss ≡ rs
  pub one_unexpected : (ts : List Lexeme) (i j : ℕ) → IsUnexpected ts i → IsUnexpected ts j → i ≡ j
  pub one_nested : (ts : List Lexeme) (i j : ℕ) → IsTooNested ts i → IsTooNested ts j → i ≡ j
  pub one_reason : (ts : List Lexeme) (i j : ℕ) → IsUnexpected ts i → IsTooNested ts j → ⊥
  pub read_or_unexpected : (ts : List Lexeme) (ss : List Statement) (i : ℕ) → IsRead ts ss → IsUnexpected ts i → ⊥
  pub read_or_nested : (ts : List Lexeme) (ss : List Statement) (i : ℕ) → IsRead ts ss → IsTooNested ts i → ⊥
  pub first_tokens : (p : Production) (ts : List Lexeme) → begins_the p ts ≡ enters (rule_of p) ts
