-- What the two functions that a parser holds answer.
use Rattle.std.specs.Prelude.{ℕ, ◌<◌, List, Result}
use Rattle.std.specs.declared.alloc.Global.{Global}
use denote.Ref.{MutBor}
use Rattle.ql_cursor.specs.declared.fault.Fault.{Fault}
use Rattle.ql_syntax.specs.declared.syntax.Expr.{Expr}
use Rattle.ql_syntax.specs.declared.syntax.Select.{Select}
use Rattle.ql_syntax.specs.Lexemes.{Lexeme}
use Rattle.ql_syntax.specs.Rules.{the, expr, select}
use Rattle.ql_cursor.specs.Parses.{Answers}
use Rattle.ql_syntax.specs.Trees.{expr_of, select_of}

-- two functions parse expressions and SELECTs in any room smaller than `n`
pub record Nests (n : ℕ) (pre : Global → ℕ → MutBor (List Lexeme) → Type 0)
    (post : Global → ℕ → MutBor (List Lexeme) → Result Expr Fault → MutBor (List Lexeme) → Type 0)
    (pre_select : Global → ℕ → MutBor (List Lexeme) → Type 0)
    (post_select : Global → ℕ → MutBor (List Lexeme) → Result Select Fault → MutBor (List Lexeme) → Type 0) : Type 0 where
  pub expr_callable : (alloc : Global) (room : ℕ) (old : MutBor (List Lexeme)) → room < n → pre alloc room old
  pub expr_answers : (alloc : Global) (room : ℕ) (old new : MutBor (List Lexeme)) (r : Result Expr Fault) → post alloc room old r new
      → Answers room (the expr) expr_of old.now r new.now
  pub select_callable : (alloc : Global) (room : ℕ) (old : MutBor (List Lexeme)) → room < n → pre_select alloc room old
  pub select_answers : (alloc : Global) (room : ℕ) (old new : MutBor (List Lexeme)) (r : Result Select Fault) → post_select alloc room old r new
      → Answers room (the select) select_of old.now r new.now
