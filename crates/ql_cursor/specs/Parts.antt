-- Lists of parts and parts in brackets: what they are, and what a function that parses a part answers.
use Rattle.std.specs.Prelude.{◌≡◌, ℕ, suc, List, [], ◌∷◌, Result}
use denote.Ref.{MutBor}
use Rattle.ql_cursor.specs.declared.fault.Fault.{Fault}
use Rattle.ql_syntax.specs.Lexemes.{Lexeme}
use Rattle.ql_syntax.specs.Rules.{Rule}
use Rattle.ql_syntax.specs.Readings.{Parse, pair, cell, stop}
use Rattle.ql_cursor.specs.Parses.{Answers}

-- a function parses by a rule
pub record ReadsPart {A : Type 0} (n : ℕ) (x : Rule) (tree : Parse → A) (pre : MutBor (List Lexeme) → Type 0)
    (post : MutBor (List Lexeme) → Result A Fault → MutBor (List Lexeme) → Type 0) : Type 0 where
  pub callable : (old : MutBor (List Lexeme)) → pre old
  pub answers : (old new : MutBor (List Lexeme)) (r : Result A Fault) → post old r new → Answers n x tree old.now r new.now

-- a list: what its members are, and the members of a reading of the list
pub record ListOf (A : Type 0) : Type 0 where
  pub rule : Rule
  pub tree : Parse → A
  pub items : Parse → List A
  pub pairs : (a b : Parse) → items (pair a b) ≡ tree a ∷ items b
  pub cells : (a b : Parse) → items (cell a b) ≡ tree a ∷ items b
  pub stops : items stop ≡ []

-- a rule and what its readings mean
pub record PartOf (A : Type 0) : Type 0 where
  pub rule : Rule
  pub tree : Parse → A

-- a function parses by a rule in the room that is left inside one more bracket
pub record ReadsInside {A : Type 0} (n : ℕ) (x : Rule) (tree : Parse → A) (pre : ℕ → MutBor (List Lexeme) → Type 0)
    (post : ℕ → MutBor (List Lexeme) → Result A Fault → MutBor (List Lexeme) → Type 0) : Type 0 where
  pub callable : (room : ℕ) (old : MutBor (List Lexeme)) → suc room ≡ n → pre room old
  pub answers : (room : ℕ) (old new : MutBor (List Lexeme)) (r : Result A Fault) → suc room ≡ n → post room old r new → Answers room x tree old.now r new.now
