-- What a function of the parser answers: it reads by a rule, or tells where reading stops.
use Rattle.std.specs.Prelude.{◌≡◌, ◌≢◌, ℕ, List, ◌++◌, length, Result, Ok, Err}
use Rattle.ql_syntax.specs.Lexemes.{Lexeme}
use Rattle.ql_syntax.specs.Rules.{Rule, bracketed}
use Rattle.ql_syntax.specs.Readings.{Parse, group, Reads, Stop, Stops, unexpected, too_nested}
use Rattle.ql_cursor.specs.declared.fault.Fault.{Fault}
use Rattle.ql_cursor.specs.declared.fault.Fault.TheVariants as f

-- a place where reading stops, told by the number of tokens from there on
abbrev pub fault_of : Stop → Fault
fault_of (unexpected here) = f.Unexpected (length here)
fault_of (too_nested here) = f.TooNested (length here)

-- the tokens `old` read by the rule up to `new`, and `value` is what the reading means
pub record Gives {A : Type 0} (n : ℕ) (x : Rule) (tree : Parse → A) (old : List Lexeme) (value : A) (new : List Lexeme) : Type 0 where
  pub parse : Parse
  pub reads : Reads n x old parse new
  pub means : value ≡ tree parse

-- reading by the rule stops where the fault says, unless it is want of memory
pub record Fails (n : ℕ) (x : Rule) (old : List Lexeme) (fault : Fault) : Type 0 where
  pub stops : fault ≢ f.NoMemory → (s : Stop) × Stops n x old s × (fault ≡ fault_of s)

-- an answer is what the tokens give, or where they fail
abbrev pub Answers : {A : Type 0} → ℕ → Rule → (Parse → A) → List Lexeme → Result A Fault → List Lexeme → Type 0
Answers n x tree old (Ok value) new = Gives n x tree old value new
Answers n x tree old (Err fault) new = Fails n x old fault

-- the same with any room for brackets
abbrev pub AnswersAnywhere : {A : Type 0} → Rule → (Parse → A) → List Lexeme → Result A Fault → List Lexeme → Type 0
AnswersAnywhere x tree old result new = (n : ℕ) → Answers n x tree old result new

-- nothing is taken from a reading
abbrev pub no_value : Parse → Unit {0}
no_value _ = tt

-- the tokens `old` read as brackets round what reads by the rule, and `value` is what that means
pub record Encloses {A : Type 0} (n : ℕ) (x : Rule) (tree : Parse → A) (old : List Lexeme) (value : A) (new : List Lexeme) : Type 0 where
  pub parse : Parse
  pub reads : Reads n (bracketed x) old (group parse) new
  pub means : value ≡ tree parse

-- the same as `Answers`, for brackets round the rule
abbrev pub AnswersEnclosed : {A : Type 0} → ℕ → Rule → (Parse → A) → List Lexeme → Result A Fault → List Lexeme → Type 0
AnswersEnclosed n x tree old (Ok value) new = Encloses n x tree old value new
AnswersEnclosed n x tree old (Err fault) new = Fails n (bracketed x) old fault

-- the tokens `old` read by the rule up to `new`, and what the reading means was added to a list
pub record Adds {A : Type 0} (n : ℕ) (x : Rule) (tree : Parse → List A) (old : List Lexeme) (before : List A) (new : List Lexeme) (after : List A) : Type 0 where
  pub parse : Parse
  pub reads : Reads n x old parse new
  pub means : after ≡ before ++ tree parse
