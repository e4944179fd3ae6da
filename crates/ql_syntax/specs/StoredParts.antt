-- What an expression, a column and the item of an index are read as, where each is printed by itself.
use Rattle.std.specs.Prelude.{◌≡◌, ℕ, ◌≤◌, Bool, List, [], ◌∷◌, ◌++◌, All, IfSome, Ok}
use Rattle.ql_lex.specs.Tokens
use Rattle.ql_lex.specs.Tokens.{IsName}
use Rattle.ql_lex.specs.declared.token.Token.{Token}
use Rattle.ql_syntax.specs.declared.statement.ColumnDef.{ColumnDef}
use Rattle.ql_syntax.specs.declared.statement.Item.{Item}
use Rattle.ql_syntax.specs.declared.statement.Statement.{Statement}
use Rattle.ql_syntax.specs.declared.statement.Statement.TheVariants as s
use Rattle.ql_syntax.specs.declared.syntax.Expr.{Expr}
use Rattle.ql_syntax.specs.Ink.{text_of}
use Rattle.ql_syntax.specs.Lexemes.{Lexeme, lexemes}
use Rattle.ql_syntax.specs.Printing.{ink_of_expr}
use Rattle.ql_syntax.specs.Readings.{Parse, Reads, group}
use Rattle.ql_syntax.specs.ReadsBack.{plain_expr, plain_column, IsReadBack}
use Rattle.ql_syntax.specs.Rules.{Rule, item_rule, the, expr, column}
use Rattle.ql_syntax.specs.Scripts.{limit}
use Rattle.ql_syntax.specs.StatementPrinting.{ink_of_column, ink_of_item}
use Rattle.ql_syntax.specs.Statements.{IsRead, column_of, item_of}
use Rattle.ql_syntax.specs.Trees.{expr_of}

-- how many more brackets may be opened within those of CREATE TABLE or CREATE INDEX
abbrev pub inner_limit : ℕ
inner_limit = 199

-- what an index orders by, by a reading of what stands in the brackets of CREATE INDEX
abbrev pub inner_item_of : Parse → Item
inner_item_of a = item_of (group a)

-- somewhere among the tokens of a source a rule reads this, with room for so many more open brackets
pub record WasRead {A : Type 0} (x : Rule) (meaning : Parse → A) (room : ℕ) (a : A) : Type 0 where
  pub source : List ℕ
  pub tokens : List Token
  pub lexed : Tokens.Reads source (Ok tokens)
  pub front : List Lexeme
  pub here : List Lexeme
  pub place : lexemes source tokens ≡ front ++ here
  pub parse : Parse
  pub rest : List Lexeme
  pub reads : Reads room x here parse rest
  pub tree : a ≡ meaning parse

-- a rule reads all tokens of a text as this, with room for so many more open brackets or for more
pub record IsReadFrom {A : Type 0} (x : Rule) (meaning : Parse → A) (room : ℕ) (text : List ℕ) (a : A) : Type 0 where
  pub tokens : List Token
  pub lexed : Tokens.Reads text (Ok tokens)
  pub parse : Parse
  pub reads : (n : ℕ) → room ≤ n → Reads n x (lexemes text tokens) parse []
  pub tree : a ≡ meaning parse

-- what an expression prints is read as that expression, with `count()` for `count(*)`
abbrev pub IsExprBack : ℕ → Expr → Type 0
IsExprBack room x = IsReadFrom (the expr) expr_of room (text_of (ink_of_expr x)) (plain_expr x)

-- the same of a column
abbrev pub IsColumnBack : ℕ → ColumnDef → Type 0
IsColumnBack room x = IsReadFrom (the column) column_of room (text_of (ink_of_column x)) (plain_column x)

-- what an index orders by prints what is read as that
abbrev pub IsItemBack : ℕ → Item → Type 0
IsItemBack room x = IsReadFrom item_rule inner_item_of room (text_of (ink_of_item x)) x

-- a column was read, and is read back by itself, and so are its rule and its default
pub record IsColumnKept (room : ℕ) (x : ColumnDef) : Type 0 where
  pub was_read : WasRead (the column) column_of room x
  pub back : IsColumnBack room x
  pub rule : IfSome x.rule (IsExprBack room)
  pub default : IfSome x.default (IsExprBack room)

-- what an index orders by was read, and is read back by itself
pub record IsItemKept (room : ℕ) (x : Item) : Type 0 where
  pub was_read : WasRead item_rule inner_item_of room x
  pub back : IsItemBack room x

-- the parts of a statement that a database stores by themselves are read back by themselves, and their names are names
abbrev pub ArePartsKept : Statement → Type 0
ArePartsKept (s.CreateTable quiet table columns) = IsName table × All (IsColumnKept inner_limit) columns
ArePartsKept (s.AddColumn table x) = IsName table × IsColumnKept limit x
ArePartsKept (s.CreateIndex unique quiet index table x) = IsName index × IsName table × IsItemKept inner_limit x
ArePartsKept _ = Unit {0}

-- an expression that was read is read back by itself
abbrev pub ExprsReadBack : Type 0
ExprsReadBack = (room : ℕ) (x : Expr) → WasRead (the expr) expr_of room x → IsExprBack room x

-- a column that was read is read back by itself, and so are its rule and its default
abbrev pub ColumnsReadBack : Type 0
ColumnsReadBack = (room : ℕ) (x : ColumnDef) → WasRead (the column) column_of room x → IsColumnKept room x

-- what an index orders by, where it was read, is read back by itself
abbrev pub ItemsReadBack : Type 0
ItemsReadBack = (room : ℕ) (x : Item) → WasRead item_rule inner_item_of room x → IsItemKept room x

-- the parts of every statement of a script that was read are read back by themselves
abbrev pub PartsReadBack : Type 0
PartsReadBack = (source : List ℕ) (tokens : List Token) (ss : List Statement) →
    Tokens.Reads source (Ok tokens) → IsRead (lexemes source tokens) ss → All ArePartsKept ss

-- a statement that is put together from parts that were read, each wherever it stood, is read back
pub record MadeReadBack : Type 0 where
  pub tables : (quiet : Bool) (table : List ℕ) (x : ColumnDef) (xs : List ColumnDef) →
      IsName table → All (WasRead (the column) column_of inner_limit) (x ∷ xs) → IsReadBack (s.CreateTable quiet table (x ∷ xs))
  pub columns : (table : List ℕ) (x : ColumnDef) →
      IsName table → WasRead (the column) column_of limit x → IsReadBack (s.AddColumn table x)
  pub indexes : (unique quiet : Bool) (index table : List ℕ) (x : Item) →
      IsName index → IsName table → WasRead item_rule inner_item_of inner_limit x → IsReadBack (s.CreateIndex unique quiet index table x)
