-- What a printed statement is read as again: the same statement, with `count()` for `count(*)`.
use Rattle.std.specs.Prelude.{◌≡◌, ℕ, false, List, [], ◌∷◌, All, map, Option, Some, None, Ok}
use Rattle.ql_lex.specs.Tokens
use Rattle.ql_lex.specs.declared.token.Token.{Token}
use Rattle.ql_syntax.specs.declared.statement.Assign.{Assign}
use Rattle.ql_syntax.specs.declared.statement.ColumnDef.{ColumnDef}
use Rattle.ql_syntax.specs.declared.statement.RowSource.{RowSource}
use Rattle.ql_syntax.specs.declared.statement.RowSource.TheVariants as rows
use Rattle.ql_syntax.specs.declared.statement.Statement.{Statement}
use Rattle.ql_syntax.specs.declared.statement.Statement.TheVariants as s
use Rattle.ql_syntax.specs.declared.syntax.Expr.{Expr}
use Rattle.ql_syntax.specs.declared.syntax.Expr.TheVariants as e
use Rattle.ql_syntax.specs.declared.syntax.Expr.TheOpen.{Expr-F, Link-F, Select-F, Field-F, SetSource-F, FromSet-F, Join-F}
use Rattle.ql_syntax.specs.declared.syntax.Expr.TheFolds.{fold-Expr, fold-Link, fold-Select, fold-Field, fold-SetSource, fold-FromSet, fold-Join}
use Rattle.ql_syntax.specs.declared.syntax.Field.{Field, roll-Field}
use Rattle.ql_syntax.specs.declared.syntax.FromSet.{FromSet, roll-FromSet}
use Rattle.ql_syntax.specs.declared.syntax.Join.{Join, roll-Join}
use Rattle.ql_syntax.specs.declared.syntax.Link.{Link, roll-Link}
use Rattle.ql_syntax.specs.declared.syntax.Select.{Select, roll-Select}
use Rattle.ql_syntax.specs.declared.syntax.SetSource.{SetSource}
use Rattle.ql_syntax.specs.declared.syntax.SetSource.TheVariants as source
use Rattle.ql_syntax.specs.Ink.{text_of}
use Rattle.ql_syntax.specs.Lexemes.{lexemes}
use Rattle.ql_syntax.specs.Printing.{ink_of_expr}
use Rattle.ql_syntax.specs.StatementPrinting.{ink_of_column, ink_of_statement}
use Rattle.ql_syntax.specs.Statements.{IsRead}

-- an expression of one layer; only a call changes
abbrev pub expr_step : Expr-F Expr SetSource Field FromSet Join Link Select → Expr
expr_step (Expr-F.Chain first rest) = e.Chain first rest
expr_step (Expr-F.Unary ops part) = e.Unary ops part
expr_step (Expr-F.Number n) = e.Number n
expr_step (Expr-F.Text bytes) = e.Text bytes
expr_step (Expr-F.Truth truth) = e.Truth truth
expr_step Expr-F.Null = e.Null
expr_step (Expr-F.Column table column) = e.Column table column
expr_step (Expr-F.Paren part) = e.Paren part
expr_step (Expr-F.Call function star parts) = e.Call function false parts
expr_step (Expr-F.Convert kind part) = e.Convert kind part
expr_step (Expr-F.IsIn negated part list) = e.IsIn negated part list
expr_step (Expr-F.IsInSelect negated part query) = e.IsInSelect negated part query
expr_step (Expr-F.IsBetween negated part low high) = e.IsBetween negated part low high
expr_step (Expr-F.IsNull negated part) = e.IsNull negated part

-- the source of a record set
abbrev pub source_step : SetSource-F Expr SetSource Field FromSet Join Link Select → SetSource
source_step (SetSource-F.Table table) = source.Table table
source_step (SetSource-F.Query query) = source.Query query

-- a field
abbrev pub field_step : Field-F Expr SetSource Field FromSet Join Link Select → Field
field_step x = roll-Field (record { expr = x.expr; alias = x.alias })

-- a record set
abbrev pub set_step : FromSet-F Expr SetSource Field FromSet Join Link Select → FromSet
set_step x = roll-FromSet (record { source = x.source; alias = x.alias })

-- a join
abbrev pub join_step : Join-F Expr SetSource Field FromSet Join Link Select → Join
join_step x = roll-Join (record { side = x.side; set = x.set; on = x.on })

-- a link of a chain
abbrev pub link_step : Link-F Expr SetSource Field FromSet Join Link Select → Link
link_step x = roll-Link (record { op = x.op; part = x.part })

-- a SELECT
abbrev pub select_step : Select-F Expr SetSource Field FromSet Join Link Select → Select
select_step x = roll-Select (record {
  distinct = x.distinct;
  fields = x.fields;
  sets = x.sets;
  join = x.join;
  filter = x.filter;
  groups = x.groups;
  keys = x.keys;
  descending = x.descending;
  limit = x.limit;
  offset = x.offset;
})

-- an expression with `count()` for `count(*)`
abbrev pub plain_expr : Expr → Expr
plain_expr = fold-Expr Expr SetSource Field FromSet Join Link Select expr_step source_step field_step set_step join_step link_step select_step

-- a link of a chain with `count()` for `count(*)`
abbrev pub plain_link : Link → Link
plain_link = fold-Link Expr SetSource Field FromSet Join Link Select expr_step source_step field_step set_step join_step link_step select_step

-- a SELECT with `count()` for `count(*)`
abbrev pub plain_select : Select → Select
plain_select = fold-Select Expr SetSource Field FromSet Join Link Select expr_step source_step field_step set_step join_step link_step select_step

-- a field with `count()` for `count(*)`
abbrev pub plain_field : Field → Field
plain_field = fold-Field Expr SetSource Field FromSet Join Link Select expr_step source_step field_step set_step join_step link_step select_step

-- the source of a record set with `count()` for `count(*)`
abbrev pub plain_source : SetSource → SetSource
plain_source = fold-SetSource Expr SetSource Field FromSet Join Link Select expr_step source_step field_step set_step join_step link_step select_step

-- a record set with `count()` for `count(*)`
abbrev pub plain_set : FromSet → FromSet
plain_set = fold-FromSet Expr SetSource Field FromSet Join Link Select expr_step source_step field_step set_step join_step link_step select_step

-- a join with `count()` for `count(*)`
abbrev pub plain_join : Join → Join
plain_join = fold-Join Expr SetSource Field FromSet Join Link Select expr_step source_step field_step set_step join_step link_step select_step

-- an expression that may be left out, with `count()` for `count(*)`
abbrev pub plain_option : Option Expr → Option Expr
plain_option None = None
plain_option (Some expr) = Some (plain_expr expr)

-- a column of a table with `count()` for `count(*)`
abbrev pub plain_column : ColumnDef → ColumnDef
plain_column x = record { name = x.name; kind = x.kind; not_null = x.not_null; rule = plain_option x.rule; default = plain_option x.default }

-- the rows of an INSERT with `count()` for `count(*)`
abbrev pub plain_rows : RowSource → RowSource
plain_rows (rows.Rows all) = rows.Rows (map (map plain_expr) all)
plain_rows (rows.Query query) = rows.Query (plain_select query)

-- an assignment of an UPDATE with `count()` for `count(*)`
abbrev pub plain_assign : Assign → Assign
plain_assign x = record { column = x.column; value = plain_expr x.value }

-- a statement with `count()` for `count(*)`
abbrev pub plain_statement : Statement → Statement
plain_statement (s.Query query) = s.Query (plain_select query)
plain_statement (s.CreateTable quiet table columns) = s.CreateTable quiet table (map plain_column columns)
plain_statement (s.AddColumn table column) = s.AddColumn table (plain_column column)
plain_statement (s.Insert table columns from) = s.Insert table columns (plain_rows from)
plain_statement (s.Update table sets filter) = s.Update table (map plain_assign sets) (plain_option filter)
plain_statement (s.Delete table filter) = s.Delete table (plain_option filter)
plain_statement s.Begin = s.Begin
plain_statement s.Commit = s.Commit
plain_statement s.Rollback = s.Rollback
plain_statement (s.DropTable quiet table) = s.DropTable quiet table
plain_statement (s.DropColumn table column) = s.DropColumn table column
plain_statement (s.CreateIndex unique quiet index table it) = s.CreateIndex unique quiet index table it
plain_statement (s.DropIndex quiet index) = s.DropIndex quiet index
plain_statement (s.Truncate table) = s.Truncate table

-- what a statement prints is read as that statement, with `count()` for `count(*)`
pub record IsReadBack (statement : Statement) : Type 0 where
  pub tokens : List Token
  pub lexed : Tokens.Reads (text_of (ink_of_statement statement)) (Ok tokens)
  pub read : IsRead (lexemes (text_of (ink_of_statement statement)) tokens) (plain_statement statement ∷ [])

-- whatever tokens are read as is read again from its printed text
pub record ReadBackLaws : Type 0 where
  pub statements : (source : List ℕ) (tokens : List Token) (ss : List Statement) → Tokens.Reads source (Ok tokens) → IsRead (lexemes source tokens) ss → All IsReadBack ss

-- what is read back prints the same text again, and is read back once more as itself
pub record PlainLaws : Type 0 where
  pub expr_text : (x : Expr) → ink_of_expr (plain_expr x) ≡ ink_of_expr x
  pub expr_again : (x : Expr) → plain_expr (plain_expr x) ≡ plain_expr x
  pub column_text : (x : ColumnDef) → ink_of_column (plain_column x) ≡ ink_of_column x
  pub column_again : (x : ColumnDef) → plain_column (plain_column x) ≡ plain_column x
  pub statement_text : (x : Statement) → ink_of_statement (plain_statement x) ≡ ink_of_statement x
  pub statement_again : (x : Statement) → plain_statement (plain_statement x) ≡ plain_statement x
