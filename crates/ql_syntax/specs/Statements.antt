-- The statement of a reading, and the statements of a script. A reading of another shape than its rule's has no meaning.
use Rattle.std.specs.Prelude.{◌≡◌, ℕ, Bool, true, false, List, [], ◌∷◌, Option, Some, None}
use Rattle.ql_syntax.specs.declared.statement.Assign.{Assign}
use Rattle.ql_syntax.specs.declared.statement.ColumnDef.{ColumnDef}
use Rattle.ql_syntax.specs.declared.statement.Item.{Item}
use Rattle.ql_syntax.specs.declared.statement.Item.TheVariants as item
use Rattle.ql_syntax.specs.declared.statement.RowSource.{RowSource}
use Rattle.ql_syntax.specs.declared.statement.RowSource.TheVariants as rows
use Rattle.ql_syntax.specs.declared.statement.Statement.{Statement}
use Rattle.ql_syntax.specs.declared.statement.Statement.TheVariants as s
use Rattle.ql_syntax.specs.declared.syntax.Expr.{Expr}
use Rattle.ql_value.specs.declared.value.Kind.{Kind}
use Rattle.ql_value.specs.declared.value.Kind.TheVariants as k
use Rattle.ql_syntax.specs.Lexemes.{Lexeme}
use Rattle.ql_syntax.specs.Rules.{script}
use Rattle.ql_syntax.specs.Readings.{Parse, Reads, leaf, pair, left, right, present, cell, group, node}
use Rattle.ql_syntax.specs.Scripts.{limit}
use Rattle.ql_syntax.specs.Trees.{expr_of, exprs_of, select_of, option_of, name_of, is_present, kind_named}

-- the kind that a token names
abbrev pub kind_of : Parse → Kind
kind_of (leaf t) = kind_named t.kind
kind_of _ = k.Bool

-- NOT NULL stands there
abbrev pub is_not_null : Parse → Bool
is_not_null (present (left a)) = true
is_not_null _ = false

-- the rule that stands there in its place
abbrev pub rule_in : Parse → Option Expr
rule_in (present (right a)) = Some (expr_of a)
rule_in _ = None

-- a column of a table
abbrev pub column_of : Parse → ColumnDef
column_of (node _ (pair n (pair t (pair rule default)))) =
    record { name = name_of n; kind = kind_of t; not_null = is_not_null rule; rule = rule_in rule; default = option_of default }
column_of _ = record { name = []; kind = k.Bool; not_null = false; rule = None; default = None }

-- the columns of a table
abbrev pub columns_of : Parse → List ColumnDef
columns_of (pair a more) = column_of a ∷ columns_of more
columns_of (cell a more) = column_of a ∷ columns_of more
columns_of _ = []

-- the names in the brackets of an INSERT
abbrev pub names_of : Parse → List (List ℕ)
names_of (present a) = names_of a
names_of (group a) = names_of a
names_of (pair a more) = name_of a ∷ names_of more
names_of (cell a more) = name_of a ∷ names_of more
names_of _ = []

-- one row of an INSERT
abbrev pub row_of : Parse → List Expr
row_of (group a) = exprs_of a
row_of _ = []

-- the rows of an INSERT
abbrev pub rows_of : Parse → List (List Expr)
rows_of (pair a more) = row_of a ∷ rows_of more
rows_of (cell a more) = row_of a ∷ rows_of more
rows_of _ = []

-- where an INSERT takes its rows from
abbrev pub source_of : Parse → RowSource
source_of (left (pair _ a)) = rows.Rows (rows_of a)
source_of (right a) = rows.Query (select_of a)
source_of _ = rows.Rows []

-- an assignment of an UPDATE
abbrev pub assign_of : Parse → Assign
assign_of (pair n (pair _ a)) = record { column = name_of n; value = expr_of a }
assign_of a = record { column = []; value = expr_of a }

-- the assignments of an UPDATE
abbrev pub assigns_of : Parse → List Assign
assigns_of (pair a more) = assign_of a ∷ assigns_of more
assigns_of (cell a more) = assign_of a ∷ assigns_of more
assigns_of _ = []

-- what an index orders by
abbrev pub item_of : Parse → Item
item_of (group (right n)) = item.Column (name_of n)
item_of _ = item.Id

-- what CREATE makes
abbrev pub creation_of : Parse → Statement
creation_of (node _ (pair _ (left (pair _ (pair q (pair n (group a))))))) =
    s.CreateTable (is_present q) (name_of n) (columns_of a)
creation_of (node _ (pair _ (right (pair u (pair _ (pair q (pair n (pair _ (pair t i))))))))) =
    s.CreateIndex (is_present u) (is_present q) (name_of n) (name_of t) (item_of i)
creation_of _ = s.Begin

-- what DROP takes away
abbrev pub removal_of : Parse → Statement
removal_of (node _ (pair _ (left (pair _ (pair q n))))) = s.DropTable (is_present q) (name_of n)
removal_of (node _ (pair _ (right (pair _ (pair q n))))) = s.DropIndex (is_present q) (name_of n)
removal_of _ = s.Begin

-- what ALTER changes
abbrev pub alteration_of : Parse → Statement
alteration_of (node _ (pair _ (pair _ (pair n (left (pair _ a)))))) = s.AddColumn (name_of n) (column_of a)
alteration_of (node _ (pair _ (pair _ (pair n (right (pair _ (pair _ c))))))) = s.DropColumn (name_of n) (name_of c)
alteration_of _ = s.Begin

-- an INSERT
abbrev pub insertion_of : Parse → Statement
insertion_of (node _ (pair _ (pair _ (pair n (pair cs a))))) = s.Insert (name_of n) (names_of cs) (source_of a)
insertion_of _ = s.Begin

-- an UPDATE
abbrev pub update_of : Parse → Statement
update_of (node _ (pair _ (pair n (pair _ (pair a w))))) = s.Update (name_of n) (assigns_of a) (option_of w)
update_of _ = s.Begin

-- a DELETE
abbrev pub deletion_of : Parse → Statement
deletion_of (node _ (pair _ (pair _ (pair n w)))) = s.Delete (name_of n) (option_of w)
deletion_of _ = s.Begin

-- TRUNCATE TABLE
abbrev pub truncation_of : Parse → Statement
truncation_of (pair _ (pair _ n)) = s.Truncate (name_of n)
truncation_of _ = s.Begin

-- a statement from the alteration on
abbrev pub after_removal : Parse → Statement
after_removal (left a) = alteration_of a
after_removal (right (left a)) = truncation_of a
after_removal (right (right (left a))) = insertion_of a
after_removal (right (right (right (left a)))) = update_of a
after_removal (right (right (right (right a)))) = deletion_of a
after_removal _ = s.Begin

-- a statement
abbrev pub statement_of : Parse → Statement
statement_of (node _ (left a)) = s.Begin
statement_of (node _ (right (left a))) = s.Commit
statement_of (node _ (right (right (left a)))) = s.Rollback
statement_of (node _ (right (right (right (left a))))) = s.Query (select_of a)
statement_of (node _ (right (right (right (right (left a)))))) = creation_of a
statement_of (node _ (right (right (right (right (right (left a))))))) = removal_of a
statement_of (node _ (right (right (right (right (right (right a))))))) = after_removal a
statement_of _ = s.Begin

-- a statement that may be empty, before others
abbrev pub with_statement : Parse → List Statement → List Statement
with_statement (present a) more = statement_of a ∷ more
with_statement _ more = more

-- the statements behind semicolons
abbrev pub later_of : Parse → List Statement
later_of (cell (pair _ a) more) = with_statement a (later_of more)
later_of _ = []

-- the statements of a script; empty ones do not count
abbrev pub statements_of : Parse → List Statement
statements_of (pair a (pair more _)) = with_statement a (later_of more)
statements_of _ = []

-- the tokens are a script, and these are its statements
pub record IsRead (ts : List Lexeme) (ss : List Statement) : Type 0 where
  pub parse : Parse
  pub reads : Reads limit script ts parse []
  pub tree : ss ≡ statements_of parse
