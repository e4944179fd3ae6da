-- The lists in statements, and what stands in brackets there.
use Rattle.std.specs.Prelude.{ℕ, List, refl}
use Rattle.ql_syntax.specs.declared.statement.Assign.{Assign}
use Rattle.ql_syntax.specs.declared.statement.ColumnDef.{ColumnDef}
use Rattle.ql_syntax.specs.declared.statement.Item.{Item}
use Rattle.ql_syntax.specs.declared.syntax.Expr.{Expr}
use Rattle.ql_cursor.specs.Parts.{ListOf, PartOf}
use Rattle.ql_cursor.specs.Parses.{no_value}
use Rattle.ql_syntax.specs.Rules.{item_rule, the, column, expr, name, list, nothing}
use Rattle.ql_parse.specs.StatementParts.{row_rule, assign_rule, one_item_of}
use Rattle.ql_syntax.specs.Statements.{column_of, columns_of, names_of, row_of, rows_of, assign_of, assigns_of}
use Rattle.ql_syntax.specs.Trees.{name_of, exprs_of}

-- the columns of a table
abbrev pub column_list : ListOf ColumnDef
column_list = record { rule = the column; tree = column_of; items = columns_of; pairs = λ a b. refl; cells = λ a b. refl; stops = refl }

-- names
abbrev pub name_list : ListOf (List ℕ)
name_list = record { rule = name; tree = name_of; items = names_of; pairs = λ a b. refl; cells = λ a b. refl; stops = refl }

-- the rows of an INSERT
abbrev pub row_list : ListOf (List Expr)
row_list = record { rule = row_rule; tree = row_of; items = rows_of; pairs = λ a b. refl; cells = λ a b. refl; stops = refl }

-- the assignments of an UPDATE
abbrev pub assign_list : ListOf Assign
assign_list = record { rule = assign_rule; tree = assign_of; items = assigns_of; pairs = λ a b. refl; cells = λ a b. refl; stops = refl }

-- the columns of a table, in their brackets
abbrev pub columns : PartOf (List ColumnDef)
columns = record { rule = list (the column); tree = columns_of }

-- what an index orders by
abbrev pub index_item : PartOf Item
index_item = record { rule = item_rule; tree = one_item_of }

-- nothing
abbrev pub empty : PartOf (Unit {0})
empty = record { rule = nothing; tree = no_value }

-- names, in their brackets
abbrev pub names : PartOf (List (List ℕ))
names = record { rule = list name; tree = names_of }

-- a row, in its brackets
abbrev pub row : PartOf (List Expr)
row = record { rule = list (the expr); tree = exprs_of }
