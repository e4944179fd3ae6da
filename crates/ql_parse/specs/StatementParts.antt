-- The parts of statements, one by one.
use Rattle.std.specs.Prelude.{ℕ, Bool, false, List, [], Option}
use Rattle.ql_lex.specs.declared.marks.Mark.TheVariants as m
use Rattle.ql_lex.specs.declared.words.Word.{Word}
use Rattle.ql_lex.specs.declared.words.Word.TheVariants as w
use Rattle.ql_syntax.specs.declared.statement.Item.{Item}
use Rattle.ql_syntax.specs.declared.statement.Item.TheVariants as item
use Rattle.ql_syntax.specs.declared.statement.Statement.{Statement}
use Rattle.ql_syntax.specs.declared.statement.Statement.TheVariants as s
use Rattle.ql_syntax.specs.declared.syntax.Expr.{Expr}
use Rattle.ql_syntax.specs.Lexemes.{is_id, is_open}
use Rattle.ql_syntax.specs.Rules.{item_rule, Rule, ◌then◌, ◌or◌, the, column, expr, select, maybe, bracketed, list, name, word, mark, if_exists, if_not_exists}
use Rattle.ql_syntax.specs.Readings.{Parse, pair, left, right, group}
use Rattle.ql_syntax.specs.Statements.{is_not_null, rule_in, columns_of, item_of, column_of}
use Rattle.ql_syntax.specs.Trees.{name_of, is_present}

-- `[NOT NULL | Expr]`
abbrev pub constraint_rule : Rule
constraint_rule = maybe (word w.Not then word w.Null or the expr)

-- whether NOT NULL stands there, and the rule in its place
abbrev pub constraint_of : Parse → Bool × Option Expr
constraint_of a = (is_not_null a, rule_in a)

-- `TABLE [IF NOT EXISTS] name "(" list(Column) ")"`
abbrev pub table_rule : Rule
table_rule = word w.Table then maybe if_not_exists then name then bracketed (list (the column))

abbrev pub table_of : Parse → Statement
table_of (pair _ (pair q (pair n (group a)))) = s.CreateTable (is_present q) (name_of n) (columns_of a)
table_of _ = s.Begin

abbrev pub one_item_of : Parse → Item
one_item_of (right n) = item.Column (name_of n)
one_item_of _ = item.Id

-- `ON name "(" (id "(" ")" | name) ")"`
abbrev pub target_rule : Rule
target_rule = word w.On then name then bracketed item_rule

-- the table of an index, and what it orders by
abbrev pub target_of : Parse → List ℕ × Item
target_of (pair _ (pair t i)) = (name_of t, item_of i)
target_of _ = ([], item.Id)

-- `[UNIQUE] INDEX [IF NOT EXISTS] name ON ..`
abbrev pub index_rule : Rule
index_rule = maybe (word w.Unique) then word w.Index then maybe if_not_exists then name then target_rule

abbrev pub index_of : Parse → Statement
index_of (pair u (pair _ (pair q (pair n t)))) = s.CreateIndex (is_present u) (is_present q) (name_of n) (target_of t).0 (target_of t).1
index_of _ = s.Begin

-- what stands behind CREATE
abbrev pub table_or_index_rule : Rule
table_or_index_rule = table_rule or index_rule

abbrev pub table_or_index_of : Parse → Statement
table_or_index_of (left a) = table_of a
table_or_index_of (right a) = index_of a
table_or_index_of _ = s.Begin

-- a keyword, `[IF EXISTS]` and a name
abbrev pub quiet_rule : Word → Rule
quiet_rule a = word a then maybe if_exists then name

-- whether IF EXISTS stands there, and the name
abbrev pub quiet_of : Parse → Bool × List ℕ
quiet_of (pair _ (pair q n)) = (is_present q, name_of n)
quiet_of _ = (false, [])

-- `ADD Column | DROP COLUMN name`
abbrev pub change_rule : Rule
change_rule = word w.Add then the column or word w.Drop then word w.Column then name

-- the change of a table
abbrev pub change_of : List ℕ → Parse → Statement
change_of table (left (pair _ a)) = s.AddColumn table (column_of a)
change_of table (right (pair _ (pair _ c))) = s.DropColumn table (name_of c)
change_of table _ = s.Begin

-- one row of an INSERT
abbrev pub row_rule : Rule
row_rule = bracketed (list (the expr))

-- `VALUES list(row) | Select`
abbrev pub source_rule : Rule
source_rule = word w.Values then list row_rule or the select

-- an assignment of an UPDATE
abbrev pub assign_rule : Rule
assign_rule = name then mark m.Equal then the expr

-- `BEGIN TRANSACTION`
abbrev pub begin_rule : Rule
begin_rule = word w.Begin then word w.Transaction

abbrev pub begin_of : Parse → Statement
begin_of a = s.Begin

-- `TRUNCATE TABLE name`
abbrev pub truncation_rule : Rule
truncation_rule = word w.Truncate then word w.Table then name
