-- The plans of statements that make, change, empty and drop tables, which have no parts; or their first refusals.
use Rattle.std.specs.Prelude.{ℕ, Bool, false, not, ◌&&◌, nat_lt, if◌then◌else◌, List, length, Ok}
use Rattle.ql_value.specs.declared.refusal.TheConstants.{NO_COLUMN, EXISTS, COUNT}
use Rattle.ql_value.specs.declared.refusal.TheConstants.{RESERVED}
use Rattle.ql_syntax.specs.declared.statement.ColumnDef.{ColumnDef}
use Rattle.ql_syntax.specs.declared.statement.Statement.{Statement}
use Rattle.ql_syntax.specs.declared.statement.Statement.TheVariants as s
use Rattle.ql_syntax.specs.Answers.{Answer, refused, refused_at, then_with}
use Rattle.ql_rel.specs.declared.plan.Plan.{Plan}
use Rattle.ql_rel.specs.declared.schema.Index.{Index}
use Rattle.ql_rel.specs.declared.schema.Schema.{Schema}
use Rattle.ql_rel.specs.declared.schema.TableSchema.{TableSchema}
use Rattle.ql_rel.specs.CreatePlans.{no_parts, without_conditions, create_table_plan}
use Rattle.ql_rel.specs.InsertPlans.{without_checks}
use Rattle.ql_rel.specs.Names.{has_name, table_names, column_names, is_column_taken}
use Rattle.ql_rel.specs.NewNames.{new_name, known_table}
use Rattle.ql_rel.specs.Plans.{is_metadata}

-- a quiet statement has nothing to do: the table that it makes is there, or the one that it drops is not
abbrev pub is_idle : Schema → Statement → Bool
is_idle schema (s.CreateTable quiet name columns) = quiet && has_name name (table_names schema.tables)
is_idle schema (s.DropTable quiet name) = quiet && not (has_name name (table_names schema.tables))
is_idle schema _ = false

-- the plan of CREATE TABLE: one that has nothing to do is judged by its name alone, 9
abbrev pub create_plan : Schema → Bool → List ℕ → List ColumnDef → Answer Plan
create_plan schema quiet name columns =
    if is_idle schema (s.CreateTable quiet name columns) then then_with (new_name name) (λ _. Ok no_parts) else create_table_plan schema name columns

-- the name of something that is changed: 9 for a set that describes the database itself
abbrev pub changeable : List ℕ → Answer (Unit {0})
changeable name = if is_metadata name then refused_at RESERVED name else Ok tt

-- the plan of a statement on a whole table, which is there: 9, then 1
abbrev pub whole_plan : Schema → List ℕ → Answer Plan
whole_plan schema name = then_with (known_table name schema) (λ _. Ok no_parts)

-- the plan of DROP TABLE: one that has nothing to do is judged by its name alone, 9
abbrev pub drop_plan : Schema → Bool → List ℕ → Answer Plan
drop_plan schema quiet name =
    if is_idle schema (s.DropTable quiet name) then then_with (changeable name) (λ _. Ok no_parts) else whole_plan schema name

-- the name of a column that is added to a table: 4 where a column or an index of the table has it
abbrev pub free_added : TableSchema → List Index → List ℕ → Answer (Unit {0})
free_added table indexes name = if is_column_taken table.name name table.columns indexes then refused_at EXISTS name else Ok tt

-- a column that is added to a table: its name, 9 and then 4, and then its conditions
abbrev pub added_column : TableSchema → List Index → ColumnDef → Answer (Unit {0})
added_column table indexes c = then_with (new_name c.name) (λ _. then_with (free_added table indexes c.name) (λ _. without_conditions c))

-- the plan of ALTER TABLE ADD: the table, 9 and then 1, the column, and then what is not built yet
abbrev pub add_column_plan : Schema → List ℕ → ColumnDef → Answer Plan
add_column_plan schema name c =
    then_with (known_table name schema) (λ table.
    then_with (added_column table schema.indexes c) (λ _. then_with (without_checks schema table.columns) (λ _. Ok no_parts)))

-- a column that is there, and else 2
abbrev pub column_there : List ℕ → List ColumnDef → Answer (Unit {0})
column_there name columns = if has_name name (column_names columns) then Ok tt else refused_at NO_COLUMN name

-- a table keeps a column, so its only one is not dropped: 6
abbrev pub several_columns : List ColumnDef → Answer (Unit {0})
several_columns columns = if nat_lt 1 (length columns) then Ok tt else refused COUNT

-- a column that is dropped: 2, then 6
abbrev pub dropped_column : List ℕ → List ColumnDef → Answer (Unit {0})
dropped_column name columns = then_with (column_there name columns) (λ _. several_columns columns)

-- the plan of ALTER TABLE DROP COLUMN: the table, 9 and then 1, the column, and then what is not built yet
abbrev pub drop_column_plan : Schema → List ℕ → List ℕ → Answer Plan
drop_column_plan schema name column =
    then_with (known_table name schema) (λ table.
    then_with (dropped_column column table.columns) (λ _. then_with (without_checks schema table.columns) (λ _. Ok no_parts)))
