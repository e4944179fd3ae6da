-- The plan of CREATE TABLE, or its first refusal.
use Rattle.std.specs.Prelude.{ℕ, Bool, false, not, ◌&&◌, is_none, if◌then◌else◌, List, [], ◌∷◌, ◌++◌, None, Ok}
use Rattle.ql_value.specs.declared.refusal.TheConstants.{COUNT, LATER}
use Rattle.ql_syntax.specs.declared.statement.ColumnDef.{ColumnDef}
use Rattle.ql_rel.specs.declared.plan.Plan.{Plan}
use Rattle.ql_rel.specs.declared.schema.Schema.{Schema}
use Rattle.ql_syntax.specs.Answers.{Answer, refused, then_with}
use Rattle.ql_rel.specs.NewNames.{new_name, free_table, free_column}

-- a plan without parts
abbrev pub no_parts : Plan
no_parts = record {
  fields = [];
  names = [];
  filter = None;
  join_on = None;
  groups = [];
  grouped = false;
  keys = [];
  limit = None;
  offset = None;
  rows = [];
  targets = [];
  rules = [];
  defaults = [];
}

-- the column takes every value of its kind, and NULL: it has neither NOT NULL nor a rule nor a default
abbrev pub takes_all : ColumnDef → Bool
takes_all c = not c.not_null && (is_none c.rule && is_none c.default)

-- NOT NULL, rules and defaults are not built yet
abbrev pub without_conditions : ColumnDef → Answer (Unit {0})
without_conditions c = if takes_all c then Ok tt else refused LATER

-- a new column behind columns with these names: its name, 9 and then 4, and then its conditions
abbrev pub new_column : List (List ℕ) → ColumnDef → Answer (Unit {0})
new_column before c = then_with (new_name c.name) (λ _. then_with (free_column c.name before) (λ _. without_conditions c))

-- new columns behind columns with these names, from left to right
abbrev pub new_columns : List (List ℕ) → List ColumnDef → Answer (Unit {0})
new_columns before [] = Ok tt
new_columns before (c ∷ columns) = then_with (new_column before c) (λ _. new_columns (before ++ c.name ∷ []) columns)

-- the columns of a new table, of which there is one at least, else 6
abbrev pub some_columns : List ColumnDef → Answer (Unit {0})
some_columns [] = refused COUNT
some_columns (c ∷ columns) = new_columns [] (c ∷ columns)

-- the plan of CREATE TABLE, which has no parts: the table's name, 9 and then 4, and then its columns
abbrev pub create_table_plan : Schema → List ℕ → List ColumnDef → Answer Plan
create_table_plan schema name columns =
    then_with (new_name name) (λ _. then_with (free_table name schema) (λ _. then_with (some_columns columns) (λ _. Ok no_parts)))
