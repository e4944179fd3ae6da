-- The plan of INSERT, or its first refusal.
use Rattle.std.specs.Prelude.{ℕ, Bool, false, ◌&&◌, not, if◌then◌else◌, List, [], map, Ok}
use Rattle.std.specs.List.{list_any, list_all}
use Rattle.ql_value.specs.declared.refusal.TheConstants.{LATER}
use Rattle.ql_syntax.specs.declared.checked.Checked.{Checked}
use Rattle.ql_syntax.specs.declared.statement.ColumnDef.{ColumnDef}
use Rattle.ql_syntax.specs.declared.statement.RowSource.{RowSource}
use Rattle.ql_syntax.specs.declared.statement.RowSource.TheVariants as source
use Rattle.ql_syntax.specs.declared.syntax.Expr.{Expr}
use Rattle.ql_syntax.specs.declared.syntax.Select.{Select}
use Rattle.ql_syntax.specs.declared.typed.Typed.{Typed}
use Rattle.ql_syntax.specs.Answers.{Answer, refused, then_with, all_of}
use Rattle.ql_syntax.specs.Resolving.{check_expr}
use Rattle.ql_rel.specs.declared.change.Target.{Target}
use Rattle.ql_rel.specs.declared.plan.Plan.{Plan}
use Rattle.ql_rel.specs.declared.schema.Index.{Index}
use Rattle.ql_rel.specs.declared.schema.Schema.{Schema}
use Rattle.ql_rel.specs.declared.select.ResultField.{ResultField}
use Rattle.ql_rel.specs.declared.select.Selected.{Selected}
use Rattle.ql_rel.specs.CreatePlans.{no_parts, takes_all}
use Rattle.ql_rel.specs.NewNames.{known_table}
use Rattle.ql_rel.specs.Plans.{row_scope, selected, whole_plan_of}
use Rattle.ql_rel.specs.Targets.{targets_of, numbers_of, kinds_of, counted_for}

-- a row of VALUES, whose expressions see nothing: first they themselves, then their number, then each against its column
abbrev pub value_row : List Target → List Expr → Answer (List Typed)
value_row targets exprs = then_with (all_of (map (check_expr (row_scope []) false) exprs)) (counted_for targets)

-- the plan of an INSERT of rows
abbrev pub rows_plan : List Target → List (List Typed) → Plan
rows_plan targets rows = record no_parts { rows = rows; targets = numbers_of targets }

-- the fields of a SELECT
abbrev pub checked_fields : Selected → List Checked
checked_fields x = map (λ (f : ResultField). f.expr) x.output.fields

-- the parts of a SELECT as the plan of an INSERT: as many fields as columns, else 6, and each against its column
abbrev pub inserted_plan : List Target → Selected → Answer Plan
inserted_plan targets x = then_with (counted_for targets (checked_fields x)) (λ trees. Ok (record (whole_plan_of x) { fields = trees; targets = numbers_of targets }))

-- the plan of an INSERT of the rows of a SELECT: first the SELECT whole, whose untyped fields take the columns' kinds also in its ORDER BY
abbrev pub inserted_select : Schema → List Target → Select → Answer Plan
inserted_select schema targets select = then_with (selected schema (kinds_of targets) select) (inserted_plan targets)

-- the plan of an INSERT into columns
abbrev pub source_plan : Schema → List Target → RowSource → Answer Plan
source_plan schema targets (source.Rows rows) = then_with (all_of (map (value_row targets) rows)) (λ trees. Ok (rows_plan targets trees))
source_plan schema targets (source.Query select) = inserted_select schema targets select

-- no two rows have to differ, and the columns take every value of their kinds
abbrev pub takes_rows : Schema → List ColumnDef → Bool
takes_rows schema columns = not (list_any (λ (i : Index). i.unique) schema.indexes) && list_all takes_all columns

-- conditions on rows are not built yet
abbrev pub without_checks : Schema → List ColumnDef → Answer (Unit {0})
without_checks schema columns = if takes_rows schema columns then Ok tt else refused LATER

-- the plan of INSERT: the table, 9 and then 1, the columns that are named, 2 and then 3 at each, and then the rows
abbrev pub insert_plan : Schema → List ℕ → List (List ℕ) → RowSource → Answer Plan
insert_plan schema name names rows_of =
    then_with (known_table name schema) (λ table.
    then_with (targets_of table.columns names) (λ targets.
    then_with (without_checks schema table.columns) (λ _. source_plan schema targets rows_of)))
