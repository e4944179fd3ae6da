-- The plan of an INSERT whose table is known.
use Rattle.std.specs.Prelude.{ℕ, List, map, Ok}
use Rattle.ql_syntax.specs.declared.checked.Checked.{Checked}
use Rattle.ql_syntax.specs.declared.statement.ColumnDef.{ColumnDef}
use Rattle.ql_syntax.specs.declared.statement.RowSource.{RowSource}
use Rattle.ql_syntax.specs.declared.syntax.Expr.{Expr}
use Rattle.ql_rel.specs.declared.change.Target.{Target}
use Rattle.ql_rel.specs.declared.plan.Plan.{Plan}
use Rattle.ql_rel.specs.declared.schema.Schema.{Schema}
use Rattle.ql_syntax.specs.Answers.{Answer, then_with, all_of}
use Rattle.ql_rel.specs.InsertPlans as spec
use Rattle.ql_rel.specs.Targets.{targets_of, numbers_of, counted_for}

-- the plan of an INSERT of rows
abbrev pub rows_plan : List Target → List (List Expr) → Answer Plan
rows_plan targets exprs = then_with (all_of (map (spec.value_row targets) exprs)) (λ rows. Ok (spec.rows_plan targets rows))

-- the values of an INSERT added to the other parts of its plan
abbrev pub with_values : List Target → List Checked → Plan → Answer Plan
with_values targets parts rest = then_with (counted_for targets parts) (λ trees. Ok (record rest { fields = trees; targets = numbers_of targets }))

-- the plan of an INSERT into a table with these columns
abbrev pub table_plan : Schema → List ColumnDef → List (List ℕ) → RowSource → Answer Plan
table_plan schema columns names rows_of =
    then_with (targets_of columns names) (λ targets. then_with (spec.without_checks schema columns) (λ _. spec.source_plan schema targets rows_of))
