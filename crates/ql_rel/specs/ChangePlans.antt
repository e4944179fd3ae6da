-- The plans of UPDATE and DELETE, which see their table as the one record set; or their first refusals. Rules and defaults are no parts of them yet.
use Rattle.std.specs.Prelude.{ℕ, false, List, [], ◌∷◌, ◌++◌, map, Option, Ok}
use Rattle.ql_value.specs.Kinds.{is_truth}
use Rattle.ql_syntax.specs.declared.statement.Assign.{Assign}
use Rattle.ql_syntax.specs.declared.statement.ColumnDef.{ColumnDef}
use Rattle.ql_syntax.specs.declared.syntax.Expr.{Expr}
use Rattle.ql_syntax.specs.declared.scope.Scope.{Scope}
use Rattle.ql_syntax.specs.declared.typed.Typed.{Typed}
use Rattle.ql_syntax.specs.Answers.{Answer, then_with}
use Rattle.ql_syntax.specs.Resolving.{check_expr}
use Rattle.ql_rel.specs.declared.change.Assigned.{Assigned}
use Rattle.ql_rel.specs.declared.change.Target.{Target}
use Rattle.ql_rel.specs.declared.plan.Plan.{Plan}
use Rattle.ql_rel.specs.declared.schema.Schema.{Schema}
use Rattle.ql_rel.specs.CreatePlans.{no_parts}
use Rattle.ql_rel.specs.InsertPlans.{without_checks}
use Rattle.ql_rel.specs.NewNames.{known_table}
use Rattle.ql_rel.specs.Plans.{row_scope, set_slots, resolve_if}
use Rattle.ql_rel.specs.Targets.{for_kind, new_target}

-- what UPDATE and DELETE see: the id and the columns of their table
abbrev pub table_scope : List ℕ → List ColumnDef → Scope
table_scope name columns = row_scope (set_slots name columns)

-- a value that a row sees, without aggregate, for a column: 7 before 5
abbrev pub value_for : Scope → Target → Expr → Answer Assigned
value_for scope target e =
    then_with (check_expr scope false e) (λ c. then_with (for_kind target.kind c) (λ tree. Ok (record { at = target.at; value = tree })))

-- an assignment behind those of other columns: its column, and then its value
abbrev pub assigned : Scope → List ColumnDef → List (List ℕ) → Assign → Answer Assigned
assigned scope columns before a = then_with (new_target columns before a.column) (λ target. value_for scope target a.value)

-- assignments behind those of columns with these names, from left to right
abbrev pub all_assigned : Scope → List ColumnDef → List (List ℕ) → List Assign → Answer (List Assigned)
all_assigned scope columns before [] = Ok []
all_assigned scope columns before (a ∷ sets) =
    then_with (assigned scope columns before a) (λ x. then_with (all_assigned scope columns (before ++ a.column ∷ []) sets) (λ xs. Ok (x ∷ xs)))

-- the parts of the plan of an UPDATE together
abbrev pub changes_plan : List Assigned → Option Typed → Plan
changes_plan changes filter =
    record no_parts { fields = map (λ (x : Assigned). x.value) changes; targets = map (λ (x : Assigned). x.at) changes; filter = filter }

-- the plan of an UPDATE of a table that is there: the assignments, then WHERE
abbrev pub changes_of : Scope → List ColumnDef → List Assign → Option Expr → Answer Plan
changes_of scope columns sets filter =
    then_with (all_assigned scope columns [] sets) (λ changes. then_with (resolve_if is_truth scope filter) (λ f. Ok (changes_plan changes f)))

-- the plan of UPDATE: the table, 9 and then 1, what is not built yet, and then its parts
abbrev pub update_plan : Schema → List ℕ → List Assign → Option Expr → Answer Plan
update_plan schema name sets filter =
    then_with (known_table name schema) (λ table.
    then_with (without_checks schema table.columns) (λ _. changes_of (table_scope name table.columns) table.columns sets filter))

-- the plan of DELETE: the table, 9 and then 1, and then WHERE
abbrev pub delete_plan : Schema → List ℕ → Option Expr → Answer Plan
delete_plan schema name filter =
    then_with (known_table name schema) (λ table. then_with (resolve_if is_truth (table_scope name table.columns) filter) (λ f. Ok (changes_plan [] f)))
