-- The plan of every statement keeps what is promised of its types.
use Rattle.std.proofs.Common.{◌≡◌, ℕ, Bool, true, false, if◌then◌else◌, List, [], ◌∷◌, ◌++◌, map, Option, Some, None, Ok, Err, sym, ap, subst}
use Rattle.std.specs.Prelude.{slice_get}
use Rattle.ql_value.specs.Kinds.{is_truth}
use Rattle.ql_value.specs.declared.refusal.Refusal.{Refusal}
use Rattle.ql_syntax.specs.declared.scope.Scope.{Scope}
use Rattle.ql_syntax.specs.declared.statement.Assign.{Assign}
use Rattle.ql_syntax.specs.declared.statement.ColumnDef.{ColumnDef}
use Rattle.ql_syntax.specs.declared.statement.RowSource.{RowSource}
use Rattle.ql_syntax.specs.declared.statement.RowSource.TheVariants as source
use Rattle.ql_syntax.specs.declared.statement.Statement.{Statement}
use Rattle.ql_syntax.specs.declared.statement.Statement.TheVariants as s
use Rattle.ql_syntax.specs.declared.syntax.Expr.{Expr}
use Rattle.ql_syntax.specs.declared.syntax.Select.{out-Select}
use Rattle.ql_syntax.specs.declared.typed.Typed.{Typed}
use Rattle.ql_syntax.specs.declared.typing.Typing.{Typing}
use Rattle.ql_syntax.specs.Answers.{Answer, then_with, all_of}
use Rattle.ql_syntax.specs.Resolving.{check_expr}
use Rattle.ql_syntax.specs.Typing.{type_of}
use Rattle.ql_rel.specs.declared.change.Assigned.{Assigned}
use Rattle.ql_rel.specs.declared.change.Target.{Target}
use Rattle.ql_rel.specs.declared.plan.Plan.{Plan}
use Rattle.ql_rel.specs.declared.schema.Schema.{Schema}
use Rattle.ql_rel.specs.declared.schema.TableSchema.{TableSchema}
use Rattle.ql_rel.specs.ChangePlans.{table_scope, value_for, assigned, all_assigned, changes_plan, changes_of, update_plan, delete_plan}
use Rattle.ql_rel.specs.Databases.{columns_if}
use Rattle.ql_rel.specs.InsertPlans.{value_row, rows_plan, without_checks, source_plan, insert_plan}
use Rattle.ql_rel.specs.NewNames.{table_there, known_table}
use Rattle.ql_rel.specs.Plans.{is_metadata, table_named, add_sets, set_slots, resolve_if}
use Rattle.ql_rel.specs.PlanTypes.{slot_types, types_if, columns_named, IsFilter, IsValueFor, AreValuesFor, ChangeTyped, ValuesTyped, RowsSelected, PlanTyped}
use Rattle.ql_rel.specs.StatementPlans.{statement_plan}
use Rattle.ql_rel.specs.Targets.{new_target, targets_of, for_kind}
use Rattle.ql_rel.proofs.Fits.{then_ok, same_ok}
use Rattle.ql_rel.proofs.InsertFits.{kind_typed, value_found, rows_typed}
use Rattle.ql_rel.proofs.InsertSelects.{select_inserted}
use Rattle.ql_rel.proofs.Judged.{is_so}
use Rattle.ql_rel.proofs.Places.{Stands}
use Rattle.ql_rel.proofs.PlanFits.{tested_if_type}
use Rattle.ql_rel.proofs.SelectFits.{set_typed, row_stands, select_typed}
use Rattle.ql_rel.proofs.TargetFits.{Found, AreFound, new_found, targets_found}

-- the table that is known is the one with the name
there_is : (name : List ℕ) (o : Option TableSchema) (t : TableSchema) → table_there name o ≡ Ok t → o ≡ Some t
there_is name None t e = absurd (cc)
there_is name (Some u) t e = ap Some (same_ok u t e)

known_if : (b : Bool) (r : Refusal) (name : List ℕ) (o : Option TableSchema) (t : TableSchema) → ◌≡◌ {A = Answer TableSchema} (if b then Err r else table_there name o) (Ok t) → o ≡ Some t
known_if true r name o t e = absurd (cc)
known_if false r name o t e = there_is name o t e

pub known_columns : (name : List ℕ) (schema : Schema) (t : TableSchema) → known_table name schema ≡ Ok t → columns_named name schema ≡ t.columns
known_columns name schema t e = ap columns_if (known_if (is_metadata name) (record { number = 9; name = name }) name (table_named name schema.tables) t e)

module _ (name : List ℕ) (columns : List ColumnDef) where
  abbrev row : List Typing
  row = slot_types (set_slots name columns)

  abbrev scope : Scope
  scope = table_scope name columns

  stands : Stands row scope
  stands = row_stands (set_slots name columns) (set_typed name columns)

  -- a value is of its column's kind
  value_is : (t : Target) (e : Expr) (x : Assigned) → Found 0 columns t → value_for scope t e ≡ Ok x → IsValueFor (type_of row) (slice_get columns x.at) x.value
  value_is t e x f a =
      let c = then_ok (check_expr scope false e) (λ y. then_with (for_kind t.kind y) (λ tree. Ok (record { at = t.at; value = tree }))) x a in
      let k = then_ok (for_kind t.kind c.0) (λ tree. Ok (record { at = t.at; value = tree })) x c.2 in
      let typed = kind_typed row t.kind c.0 k.0 (is_so row scope stands e false c.0 c.1) k.1 in
      subst (λ (y : Assigned). IsValueFor (type_of row) (slice_get columns y.at) y.value) (same_ok (record { at = t.at; value = k.0 }) x k.2)
      (value_found (type_of row) columns t k.0 f typed)

  assigned_is : (before : List (List ℕ)) (a : Assign) (x : Assigned) → assigned scope columns before a ≡ Ok x → IsValueFor (type_of row) (slice_get columns x.at) x.value
  assigned_is before a x e =
      let t = then_ok (new_target columns before a.column) (λ target. value_for scope target a.value) x e in
      value_is t.0 a.value x (new_found columns before a.column t.0 t.1) t.2

  abbrev AreAssigned : List Assigned → Type 0
  AreAssigned xs = AreValuesFor (type_of row) columns (map (λ (x : Assigned). x.at) xs) (map (λ (x : Assigned). x.value) xs)

  all_are : (before : List (List ℕ)) (sets : List Assign) (xs : List Assigned) → all_assigned scope columns before sets ≡ Ok xs → AreAssigned xs
  all_are before [] xs e = subst AreAssigned (same_ok [] xs e) tt
  all_are before (a ∷ sets) xs e =
      let x = then_ok (assigned scope columns before a) (λ y. then_with (all_assigned scope columns (before ++ a.column ∷ []) sets) (λ ys. Ok (y ∷ ys))) xs e in
      let more = then_ok (all_assigned scope columns (before ++ a.column ∷ []) sets) (λ ys. Ok (x.0 ∷ ys)) xs x.2 in
      subst AreAssigned (same_ok (x.0 ∷ more.0) xs more.2) (assigned_is before a x.0 x.1, all_are (before ++ a.column ∷ []) sets more.0 more.1)

  filter_is : (filter : Option Expr) (f : Option Typed) → resolve_if is_truth scope filter ≡ Ok f → IsFilter row f
  filter_is filter f e = tested_if_type row scope stands is_truth filter f e

  changes_typed : (sets : List Assign) (filter : Option Expr) (p : Plan) → changes_of scope columns sets filter ≡ Ok p → ChangeTyped row columns p
  changes_typed sets filter p e =
      let xs = then_ok (all_assigned scope columns [] sets) (λ changes. then_with (resolve_if is_truth scope filter) (λ f. Ok (changes_plan changes f))) p e in
      let f = then_ok (resolve_if is_truth scope filter) (λ g. Ok (changes_plan xs.0 g)) p xs.2 in
      subst (ChangeTyped row columns) (same_ok (changes_plan xs.0 f.0) p f.2) (record { filter = filter_is filter f.0 f.1; values = all_are [] sets xs.0 xs.1 })

  removals_typed : (filter : Option Expr) (p : Plan) → then_with (resolve_if is_truth scope filter) (λ f. Ok (changes_plan [] f)) ≡ Ok p → ChangeTyped row columns p
  removals_typed filter p e =
      let f = then_ok (resolve_if is_truth scope filter) (λ g. Ok (changes_plan [] g)) p e in
      subst (ChangeTyped row columns) (same_ok (changes_plan [] f.0) p f.2) (record { filter = filter_is filter f.0 f.1; values = tt })

-- what holds over the columns of the known table holds over those of the table with the name
abbrev IsOver : List ℕ → Plan → List ColumnDef → Type 0
IsOver name p columns = ChangeTyped (slot_types (set_slots name columns)) columns p

update_typed : (schema : Schema) (name : List ℕ) (sets : List Assign) (filter : Option Expr) (p : Plan) → update_plan schema name sets filter ≡ Ok p → IsOver name p (columns_named name schema)
update_typed schema name sets filter p e =
    let t = then_ok (known_table name schema) (λ table. then_with (without_checks schema table.columns) (λ _. changes_of (table_scope name table.columns) table.columns sets filter)) p e in
    let c = then_ok (without_checks schema t.0.columns) (λ _. changes_of (table_scope name t.0.columns) t.0.columns sets filter) p t.2 in
    subst (IsOver name p) (sym (known_columns name schema t.0 t.1)) (changes_typed name t.0.columns sets filter p c.2)

delete_typed : (schema : Schema) (name : List ℕ) (filter : Option Expr) (p : Plan) → delete_plan schema name filter ≡ Ok p → IsOver name p (columns_named name schema)
delete_typed schema name filter p e =
    let t = then_ok (known_table name schema) (λ table. then_with (resolve_if is_truth (table_scope name table.columns) filter) (λ f. Ok (changes_plan [] f))) p e in
    subst (IsOver name p) (sym (known_columns name schema t.0 t.1)) (removals_typed name t.0.columns filter p t.2)

-- what the plan of an INSERT promises over columns that are there
source_typed : (schema : Schema) (name : List ℕ) (names : List (List ℕ)) (columns : List ColumnDef) (targets : List Target) (rows_of : RowSource) (p : Plan) → columns_named name schema ≡ columns → AreFound 0 columns targets
    → source_plan schema targets rows_of ≡ Ok p → PlanTyped schema (s.Insert name names rows_of) p
source_typed schema name names columns targets (source.Rows exprs) p is found e =
    let rows = then_ok (all_of (map (value_row targets) exprs)) (λ trees. Ok (rows_plan targets trees)) p e in
    let here : ValuesTyped columns p = subst (ValuesTyped columns) (same_ok (rows_plan targets rows.0) p rows.2) (rows_typed columns targets exprs rows.0 found rows.1) in
    subst (λ (cs : List ColumnDef). ValuesTyped cs p) (sym is) here
source_typed schema name names columns targets (source.Query select) p is found e =
    subst (λ (cs : List ColumnDef). RowsSelected (types_if (add_sets schema [] (out-Select select).sets)) cs p) (sym is) (select_inserted schema columns targets select p found e)

insert_typed : (schema : Schema) (name : List ℕ) (names : List (List ℕ)) (rows_of : RowSource) (p : Plan) → insert_plan schema name names rows_of ≡ Ok p → PlanTyped schema (s.Insert name names rows_of) p
insert_typed schema name names rows_of p e =
    let a = then_ok (known_table name schema) (λ table. then_with (targets_of table.columns names) (λ targets. then_with (without_checks schema table.columns) (λ _. source_plan schema targets rows_of))) p e in
    let b = then_ok (targets_of a.0.columns names) (λ targets. then_with (without_checks schema a.0.columns) (λ _. source_plan schema targets rows_of)) p a.2 in
    let c = then_ok (without_checks schema a.0.columns) (λ _. source_plan schema b.0 rows_of) p b.2 in
    source_typed schema name names a.0.columns b.0 rows_of p (known_columns name schema a.0 a.1) (targets_found a.0.columns names b.0 b.1) c.2

pub statement_typed : (schema : Schema) (statement : Statement) (p : Plan) → statement_plan schema statement ≡ Ok p → PlanTyped schema statement p
statement_typed schema (s.Query select) p e = select_typed schema select p e
statement_typed schema (s.Insert name names rows_of) p e = insert_typed schema name names rows_of p e
statement_typed schema (s.Update name sets filter) p e = update_typed schema name sets filter p e
statement_typed schema (s.Delete name filter) p e = delete_typed schema name filter p e
statement_typed schema _ p e = tt
