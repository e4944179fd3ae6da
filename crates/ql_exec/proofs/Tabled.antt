-- What the plans of statements on a table that is there say of it.
use Rattle.std.proofs.Common.{◌≡◌, ℕ, ◌<◌, Bool, true, false, if◌then◌else◌, List, [], ◌∷◌, length, Option, IfSome, Result, Ok, sym, subst}
use Rattle.std.specs.List.{list_all}
use Rattle.ql_value.specs.declared.value.Kind.TheVariants as k
use Rattle.ql_syntax.specs.declared.statement.Assign.{Assign}
use Rattle.ql_syntax.specs.declared.statement.ColumnDef.{ColumnDef}
use Rattle.ql_syntax.specs.declared.statement.Statement.{Statement}
use Rattle.ql_syntax.specs.declared.statement.Statement.TheVariants as s
use Rattle.ql_syntax.specs.declared.syntax.Expr.{Expr}
use Rattle.ql_syntax.specs.declared.typing.Typing.{Typing}
use Rattle.ql_syntax.specs.declared.typing.Typing.TheVariants.{OfKind}
use Rattle.ql_syntax.specs.Answers.{Answer, then_with}
use Rattle.ql_value.specs.Kinds.{is_truth}
use Rattle.ql_rel.specs.declared.db.Db.{Db}
use Rattle.ql_rel.specs.declared.plan.Plan.{Plan}
use Rattle.ql_rel.specs.declared.schema.Schema.{Schema}
use Rattle.ql_rel.specs.declared.schema.TableSchema.{TableSchema}
use Rattle.ql_rel.specs.ChangeEffects.{changes}
use Rattle.ql_rel.specs.ChangePlans.{table_scope, changes_of, changes_plan, update_plan, delete_plan}
use Rattle.ql_rel.specs.CreatePlans.{no_parts, takes_all}
use Rattle.ql_rel.specs.Databases.{columns_at}
use Rattle.ql_rel.specs.InsertPlans.{takes_rows, without_checks}
use Rattle.ql_rel.specs.NewNames.{known_table, place_named}
use Rattle.ql_rel.specs.PlanTypes.{table_row, columns_named, slot_types, ChangeTyped}
use Rattle.ql_rel.specs.Plans.{set_slots, resolve_if}
use Rattle.ql_rel.specs.StatementEffects.{drops, empties, carried}
use Rattle.ql_rel.specs.StatementPlans.{statement_plan}
use Rattle.ql_rel.specs.TablePlans.{is_idle, drop_plan, whole_plan}
use Rattle.ql_rel.proofs.ChangeFits.{known_columns, statement_typed}
use Rattle.ql_rel.proofs.Fits.{then_ok}
use Rattle.ql_exec.specs.Carries.{Changes, Does}
use Rattle.ql_exec.specs.Depths.{IsDeepEnough}
use Rattle.ql_exec.specs.Scans.{table_types}
use Rattle.ql_exec.specs.declared.fault.ExecFault.{ExecFault}
use Rattle.ql_exec.proofs.Carried.{changes_do}
use Rattle.ql_exec.proofs.LawfulRows.{TakesRows, takes_these}
use Rattle.ql_exec.proofs.Planned.{stands_at, columns_there, known_is, types_of, checked_if}

-- a table that a statement changes is there
known_there : (schema : Schema) (name : List ℕ) (t : TableSchema) → known_table name schema ≡ Ok t → place_named name schema.tables < length schema.tables
known_there schema name t e = (stands_at name schema.tables t (known_is name schema t e)).0

pub whole_there : (schema : Schema) (name : List ℕ) (p : Plan) → whole_plan schema name ≡ Ok p → place_named name schema.tables < length schema.tables
whole_there schema name p e = let t = then_ok (known_table name schema) (λ _. Ok no_parts) p e in known_there schema name t.0 t.1

drop_if : (b : Bool) (x : Answer Plan) (schema : Schema) (name : List ℕ) (p : Plan) → (if b then x else whole_plan schema name) ≡ Ok p → b ≡ false → place_named name schema.tables < length schema.tables
drop_if true x schema name p e h = absurd (cc)
drop_if false x schema name p e h = whole_there schema name p e

pub drop_there : (schema : Schema) (quiet : Bool) (name : List ℕ) (p : Plan) → drop_plan schema quiet name ≡ Ok p → is_idle schema (s.DropTable quiet name) ≡ false → place_named name schema.tables < length schema.tables
drop_there schema quiet name p e h = drop_if (is_idle schema (s.DropTable quiet name)) _ schema name p e h

-- what the plan of an UPDATE or a DELETE says: its table is there, and its parts have types at its rows
pub record Changing (schema : Schema) (name : List ℕ) (p : Plan) : Type 0 where
  pub there : place_named name schema.tables < length schema.tables
  pub typed : ChangeTyped (table_types (columns_at (place_named name schema.tables) schema)) (columns_at (place_named name schema.tables) schema) p

changing : (schema : Schema) (name : List ℕ) (t : TableSchema) (p : Plan) → known_table name schema ≡ Ok t → ChangeTyped (table_row name schema) (columns_named name schema) p → Changing schema name p
changing schema name t p e h =
    let here : ChangeTyped (slot_types (set_slots name t.columns)) t.columns p = subst (λ (cs : List ColumnDef). ChangeTyped (slot_types (set_slots name cs)) cs p) (known_columns name schema t e) h in
    let plain : ChangeTyped (table_types t.columns) t.columns p = subst (λ (ts : List Typing). ChangeTyped (OfKind k.Int64 ∷ ts) t.columns p) (types_of name t.columns) here in
    record {
      there = known_there schema name t e;
      typed = subst (λ (cs : List ColumnDef). ChangeTyped (table_types cs) cs p) (sym (columns_there name schema t (known_is name schema t e))) plain;
    }

pub update_says : (schema : Schema) (name : List ℕ) (sets : List Assign) (filter : Option Expr) (p : Plan) → update_plan schema name sets filter ≡ Ok p → Changing schema name p × TakesRows (place_named name schema.tables) schema
update_says schema name sets filter p e =
    let t = then_ok (known_table name schema) (λ table. then_with (without_checks schema table.columns) (λ _. changes_of (table_scope name table.columns) table.columns sets filter)) p e in
    let c = then_ok (without_checks schema t.0.columns) (λ _. changes_of (table_scope name t.0.columns) t.0.columns sets filter) p t.2 in
    let test = takes_these schema t.0.columns (checked_if (takes_rows schema t.0.columns) (record { number = 10; name = [] }) c.0 c.1) in
    let columns = columns_there name schema t.0 (known_is name schema t.0 t.1) in (
      changing schema name t.0 p t.1 (statement_typed schema (s.Update name sets filter) p e),
      record {
        there = known_there schema name t.0 t.1;
        takes = subst (λ (cs : List ColumnDef). list_all takes_all cs ≡ true) (sym columns) test.1;
        loose = test.0;
      },
    )

pub delete_says : (schema : Schema) (name : List ℕ) (filter : Option Expr) (p : Plan) → delete_plan schema name filter ≡ Ok p → Changing schema name p
delete_says schema name filter p e =
    let t = then_ok (known_table name schema) (λ table. then_with (resolve_if is_truth (table_scope name table.columns) filter) (λ f. Ok (changes_plan [] f))) p e in
    changing schema name t.0 p t.1 (statement_typed schema (s.Delete name filter) p e)

-- each of these asks for a level
pub drop_level : (statement : Statement) (quiet : Bool) (name : List ℕ) (levels : ℕ) → statement ≡ s.DropTable quiet name → IsDeepEnough statement levels → 0 < levels
drop_level statement quiet name levels i h = subst (λ (z : Statement). IsDeepEnough z levels) i h

pub update_level : (statement : Statement) (name : List ℕ) (sets : List Assign) (filter : Option Expr) (levels : ℕ) → statement ≡ s.Update name sets filter → IsDeepEnough statement levels → 0 < levels
update_level statement name sets filter levels i h = subst (λ (z : Statement). IsDeepEnough z levels) i h

pub delete_level : (statement : Statement) (name : List ℕ) (filter : Option Expr) (levels : ℕ) → statement ≡ s.Delete name filter → IsDeepEnough statement levels → 0 < levels
delete_level statement name filter levels i h = subst (λ (z : Statement). IsDeepEnough z levels) i h

pub truncate_level : (statement : Statement) (name : List ℕ) (levels : ℕ) → statement ≡ s.Truncate name → IsDeepEnough statement levels → 0 < levels
truncate_level statement name levels i h = subst (λ (z : Statement). IsDeepEnough z levels) i h

-- what their plans say, by the statement
pub drop_planned : (schema : Schema) (statement : Statement) (quiet : Bool) (name : List ℕ) (p : Plan) → statement ≡ s.DropTable quiet name → statement_plan schema statement ≡ Ok p
    → is_idle schema (s.DropTable quiet name) ≡ false → place_named name schema.tables < length schema.tables
drop_planned schema statement quiet name p i e h =
    drop_there schema quiet name p (subst (λ (z : Statement). statement_plan schema z ≡ Ok p) i e) h

pub update_planned : (schema : Schema) (statement : Statement) (name : List ℕ) (sets : List Assign) (filter : Option Expr) (p : Plan) → statement ≡ s.Update name sets filter → statement_plan schema statement ≡ Ok p → Changing schema name p
update_planned schema statement name sets filter p i e = (update_says schema name sets filter p (subst (λ (z : Statement). statement_plan schema z ≡ Ok p) i e)).0

pub delete_planned : (schema : Schema) (statement : Statement) (name : List ℕ) (filter : Option Expr) (p : Plan) → statement ≡ s.Delete name filter → statement_plan schema statement ≡ Ok p → Changing schema name p
delete_planned schema statement name filter p i e = delete_says schema name filter p (subst (λ (z : Statement). statement_plan schema z ≡ Ok p) i e)

pub truncate_planned : (schema : Schema) (statement : Statement) (name : List ℕ) (p : Plan) → statement ≡ s.Truncate name → statement_plan schema statement ≡ Ok p → place_named name schema.tables < length schema.tables
truncate_planned schema statement name p i e = whole_there schema name p (subst (λ (z : Statement). statement_plan schema z ≡ Ok p) i e)

-- and what each does is what the statement does
pub drop_does : {T : Type 0} (with_names : Bool) (statement : Statement) (quiet : Bool) (name : List ℕ) (p : Plan) (r : Result T ExecFault) (o now : Option Db) (out : List ℕ) → statement ≡ s.DropTable quiet name
    → IfSome o (λ d. Changes (Ok (drops quiet name d)) r now) → IfSome o (λ d. Does (carried with_names statement p d) r out out now)
drop_does with_names statement quiet name p r o now out i h =
    subst (λ (z : Statement). IfSome o (λ d. Does (carried with_names z p d) r out out now)) (sym i) (changes_do (λ d. Ok (drops quiet name d)) r o now out h)

pub update_does : {T : Type 0} (with_names : Bool) (statement : Statement) (name : List ℕ) (sets : List Assign) (filter : Option Expr) (p : Plan) (r : Result T ExecFault) (o now : Option Db) (out : List ℕ) → statement ≡ s.Update name sets filter
    → IfSome o (λ d. Changes (changes false name p d) r now) → IfSome o (λ d. Does (carried with_names statement p d) r out out now)
update_does with_names statement name sets filter p r o now out i h =
    subst (λ (z : Statement). IfSome o (λ d. Does (carried with_names z p d) r out out now)) (sym i) (changes_do (changes false name p) r o now out h)

pub delete_does : {T : Type 0} (with_names : Bool) (statement : Statement) (name : List ℕ) (filter : Option Expr) (p : Plan) (r : Result T ExecFault) (o now : Option Db) (out : List ℕ) → statement ≡ s.Delete name filter
    → IfSome o (λ d. Changes (changes true name p d) r now) → IfSome o (λ d. Does (carried with_names statement p d) r out out now)
delete_does with_names statement name filter p r o now out i h =
    subst (λ (z : Statement). IfSome o (λ d. Does (carried with_names z p d) r out out now)) (sym i) (changes_do (changes true name p) r o now out h)

pub truncate_does : {T : Type 0} (with_names : Bool) (statement : Statement) (name : List ℕ) (p : Plan) (r : Result T ExecFault) (o now : Option Db) (out : List ℕ) → statement ≡ s.Truncate name
    → IfSome o (λ d. Changes (Ok (empties name d)) r now) → IfSome o (λ d. Does (carried with_names statement p d) r out out now)
truncate_does with_names statement name p r o now out i h =
    subst (λ (z : Statement). IfSome o (λ d. Does (carried with_names z p d) r out out now)) (sym i) (changes_do (λ d. Ok (empties name d)) r o now out h)
