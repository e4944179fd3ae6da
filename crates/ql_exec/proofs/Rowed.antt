-- The rows of an INSERT on a relation: which table they go into, and what they do.
use Rattle.std.proofs.Common.{◌≡◌, ℕ, List, Option, Some, None, IfSome, Result, Ok, Err, sym, ap, subst, ◌∙◌}
use Rattle.std.specs.Prelude.{IsErrAnd}
use Rattle.std.specs.List.{AllByRecursion}
use Rattle.ql_value.specs.declared.value.Value.{Value}
use Rattle.ql_syntax.specs.declared.statement.ColumnDef.{ColumnDef}
use Rattle.ql_syntax.specs.declared.syntax.Select.{Select}
use Rattle.ql_syntax.specs.declared.typed.Typed.{Typed}
use Rattle.ql_syntax.specs.declared.typing.Typing.{Typing}
use Rattle.ql_rel.specs.declared.db.Db.{Db}
use Rattle.ql_rel.specs.declared.plan.Plan.{Plan}
use Rattle.ql_rel.specs.declared.schema.Schema.{Schema}
use Rattle.ql_syntax.specs.Answers.{Answer, then_with}
use Rattle.ql_rel.specs.Databases.{schema_of, columns_at}
use Rattle.ql_rel.specs.InsertEffects.{rows_from, new_rows, rows_added, inserts, inserts_shown}
use Rattle.ql_rel.specs.NewNames.{place_named}
use Rattle.ql_rel.specs.PlanTypes.{ValuesTyped, RowsSelected}
use Rattle.ql_rel.specs.SelectRows.{shown_rows}
use Rattle.ql_rel.specs.WellFormed.{Fits}
use Rattle.ql_exec.specs.Answers.{Answers}
use Rattle.ql_exec.specs.Carries.{Changes, Shows}
use Rattle.ql_exec.specs.declared.fault.ExecFault.{ExecFault}
use Rattle.ql_exec.specs.declared.fault.ExecFault.TheVariants as fault
use Rattle.ql_exec.specs.Selections.{AreFor, AreResults}
use Rattle.ql_exec.proofs.NewRows.{rows_fit}
use Rattle.ql_exec.proofs.Placed.{placed_fit, results_for}

-- the columns of the table that was found are those at its place
pub for_columns : (table place : ℕ) (schema : Schema) (columns : List ColumnDef) (p : Plan) → columns ≡ columns_at table schema → table ≡ place → ValuesTyped (columns_at place schema) p → ValuesTyped columns p
for_columns table place schema columns p c e typed = subst (λ (cs : List ColumnDef). ValuesTyped cs p) (sym (c ∙ ap (λ (n : ℕ). columns_at n schema) e)) typed

pub fit_at : (table place : ℕ) (schema : Schema) (columns : List ColumnDef) (p : Plan) (values : List (List Value)) → columns ≡ columns_at table schema → table ≡ place → ValuesTyped (columns_at place schema) p → new_rows p.targets columns p.rows ≡ Ok values
    → AllByRecursion (Fits (columns_at table schema)) values
fit_at table place schema columns p values c e typed v =
    subst (λ (cs : List ColumnDef). AllByRecursion (Fits cs) values) c (rows_fit columns p.targets p.rows values (for_columns table place schema columns p c e typed) v)

-- the rows did what the INSERT does
pub insert_done : {T : Type 0} (name : List ℕ) (targets : List ℕ) (rows : List (List Typed)) (values : List (List Value)) (table : ℕ) (schema : Schema) (columns : List ColumnDef) (result : Result T ExecFault) (o now : Option Db)
    → table ≡ place_named name schema.tables → columns ≡ columns_at table schema → new_rows targets columns rows ≡ Ok values → IfSome o (λ d. schema ≡ schema_of d)
    → IfSome o (λ d. Changes (rows_added table values d) result now) → IfSome o (λ d. Changes (inserts name targets rows d) result now)
insert_done name targets rows values table schema columns result None now e c v s h = tt
insert_done name targets rows values table schema columns result (Some d) now e c v s h =
    let there : table ≡ place_named name (schema_of d).tables = subst (λ (z : Schema). table ≡ place_named name z.tables) s e in
    let same : columns ≡ columns_at (place_named name (schema_of d).tables) (schema_of d) = subst (λ (z : Schema). columns ≡ columns_at table z) s c ∙ ap (λ (n : ℕ). columns_at n (schema_of d)) there in
    let made : new_rows targets (columns_at (place_named name (schema_of d).tables) (schema_of d)) rows ≡ Ok values = subst (λ (cs : List ColumnDef). new_rows targets cs rows ≡ Ok values) same v in
    let moved : Changes (rows_added (place_named name (schema_of d).tables) values d) result now = subst (λ (p : ℕ). Changes (rows_added p values d) result now) there h in
    subst (λ (a : Answer (List (List Value))). Changes (then_with a (λ vs. rows_added (place_named name (schema_of d).tables) vs d)) result now) (sym made) moved

stops : (T : Type 0) (name : List ℕ) (targets : List ℕ) (rows : List (List Typed)) (f : ExecFault) (d : Db) (now : Option Db) → Answers {A = List (List Value)} (new_rows targets (columns_at (place_named name (schema_of d).tables) (schema_of d)) rows) (Err f)
    → Changes {T = T} (inserts name targets rows d) (Err f) now
stops T name targets rows (fault.Refused r) d now h = ap (λ (a : Answer (List (List Value))). then_with a (λ vs. rows_added (place_named name (schema_of d).tables) vs d)) h
stops T name targets rows (fault.Trouble t) d now h = tt

-- a row of expressions is refused before any row goes in
pub insert_stops : (T : Type 0) (name : List ℕ) (targets : List ℕ) (rows : List (List Typed)) (table : ℕ) (schema : Schema) (columns : List ColumnDef) (f : ExecFault) (result : Result T ExecFault) (o now : Option Db)
    → IsErrAnd result (λ e. e ≡ f) → table ≡ place_named name schema.tables → columns ≡ columns_at table schema → IfSome o (λ d. schema ≡ schema_of d) → Answers {A = List (List Value)} (new_rows targets columns rows) (Err f)
    → IfSome o (λ d. Changes (inserts name targets rows d) result now)
insert_stops T name targets rows table schema columns f result None now i e c s h = tt
insert_stops T name targets rows table schema columns f (Ok u) (Some d) now i e c s h = absurd i
insert_stops T name targets rows table schema columns f (Err g) (Some d) now i e c s h =
    let there : table ≡ place_named name (schema_of d).tables = subst (λ (z : Schema). table ≡ place_named name z.tables) s e in
    let same : columns ≡ columns_at (place_named name (schema_of d).tables) (schema_of d) = subst (λ (z : Schema). columns ≡ columns_at table z) s c ∙ ap (λ (n : ℕ). columns_at n (schema_of d)) there in
    let here = subst (λ (cs : List ColumnDef). Answers {A = List (List Value)} (new_rows targets cs rows) (Err f)) same h in
    subst (λ (z : ExecFault). Changes {T = T} (inserts name targets rows d) (Err z) now) (sym i) (stops T name targets rows f d now here)

-- the rows of a SELECT did what the INSERT does
pub selected_done : {T : Type 0} (name : List ℕ) (select : Select) (p : Plan) (targets : List ℕ) (shown rows : List (List Value)) (table : ℕ) (schema held : Schema) (columns : List ColumnDef) (result : Result T ExecFault) (o mid now : Option Db)
    → table ≡ place_named name schema.tables → columns ≡ columns_at table held → held ≡ schema → targets ≡ p.targets → rows ≡ rows_from targets columns shown → IfSome o (λ d. schema ≡ schema_of d) → IfSome o (λ d. shown_rows d select p ≡ Ok shown)
    → mid ≡ o → IfSome mid (λ d. Changes (rows_added table rows d) result now) → IfSome o (λ d. Changes (inserts_shown name select p d) result now)
selected_done name select p targets shown rows table schema held columns result None mid now e c k t r s v m h = tt
selected_done name select p targets shown rows table schema held columns result (Some d) mid now e c k t r s v m h =
    let place = place_named name (schema_of d).tables in
    let there : table ≡ place = subst (λ (z : Schema). table ≡ place_named name z.tables) s e in
    let same : columns ≡ columns_at place (schema_of d) = c ∙ ap (columns_at table) (k ∙ s) ∙ ap (λ (n : ℕ). columns_at n (schema_of d)) there in
    let placed : rows ≡ rows_from p.targets (columns_at place (schema_of d)) shown = r ∙ ap (λ (ts : List ℕ). rows_from ts columns shown) t ∙ ap (λ (cs : List ColumnDef). rows_from p.targets cs shown) same in
    let here : Changes (rows_added table rows d) result now = subst (λ (z : Option Db). IfSome z (λ d. Changes (rows_added table rows d) result now)) m h in
    let moved : Changes (rows_added place rows d) result now = subst (λ (n : ℕ). Changes (rows_added n rows d) result now) there here in
    let whole : Changes (rows_added place (rows_from p.targets (columns_at place (schema_of d)) shown) d) result now = subst (λ (xs : List (List Value)). Changes (rows_added place xs d) result now) placed moved in
    subst (λ (a : Answer (List (List Value))). Changes (then_with a (λ xs. rows_added place (rows_from p.targets (columns_at place (schema_of d)) xs) d)) result now) (sym v) whole

shown_stops : (T : Type 0) (name : List ℕ) (select : Select) (p : Plan) (f : ExecFault) (d : Db) (now : Option Db) → Shows {A = List (List Value)} (shown_rows d select p) (Err f) → Changes {T = T} (inserts_shown name select p d) (Err f) now
shown_stops T name select p (fault.Refused r) d now h =
    ap (λ (a : Answer (List (List Value))). then_with a (λ xs. rows_added (place_named name (schema_of d).tables) (rows_from p.targets (columns_at (place_named name (schema_of d).tables) (schema_of d)) xs) d)) h
shown_stops T name select p (fault.Trouble t) d now h = tt

-- the SELECT is refused before any row goes in
pub selected_stops : (T : Type 0) (name : List ℕ) (select : Select) (p : Plan) (f : ExecFault) (result : Result T ExecFault) (o now : Option Db) → IsErrAnd result (λ e. e ≡ f) → IfSome o (λ d. Shows {A = List (List Value)} (shown_rows d select p) (Err f))
    → IfSome o (λ d. Changes (inserts_shown name select p d) result now)
selected_stops T name select p f result None now i h = tt
selected_stops T name select p f (Ok u) (Some d) now i h = absurd i
selected_stops T name select p f (Err g) (Some d) now i h =
    subst (λ (z : ExecFault). Changes {T = T} (inserts_shown name select p d) (Err z) now) (sym i) (shown_stops T name select p f d now h)

-- the rows that the SELECT shows are for the columns of the table, and are put together to rows that fit them
pub shown_for : (table place : ℕ) (schema held : Schema) (columns : List ColumnDef) (types : List Typing) (p : Plan) (targets : List ℕ) (rows : List (List Value)) → columns ≡ columns_at table held → held ≡ schema → table ≡ place → targets ≡ p.targets
    → RowsSelected types (columns_at place schema) p → AreResults types p rows → AllByRecursion (AreFor columns targets) rows
shown_for table place schema held columns types p targets rows c k e t typed made =
    let same : columns ≡ columns_at place schema = c ∙ ap (columns_at table) k ∙ ap (λ (n : ℕ). columns_at n schema) e in
    let for_these : AllByRecursion (AreFor (columns_at place schema) p.targets) rows = results_for types (columns_at place schema) p rows typed made in
    subst (λ (ts : List ℕ). AllByRecursion (AreFor columns ts) rows) (sym t) (subst (λ (cs : List ColumnDef). AllByRecursion (AreFor cs p.targets) rows) (sym same) for_these)

pub placed_at : (table : ℕ) (held : Schema) (columns : List ColumnDef) (targets : List ℕ) (rows placed : List (List Value)) → columns ≡ columns_at table held → placed ≡ rows_from targets columns rows → AllByRecursion (AreFor columns targets) rows
    → AllByRecursion (Fits (columns_at table held)) placed
placed_at table held columns targets rows placed c e h =
    subst (λ (cs : List ColumnDef). AllByRecursion (Fits cs) placed) c (subst (AllByRecursion (Fits columns)) (sym e) (placed_fit columns targets rows h))
