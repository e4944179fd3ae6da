-- The effect of a statement leaves a database lawful.
use Rattle.std.proofs.Common.{◌≡◌, ℕ, Bool, true, false, List, [], Option, Some, None, Ok, Err, refl, sym, ap, subst, ◌∙◌}
use Rattle.std.specs.List.{list_any, list_all}
use Rattle.ql_syntax.specs.declared.statement.Assign.{Assign}
use Rattle.ql_syntax.specs.declared.statement.ColumnDef.{ColumnDef}
use Rattle.ql_syntax.specs.declared.statement.RowSource.TheVariants as source
use Rattle.ql_syntax.specs.declared.statement.Statement.{Statement}
use Rattle.ql_syntax.specs.declared.statement.Statement.TheVariants as s
use Rattle.ql_syntax.specs.declared.syntax.Expr.{Expr}
use Rattle.ql_syntax.specs.declared.syntax.Select.{Select, out-Select}
use Rattle.ql_rel.specs.declared.db.Db.{Db}
use Rattle.ql_rel.specs.declared.fault.RelFault.{RelFault}
use Rattle.ql_rel.specs.declared.fault.RelFault.TheVariants as fault
use Rattle.ql_rel.specs.declared.plan.Plan.{Plan}
use Rattle.ql_rel.specs.declared.schema.TableSchema.{TableSchema}
use Rattle.ql_syntax.specs.Answers.{Answer, then_with}
use Rattle.ql_rel.specs.ChangeEffects.{changes}
use Rattle.ql_rel.specs.ChangePlans.{update_plan}
use Rattle.ql_rel.specs.Changes.{table_created, column_added, column_dropped}
use Rattle.ql_rel.specs.Databases.{schema_of, columns_if, columns_at, rows_at}
use Rattle.ql_rel.specs.CreatePlans.{takes_all, create_table_plan}
use Rattle.ql_rel.specs.InsertEffects.{rows_from, new_rows, rows_added, inserts, inserts_shown}
use Rattle.ql_rel.specs.InsertPlans.{insert_plan}
use Rattle.ql_rel.specs.FormLaws.{FormLaws}
use Rattle.ql_rel.specs.Lawful.{IsLawful}
use Rattle.ql_rel.specs.Limits.{is_past_table, is_past_added}
use Rattle.ql_rel.specs.NewNames.{place_named, column_place}
use Rattle.ql_rel.specs.Plans.{add_sets}
use Rattle.ql_rel.specs.PlanTypes.{types_if}
use Rattle.ql_rel.specs.Refusals.{refused_if, or_next, is_long_with_null}
use Rattle.ql_rel.specs.SelectRows.{shown_rows, select_text}
use Rattle.ql_rel.specs.Refused.{unless}
use Rattle.ql_rel.specs.StatementEffects.{creates, drops, empties, adds_column, drops_column, silent, carried, statement_effect}
use Rattle.ql_rel.specs.StatementPlans.{statement_plan}
use Rattle.ql_rel.specs.TablePlans.{is_idle, create_plan, drop_plan, add_column_plan, drop_column_plan}
use Rattle.ql_rel.specs.WellFormed.{IsMade}
use Rattle.ql_syntax.specs.ReadsBack.{IsReadBack}
use Rattle.ql_syntax.specs.StoredParts.{MadeReadBack, PartsReadBack}
use Rattle.ql_rel.proofs.CreateLemmas.{has_plan}
use Rattle.ql_rel.proofs.Fits.{then_ok, same_ok}
use Rattle.ql_exec.proofs.Altered.{add_says, drop_says, within_at, several_at, add_made, drop_made}
use Rattle.ql_exec.proofs.LawfulColumns.{added_lawful, narrowed_lawful}
use Rattle.ql_exec.proofs.NewRows.{rows_fit}
use Rattle.ql_exec.proofs.Placed.{placed_fit, results_for}
use Rattle.ql_exec.proofs.Resulted.{shown_results}
use Rattle.ql_exec.proofs.LawfulRows.{rows_lawful}
use Rattle.ql_exec.proofs.LawfulChanges.{dropped_lawful, truncated_lawful, removed_lawful, updated_lawful}
use Rattle.ql_exec.proofs.LawfulTables.{create_lawful}
use Rattle.ql_exec.proofs.Planned.{insert_says, select_says}
use Rattle.ql_exec.proofs.ReadBack.{reads_itself}
use Rattle.ql_exec.proofs.Tabled.{drop_there, update_says}

made_if : (b : Bool) (x y : Db) → unless (refused_if b fault.TableLimit) x ≡ Ok y → (b ≡ false) × (x ≡ y)
made_if true x y e = absurd (cc)
made_if false x y e = (refl, same_ok x y e)

second : (t text : List ℕ) (d after : Db) → ◌≡◌ {A = Answer (List ℕ × Db)} (Ok (t, d)) (Ok (text, after)) → d ≡ after
second t text d after e = let pairs : ◌≡◌ {A = List ℕ × Db} (t, d) (text, after) = same_ok (t, d) (text, after) e in ap (λ (x : List ℕ × Db). x.1) pairs

-- a change that shows nothing
silent_is : (effect : Answer Db) (text : List ℕ) (after : Db) → then_with effect silent ≡ Ok (text, after) → effect ≡ Ok after
silent_is (Ok d) text after e = ap Ok (second [] text d after e)
silent_is (Err r) text after e = absurd (cc)

create_keeps : (laws : FormLaws) → PartsReadBack → MadeReadBack → (quiet : Bool) (name : List ℕ) (columns : List ColumnDef) (p : Plan) (db after : Db) (text : List ℕ) → IsLawful db → IsReadBack (s.CreateTable quiet name columns) → create_plan (schema_of db) quiet name columns ≡ Ok p
    → then_with (creates quiet (record { name = name; columns = columns }) db) silent ≡ Ok (text, after) → IsLawful after
create_keeps laws parts made quiet name columns p db after text l r e c =
    let t : TableSchema = record { name = name; columns = columns } in
    let is : creates quiet t db ≡ Ok after = silent_is (creates quiet t db) text after c in
    let by : (b : Bool) → is_idle (schema_of db) (s.CreateTable quiet name columns) ≡ b → IsLawful after = elim [
      | true ↦ λ i. subst IsLawful (same_ok db after (sym (rw i refl) ∙ is)) l
      | false ↦ λ i.
          let plan : create_table_plan (schema_of db) name columns ≡ Ok p = sym (rw i refl) ∙ e in
          let done = made_if (is_past_table t (schema_of db)) (table_created t db) after (sym (rw i refl) ∙ is) in
          subst IsLawful done.1 (create_lawful laws t db l (has_plan t (schema_of db) p plan) (reads_itself parts made (schema_of db) quiet name columns p plan r) done.0)
    ] in
    by (is_idle (schema_of db) (s.CreateTable quiet name columns)) refl

insert_keeps : (laws : FormLaws) (name : List ℕ) (names : List (List ℕ)) (exprs : List (List Expr)) (p : Plan) (db after : Db) (text : List ℕ) → IsLawful db → insert_plan (schema_of db) name names (source.Rows exprs) ≡ Ok p
    → then_with (inserts name p.targets p.rows db) silent ≡ Ok (text, after) → IsLawful after
insert_keeps laws name names exprs p db after text l e c =
    let says = insert_says (schema_of db) name names exprs p e in
    let place = place_named name (schema_of db).tables in
    let columns = columns_at place (schema_of db) in
    let done = then_ok (new_rows p.targets columns p.rows) (λ values. rows_added place values db) after (silent_is (inserts name p.targets p.rows db) text after c) in
    rows_lawful laws place done.0 db after l says.takes (rows_fit columns p.targets p.rows done.0 says.typed done.1) done.2

selecting_keeps : (laws : FormLaws) (name : List ℕ) (names : List (List ℕ)) (select : Select) (p : Plan) (db after : Db) (text : List ℕ) → IsLawful db → insert_plan (schema_of db) name names (source.Query select) ≡ Ok p
    → then_with (inserts_shown name select p db) silent ≡ Ok (text, after) → IsLawful after
selecting_keeps laws name names select p db after text l e c =
    let says = select_says (schema_of db) name names select p e in
    let place = place_named name (schema_of db).tables in
    let columns = columns_at place (schema_of db) in
    let types = types_if (add_sets (schema_of db) [] (out-Select select).sets) in
    let done = then_ok (shown_rows db select p) (λ rows. rows_added place (rows_from p.targets columns rows) db) after (silent_is (inserts_shown name select p db) text after c) in
    let each = results_for types columns p done.0 says.typed (shown_results db select p done.0 l.formed says.sets done.1) in
    rows_lawful laws place (rows_from p.targets columns done.0) db after l says.takes (placed_fit columns p.targets done.0 each) done.2

drop_keeps : (laws : FormLaws) (quiet : Bool) (name : List ℕ) (p : Plan) (db after : Db) (text : List ℕ) → IsLawful db → drop_plan (schema_of db) quiet name ≡ Ok p → silent (drops quiet name db) ≡ Ok (text, after) → IsLawful after
drop_keeps laws quiet name p db after text l e c =
    let by : (b : Bool) → is_idle (schema_of db) (s.DropTable quiet name) ≡ b → IsLawful (drops quiet name db) = elim [
      | true ↦ λ i. rw i l
      | false ↦ λ i. rw i (dropped_lawful laws (place_named name (schema_of db).tables) db l (drop_there (schema_of db) quiet name p e i))
    ] in
    subst IsLawful (second [] text (drops quiet name db) after c) (by (is_idle (schema_of db) (s.DropTable quiet name)) refl)

added_if : (b c : Bool) (x y : Db) → unless (or_next (refused_if b fault.TableLimit) (refused_if c fault.RowTooLong)) x ≡ Ok y
    → (b ≡ false) × ((◌≡◌ {A = Option RelFault} (or_next (refused_if b fault.TableLimit) (refused_if c fault.RowTooLong)) None) × (x ≡ y))
added_if true c x y e = absurd (cc)
added_if false true x y e = absurd (cc)
added_if false false x y e = (refl, (refl, same_ok x y e))

add_keeps : (laws : FormLaws) → PartsReadBack → MadeReadBack → (name : List ℕ) (c : ColumnDef) (p : Plan) (db after : Db) (text : List ℕ) → IsLawful db → IsReadBack (s.AddColumn name c) → add_column_plan (schema_of db) name c ≡ Ok p
    → then_with (adds_column name c db) silent ≡ Ok (text, after) → IsLawful after
add_keeps laws parts made name c p db after text l r e h =
    let says = add_says (schema_of db) name c p e in
    let n = place_named name (schema_of db).tables in
    let done = added_if (is_past_added c (columns_at n (schema_of db))) (list_any is_long_with_null (rows_at n db)) (column_added n c db) after (silent_is (adds_column name c db) text after h) in
    let plains : list_all takes_all (columns_at n (schema_of db)) ≡ true = subst (λ (o : Option TableSchema). list_all takes_all (columns_if o) ≡ true) (sym says.at.found) says.at.plains in
    let whole : IsMade (schema_of (column_added n c db)) = add_made parts made (schema_of db) name c n (Some db) refl says r l.formed refl done.0 in
    subst IsLawful done.1.1 (added_lawful laws n c db l plains says.at.loose says.added.plain done.1.0 whole)

drop_column_keeps : (laws : FormLaws) → PartsReadBack → MadeReadBack → (name column : List ℕ) (p : Plan) (db after : Db) (text : List ℕ) → IsLawful db → drop_column_plan (schema_of db) name column ≡ Ok p
    → silent (drops_column name column db) ≡ Ok (text, after) → IsLawful after
drop_column_keeps laws parts made name column p db after text l e h =
    let says = drop_says (schema_of db) name column p e in
    let n = place_named name (schema_of db).tables in
    let k = column_place column (columns_at n (schema_of db)) in
    let plains : list_all takes_all (columns_at n (schema_of db)) ≡ true = subst (λ (o : Option TableSchema). list_all takes_all (columns_if o) ≡ true) (sym says.at.found) says.at.plains in
    let whole : IsMade (schema_of (column_dropped n k db)) = drop_made parts made (schema_of db) name column n k (Some db) refl refl says l.formed refl in
    subst IsLawful (second [] text (drops_column name column db) after h)
    (narrowed_lawful laws n k db l plains says.at.loose (within_at n (schema_of db) name column refl says) (several_at n (schema_of db) name column refl says) whole)

update_keeps : (name : List ℕ) (sets : List Assign) (filter : Option Expr) (p : Plan) (db after : Db) (text : List ℕ) → IsLawful db → update_plan (schema_of db) name sets filter ≡ Ok p → then_with (changes false name p db) silent ≡ Ok (text, after) → IsLawful after
update_keeps name sets filter p db after text l e c =
    let says = update_says (schema_of db) name sets filter p e in
    updated_lawful (place_named name (schema_of db).tables) p db after l says.1 says.0.typed (silent_is (changes false name p db) text after c)

query_keeps : (text : Answer (List ℕ)) (db after : Db) (shown : List ℕ) → IsLawful db → then_with {B = List ℕ × Db} text (λ t. Ok (t, db)) ≡ Ok (shown, after) → IsLawful after
query_keeps (Ok t) db after shown l e = subst IsLawful (second t shown db after e) l
query_keeps (Err r) db after shown l e = absurd (cc)

carried_lawful : (laws : FormLaws) → PartsReadBack → MadeReadBack → (with_names : Bool) (statement : Statement) (p : Plan) (db after : Db) (text : List ℕ) → IsLawful db → IsReadBack statement → statement_plan (schema_of db) statement ≡ Ok p
    → carried with_names statement p db ≡ Ok (text, after) → IsLawful after
carried_lawful laws parts made with_names (s.Query select) p db after text l r e c = query_keeps (select_text with_names db select p) db after text l c
carried_lawful laws parts made with_names (s.CreateTable quiet name columns) p db after text l r e c = create_keeps laws parts made quiet name columns p db after text l r e c
carried_lawful laws parts made with_names (s.DropTable quiet name) p db after text l r e c = drop_keeps laws quiet name p db after text l e c
carried_lawful laws parts made with_names (s.AddColumn name c) p db after text l r e h = add_keeps laws parts made name c p db after text l r e h
carried_lawful laws parts made with_names (s.DropColumn name column) p db after text l r e h = drop_column_keeps laws parts made name column p db after text l e h
carried_lawful laws parts made with_names (s.Insert name names (source.Rows exprs)) p db after text l r e c = insert_keeps laws name names exprs p db after text l e c
carried_lawful laws parts made with_names (s.Insert name names (source.Query select)) p db after text l r e c = selecting_keeps laws name names select p db after text l e c
carried_lawful laws parts made with_names (s.Update name sets filter) p db after text l r e c = update_keeps name sets filter p db after text l e c
carried_lawful laws parts made with_names (s.Delete name filter) p db after text l r e c =
    removed_lawful (place_named name (schema_of db).tables) p db after l (silent_is (changes true name p db) text after c)
carried_lawful laws parts made with_names (s.Truncate name) p db after text l r e c =
    subst IsLawful (second [] text (empties name db) after c) (truncated_lawful (place_named name (schema_of db).tables) db l)
carried_lawful laws parts made with_names _ p db after text l r e c = absurd (cc)

pub effect_lawful : FormLaws → PartsReadBack → MadeReadBack → (with_names : Bool) (statement : Statement) (db after : Db) (text : List ℕ) → IsLawful db → IsReadBack statement → statement_effect with_names statement db ≡ Ok (text, after) → IsLawful after
effect_lawful laws parts made with_names statement db after text l r e =
    let a = then_ok (statement_plan (schema_of db) statement) (λ p. carried with_names statement p db) (text, after) e in
    carried_lawful laws parts made with_names statement a.0 db after text l r a.1 a.2
