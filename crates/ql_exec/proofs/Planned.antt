-- What the plans of INSERT and SELECT say of the tables that they name.
use Rattle.std.proofs.Common.{◌≡◌, ℕ, suc, ◌<◌, ◌≤◌, ◌^◌, Bool, true, false, if◌then◌else◌, List, [], ◌∷◌, length, map, slice_get, Option, Some, None, Ok, Err, refl, sym, ap, subst, ◌∙◌, arith}
use Rattle.std.specs.Prelude.{IsOk}
use Rattle.std.specs.List.{list_all}
use Rattle.std.specs.Str.{bytes_eq}
use Rattle.ql_value.specs.declared.refusal.Refusal.{Refusal}
use Rattle.ql_value.specs.declared.value.Kind.TheVariants as k
use Rattle.ql_syntax.specs.declared.statement.ColumnDef.{ColumnDef}
use Rattle.ql_syntax.specs.declared.statement.RowSource.{RowSource}
use Rattle.ql_syntax.specs.declared.statement.RowSource.TheVariants as source
use Rattle.ql_syntax.specs.declared.statement.Statement.TheVariants as s
use Rattle.ql_syntax.specs.declared.syntax.Expr.{Expr}
use Rattle.ql_syntax.specs.declared.syntax.Expr.TheOpen.{SetSource-F}
use Rattle.ql_syntax.specs.declared.syntax.Field.{Field}
use Rattle.ql_syntax.specs.declared.syntax.FromSet.{FromSet, out-FromSet}
use Rattle.ql_syntax.specs.declared.syntax.Join.{Join}
use Rattle.ql_syntax.specs.declared.syntax.Link.{Link}
use Rattle.ql_syntax.specs.declared.syntax.Select.{Select, out-Select}
use Rattle.ql_syntax.specs.declared.syntax.SetSource.{SetSource, out-SetSource}
use Rattle.ql_syntax.specs.declared.typing.Typing.{Typing}
use Rattle.ql_syntax.specs.declared.typing.Typing.TheVariants.{OfKind}
use Rattle.ql_rel.specs.declared.change.Target.{Target}
use Rattle.ql_rel.specs.declared.plan.Plan.{Plan}
use Rattle.ql_rel.specs.declared.schema.Schema.{Schema}
use Rattle.ql_rel.specs.declared.schema.TableSchema.{TableSchema}
use Rattle.ql_rel.specs.declared.select.Source.{Source}
use Rattle.ql_syntax.specs.declared.scope.Slot.{Slot}
use Rattle.ql_syntax.specs.Answers.{Answer, then_with}
use Rattle.ql_rel.specs.CreatePlans.{takes_all}
use Rattle.ql_rel.specs.Databases.{columns_if, columns_at}
use Rattle.ql_rel.specs.InsertPlans.{takes_rows, without_checks, inserted_plan, source_plan, insert_plan}
use Rattle.ql_rel.specs.Limits.{IsWithin}
use Rattle.ql_rel.specs.NewNames.{table_there, known_table, place_named}
use Rattle.ql_rel.specs.PlanTypes.{slot_types, types_if, columns_named, ValuesTyped, RowsSelected}
use Rattle.ql_rel.specs.Plans.{table_named, is_metadata, set_name, column_slots, add_table, add_source, add_set, add_sets, without_join, row_scope, is_some_list, row_conditions, source_of, output_of, limits_of, selected}
use Rattle.ql_rel.specs.Targets.{kinds_of, targets_of}
use Rattle.ql_rel.proofs.ChangeFits.{known_columns, statement_typed}
use Rattle.ql_rel.proofs.Fits.{then_ok, same_ok}
use Rattle.ql_exec.specs.Scans.{table_types}
use Rattle.ql_exec.proofs.LawfulRows.{TakesRows, takes_these}

-- the table with a name stands at its place
stands_if : (b : Bool) (place : ℕ) (u t : TableSchema) (tables : List TableSchema) (next : Option TableSchema) → (if b then Some u else next) ≡ Some t
    → (next ≡ Some t → (place < length tables) × (slice_get tables place ≡ Some t))
    → ((if b then 0 else suc place) < length (u ∷ tables)) × (slice_get (u ∷ tables) (if b then 0 else suc place) ≡ Some t)
stands_if true place u t tables next e h = (omega arith, e)
stands_if false place u t tables next e h = let r = h e in (omega (arith, r.0), r.1)

pub stands_at : (name : List ℕ) (tables : List TableSchema) (t : TableSchema) → table_named name tables ≡ Some t → (place_named name tables < length tables) × (slice_get tables (place_named name tables) ≡ Some t)
stands_at name [] t e = absurd (cc)
stands_at name (u ∷ tables) t e = stands_if (bytes_eq u.name name) (place_named name tables) u t tables (table_named name tables) e (stands_at name tables t)

pub columns_there : (name : List ℕ) (schema : Schema) (t : TableSchema) → table_named name schema.tables ≡ Some t → columns_at (place_named name schema.tables) schema ≡ t.columns
columns_there name schema t e = ap columns_if (stands_at name schema.tables t e).1

there_is : (name : List ℕ) (o : Option TableSchema) (t : TableSchema) → table_there name o ≡ Ok t → o ≡ Some t
there_is name None t e = absurd (cc)
there_is name (Some u) t e = ap Some (same_ok u t e)

known_if : (b : Bool) (r : Refusal) (name : List ℕ) (o : Option TableSchema) (t : TableSchema) → ◌≡◌ {A = Answer TableSchema} (if b then Err r else table_there name o) (Ok t) → o ≡ Some t
known_if true r name o t e = absurd (cc)
known_if false r name o t e = there_is name o t e

pub known_is : (name : List ℕ) (schema : Schema) (t : TableSchema) → known_table name schema ≡ Ok t → table_named name schema.tables ≡ Some t
known_is name schema t e = known_if (is_metadata name) (record { number = 9; name = name }) name (table_named name schema.tables) t e

-- what the plan of an INSERT says: its table is there and takes rows, and the plan is one for some columns of it
pub record Into (schema : Schema) (name : List ℕ) (rows_of : RowSource) (p : Plan) : Type 0 where
  pub there : place_named name schema.tables < length schema.tables
  pub takes : TakesRows (place_named name schema.tables) schema
  pub columns : columns_named name schema ≡ columns_at (place_named name schema.tables) schema
  pub targets : List Target
  pub plan : source_plan schema targets rows_of ≡ Ok p

pub checked_if : (b : Bool) (r : Refusal) (u : Unit {0}) → ◌≡◌ {A = Answer (Unit {0})} (if b then Ok tt else Err r) (Ok u) → b ≡ true
checked_if true r u e = refl
checked_if false r u e = absurd (cc)

into_says : (schema : Schema) (name : List ℕ) (names : List (List ℕ)) (rows_of : RowSource) (p : Plan) → insert_plan schema name names rows_of ≡ Ok p → Into schema name rows_of p
into_says schema name names rows_of p e =
    let a = then_ok (known_table name schema) (λ table. then_with (targets_of table.columns names) (λ targets. then_with (without_checks schema table.columns) (λ _. source_plan schema targets rows_of))) p e in
    let b = then_ok (targets_of a.0.columns names) (λ targets. then_with (without_checks schema a.0.columns) (λ _. source_plan schema targets rows_of)) p a.2 in
    let c = then_ok (without_checks schema a.0.columns) (λ _. source_plan schema b.0 rows_of) p b.2 in
    let known = known_is name schema a.0 a.1 in
    let there = (stands_at name schema.tables a.0 known).0 in
    let columns = columns_there name schema a.0 known in
    let test = takes_these schema a.0.columns (checked_if (takes_rows schema a.0.columns) (record { number = 10; name = [] }) c.0 c.1) in
    record {
      there = there;
      takes = record { there = there; takes = subst (λ (cs : List ColumnDef). list_all takes_all cs ≡ true) (sym columns) test.1; loose = test.0 };
      columns = known_columns name schema a.0 a.1 ∙ sym columns;
      targets = b.0;
      plan = c.2;
    }

-- of an INSERT of rows: they have values for the columns
pub record Inserts (schema : Schema) (name : List ℕ) (p : Plan) : Type 0 where
  pub there : place_named name schema.tables < length schema.tables
  pub typed : ValuesTyped (columns_at (place_named name schema.tables) schema) p
  pub takes : TakesRows (place_named name schema.tables) schema

pub insert_says : (schema : Schema) (name : List ℕ) (names : List (List ℕ)) (exprs : List (List Expr)) (p : Plan) → insert_plan schema name names (source.Rows exprs) ≡ Ok p → Inserts schema name p
insert_says schema name names exprs p e =
    let into = into_says schema name names (source.Rows exprs) p e in
    let typed : ValuesTyped (columns_named name schema) p = statement_typed schema (s.Insert name names (source.Rows exprs)) p e in
    record { there = into.there; typed = subst (λ (cs : List ColumnDef). ValuesTyped cs p) into.columns typed; takes = into.takes }

-- of an INSERT of a SELECT: the record sets are there, and the fields are values for the columns
pub record Selects (schema : Schema) (name : List ℕ) (select : Select) (p : Plan) : Type 0 where
  pub there : place_named name schema.tables < length schema.tables
  pub sets : IsOk (add_sets schema [] (out-Select select).sets)
  pub typed : RowsSelected (types_if (add_sets schema [] (out-Select select).sets)) (columns_at (place_named name schema.tables) schema) p
  pub takes : TakesRows (place_named name schema.tables) schema

sets_there : (a : Answer (List Slot)) (f : List Slot → Answer Source) (s : Source) → then_with a f ≡ Ok s → IsOk a
sets_there (Ok slots) f s e = refl
sets_there (Err r) f s e = absurd (cc)

pub select_says : (schema : Schema) (name : List ℕ) (names : List (List ℕ)) (select : Select) (p : Plan) → insert_plan schema name names (source.Query select) ≡ Ok p → Selects schema name select p
select_says schema name names select p e =
    let into = into_says schema name names (source.Query select) p e in
    let types = types_if (add_sets schema [] (out-Select select).sets) in
    let typed : RowsSelected types (columns_named name schema) p = statement_typed schema (s.Insert name names (source.Query select)) p e in
    let kinds = kinds_of into.targets in
    let parts = then_ok (selected schema kinds select) (inserted_plan into.targets) p into.plan in
    let from = then_ok (source_of schema select) (λ source. then_with (output_of kinds source.row (is_some_list source.groups) select) (λ output. then_with (limits_of select) (λ limits. Ok (record { filter = source.filter; groups = source.groups; output = output; limits = limits })))) parts.0 parts.1 in
    record {
      there = into.there;
      sets = sets_there (add_sets schema [] (out-Select select).sets) (λ slots. then_with (without_join (out-Select select).join) (λ _. row_conditions (row_scope slots) select)) from.0 from.1;
      typed = subst (λ (cs : List ColumnDef). RowsSelected types cs p) into.columns typed;
      takes = into.takes;
    }

only_one : (a : Answer (List Slot)) → then_with a (λ more. Ok more) ≡ a
only_one (Ok slots) = refl
only_one (Err r) = refl

-- the record sets of a FROM of one
pub one_set : (schema : Schema) (sets : List FromSet) (set : FromSet) → sets ≡ set ∷ [] → add_sets schema [] sets ≡ add_set schema [] set
one_set schema sets set e = ap (add_sets schema []) e ∙ only_one (add_set schema [] set)

-- a table that stands in a FROM: it is there, and its rows have these types
pub record Stood (schema : Schema) (name : List ℕ) (slots : Answer (List Slot)) : Type 0 where
  pub there : place_named name schema.tables < length schema.tables
  pub typed : table_types (columns_at (place_named name schema.tables) schema) ≡ types_if slots

pub types_of : (set : List ℕ) (columns : List ColumnDef) → slot_types (column_slots set columns) ≡ map (λ (c : ColumnDef). OfKind c.kind) columns
types_of set [] = refl
types_of set (c ∷ columns) = ap (λ (ts : List Typing). OfKind c.kind ∷ ts) (types_of set columns)

stood_in : (schema : Schema) (set name : List ℕ) (o : Option TableSchema) → table_named name schema.tables ≡ o → IsOk (add_table [] set name o) → Stood schema name (add_table [] set name o)
stood_in schema set name None e h = absurd (cc)
stood_in schema set name (Some t) e h = record {
  there = (stands_at name schema.tables t e).0;
  typed = ap table_types (columns_there name schema t e) ∙ ap (λ (ts : List Typing). OfKind k.Int64 ∷ ts) (sym (types_of set t.columns));
}

stood_if : (b : Bool) (r : Refusal) (schema : Schema) (set name : List ℕ) → IsOk (if b then Err r else add_table [] set name (table_named name schema.tables)) → Stood schema name (if b then Err r else add_table [] set name (table_named name schema.tables))
stood_if true r schema set name h = absurd (cc)
stood_if false r schema set name h = stood_in schema set name (table_named name schema.tables) refl h

-- a record set that is a table
pub stood_set : (schema : Schema) (set : FromSet) (name : List ℕ) → out-SetSource (out-FromSet set).source ≡ SetSource-F.Table name → IsOk (add_set schema [] set) → Stood schema name (add_set schema [] set)
stood_set schema set name e h =
    subst (λ (x : SetSource-F Expr SetSource Field FromSet Join Link Select). IsOk (add_source schema [] (out-FromSet set).alias x) → Stood schema name (add_source schema [] (out-FromSet set).alias x)) (sym e)
    (stood_if (is_metadata name) (record { number = 10; name = [] }) schema (set_name (out-FromSet set).alias name) name) h

-- the place of a table that is there is a small number
pub small_place : (place : ℕ) (name : List ℕ) (tables : List TableSchema) (schema : Schema) → place ≡ place_named name tables → tables ≡ schema.tables → place_named name schema.tables < length schema.tables → IsWithin schema → place < 2 ^ 32
small_place place name tables schema p e there w =
    let here : place ≡ place_named name schema.tables = subst (λ (ts : List TableSchema). place ≡ place_named name ts) e p in
    let few : length schema.tables ≤ 4096 = w.tables in
    omega (arith, here, few, there)
