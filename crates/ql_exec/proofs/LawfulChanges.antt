-- Rows that go or get other values leave a database lawful, and so does a table that goes.
use Rattle.std.proofs.Common.{◌≡◌, ℕ, zero, suc, ◌+◌, ◌<◌, ◌≤◌, Bool, true, false, cond, not, ◌&&◌, if◌then◌else◌, List, [], ◌∷◌, ◌++◌, length, map, filter, find, flat_map, remove, slice_get, Option, Some, None, option_map, Ok, Err, refl, sym, ap, subst, ◌∙◌, arith}
use Rattle.std.proofs.lemmas.Slice.Eq.{bytes_eq-Decides}
use Rattle.std.specs.List.{list_any, list_all, AllByRecursion}
use Rattle.std.specs.Str.{bytes_eq}
use Rattle.ql_value.specs.declared.value.Value.{Value}
use Rattle.ql_syntax.specs.declared.statement.ColumnDef.{ColumnDef}
use Rattle.ql_syntax.specs.Answers.{Answer, then_with, all_of}
use Rattle.ql_rel.specs.declared.db.Db.{Db}
use Rattle.ql_rel.specs.declared.db.Row.{Row}
use Rattle.ql_rel.specs.declared.db.Table.{Table}
use Rattle.ql_rel.specs.declared.fault.RelFault.{RelFault}
use Rattle.ql_rel.specs.declared.fault.RelFault.TheVariants as rel
use Rattle.ql_rel.specs.declared.plan.Plan.{Plan}
use Rattle.ql_rel.specs.declared.schema.Index.{Index}
use Rattle.ql_rel.specs.declared.schema.Schema.{Schema}
use Rattle.ql_rel.specs.ChangeEffects.{with_new, becomes, row_becomes, rows_become, table_changed}
use Rattle.ql_rel.specs.Changes.{changed_at, with_rows, rows_changed, row_of, no_rows, truncated, is_of_other, table_dropped}
use Rattle.ql_rel.specs.CreatePlans.{takes_all}
use Rattle.ql_rel.specs.Databases.{table_schema, schema_of, name_if, name_at, columns_if, columns_at, rows_at}
use Rattle.ql_rel.specs.FormLaws.{FormLaws}
use Rattle.ql_rel.specs.Accepted.{rule_scope}
use Rattle.ql_rel.specs.Lawful.{has_shared, is_shared, keys_in, is_broken, MeetsColumns, IsLawful}
use Rattle.ql_rel.specs.Limits.{key_of, last_id, row_too_long, first_long_key}
use Rattle.ql_rel.specs.PlanTypes.{ChangeTyped}
use Rattle.ql_rel.specs.Refusals.{refused_if, or_next, key_refusal, change_refusal}
use Rattle.ql_rel.specs.Refused.{unless}
use Rattle.ql_rel.specs.Rows.{values_of, is_meant}
use Rattle.ql_rel.specs.SelectRows.{set_row}
use Rattle.ql_rel.specs.WellFormed.{Fits, AllFit, Rise, AllBelow}
use Rattle.ql_rel.proofs.ChangeLemmas.{rise_down}
use Rattle.ql_rel.proofs.Fits.{then_ok, same_ok}
use Rattle.ql_rel.proofs.FormLemmas.{IsShortAs, short_row, well_rows, well_filtered, kept_at}
use Rattle.ql_exec.specs.Scans.{table_types}
use Rattle.ql_exec.proofs.Assigned.{row_fits_types, new_fits}
use Rattle.ql_exec.proofs.Kept.{or_parts}
use Rattle.ql_exec.proofs.LawfulRows.{all_stand, no_rules, none_broken, length_same, TakesRows}
use Rattle.ql_exec.proofs.RowChanged.{rows_here}

-- a test that is false of all of some things is false of all of some of them
any_less : (q : Value → Bool) (f : Row → Value) (p : Row → Bool) (rows : List Row) → list_any q (map f rows) ≡ false → list_any q (map f (filter p rows)) ≡ false
any_less q f p [] h = refl
any_less q f p (r ∷ rows) h =
    let both = or_parts (q (f r)) (list_any q (map f rows)) h in
    let rest = any_less q f p rows both.1 in
    elim (p r) as (λ b. list_any q (map f (cond b (r ∷ filter p rows) (filter p rows))) ≡ false) [ true ↦ rw (both.0, rest) refl | false ↦ rest ]

shared_less : (f : Row → Value) (p : Row → Bool) (rows : List Row) → has_shared (map f rows) ≡ false → has_shared (map f (filter p rows)) ≡ false
shared_less f p [] h = refl
shared_less f p (r ∷ rows) h =
    let both = or_parts (list_any (is_shared (f r)) (map f rows)) (has_shared (map f rows)) h in
    let rest = shared_less f p rows both.1 in
    let none = any_less (is_shared (f r)) f p rows both.0 in
    elim (p r) as (λ b. has_shared (map f (cond b (r ∷ filter p rows) (filter p rows))) ≡ false) [ true ↦ rw (none, rest) refl | false ↦ rest ]

keys_less : (n : ℕ) (p : Row → Bool) (i : Index) (tables : List Table) → has_shared (keys_in i tables) ≡ false → has_shared (keys_in i (changed_at n (with_rows (filter p)) tables)) ≡ false
keys_less n p i [] h = refl
keys_less zero p i (t ∷ tables) h =
    let by : (b : Bool) → bytes_eq t.name i.table ≡ b → has_shared (keys_in i (with_rows (filter p) t ∷ tables)) ≡ false = elim [
      | true ↦ λ e. rw e (shared_less (key_of t.columns i.item) p t.rows (rw e at h))
      | false ↦ λ e. rw e (rw e at h)
    ] in
    by (bytes_eq t.name i.table) refl
keys_less (suc n) p i (t ∷ tables) h =
    let by : (b : Bool) → bytes_eq t.name i.table ≡ b → has_shared (keys_in i (t ∷ changed_at n (with_rows (filter p)) tables)) ≡ false = elim [
      | true ↦ λ e. rw e (rw e at h)
      | false ↦ λ e. rw e (keys_less n p i tables (rw e at h))
    ] in
    by (bytes_eq t.name i.table) refl

whole_less : (u s t : Bool) → (s ≡ false → t ≡ false) → (u && s) ≡ false → (u && t) ≡ false
whole_less true s t k h = k h
whole_less false s t k h = refl

broken_less : (n : ℕ) (p : Row → Bool) (i : Index) (tables : List Table) → is_broken tables i ≡ false → is_broken (changed_at n (with_rows (filter p)) tables) i ≡ false
broken_less n p i tables h = whole_less i.unique (has_shared (keys_in i tables)) (has_shared (keys_in i (changed_at n (with_rows (filter p)) tables))) (keys_less n p i tables) h

-- no index is found by a test that is false wherever another one is
still_none : (p q : Index → Bool) (is : List Index) → ((i : Index) → p i ≡ false → q i ≡ false) → option_map (λ (i : Index). i.name) (find p is) ≡ None → option_map (λ (i : Index). i.name) (find q is) ≡ None
still_none p q [] k h = refl
still_none p q (i ∷ is) k h =
    let by : (b : Bool) → p i ≡ b → option_map (λ (i : Index). i.name) (find q (i ∷ is)) ≡ None = elim [
      | true ↦ λ e. absurd (let some = rw e at h in cc)
      | false ↦ λ e. rw (k i e) (still_none p q is k (rw e at h))
    ] in
    by (p i) refl

rows_meet : (t : Table) (p : Row → Bool) (rows : List Row) → AllByRecursion (MeetsColumns t) rows → AllByRecursion (MeetsColumns (with_rows (filter p) t)) (filter p rows)
rows_meet t p [] m = tt
rows_meet t p (r ∷ rows) m =
    let rest = rows_meet t p rows m.1 in
    elim (p r) as (λ b. AllByRecursion (MeetsColumns (with_rows (filter p) t)) (cond b (r ∷ filter p rows) (filter p rows))) [ true ↦ (record { not_null = m.0.not_null; rules = m.0.rules }, rest) | false ↦ rest ]

tables_meet : (n : ℕ) (p : Row → Bool) (tables : List Table) → AllByRecursion (λ (t : Table). AllByRecursion (MeetsColumns t) t.rows) tables → AllByRecursion (λ (t : Table). AllByRecursion (MeetsColumns t) t.rows) (changed_at n (with_rows (filter p)) tables)
tables_meet n p [] m = tt
tables_meet zero p (t ∷ tables) m = (rows_meet t p t.rows m.0, m.1)
tables_meet (suc n) p (t ∷ tables) m = (m.0, tables_meet n p tables m.1)

-- some rows of a table go
pub filtered_lawful : (n : ℕ) (p : Row → Bool) (db : Db) → IsLawful db → IsLawful (rows_changed n (filter p) db)
filtered_lawful n p db l = record {
  formed = well_filtered n p db l.formed;
  columns = tables_meet n p db.tables l.columns;
  unique = still_none (is_broken db.tables) (is_broken (changed_at n (with_rows (filter p)) db.tables)) db.indexes (λ i. broken_less n p i db.tables) l.unique;
}

none_kept : (rows : List Row) → filter (λ _. false) rows ≡ []
none_kept [] = refl
none_kept (r ∷ rows) = none_kept rows

-- all rows of a table go
pub truncated_lawful : (n : ℕ) (db : Db) → IsLawful db → IsLawful (truncated n db)
truncated_lawful n db l =
    subst IsLawful (rows_here n (filter (λ _. false)) [] db (none_kept (rows_at n db)) ∙ sym (rows_here n no_rows [] db refl)) (filtered_lawful n (λ _. false) db l)

-- what stays of a row by the condition of a DELETE
abbrev stays : Answer Bool → Bool
stays (Ok meant) = not meant
stays (Err r) = true

abbrev stays_by : Plan → Row → Bool
stays_by p row = stays (is_meant p.filter (set_row row))

left_by : (n : ℕ) (schema : Schema) (p : Plan) (row : Row) (rows rest : List Row) (a : Answer Bool) → then_with a (λ meant. if meant then becomes true n schema p row else Ok (row ∷ [])) ≡ Ok rows → cond (stays a) (row ∷ rest) rest ≡ rows ++ rest
left_by n schema p row rows rest (Ok true) e = ap (λ (rs : List Row). rs ++ rest) (same_ok [] rows e)
left_by n schema p row rows rest (Ok false) e = ap (λ (rs : List Row). rs ++ rest) (same_ok (row ∷ []) rows e)
left_by n schema p row rows rest (Err r) e = absurd (cc)

left_of : (n : ℕ) (schema : Schema) (p : Plan) (row : Row) (rows rest : List Row) → row_becomes true n schema p row ≡ Ok rows → cond (stays_by p row) (row ∷ rest) rest ≡ rows ++ rest
left_of n schema p row rows rest e = left_by n schema p row rows rest (is_meant p.filter (set_row row)) e

-- the rows that a DELETE leaves are those that stay
left_all : (n : ℕ) (schema : Schema) (p : Plan) (rows : List Row) (lists : List (List Row)) → all_of (map (row_becomes true n schema p) rows) ≡ Ok lists → filter (stays_by p) rows ≡ flat_map (λ (rows : List Row). rows) lists
left_all n schema p [] lists e = ap (λ (ls : List (List Row)). flat_map (λ (rows : List Row). rows) ls) (same_ok [] lists e)
left_all n schema p (r ∷ rows) lists e =
    let first = then_ok (row_becomes true n schema p r) (λ x. then_with (all_of (map (row_becomes true n schema p) rows)) (λ xs. Ok (x ∷ xs))) lists e in
    let rest = then_ok (all_of (map (row_becomes true n schema p) rows)) (λ xs. Ok (first.0 ∷ xs)) lists first.2 in
    left_of n schema p r first.0 (filter (stays_by p) rows) first.1
    ∙ ap (λ (rs : List Row). first.0 ++ rs) (left_all n schema p rows rest.0 rest.1)
    ∙ ap (λ (ls : List (List Row)). flat_map (λ (rows : List Row). rows) ls) (same_ok (first.0 ∷ rest.0) lists rest.2)

-- a DELETE
pub removed_lawful : (n : ℕ) (p : Plan) (db after : Db) → IsLawful db → table_changed true n p db ≡ Ok after → IsLawful after
removed_lawful n p db after l e =
    let rows = then_ok (rows_become true n (schema_of db) p (rows_at n db)) (λ rows. Ok (rows_changed n (λ _. rows) db)) after e in
    let lists = then_ok (all_of (map (row_becomes true n (schema_of db) p) (rows_at n db))) (λ lists. Ok (flat_map (λ (rows : List Row). rows) lists)) rows.0 rows.1 in
    let left = left_all n (schema_of db) p (rows_at n db) lists.0 lists.1 ∙ same_ok (flat_map (λ (rows : List Row). rows) lists.0) rows.0 lists.2 in
    subst IsLawful (rows_here n (filter (stays_by p)) rows.0 db left ∙ same_ok (rows_changed n (λ _. rows.0) db) after rows.2) (filtered_lawful n (stays_by p) db l)

-- what becomes of a row by an UPDATE: nothing, or a row with its id that fits and is not too long
abbrev Came : List ℕ → List ColumnDef → List Index → Row → List Row → Type 0
Came name columns indexes r [] = Unit {0}
Came name columns indexes r (x ∷ []) = (x.id ≡ r.id) × (Fits columns x.values × IsShortAs name columns indexes x)
Came name columns indexes r (x ∷ y ∷ rows) = ⊥

put_if : (b : Bool) (o : Option (List ℕ)) (x y : List Row) → unless (or_next (refused_if b rel.RowTooLong) (key_refusal o)) x ≡ Ok y
    → (◌≡◌ {A = Option RelFault} (or_next (refused_if b rel.RowTooLong) (key_refusal o)) None) × (x ≡ y)
put_if true o x y e = absurd (cc)
put_if false (Some name) x y e = absurd (cc)
put_if false None x y e = (refl, same_ok x y e)

came_new : (n : ℕ) (schema : Schema) (p : Plan) (r : Row) (rows : List Row) → r.id ≤ last_id → Fits (columns_at n schema) r.values → ChangeTyped (table_types (columns_at n schema)) (columns_at n schema) p
    → becomes false n schema p r ≡ Ok rows → Came (name_at n schema) (columns_at n schema) schema.indexes r rows
came_new n schema p r rows small fits typed e =
    let columns = columns_at n schema in
    let put = λ (new : List Value). unless (change_refusal n r.id (with_new p.targets new r.values) schema) (row_of r.id (with_new p.targets new r.values) ∷ []) in
    let new = then_ok (values_of (set_row r) p.fields) put rows e in
    let values = with_new p.targets new.0 r.values in
    let row = row_of r.id values in
    let done = put_if (row_too_long values) (first_long_key (name_at n schema) columns schema.indexes row) (row ∷ []) rows new.2 in
    let fit = new_fits (table_types columns) (set_row r) columns p.targets p.fields new.0 r.values (row_fits_types columns r small fits) typed.values new.1 fits in
    subst (Came (name_at n schema) columns schema.indexes r) done.1 (refl, (fit, short_row n row schema done.0))

came_by : (a : Answer Bool) (n : ℕ) (schema : Schema) (p : Plan) (r : Row) (rows : List Row) → r.id ≤ last_id → Fits (columns_at n schema) r.values → IsShortAs (name_at n schema) (columns_at n schema) schema.indexes r
    → ChangeTyped (table_types (columns_at n schema)) (columns_at n schema) p → then_with a (λ meant. if meant then becomes false n schema p r else Ok (r ∷ [])) ≡ Ok rows → Came (name_at n schema) (columns_at n schema) schema.indexes r rows
came_by (Ok true) n schema p r rows small fits short typed e = came_new n schema p r rows small fits typed e
came_by (Ok false) n schema p r rows small fits short typed e = subst (Came (name_at n schema) (columns_at n schema) schema.indexes r) (same_ok (r ∷ []) rows e) (refl, (fits, short))
came_by (Err q) n schema p r rows small fits short typed e = absurd (cc)

-- what the rows of a table keep from an id on
record KeepsFrom (from next : ℕ) (name : List ℕ) (columns : List ColumnDef) (indexes : List Index) (rows : List Row) : Type 0 where
  fit : AllFit columns rows
  rise : Rise from rows
  below : AllBelow next rows
  short : AllByRecursion (IsShortAs name columns indexes) rows

keeps_on : (from next : ℕ) (name : List ℕ) (columns : List ColumnDef) (indexes : List Index) (r : Row) (x rows : List Row) → Came name columns indexes r x → from ≤ r.id → r.id < next → KeepsFrom (r.id + 1) next name columns indexes rows
    → KeepsFrom from next name columns indexes (x ++ rows)
keeps_on from next name columns indexes r [] rows c low high k = record { fit = k.fit; rise = rise_down (r.id + 1) from rows (omega (arith, low)) k.rise; below = k.below; short = k.short }
keeps_on from next name columns indexes r (x ∷ []) rows c low high k =
    let same : x.id ≡ r.id = c.0 in
    record {
      fit = (c.1.0, k.fit);
      rise = (omega (arith, low, same), subst (λ (i : ℕ). Rise (i + 1) rows) (sym same) k.rise);
      below = (omega (arith, high, same), k.below);
      short = (c.1.1, k.short);
    }
keeps_on from next name columns indexes r (x ∷ y ∷ more) rows c low high k = absurd c

keeps_all : (from : ℕ) (n : ℕ) (schema : Schema) (p : Plan) (next : ℕ) (rows : List Row) (lists : List (List Row)) → next ≤ last_id + 1 → ChangeTyped (table_types (columns_at n schema)) (columns_at n schema) p
    → KeepsFrom from next (name_at n schema) (columns_at n schema) schema.indexes rows → all_of (map (row_becomes false n schema p) rows) ≡ Ok lists
    → KeepsFrom from next (name_at n schema) (columns_at n schema) schema.indexes (flat_map (λ (rows : List Row). rows) lists)
keeps_all from n schema p next [] lists few typed k e =
    subst (λ (ls : List (List Row)). KeepsFrom from next (name_at n schema) (columns_at n schema) schema.indexes (flat_map (λ (rows : List Row). rows) ls)) (same_ok [] lists e) (record { fit = tt; rise = tt; below = tt; short = tt })
keeps_all from n schema p next (r ∷ rows) lists few typed k e =
    let first = then_ok (row_becomes false n schema p r) (λ x. then_with (all_of (map (row_becomes false n schema p) rows)) (λ xs. Ok (x ∷ xs))) lists e in
    let rest = then_ok (all_of (map (row_becomes false n schema p) rows)) (λ xs. Ok (first.0 ∷ xs)) lists first.2 in
    let low : from ≤ r.id = k.rise.0 in
    let high : r.id < next = k.below.0 in
    let came = came_by (is_meant p.filter (set_row r)) n schema p r first.0 (omega (arith, high, few)) k.fit.0 k.short.0 typed first.1 in
    let more = keeps_all (r.id + 1) n schema p next rows rest.0 few typed (record { fit = k.fit.1; rise = k.rise.1; below = k.below.1; short = k.short.1 }) rest.1 in
    subst (λ (ls : List (List Row)). KeepsFrom from next (name_at n schema) (columns_at n schema) schema.indexes (flat_map (λ (rows : List Row). rows) ls)) (same_ok (first.0 ∷ rest.0) lists rest.2)
    (keeps_on from next (name_at n schema) (columns_at n schema) schema.indexes r first.0 (flat_map (λ (rows : List Row). rows) rest.0) came low high more)

-- columns that take every value take any rows
rows_take : (t : Table) (all rows : List Row) → list_all takes_all t.columns ≡ true → AllByRecursion (MeetsColumns (with_rows (λ _. all) t)) rows
rows_take t all [] h = tt
rows_take t all (r ∷ rows) h = (record { not_null = all_stand t.columns r.values h; rules = no_rules (rule_scope t.name t.columns) r.values t.columns h }, rows_take t all rows h)

tables_take : (n : ℕ) (rows : List Row) (tables : List Table) → list_all takes_all (columns_if (slice_get (map table_schema tables) n)) ≡ true → AllByRecursion (λ (t : Table). AllByRecursion (MeetsColumns t) t.rows) tables
    → AllByRecursion (λ (t : Table). AllByRecursion (MeetsColumns t) t.rows) (changed_at n (with_rows (λ _. rows)) tables)
tables_take n rows [] h m = tt
tables_take zero rows (t ∷ tables) h m = (rows_take t rows rows h, m.1)
tables_take (suc n) rows (t ∷ tables) h m = (m.0, tables_take n rows tables h m.1)

-- an UPDATE of a table that takes every value
pub updated_lawful : (n : ℕ) (p : Plan) (db after : Db) → IsLawful db → TakesRows n (schema_of db) → ChangeTyped (table_types (columns_at n (schema_of db))) (columns_at n (schema_of db)) p → table_changed false n p db ≡ Ok after → IsLawful after
updated_lawful n p db after l t typed e =
    let rows = then_ok (rows_become false n (schema_of db) p (rows_at n db)) (λ rows. Ok (rows_changed n (λ _. rows) db)) after e in
    let lists = then_ok (all_of (map (row_becomes false n (schema_of db) p) (rows_at n db))) (λ lists. Ok (flat_map (λ (rows : List Row). rows) lists)) rows.0 rows.1 in
    let had = kept_at db n l.formed in
    let flat = keeps_all 1 n (schema_of db) p db.next_id (rows_at n db) lists.0 l.formed.left typed (record { fit = had.fit; rise = had.rise; below = had.below; short = had.short }) lists.1 in
    let kept = subst (KeepsFrom 1 db.next_id (name_at n (schema_of db)) (columns_at n (schema_of db)) db.indexes) (same_ok (flat_map (λ (rows : List Row). rows) lists.0) rows.0 lists.2) flat in
    subst IsLawful (same_ok (rows_changed n (λ _. rows.0) db) after rows.2) (record {
      formed = well_rows db n (λ _. rows.0) l.formed (λ rs k. record { fit = kept.fit; rise = kept.rise; below = kept.below; short = kept.short });
      columns = tables_take n rows.0 db.tables t.takes l.columns;
      unique = none_broken (changed_at n (with_rows (λ _. rows.0)) db.tables) db.indexes t.loose;
    })

all_others : {A : Type 0} (P : A → Type 0) (n : ℕ) (xs : List A) → AllByRecursion P xs → AllByRecursion P (remove xs n)
all_others P zero [] h = tt
all_others P (suc n) [] h = tt
all_others P zero (x ∷ xs) h = h.1
all_others P (suc n) (x ∷ xs) h = (h.0, all_others P n xs h.1)

other_name : (a b : List ℕ) → not (bytes_eq a b) ≡ true → bytes_eq b a ≡ false
other_name a b h =
    let by : (c : Bool) → bytes_eq b a ≡ c → c ≡ false = elim [
      | true ↦ λ e.
          let same : b ≡ a = (bytes_eq-Decides b a).0 e in
          let one : bytes_eq a b ≡ true = subst (λ (z : List ℕ). bytes_eq z b ≡ true) same (subst (λ (z : List ℕ). bytes_eq b z ≡ true) (sym same) e) in
          absurd (let no = rw one at h in cc)
      | false ↦ λ e. refl
    ] in
    by (bytes_eq b a) refl

keys_other : (n : ℕ) (i : Index) (tables : List Table) → is_of_other (name_if (slice_get (map table_schema tables) n)) i ≡ true → keys_in i (remove tables n) ≡ keys_in i tables
keys_other zero i [] h = refl
keys_other (suc n) i [] h = refl
keys_other zero i (t ∷ tables) h = rw (other_name i.table t.name h) refl
keys_other (suc n) i (t ∷ tables) h = ap (λ (ks : List Value). if bytes_eq t.name i.table then map (key_of t.columns i.item) t.rows else ks) (keys_other n i tables h)

none_other : (w p q : Index → Bool) (is : List Index) → ((i : Index) → w i ≡ true → p i ≡ false → q i ≡ false) → option_map (λ (i : Index). i.name) (find p is) ≡ None → option_map (λ (i : Index). i.name) (find q (filter w is)) ≡ None
none_other w p q [] k h = refl
none_other w p q (i ∷ is) k h =
    let by : (b c : Bool) → p i ≡ b → w i ≡ c → option_map (λ (i : Index). i.name) (find q (filter w (i ∷ is))) ≡ None = elim [
      | true ↦ λ c e d. absurd (let some = rw e at h in cc)
      | false ↦ elim [
        | true ↦ λ e d. rw (d, k i d e) (none_other w p q is k (rw e at h))
        | false ↦ λ e d. rw d (none_other w p q is k (rw e at h))
      ]
    ] in
    by (p i) (w i) refl refl

-- a table goes, with its indexes
pub dropped_lawful : (laws : FormLaws) (n : ℕ) (db : Db) → IsLawful db → n < length (schema_of db).tables → IsLawful (table_dropped n db)
dropped_lawful laws n db l h =
    let name = name_at n (schema_of db) in
    record {
      formed = laws.drop_table n db l.formed (subst (λ (k : ℕ). n < k) (length_same db.tables) h);
      columns = all_others (λ (t : Table). AllByRecursion (MeetsColumns t) t.rows) n db.tables l.columns;
      unique = none_other (is_of_other name) (is_broken db.tables) (is_broken (remove db.tables n)) db.indexes (λ i o b. ap (λ (ks : List Value). i.unique && has_shared ks) (keys_other n i db.tables o) ∙ b) l.unique;
    }
