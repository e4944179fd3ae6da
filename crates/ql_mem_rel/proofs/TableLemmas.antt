-- Lists with a member changed, and what tables hold.
use Rattle.std.proofs.Common.{◌≡◌, ℕ, zero, suc, ◌+◌, ◌<◌, ◌≤◌, List, [], ◌∷◌, length, get_or, slice_get, slice_set, refl, sym, ap, ◌∙◌, arith}
use Rattle.std.proofs.Common.{add-one, map, filter, take, drop, ◌++◌, find, Bool, true, false, cond, ◌==◌, nat_lt, Option, Some, None, IfSome, IsErrAnd, Result, Ok, Err, OnOk, Bor, subst}
use Rattle.std.proofs.lemmas.Bool.Decides.{nat_tests}
use Rattle.std.specs.Option.{option_copied}
use Rattle.ql_value.specs.declared.value.Value.{Value}
use Rattle.ql_syntax.specs.declared.statement.ColumnDef.{ColumnDef}
use Rattle.ql_rel.specs.declared.db.Row.{Row}
use Rattle.ql_rel.specs.declared.db.Table.{Table}
use Rattle.ql_rel.specs.declared.schema.Schema.{Schema}
use Rattle.ql_rel.specs.declared.schema.TableSchema.{TableSchema}
use Rattle.ql_rel.specs.declared.fault.RelFault.{RelFault}
use Rattle.ql_rel.specs.declared.fault.RelFault.TheVariants as fault
use Rattle.ql_rel.specs.Limits.{last_id}
use Rattle.ql_rel.specs.Refusals.{IsRefusedBy, or_next, row_refusal, insert_refusal}
use Rattle.ql_rel.specs.Changes.{changed_at, rows_changed, inserted, with_rows, with_row, row_of, with_values, no_rows}
use Rattle.ql_rel.specs.Databases.{columns_if, rows_if, rows_at, table_schema, schema_of}
use Rattle.ql_mem_rel.specs.Places.{with_columns}
use Rattle.ql_mem_rel.specs.PlainDbs.{db_with, tables_with, Hold}
use Rattle.ql_rel.specs.Rels.{is_after, has_id}
use Rattle.ql_rel.specs.WellFormed.{Fits, AllFit, Rise, AllBelow}

-- a member written back is a member changed
pub set-changed : {A : Type 0} (f : A → A) (xs : List A) (n : ℕ) (d : A) → n < length xs → slice_set xs n (f (get_or xs n d)) ≡ changed_at n f xs
set-changed f [] n d h = absurd (omega arith)
set-changed f (x ∷ xs) zero d h = refl
set-changed f (x ∷ xs) (suc n) d h = ap (λ ys. x ∷ ys) (set-changed f xs n d (omega arith))

pub set-as : {A : Type 0} (f : A → A) (xs : List A) (n : ℕ) (old new : A) → n < length xs → old ≡ get_or xs n old → new ≡ f old → slice_set xs n new ≡ changed_at n f xs
set-as f xs n old new h e p = ap (λ y. slice_set xs n y) (p ∙ ap f e) ∙ set-changed f xs n old h

-- a member that is kept is written back
pub set-kept : {A : Type 0} (xs : List A) (n : ℕ) (old : A) → n < length xs → old ≡ get_or xs n old → slice_set xs n old ≡ xs
set-kept [] n old h e = absurd (omega arith)
set-kept (x ∷ xs) zero old h e = ap (λ y. y ∷ xs) e
set-kept (x ∷ xs) (suc n) old h e = ap (λ ys. x ∷ ys) (set-kept xs n old (omega arith) e)

pub length-changed_at : {A : Type 0} (n : ℕ) (f : A → A) (xs : List A) → length (changed_at n f xs) ≡ length xs
length-changed_at n f [] = refl
length-changed_at zero f (x ∷ xs) = refl
length-changed_at (suc n) f (x ∷ xs) = ap suc (length-changed_at n f xs)

-- rows changed beside the schema are rows changed in the tables
pub tables_changed : (n : ℕ) (f : List Row → List Row) (tables : List TableSchema) (rows : List (List Row)) → tables_with tables (changed_at n f rows) ≡ changed_at n (with_rows f) (tables_with tables rows)
tables_changed n f [] rows = refl
tables_changed n f (t ∷ tables) [] = refl
tables_changed zero f (t ∷ tables) (r ∷ rows) = refl
tables_changed (suc n) f (t ∷ tables) (r ∷ rows) = ap (λ ys. record { name = t.name; columns = t.columns; rows = r } ∷ ys) (tables_changed n f tables rows)

-- the schema of a database that is kept
pub schemas_with : (tables : List TableSchema) (rows : List (List Row)) → length rows ≡ length tables → map table_schema (tables_with tables rows) ≡ tables
schemas_with [] rows e = refl
schemas_with (t ∷ tables) [] e = absurd (omega arith)
schemas_with (t ∷ tables) (r ∷ rows) e = ap (λ ys. t ∷ ys) (schemas_with tables rows (omega arith))

pub schema_with : (next : ℕ) (schema : Schema) (rows : List (List Row)) → length rows ≡ length schema.tables → schema_of (db_with next schema rows) ≡ schema
schema_with next schema rows e = ap (λ (ts : List TableSchema). record { tables = ts; indexes = schema.indexes }) (schemas_with schema.tables rows e)

-- the rows of a table that is kept
pub rows_with : (tables : List TableSchema) (rows : List (List Row)) (n : ℕ) (d : List Row) → length rows ≡ length tables → n < length rows → rows_if (slice_get (tables_with tables rows) n) ≡ get_or rows n d
rows_with [] rows n d e h = absurd (omega arith)
rows_with (t ∷ tables) [] n d e h = absurd (omega arith)
rows_with (t ∷ tables) (r ∷ rows) zero d e h = refl
rows_with (t ∷ tables) (r ∷ rows) (suc n) d e h = rows_with tables rows n d (omega arith) (omega arith)

-- what one table holds
pub record HoldsAt (next : ℕ) (columns : List ColumnDef) (rows : List Row) : Type 0 where
  pub fit : AllFit columns rows
  pub rise : Rise 1 rows
  pub below : AllBelow next rows

pub hold_at : (next : ℕ) (tables : List TableSchema) (rows : List (List Row)) (n : ℕ) (d : List Row) → Hold next tables rows → n < length rows → HoldsAt next (columns_if (slice_get tables n)) (get_or rows n d)
hold_at next [] [] n d h l = absurd (omega arith)
hold_at next [] (r ∷ rows) n d h l = absurd h
hold_at next (t ∷ tables) [] n d h l = absurd h
hold_at next (t ∷ tables) (r ∷ rows) zero d h l = record { fit = h.0; rise = h.1; below = h.2 }
hold_at next (t ∷ tables) (r ∷ rows) (suc n) d h l = hold_at next tables rows n d h.3 (omega arith)

-- and what they hold when one of them changes
pub hold_changed : (next : ℕ) (tables : List TableSchema) (rows : List (List Row)) (n : ℕ) (f : List Row → List Row) → Hold next tables rows →
    ((rs : List Row) → HoldsAt next (columns_if (slice_get tables n)) rs → HoldsAt next (columns_if (slice_get tables n)) (f rs)) → Hold next tables (changed_at n f rows)
hold_changed next [] [] n f h k = tt
hold_changed next [] (r ∷ rows) n f h k = absurd h
hold_changed next (t ∷ tables) [] n f h k = absurd h
hold_changed next (t ∷ tables) (r ∷ rows) zero f h k =
    let new = k r (record { fit = h.0; rise = h.1; below = h.2 }) in (new.fit, new.rise, new.below, h.3)
hold_changed next (t ∷ tables) (r ∷ rows) (suc n) f h k = (h.0, h.1, h.2, hold_changed next tables rows n f h.3 k)

below_more : (next : ℕ) (rows : List Row) → AllBelow next rows → AllBelow (next + 1) rows
below_more next [] h = tt
below_more next (r ∷ rows) h = (omega (arith, h.0), below_more next rows h.1)

-- a greater next id does no harm
pub hold_more : (next : ℕ) (tables : List TableSchema) (rows : List (List Row)) → Hold next tables rows → Hold (next + 1) tables rows
hold_more next [] [] h = tt
hold_more next [] (r ∷ rows) h = absurd h
hold_more next (t ∷ tables) [] h = absurd h
hold_more next (t ∷ tables) (r ∷ rows) h = (h.0, h.1, below_more next r h.2, hold_more next tables rows h.3)

fit_push : (columns : List ColumnDef) (rows : List Row) (row : Row) → AllFit columns rows → Fits columns row.values → AllFit columns (rows ++ row ∷ [])
fit_push columns [] row h f = (f, tt)
fit_push columns (r ∷ rows) row h f = (h.0, fit_push columns rows row h.1 f)

rise_push : (from : ℕ) (rows : List Row) (row : Row) → Rise from rows → AllBelow row.id rows → from ≤ row.id → Rise from (rows ++ row ∷ [])
rise_push from [] row h b l = (l, tt)
rise_push from (r ∷ rows) row h b l = (h.0, rise_push (r.id + 1) rows row h.1 b.1 (omega (arith, b.0)))

below_push : (next : ℕ) (rows : List Row) (row : Row) → AllBelow next rows → row.id < next → AllBelow next (rows ++ row ∷ [])
below_push next [] row h l = (l, tt)
below_push next (r ∷ rows) row h l = (h.0, below_push next rows row h.1 l)

-- a table with one more row
pub holds_push : (next : ℕ) (columns : List ColumnDef) (values : List Value) (rows : List Row) → 1 ≤ next → Fits columns values → HoldsAt next columns rows → HoldsAt (next + 1) columns (with_row (row_of next values) rows)
holds_push next columns values rows o f h = record {
  fit = fit_push columns rows (row_of next values) h.fit f;
  rise = rise_push 1 rows (row_of next values) h.rise h.below o;
  below = below_push (next + 1) rows (row_of next values) (below_more next rows h.below) (omega arith);
}

pub on_ok : {T E P Q : Type 0} (r : Result T E) → (P → Q) → OnOk r P → OnOk r Q
on_ok (Ok x) f h = f h
on_ok (Err e) f h = tt

-- a row that is found is one of the rows
pub found_fits : (columns : List ColumnDef) (p : Row → Bool) (rows : List Row) (o : Option (Bor Row)) → AllFit columns rows → option_copied o ≡ find p rows → IfSome o (λ r. Fits columns r.now.values)
found_fits columns p rows None h e = tt
found_fits columns p [] (Some r) h e = absurd (cc)
found_fits columns p (x ∷ rows) (Some r) h e = found_by (λ g. found_fits columns p rows (Some r) h.1 g) (p x) e
  where
    found_by : (Some r.now ≡ find p rows → Fits columns r.now.values) → (b : Bool) → Some r.now ≡ cond b (Some x) (find p rows) → Fits columns r.now.values
    found_by again true g = let same : x ≡ r.now = cc in subst (λ (y : Row). Fits columns y.values) same h.0
    found_by again false g = again g

pub found_id : (id : ℕ) (rows : List Row) (o : Option (Bor Row)) → option_copied o ≡ find (has_id id) rows → IfSome o (λ r. r.now.id ≡ id)
found_id id rows None e = tt
found_id id [] (Some r) e = absurd (cc)
found_id id (x ∷ rows) (Some r) e = found_by (λ g. found_id id rows (Some r) g) (x.id == id) refl e
  where
    found_by : (Some r.now ≡ find (has_id id) rows → r.now.id ≡ id) → (b : Bool) → (x.id == id) ≡ b → Some r.now ≡ cond b (Some x) (find (has_id id) rows) → r.now.id ≡ id
    found_by again true t g =
        let same : x ≡ r.now = cc in
        let own : x.id ≡ id = grind (arith, nat_tests) in
        ap (λ (y : Row). y.id) (sym same) ∙ own
    found_by again false t g = again g

pub found_over : (id : ℕ) (rows : List Row) (o : Option (Bor Row)) → option_copied o ≡ find (is_after id) rows → IfSome o (λ r. id < r.now.id)
found_over id rows None e = tt
found_over id [] (Some r) e = absurd (cc)
found_over id (x ∷ rows) (Some r) e = found_by (λ g. found_over id rows (Some r) g) (nat_lt id x.id) refl e
  where
    found_by : (Some r.now ≡ find (is_after id) rows → id < r.now.id) → (b : Bool) → nat_lt id x.id ≡ b → Some r.now ≡ cond b (Some x) (find (is_after id) rows) → id < r.now.id
    found_by again true t g =
        let same : x ≡ r.now = cc in
        let own : id < x.id = grind (arith, nat_tests) in
        subst (λ (y : Row). id < y.id) same own
    found_by again false t g = again g

pub hold_length : (next : ℕ) (tables : List TableSchema) (rows : List (List Row)) → Hold next tables rows → length rows ≡ length tables
hold_length next [] [] h = refl
hold_length next [] (r ∷ rows) h = absurd h
hold_length next (t ∷ tables) [] h = absurd h
hold_length next (t ∷ tables) (r ∷ rows) h = ap suc (hold_length next tables rows h.3)

pub hold_rise : (next : ℕ) (tables : List TableSchema) (rows : List (List Row)) (n : ℕ) → Hold next tables rows → IfSome (slice_get rows n) (Rise 1)
hold_rise next [] [] n h = tt
hold_rise next [] (r ∷ rows) n h = absurd h
hold_rise next (t ∷ tables) [] n h = tt
hold_rise next (t ∷ tables) (r ∷ rows) zero h = h.1
hold_rise next (t ∷ tables) (r ∷ rows) (suc n) h = hold_rise next tables rows n h.3

-- the rows at hand are those of a table
pub kept_at : (next : ℕ) (tables : List TableSchema) (rows : List (List Row)) (n : ℕ) (x : List Row) → Hold next tables rows → n < length tables → x ≡ get_or rows n x → HoldsAt next (columns_if (slice_get tables n)) x
kept_at next tables rows n x h l e =
    let within : n < length rows = subst (λ k. n < k) (sym (hold_length next tables rows h)) l in
    subst (λ (r : List Row). HoldsAt next (columns_if (slice_get tables n)) r) (sym e) (hold_at next tables rows n x h within)

pub rows_kept : (next : ℕ) (schema : Schema) (rows : List (List Row)) (n : ℕ) (x : List Row) → Hold next schema.tables rows → n < length schema.tables → x ≡ get_or rows n x → rows_at n (db_with next schema rows) ≡ x
rows_kept next schema rows n x h l e =
    let even = hold_length next schema.tables rows h in
    let within : n < length rows = subst (λ k. n < k) (sym even) l in
    rows_with schema.tables rows n x even within ∙ sym e

-- a database with the rows of one table changed
pub db_changed : (next : ℕ) (schema : Schema) (rows new : List (List Row)) (n : ℕ) (f : List Row → List Row) → new ≡ changed_at n f rows → db_with next schema new ≡ rows_changed n f (db_with next schema rows)
db_changed next schema rows new n f e =
    ap (λ (ts : List Table). record { next_id = next; tables = ts; indexes = schema.indexes }) (ap (λ (rs : List (List Row)). tables_with schema.tables rs) e ∙ tables_changed n f schema.tables rows)

pub db_inserted : (next : ℕ) (schema : Schema) (rows new : List (List Row)) (n : ℕ) (values : List Value) → new ≡ changed_at n (with_row (row_of next values)) rows → db_with (next + 1) schema new ≡ inserted n values (db_with next schema rows)
db_inserted next schema rows new n values e =
    ap (λ (ts : List Table). record { next_id = next + 1; tables = ts; indexes = schema.indexes }) (ap (λ (rs : List (List Row)). tables_with schema.tables rs) e ∙ tables_changed n (with_row (row_of next values)) schema.tables rows)

-- what tables hold after a change of the rows of one
pub hold_as : (next : ℕ) (tables : List TableSchema) (rows new : List (List Row)) (n : ℕ) (f : List Row → List Row) → new ≡ changed_at n f rows → Hold next tables rows →
    ((rs : List Row) → HoldsAt next (columns_if (slice_get tables n)) rs → HoldsAt next (columns_if (slice_get tables n)) (f rs)) → Hold next tables new
hold_as next tables rows new n f e h k = subst (λ (rs : List (List Row)). Hold next tables rs) (sym e) (hold_changed next tables rows n f h k)

pub hold_pushed : (next : ℕ) (tables : List TableSchema) (rows : List (List Row)) (n : ℕ) (values : List Value) → 1 ≤ next → Fits (columns_if (slice_get tables n)) values → Hold next tables rows → Hold (next + 1) tables (changed_at n (with_row (row_of next values)) rows)
hold_pushed next [] [] n values o f h = tt
hold_pushed next [] (r ∷ rows) n values o f h = absurd h
hold_pushed next (t ∷ tables) [] n values o f h = absurd h
hold_pushed next (t ∷ tables) (r ∷ rows) zero values o f h =
    let new = holds_push next t.columns values r o f (record { fit = h.0; rise = h.1; below = h.2 }) in (new.fit, new.rise, new.below, hold_more next tables rows h.3)
hold_pushed next (t ∷ tables) (r ∷ rows) (suc n) values o f h = (h.0, h.1, below_more next r h.2, hold_pushed next tables rows n values o f h.3)

pub hold_inserted : (next : ℕ) (tables : List TableSchema) (rows new : List (List Row)) (n : ℕ) (values : List Value) → new ≡ changed_at n (with_row (row_of next values)) rows → 1 ≤ next → Fits (columns_if (slice_get tables n)) values → Hold next tables rows → Hold (next + 1) tables new
hold_inserted next tables rows new n values e o f h = subst (λ (rs : List (List Row)). Hold (next + 1) tables rs) (sym e) (hold_pushed next tables rows n values o f h)

pub holds_none : (next : ℕ) (columns : List ColumnDef) (rows : List Row) → HoldsAt next columns rows → HoldsAt next columns (no_rows rows)
holds_none next columns rows h = record { fit = tt; rise = tt; below = tt }

rise_down : (a b : ℕ) (rows : List Row) → b ≤ a → Rise a rows → Rise b rows
rise_down a b [] l h = tt
rise_down a b (r ∷ rows) l h = (omega (arith, h.0), h.1)

fit_filter : (columns : List ColumnDef) (p : Row → Bool) (rows : List Row) → AllFit columns rows → AllFit columns (filter p rows)
fit_filter columns p [] h = tt
fit_filter columns p (r ∷ rows) h =
    let rest = fit_filter columns p rows h.1 in
    elim (p r) as (λ b. AllFit columns (cond b (r ∷ filter p rows) (filter p rows))) [ true ↦ (h.0, rest) | false ↦ rest ]

below_filter : (next : ℕ) (p : Row → Bool) (rows : List Row) → AllBelow next rows → AllBelow next (filter p rows)
below_filter next p [] h = tt
below_filter next p (r ∷ rows) h =
    let rest = below_filter next p rows h.1 in
    elim (p r) as (λ b. AllBelow next (cond b (r ∷ filter p rows) (filter p rows))) [ true ↦ (h.0, rest) | false ↦ rest ]

rise_filter : (from : ℕ) (p : Row → Bool) (rows : List Row) → Rise from rows → Rise from (filter p rows)
rise_filter from p [] h = tt
rise_filter from p (r ∷ rows) h =
    let rest = rise_filter (r.id + 1) p rows h.1 in
    let lower = rise_down (r.id + 1) from (filter p rows) (omega (arith, h.0)) rest in
    elim (p r) as (λ b. Rise from (cond b (r ∷ filter p rows) (filter p rows))) [ true ↦ (h.0, rest) | false ↦ lower ]

pub holds_filter : (next : ℕ) (columns : List ColumnDef) (p : Row → Bool) (rows : List Row) → HoldsAt next columns rows → HoldsAt next columns (filter p rows)
holds_filter next columns p rows h = record { fit = fit_filter columns p rows h.fit; rise = rise_filter 1 p rows h.rise; below = below_filter next p rows h.below }

same_id : (id : ℕ) (values : List Value) (r : Row) → (with_values id values r).id ≡ r.id
same_id id values r = elim (r.id == id) as (λ b. (cond b (row_of r.id values) r).id ≡ r.id) [ true ↦ refl | false ↦ refl ]

fit_values : (columns : List ColumnDef) (id : ℕ) (values : List Value) (rows : List Row) → Fits columns values → AllFit columns rows → AllFit columns (map (with_values id values) rows)
fit_values columns id values [] f h = tt
fit_values columns id values (r ∷ rows) f h =
    (elim (r.id == id) as (λ b. Fits columns (cond b (row_of r.id values) r).values) [ true ↦ f | false ↦ h.0 ], fit_values columns id values rows f h.1)

rise_values : (from id : ℕ) (values : List Value) (rows : List Row) → Rise from rows → Rise from (map (with_values id values) rows)
rise_values from id values [] h = tt
rise_values from id values (r ∷ rows) h =
    let same = same_id id values r in
    (subst (λ k. from ≤ k) (sym same) h.0, subst (λ k. Rise (k + 1) (map (with_values id values) rows)) (sym same) (rise_values (r.id + 1) id values rows h.1))

below_values : (next id : ℕ) (values : List Value) (rows : List Row) → AllBelow next rows → AllBelow next (map (with_values id values) rows)
below_values next id values [] h = tt
below_values next id values (r ∷ rows) h = (subst (λ k. k < next) (sym (same_id id values r)) h.0, below_values next id values rows h.1)

pub holds_values : (next : ℕ) (columns : List ColumnDef) (id : ℕ) (values : List Value) (rows : List Row) → Fits columns values → HoldsAt next columns rows → HoldsAt next columns (map (with_values id values) rows)
holds_values next columns id values rows f h = record { fit = fit_values columns id values rows f h.fit; rise = rise_values 1 id values rows h.rise; below = below_values next id values rows h.below }

-- the refusal of the row comes first
pub refused_first : (T U : Type 0) (o next : Option RelFault) (e : RelFault) → IsRefusedBy {T = T} o (Err e) → IsRefusedBy {T = U} (or_next o next) (Err e)
refused_first T U o next fault.RowTooLong h = rw h refl
refused_first T U o next (fault.KeyTooLong name) h = rw h refl
refused_first T U o next fault.IdsSpent h = rw h refl
refused_first T U o next fault.TableLimit h = rw h refl
refused_first T U o next (fault.Trouble t) h = tt

-- the refusals of a row that is inserted, by what is kept
pub row_refusal_kept : (table next : ℕ) (values : List Value) (schema : Schema) (rows : List (List Row)) → Hold next schema.tables rows → row_refusal table (row_of next values) (schema_of (db_with next schema rows)) ≡ row_refusal table (row_of next values) schema
row_refusal_kept table next values schema rows h = ap (λ (s : Schema). row_refusal table (row_of next values) s) (schema_with next schema rows (hold_length next schema.tables rows h))

last-true : (n : ℕ) → last_id < n → nat_lt last_id n ≡ true
last-true n h = grind (arith, nat_tests)

last-false : (n : ℕ) → n ≤ last_id → nat_lt last_id n ≡ false
last-false n h = grind (arith, nat_tests)

-- a row that may stand is refused where the ids are spent, and only there
pub refused_spent : (table next : ℕ) (values : List Value) (schema : Schema) (rows : List (List Row)) → Hold next schema.tables rows → ◌≡◌ {A = Option RelFault} (row_refusal table (row_of next values) schema) None → last_id < next → insert_refusal table values (db_with next schema rows) ≡ Some fault.IdsSpent
refused_spent table next values schema rows h e l = rw (row_refusal_kept table next values schema rows h, e, last-true next l) refl

pub refused_never : (table next : ℕ) (values : List Value) (schema : Schema) (rows : List (List Row)) → Hold next schema.tables rows → ◌≡◌ {A = Option RelFault} (row_refusal table (row_of next values) schema) None → next ≤ last_id → insert_refusal table values (db_with next schema rows) ≡ None
refused_never table next values schema rows h e l = rw (row_refusal_kept table next values schema rows h, e, last-false next l) refl

-- the same at the exit of a `?`
pub refused_exit : (T U : Type 0) (o next : Option RelFault) (f : RelFault) (r : Result U RelFault) → IsErrAnd r (λ e. e ≡ f) → IsRefusedBy {T = T} o (Err f) → IsRefusedBy {T = U} (or_next o next) r
refused_exit T U o next f (Ok x) h g = absurd h
refused_exit T U o next f (Err e) h g = subst (λ (x : RelFault). IsRefusedBy {T = U} (or_next o next) (Err x)) (sym h) (refused_first T U o next f g)

pub insert_exit : (T U : Type 0) (table next : ℕ) (values : List Value) (schema : Schema) (rows : List (List Row)) (f : RelFault) (r : Result U RelFault) → Hold next schema.tables rows → IsErrAnd r (λ e. e ≡ f) →
    IsRefusedBy {T = T} (row_refusal table (row_of next values) schema) (Err f) → IsRefusedBy {T = U} (insert_refusal table values (db_with next schema rows)) r
insert_exit T U table next values schema rows f r h e g =
    refused_exit T U (row_refusal table (row_of next values) (schema_of (db_with next schema rows))) _ f r e (subst (λ (o : Option RelFault). IsRefusedBy {T = T} o (Err f)) (sym (row_refusal_kept table next values schema rows h)) g)

-- a list taken apart at a place, and put together again with another member there
pub changed-parts : {A : Type 0} (f : A → A) (xs : List A) (n : ℕ) (d : A) → n < length xs → (take n xs ++ f (get_or xs n d) ∷ []) ++ drop (suc n) xs ≡ changed_at n f xs
changed-parts f [] n d h = absurd (omega arith)
changed-parts f (x ∷ xs) zero d h = refl
changed-parts f (x ∷ xs) (suc n) d h = ap (λ ys. x ∷ ys) (changed-parts f xs n d (omega arith))

pub table_parts : (columns : List ColumnDef) (tables : List TableSchema) (n : ℕ) (t : TableSchema) (name : List ℕ) → n < length tables → name ≡ (get_or tables n t).name →
    (take n tables ++ record { name = name; columns = columns } ∷ []) ++ drop (n + 1) tables ≡ changed_at n (with_columns columns) tables
table_parts columns tables n t name h m =
    let own : ◌≡◌ {A = TableSchema} (record { name = name; columns = columns }) (with_columns columns (get_or tables n t)) = ap (λ (k : List ℕ). with_columns columns (record { name = k; columns = columns })) m in
    rw (add-one, own) (changed-parts (with_columns columns) tables n t h)
