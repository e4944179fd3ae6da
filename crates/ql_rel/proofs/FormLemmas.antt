-- Changes of rows keep a database well formed.
use Rattle.std.proofs.Common.{◌≡◌, ℕ, zero, suc, ◌+◌, ◌<◌, ◌≤◌, Bool, true, false, cond, ◌==◌, nat_lt, List, [], ◌∷◌, ◌++◌, length, map, filter, slice_get, Option, Some, None, refl, sym, ap, subst, arith}
use Rattle.std.proofs.lemmas.Bool.Decides.{nat_tests}
use Rattle.std.specs.List.{AllByRecursion}
use Rattle.ql_value.specs.declared.value.Value.{Value}
use Rattle.ql_syntax.specs.declared.statement.ColumnDef.{ColumnDef}
use Rattle.ql_rel.specs.declared.bounds.TheConstants.{LAST_ID}
use Rattle.ql_rel.specs.declared.db.Db.{Db}
use Rattle.ql_rel.specs.declared.db.Row.{Row}
use Rattle.ql_rel.specs.declared.db.Table.{Table}
use Rattle.ql_rel.specs.declared.fault.RelFault.{RelFault}
use Rattle.ql_rel.specs.declared.fault.RelFault.TheVariants as fault
use Rattle.ql_rel.specs.declared.schema.Index.{Index}
use Rattle.ql_rel.specs.declared.schema.Schema.{Schema}
use Rattle.ql_rel.specs.Changes.{changed_at, with_rows, rows_changed, with_row, row_of, with_values, is_other, no_rows, inserted, changed, removed, truncated}
use Rattle.ql_rel.specs.Databases.{empty_db, schema_of, table_schema, columns_if, name_if, columns_at, name_at, rows_if, rows_at}
use Rattle.ql_rel.specs.Limits.{row_too_long, first_long_key, IsWithin}
use Rattle.ql_rel.specs.Names.{IsByName, table_names}
use Rattle.ql_rel.specs.Refusals.{row_refusal, insert_refusal, change_refusal, or_next, refused_if, key_refusal, are_ids_spent}
use Rattle.ql_rel.specs.WellFormed.{Fits, AllFit, Rise, AllBelow, IsShort, HoldsRows, IsMade, IsWellFormed}
use Rattle.ql_rel.proofs.ChangeLemmas.{schema_kept, rise_push, below_push, below_more, rise_values, below_values, rise_filter, below_filter}

-- a row that is not refused is short
pub record IsShortAs (name : List ℕ) (columns : List ColumnDef) (indexes : List Index) (row : Row) : Type 0 where
  pub size : row_too_long row.values ≡ false
  pub keys : first_long_key name columns indexes row ≡ None

not_key : (o : Option (List ℕ)) → ◌≡◌ {A = Option RelFault} (key_refusal o) None → o ≡ None
not_key None e = refl
not_key (Some name) e = absurd (cc)

pub short_by : (b : Bool) (o : Option (List ℕ)) → ◌≡◌ {A = Option RelFault} (or_next (refused_if b fault.RowTooLong) (key_refusal o)) None → (b ≡ false) × (o ≡ None)
short_by true o e = absurd (cc)
short_by false o e = (refl, not_key o e)

pub short_row : (n : ℕ) (row : Row) (schema : Schema) → ◌≡◌ {A = Option RelFault} (row_refusal n row schema) None → IsShortAs (name_at n schema) (columns_at n schema) schema.indexes row
short_row n row schema e =
    let parts = short_by (row_too_long row.values) (first_long_key (name_at n schema) (columns_at n schema) schema.indexes row) e in
    record { size = parts.0; keys = parts.1 }

-- what the rows of a table keep, with the next id and the indexes written out
pub record Keeps (next : ℕ) (name : List ℕ) (columns : List ColumnDef) (indexes : List Index) (rows : List Row) : Type 0 where
  pub fit : AllFit columns rows
  pub rise : Rise 1 rows
  pub below : AllBelow next rows
  pub short : AllByRecursion (IsShortAs name columns indexes) rows

to_short : (t : Table) (indexes : List Index) (rows : List Row) → AllByRecursion (IsShort t indexes) rows → AllByRecursion (IsShortAs t.name t.columns indexes) rows
to_short t indexes [] h = tt
to_short t indexes (r ∷ rows) h = (record { size = h.0.size; keys = h.0.keys }, to_short t indexes rows h.1)

from_short : (t : Table) (indexes : List Index) (rows : List Row) → AllByRecursion (IsShortAs t.name t.columns indexes) rows → AllByRecursion (IsShort t indexes) rows
from_short t indexes [] h = tt
from_short t indexes (r ∷ rows) h = (record { size = h.0.size; keys = h.0.keys }, from_short t indexes rows h.1)

to_keeps : (db : Db) (t : Table) → HoldsRows db t → Keeps db.next_id t.name t.columns db.indexes t.rows
to_keeps db t h = record { fit = h.fit; rise = h.rise; below = h.below; short = to_short t db.indexes t.rows h.short }

from_keeps : (db : Db) (t : Table) → Keeps db.next_id t.name t.columns db.indexes t.rows → HoldsRows db t
from_keeps db t h = record { fit = h.fit; rise = h.rise; below = h.below; short = from_short t db.indexes t.rows h.short }

pub all_well : (db new : Db) (tables : List Table) → ((t : Table) → Keeps db.next_id t.name t.columns db.indexes t.rows → Keeps new.next_id t.name t.columns new.indexes t.rows) → AllByRecursion (HoldsRows db) tables → AllByRecursion (HoldsRows new) tables
all_well db new [] k h = tt
all_well db new (t ∷ tables) k h = (from_keeps new t (k t (to_keeps db t h.0)), all_well db new tables k h.1)

-- what holds of all tables holds after a change of one, where it holds of that one's new rows
rows_well : (db new : Db) (n : ℕ) (f : List Row → List Row) (tables : List Table) → db.indexes ≡ new.indexes →
    ((t : Table) → Keeps db.next_id t.name t.columns db.indexes t.rows → Keeps new.next_id t.name t.columns new.indexes t.rows) →
    ((rows : List Row) → Keeps db.next_id (name_if (slice_get (map table_schema tables) n)) (columns_if (slice_get (map table_schema tables) n)) db.indexes rows →
    Keeps new.next_id (name_if (slice_get (map table_schema tables) n)) (columns_if (slice_get (map table_schema tables) n)) new.indexes (f rows)) →
    AllByRecursion (HoldsRows db) tables → AllByRecursion (HoldsRows new) (changed_at n (with_rows f) tables)
rows_well db new n f [] e k g h = tt
rows_well db new zero f (t ∷ tables) e k g h = (from_keeps new (with_rows f t) (g t.rows (to_keeps db t h.0)), all_well db new tables k h.1)
rows_well db new (suc n) f (t ∷ tables) e k g h = (from_keeps new t (k t (to_keeps db t h.0)), rows_well db new n f tables e k g h.1)

none_left : {A : Type 0} (n : ℕ) (f : A → A) (xs : List A) → changed_at n f xs ≡ [] → xs ≡ []
none_left n f [] e = refl
none_left zero f (x ∷ xs) e = absurd (cc)
none_left (suc n) f (x ∷ xs) e = absurd (cc)

kept_in : (db : Db) (n : ℕ) (tables : List Table) → AllByRecursion (HoldsRows db) tables
    → Keeps db.next_id (name_if (slice_get (map table_schema tables) n)) (columns_if (slice_get (map table_schema tables) n)) db.indexes (rows_if (slice_get tables n))
kept_in db n [] h = record { fit = tt; rise = tt; below = tt; short = tt }
kept_in db zero (t ∷ tables) h = to_keeps db t h.0
kept_in db (suc n) (t ∷ tables) h = kept_in db n tables h.1

-- what the rows of the table at a place keep
pub kept_at : (db : Db) (n : ℕ) → IsWellFormed db → Keeps db.next_id (name_at n (schema_of db)) (columns_at n (schema_of db)) db.indexes (rows_at n db)
kept_at db n w = kept_in db n db.tables w.rows

-- a change of rows that keeps what the table holds
pub well_rows : (db : Db) (n : ℕ) (f : List Row → List Row) → IsWellFormed db →
    ((rows : List Row) → Keeps db.next_id (name_at n (schema_of db)) (columns_at n (schema_of db)) db.indexes rows → Keeps db.next_id (name_at n (schema_of db)) (columns_at n (schema_of db)) db.indexes (f rows)) → IsWellFormed (rows_changed n f db)
well_rows db n f w g = record {
  made = subst IsMade (sym (schema_kept n f db)) w.made;
  within = subst IsWithin (sym (schema_kept n f db)) w.within;
  tables = subst (λ (s : Schema). IsByName (table_names s.tables)) (sym (schema_kept n f db)) w.tables;
  indexes = w.indexes;
  begun = w.begun;
  left = w.left;
  fresh = λ e. w.fresh (none_left n (with_rows f) db.tables e);
  rows = rows_well db (rows_changed n f db) n f db.tables refl (λ t k. k) g w.rows;
}

fit_push : (columns : List ColumnDef) (rows : List Row) (row : Row) → AllFit columns rows → Fits columns row.values → AllFit columns (rows ++ row ∷ [])
fit_push columns [] row h f = (f, tt)
fit_push columns (r ∷ rows) row h f = (h.0, fit_push columns rows row h.1 f)

short_push : (name : List ℕ) (columns : List ColumnDef) (indexes : List Index) (rows : List Row) (row : Row) → AllByRecursion (IsShortAs name columns indexes) rows → IsShortAs name columns indexes row → AllByRecursion (IsShortAs name columns indexes) (rows ++ row ∷ [])
short_push name columns indexes [] row h s = (s, tt)
short_push name columns indexes (r ∷ rows) row h s = (h.0, short_push name columns indexes rows row h.1 s)

keeps_more : (next : ℕ) (name : List ℕ) (columns : List ColumnDef) (indexes : List Index) (rows : List Row) → Keeps next name columns indexes rows → Keeps (next + 1) name columns indexes rows
keeps_more next name columns indexes rows k = record { fit = k.fit; rise = k.rise; below = below_more next rows k.below; short = k.short }

keeps_push : (next : ℕ) (name : List ℕ) (columns : List ColumnDef) (indexes : List Index) (values : List Value) (rows : List Row) → 1 ≤ next → Fits columns values → IsShortAs name columns indexes (row_of next values) →
    Keeps next name columns indexes rows → Keeps (next + 1) name columns indexes (with_row (row_of next values) rows)
keeps_push next name columns indexes values rows o f s k = record {
  fit = fit_push columns rows (row_of next values) k.fit f;
  rise = rise_push 1 rows (row_of next values) k.rise k.below o;
  below = below_push (next + 1) rows (row_of next values) (below_more next rows k.below) (omega arith);
  short = short_push name columns indexes rows (row_of next values) k.short s;
}

pub both_none : (o k : Option RelFault) → or_next o k ≡ None → (o ≡ None) × (k ≡ None)
both_none None k e = (refl, e)
both_none (Some f) k e = absurd (cc)

pub test_none : (b : Bool) (f : RelFault) → ◌≡◌ {A = Option RelFault} (refused_if b f) None → b ≡ false
test_none true f e = absurd (cc)
test_none false f e = refl

last-le : (n : ℕ) → nat_lt LAST_ID n ≡ false → n ≤ LAST_ID
last-le n h = grind (arith, nat_tests)

pub well_inserted : (n : ℕ) (values : List Value) (db : Db) → IsWellFormed db → n < length db.tables → Fits (columns_at n (schema_of db)) values → ◌≡◌ {A = Option RelFault} (insert_refusal n values db) None → IsWellFormed (inserted n values db)
well_inserted n values db w l f e =
    let parts = both_none (row_refusal n (row_of db.next_id values) (schema_of db)) (refused_if (are_ids_spent db) fault.IdsSpent) e in
    let short = short_row n (row_of db.next_id values) (schema_of db) parts.0 in
    let few : db.next_id ≤ LAST_ID = last-le db.next_id (test_none (are_ids_spent db) fault.IdsSpent parts.1) in
    let add = with_row (row_of db.next_id values) in
    record {
      made = subst IsMade (sym (schema_kept n add db)) w.made;
      within = subst IsWithin (sym (schema_kept n add db)) w.within;
      tables = subst (λ (s : Schema). IsByName (table_names s.tables)) (sym (schema_kept n add db)) w.tables;
      indexes = w.indexes;
      begun = omega arith;
      left = omega arith;
      fresh = λ e. absurd (let none = none_left n (with_rows add) db.tables e in let zero_of : length db.tables ≡ 0 = ap length none in omega arith);
      rows = rows_well db (inserted n values db) n add db.tables refl (λ t k. keeps_more db.next_id t.name t.columns db.indexes t.rows k) (λ rows k. keeps_push db.next_id _ _ db.indexes values rows w.begun f short k) w.rows;
    }

all_filter : {A : Type 0} (P : A → Type 0) (p : A → Bool) (xs : List A) → AllByRecursion P xs → AllByRecursion P (filter p xs)
all_filter P p [] h = tt
all_filter P p (x ∷ xs) h =
    let rest = all_filter P p xs h.1 in
    elim (p x) as (λ b. AllByRecursion P (cond b (x ∷ filter p xs) (filter p xs))) [ true ↦ (h.0, rest) | false ↦ rest ]

-- some of the rows of a table
pub well_filtered : (n : ℕ) (p : Row → Bool) (db : Db) → IsWellFormed db → IsWellFormed (rows_changed n (filter p) db)
well_filtered n p db w = well_rows db n (filter p) w (λ rows k. record {
  fit = all_filter (λ (r : Row). Fits (columns_at n (schema_of db)) r.values) p rows k.fit;
  rise = rise_filter 1 p rows k.rise;
  below = below_filter db.next_id p rows k.below;
  short = all_filter (IsShortAs (name_at n (schema_of db)) (columns_at n (schema_of db)) db.indexes) p rows k.short;
})

pub well_removed : (n id : ℕ) (db : Db) → IsWellFormed db → IsWellFormed (removed n id db)
well_removed n id db w = well_filtered n (is_other id) db w

pub well_truncated : (n : ℕ) (db : Db) → IsWellFormed db → IsWellFormed (truncated n db)
well_truncated n db w = well_rows db n no_rows w (λ rows k. record { fit = tt; rise = tt; below = tt; short = tt })

fit_values : (columns : List ColumnDef) (id : ℕ) (values : List Value) (rows : List Row) → Fits columns values → AllFit columns rows → AllFit columns (map (with_values id values) rows)
fit_values columns id values [] f h = tt
fit_values columns id values (r ∷ rows) f h =
    (elim (r.id == id) as (λ b. Fits columns (cond b (row_of r.id values) r).values) [ true ↦ f | false ↦ h.0 ], fit_values columns id values rows f h.1)

eq-true : (a b : ℕ) → (a == b) ≡ true → a ≡ b
eq-true a b h = grind (arith, nat_tests)

short_one : (name : List ℕ) (columns : List ColumnDef) (indexes : List Index) (id : ℕ) (values : List Value) (r : Row) (b : Bool) → (r.id == id) ≡ b → IsShortAs name columns indexes (row_of id values) → IsShortAs name columns indexes r → IsShortAs name columns indexes (cond b (row_of r.id values) r)
short_one name columns indexes id values r true e s h = subst (λ k. IsShortAs name columns indexes (row_of k values)) (sym (eq-true r.id id e)) s
short_one name columns indexes id values r false e s h = h

short_values : (name : List ℕ) (columns : List ColumnDef) (indexes : List Index) (id : ℕ) (values : List Value) (rows : List Row) → IsShortAs name columns indexes (row_of id values) → AllByRecursion (IsShortAs name columns indexes) rows → AllByRecursion (IsShortAs name columns indexes) (map (with_values id values) rows)
short_values name columns indexes id values [] s h = tt
short_values name columns indexes id values (r ∷ rows) s h = (short_one name columns indexes id values r (r.id == id) refl s h.0, short_values name columns indexes id values rows s h.1)

pub well_changed : (n id : ℕ) (values : List Value) (db : Db) → IsWellFormed db → Fits (columns_at n (schema_of db)) values → ◌≡◌ {A = Option RelFault} (change_refusal n id values (schema_of db)) None → IsWellFormed (changed n id values db)
well_changed n id values db w f e =
    let short = short_row n (row_of id values) (schema_of db) e in
    well_rows db n (map (with_values id values)) w (λ rows k. record {
      fit = fit_values (columns_at n (schema_of db)) id values rows f k.fit;
      rise = rise_values 1 id values rows k.rise;
      below = below_values db.next_id id values rows k.below;
      short = short_values (name_at n (schema_of db)) (columns_at n (schema_of db)) db.indexes id values rows short k.short;
    })

pub well_empty : IsWellFormed empty_db
well_empty = record {
  made = record { read = tt; accepted = refl };
  within = record { tables = omega arith; indexes = omega arith; columns = tt };
  tables = tt;
  indexes = tt;
  begun = omega arith;
  left = omega arith;
  fresh = λ e. refl;
  rows = tt;
}
