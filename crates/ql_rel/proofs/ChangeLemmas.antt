-- The laws of changes of rows.
use Rattle.std.proofs.Common.{◌≡◌, ℕ, zero, suc, ◌+◌, ◌<◌, ◌≤◌, Bool, true, false, cond, ◌==◌, List, [], ◌∷◌, ◌++◌, map, filter, find, slice_get, None, refl, sym, ap, subst, arith}
use Rattle.std.proofs.lemmas.Bool.Decides.{nat_tests}
use Rattle.std.specs.List.{AllByRecursion}
use Rattle.ql_value.specs.declared.value.Value.{Value}
use Rattle.ql_rel.specs.declared.db.Db.{Db}
use Rattle.ql_rel.specs.declared.db.Row.{Row}
use Rattle.ql_rel.specs.declared.db.Table.{Table}
use Rattle.ql_rel.specs.declared.schema.TableSchema.{TableSchema}
use Rattle.ql_rel.specs.ChangeLaws.{HasIds, HaveIds}
use Rattle.ql_rel.specs.Changes.{changed_at, with_rows, rows_changed, with_row, row_of, with_values, is_other, no_rows, inserted, changed, removed, truncated}
use Rattle.ql_rel.specs.Databases.{schema_of, table_schema, rows_if, rows_at}
use Rattle.ql_rel.specs.Rels.{has_id}
use Rattle.ql_rel.specs.WellFormed.{Rise, AllBelow}

schemas_kept : (n : ℕ) (f : List Row → List Row) (tables : List Table) → map table_schema (changed_at n (with_rows f) tables) ≡ map table_schema tables
schemas_kept n f [] = refl
schemas_kept zero f (t ∷ tables) = refl
schemas_kept (suc n) f (t ∷ tables) = ap (λ (ts : List TableSchema). table_schema t ∷ ts) (schemas_kept n f tables)

pub schema_kept : (n : ℕ) (f : List Row → List Row) (db : Db) → schema_of (rows_changed n f db) ≡ schema_of db
schema_kept n f db = ap (λ (ts : List TableSchema). record { tables = ts; indexes = db.indexes }) (schemas_kept n f db.tables)

rows_kept : (n k : ℕ) (f : List Row → List Row) (tables : List Table) → (k ≡ n → ⊥) → rows_if (slice_get (changed_at n (with_rows f) tables) k) ≡ rows_if (slice_get tables k)
rows_kept n k f [] d = refl
rows_kept zero zero f (t ∷ tables) d = absurd (d refl)
rows_kept zero (suc k) f (t ∷ tables) d = refl
rows_kept (suc n) zero f (t ∷ tables) d = refl
rows_kept (suc n) (suc k) f (t ∷ tables) d = rows_kept n k f tables (λ e. d (ap suc e))

pub others_kept : (n k : ℕ) (f : List Row → List Row) (db : Db) → (k ≡ n → ⊥) → rows_at k (rows_changed n f db) ≡ rows_at k db
others_kept n k f db d = rows_kept n k f db.tables d

eq-less : (a b : ℕ) → a < b → (a == b) ≡ false
eq-less a b h = grind (arith, nat_tests)

none_with : (next : ℕ) (rows : List Row) → AllBelow next rows → find (has_id next) rows ≡ None
none_with next [] h = refl
none_with next (r ∷ rows) h = rw (eq-less r.id next h.0) (none_with next rows h.1)

fresh_at : (next n : ℕ) (tables : List Table) → AllByRecursion (HasIds next) tables → find (has_id next) (rows_if (slice_get tables n)) ≡ None
fresh_at next n [] h = refl
fresh_at next zero (t ∷ tables) h = none_with next t.rows h.0.below
fresh_at next (suc n) (t ∷ tables) h = fresh_at next n tables h.1

pub fresh_id : (n : ℕ) (db : Db) → HaveIds db → find (has_id db.next_id) (rows_at n db) ≡ None
fresh_id n db h = fresh_at db.next_id n db.tables h

have_changed : (next n : ℕ) (f : List Row → List Row) (tables : List Table) → ((t : Table) → HasIds next t → HasIds next (with_rows f t)) → AllByRecursion (HasIds next) tables → AllByRecursion (HasIds next) (changed_at n (with_rows f) tables)
have_changed next n f [] k h = tt
have_changed next zero f (t ∷ tables) k h = (k t h.0, h.1)
have_changed next (suc n) f (t ∷ tables) k h = (h.0, have_changed next n f tables k h.1)

pub below_more : (next : ℕ) (rows : List Row) → AllBelow next rows → AllBelow (next + 1) rows
below_more next [] h = tt
below_more next (r ∷ rows) h = (omega (arith, h.0), below_more next rows h.1)

ids_more : (next : ℕ) (tables : List Table) → AllByRecursion (HasIds next) tables → AllByRecursion (HasIds (next + 1)) tables
ids_more next [] h = tt
ids_more next (t ∷ tables) h = (record { rise = h.0.rise; below = below_more next t.rows h.0.below }, ids_more next tables h.1)

pub rise_push : (from : ℕ) (rows : List Row) (row : Row) → Rise from rows → AllBelow row.id rows → from ≤ row.id → Rise from (rows ++ row ∷ [])
rise_push from [] row h b l = (l, tt)
rise_push from (r ∷ rows) row h b l = (h.0, rise_push (r.id + 1) rows row h.1 b.1 (omega (arith, b.0)))

pub below_push : (next : ℕ) (rows : List Row) (row : Row) → AllBelow next rows → row.id < next → AllBelow next (rows ++ row ∷ [])
below_push next [] row h l = (l, tt)
below_push next (r ∷ rows) row h l = (h.0, below_push next rows row h.1 l)

have_pushed : (next n : ℕ) (values : List Value) (tables : List Table) → 1 ≤ next → AllByRecursion (HasIds next) tables → AllByRecursion (HasIds (next + 1)) (changed_at n (with_rows (with_row (row_of next values))) tables)
have_pushed next n values [] o h = tt
have_pushed next zero values (t ∷ tables) o h =
    (record { rise = rise_push 1 t.rows (row_of next values) h.0.rise h.0.below o; below = below_push (next + 1) t.rows (row_of next values) (below_more next t.rows h.0.below) (omega arith) }, ids_more next tables h.1)
have_pushed next (suc n) values (t ∷ tables) o h = (record { rise = h.0.rise; below = below_more next t.rows h.0.below }, have_pushed next n values tables o h.1)

pub have_inserted : (n : ℕ) (values : List Value) (db : Db) → 1 ≤ db.next_id → HaveIds db → HaveIds (inserted n values db)
have_inserted n values db o h = have_pushed db.next_id n values db.tables o h

pub same_id : (id : ℕ) (values : List Value) (r : Row) → (with_values id values r).id ≡ r.id
same_id id values r = elim (r.id == id) as (λ b. (cond b (row_of r.id values) r).id ≡ r.id) [ true ↦ refl | false ↦ refl ]

pub rise_values : (from id : ℕ) (values : List Value) (rows : List Row) → Rise from rows → Rise from (map (with_values id values) rows)
rise_values from id values [] h = tt
rise_values from id values (r ∷ rows) h =
    let same = same_id id values r in
    (subst (λ k. from ≤ k) (sym same) h.0, subst (λ k. Rise (k + 1) (map (with_values id values) rows)) (sym same) (rise_values (r.id + 1) id values rows h.1))

pub below_values : (next id : ℕ) (values : List Value) (rows : List Row) → AllBelow next rows → AllBelow next (map (with_values id values) rows)
below_values next id values [] h = tt
below_values next id values (r ∷ rows) h = (subst (λ k. k < next) (sym (same_id id values r)) h.0, below_values next id values rows h.1)

pub have_values : (n id : ℕ) (values : List Value) (db : Db) → HaveIds db → HaveIds (changed n id values db)
have_values n id values db h =
    have_changed db.next_id n (map (with_values id values)) db.tables (λ t k. record { rise = rise_values 1 id values t.rows k.rise; below = below_values db.next_id id values t.rows k.below }) h

pub rise_down : (a b : ℕ) (rows : List Row) → b ≤ a → Rise a rows → Rise b rows
rise_down a b [] l h = tt
rise_down a b (r ∷ rows) l h = (omega (arith, h.0), h.1)

pub below_filter : (next : ℕ) (p : Row → Bool) (rows : List Row) → AllBelow next rows → AllBelow next (filter p rows)
below_filter next p [] h = tt
below_filter next p (r ∷ rows) h =
    let rest = below_filter next p rows h.1 in
    elim (p r) as (λ b. AllBelow next (cond b (r ∷ filter p rows) (filter p rows))) [ true ↦ (h.0, rest) | false ↦ rest ]

pub rise_filter : (from : ℕ) (p : Row → Bool) (rows : List Row) → Rise from rows → Rise from (filter p rows)
rise_filter from p [] h = tt
rise_filter from p (r ∷ rows) h =
    let rest = rise_filter (r.id + 1) p rows h.1 in
    let lower = rise_down (r.id + 1) from (filter p rows) (omega (arith, h.0)) rest in
    elim (p r) as (λ b. Rise from (cond b (r ∷ filter p rows) (filter p rows))) [ true ↦ (h.0, rest) | false ↦ lower ]

pub have_removed : (n id : ℕ) (db : Db) → HaveIds db → HaveIds (removed n id db)
have_removed n id db h =
    have_changed db.next_id n (filter (is_other id)) db.tables (λ t k. record { rise = rise_filter 1 (is_other id) t.rows k.rise; below = below_filter db.next_id (is_other id) t.rows k.below }) h

pub have_truncated : (n : ℕ) (db : Db) → HaveIds db → HaveIds (truncated n db)
have_truncated n db h = have_changed db.next_id n no_rows db.tables (λ t k. record { rise = tt; below = tt }) h
