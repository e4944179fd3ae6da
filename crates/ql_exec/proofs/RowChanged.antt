-- Rows of one table that are changed where they stand.
use Rattle.std.proofs.Common.{◌≡◌, ℕ, zero, suc, ◌<◌, ◌≤◌, Bool, true, false, ◌==◌, nat_lt, List, [], ◌∷◌, ◌++◌, length, map, filter, find, slice_get, Some, refl, sym, ap, subst, ◌∙◌, arith}
use Rattle.std.proofs.lemmas.Bool.Decides.{nat_tests}
use Rattle.std.specs.Prelude.{IsSome}
use Rattle.std.specs.List.{AllByRecursion}
use Rattle.ql_value.specs.declared.value.Value.{Value}
use Rattle.ql_rel.specs.declared.db.Db.{Db}
use Rattle.ql_rel.specs.declared.db.Row.{Row}
use Rattle.ql_rel.specs.declared.db.Table.{Table}
use Rattle.ql_rel.specs.Changes.{changed_at, with_rows, rows_changed, row_of, with_values, is_other, changed, removed}
use Rattle.ql_rel.specs.Databases.{rows_if, rows_at}
use Rattle.ql_rel.specs.Rels.{has_id, is_after, row_after, row_with}
use Rattle.ql_exec.specs.RowChanges.{Stands}

-- a change of the rows that are there
rows_in : (n : ℕ) (f : List Row → List Row) (tables : List Table) → changed_at n (with_rows f) tables ≡ changed_at n (with_rows (λ _. f (rows_if (slice_get tables n)))) tables
rows_in n f [] = refl
rows_in zero f (t ∷ tables) = refl
rows_in (suc n) f (t ∷ tables) = ap (λ (ts : List Table). t ∷ ts) (rows_in n f tables)

abbrev with_tables : Db → List Table → Db
with_tables db tables = record db { tables = tables }

pub rows_here : (n : ℕ) (f : List Row → List Row) (rows : List Row) (db : Db) → f (rows_at n db) ≡ rows → rows_changed n f db ≡ rows_changed n (λ _. rows) db
rows_here n f rows db e = ap (with_tables db) (rows_in n f db.tables) ∙ ap (λ (rs : List Row). rows_changed n (λ _. rs) db) e

twice_in : (n : ℕ) (a b : List Row) (tables : List Table) → changed_at n (with_rows (λ _. b)) (changed_at n (with_rows (λ _. a)) tables) ≡ changed_at n (with_rows (λ _. b)) tables
twice_in n a b [] = refl
twice_in zero a b (t ∷ tables) = refl
twice_in (suc n) a b (t ∷ tables) = ap (λ (ts : List Table). t ∷ ts) (twice_in n a b tables)

-- of two changes the second one counts
pub rows_twice : (n : ℕ) (a b : List Row) (db : Db) → rows_changed n (λ _. b) (rows_changed n (λ _. a) db) ≡ rows_changed n (λ _. b) db
rows_twice n a b db = ap (with_tables db) (twice_in n a b db.tables)

there_in : (n : ℕ) (rows : List Row) (tables : List Table) → n < length tables → rows_if (slice_get (changed_at n (with_rows (λ _. rows)) tables) n) ≡ rows
there_in n rows [] h = absurd (omega (arith, h))
there_in zero rows (t ∷ tables) h = refl
there_in (suc n) rows (t ∷ tables) h = there_in n rows tables (omega (arith, h))

-- the rows of a table that has these
pub rows_there : (n : ℕ) (rows : List Row) (db : Db) → n < length db.tables → rows_at n (rows_changed n (λ _. rows) db) ≡ rows
rows_there n rows db h = there_in n rows db.tables h

same_in : (n : ℕ) (tables : List Table) → changed_at n (with_rows (λ _. rows_if (slice_get tables n))) tables ≡ tables
same_in n [] = refl
same_in zero (t ∷ tables) = refl
same_in (suc n) (t ∷ tables) = ap (λ (ts : List Table). t ∷ ts) (same_in n tables)

-- a table that keeps its rows
pub rows_same : (n : ℕ) (rows : List Row) (db : Db) → rows_at n db ≡ rows → db ≡ rows_changed n (λ _. rows) db
rows_same n rows db e = sym (ap (with_tables db) (same_in n db.tables)) ∙ ap (λ (rs : List Row). rows_changed n (λ _. rs) db) e

tables_in : (n : ℕ) (f : List Row → List Row) (tables : List Table) → length (changed_at n (with_rows f) tables) ≡ length tables
tables_in n f [] = refl
tables_in zero f (t ∷ tables) = refl
tables_in (suc n) f (t ∷ tables) = ap suc (tables_in n f tables)

pub tables_kept : (n : ℕ) (f : List Row → List Row) (db : Db) → length (rows_changed n f db).tables ≡ length db.tables
tables_kept n f db = tables_in n f db.tables

-- no row has the id
abbrev Apart : ℕ → List Row → Type 0
Apart id rows = AllByRecursion (λ (r : Row). (r.id == id) ≡ false) rows

apart_low : (id : ℕ) (rows : List Row) → AllByRecursion (λ (r : Row). r.id < id) rows → Apart id rows
apart_low id [] h = tt
apart_low id (r ∷ rows) h = (let here : r.id < id = h.0 in grind (arith, nat_tests), apart_low id rows h.1)

apart_high : (id : ℕ) (rows : List Row) → AllByRecursion (λ (r : Row). id < r.id) rows → Apart id rows
apart_high id [] h = tt
apart_high id (r ∷ rows) h = (let here : id < r.id = h.0 in grind (arith, nat_tests), apart_high id rows h.1)

same_id : (n : ℕ) → (n == n) ≡ true
same_id n = grind (arith, nat_tests)

others_stay : (id : ℕ) (rows : List Row) → Apart id rows → filter (is_other id) rows ≡ rows
others_stay id [] h = refl
others_stay id (r ∷ rows) h = rw h.0 (ap (λ (rs : List Row). r ∷ rs) (others_stay id rows h.1))

one_goes : (before : List Row) (row : Row) (after : List Row) → Apart row.id before → Apart row.id after → filter (is_other row.id) (before ++ row ∷ after) ≡ before ++ after
one_goes [] row after b a = rw (same_id row.id) (others_stay row.id after a)
one_goes (r ∷ before) row after b a = rw b.0 (ap (λ (rs : List Row). r ∷ rs) (one_goes before row after b.1 a))

others_keep : (id : ℕ) (values : List Value) (rows : List Row) → Apart id rows → map (with_values id values) rows ≡ rows
others_keep id values [] h = refl
others_keep id values (r ∷ rows) h = rw h.0 (ap (λ (rs : List Row). r ∷ rs) (others_keep id values rows h.1))

one_changes : (values : List Value) (before : List Row) (row : Row) (after : List Row) → Apart row.id before → Apart row.id after → map (with_values row.id values) (before ++ row ∷ after) ≡ before ++ row_of row.id values ∷ after
one_changes values [] row after b a = rw (same_id row.id) (ap (λ (rs : List Row). row_of row.id values ∷ rs) (others_keep row.id values after a))
one_changes values (r ∷ before) row after b a = rw b.0 (ap (λ (rs : List Row). r ∷ rs) (one_changes values before row after b.1 a))

-- a row that goes, one that gets other values, and one that stays
pub row_gone : (n : ℕ) (row : Row) (before after : List Row) (db : Db) → Stands n row before after db → removed n row.id db ≡ rows_changed n (λ _. before ++ after) db
row_gone n row before after db s =
    rows_here n (filter (is_other row.id)) (before ++ after) db (ap (filter (is_other row.id)) s.rows ∙ one_goes before row after (apart_low row.id before s.low) (apart_high row.id after s.high))

pub row_new : (n : ℕ) (values : List Value) (row : Row) (before after : List Row) (db : Db) → Stands n row before after db → changed n row.id values db ≡ rows_changed n (λ _. before ++ row_of row.id values ∷ after) db
row_new n values row before after db s =
    rows_here n (map (with_values row.id values)) (before ++ row_of row.id values ∷ after) db
    (ap (map (with_values row.id values)) s.rows ∙ one_changes values before row after (apart_low row.id before s.low) (apart_high row.id after s.high))

pub row_stays : (n : ℕ) (row : Row) (before after : List Row) (db : Db) → Stands n row before after db → db ≡ rows_changed n (λ _. before ++ row ∷ after) db
row_stays n row before after db s = rows_same n (before ++ row ∷ after) db s.rows

one_found : (before : List Row) (row : Row) (after : List Row) → Apart row.id before → find (has_id row.id) (before ++ row ∷ after) ≡ Some row
one_found [] row after b = rw (same_id row.id) refl
one_found (r ∷ before) row after b = rw b.0 (one_found before row after b.1)

-- a row that stands in a table is found by its id
pub row_found : (n : ℕ) (row : Row) (before after : List Row) (db : Db) → Stands n row before after db → IsSome (row_with n row.id db)
row_found n row before after db s = rw (ap (find (has_id row.id)) s.rows ∙ one_found before row after (apart_low row.id before s.low)) refl

found_again : (p : Row → Bool) (rows : List Row) → find p (filter p rows) ≡ find p rows
found_again p [] = refl
found_again p (r ∷ rows) =
    let rest = found_again p rows in
    let by : (b : Bool) → p r ≡ b → find p (filter p (r ∷ rows)) ≡ find p (r ∷ rows) = elim [
      | true ↦ λ t. rw (t, t) refl
      | false ↦ λ t. rw t rest
    ] in
    by (p r) refl

none_before : (a : ℕ) (done left : List Row) → AllByRecursion (λ (r : Row). r.id ≤ a) done → find (is_after a) (done ++ left) ≡ find (is_after a) left
none_before a [] left h = refl
none_before a (r ∷ done) left h =
    let low : r.id ≤ a = h.0 in
    let none : nat_lt a r.id ≡ false = grind (arith, nat_tests) in
    rw none (none_before a done left h.1)

-- the first row behind an id, where those before are done
pub row_behind : (n a : ℕ) (done rows : List Row) (db : Db) → n < length db.tables → AllByRecursion (λ (r : Row). r.id ≤ a) done
    → row_after n a (rows_changed n (λ _. done ++ filter (is_after a) rows) db) ≡ find (is_after a) rows
row_behind n a done rows db h low =
    ap (find (is_after a)) (rows_there n (done ++ filter (is_after a) rows) db h) ∙ none_before a done (filter (is_after a) rows) low ∙ found_again (is_after a) rows

all_behind : (a : ℕ) (rows : List Row) → AllByRecursion (λ (r : Row). a < r.id) (filter (is_after a) rows)
all_behind a [] = tt
all_behind a (r ∷ rows) =
    let rest = all_behind a rows in
    let by : (b : Bool) → nat_lt a r.id ≡ b → AllByRecursion (λ (r : Row). a < r.id) (filter (is_after a) (r ∷ rows)) = elim [
      | true ↦ λ t. let over : a < r.id = grind (arith, nat_tests) in rw t (over, rest)
      | false ↦ λ t. rw t rest
    ] in
    by (nat_lt a r.id) refl

lower : (a b : ℕ) (rows : List Row) → a < b → AllByRecursion (λ (r : Row). r.id ≤ a) rows → AllByRecursion (λ (r : Row). r.id < b) rows
lower a b [] l h = tt
lower a b (r ∷ rows) l h = (let here : r.id ≤ a = h.0 in omega (arith, here, l), lower a b rows l h.1)

-- the first row behind an id stands between those that are done and those behind it
pub stands_next : (n a : ℕ) (row : Row) (done rows : List Row) (db : Db) → n < length db.tables → AllByRecursion (λ (r : Row). r.id ≤ a) done → a < row.id → filter (is_after a) rows ≡ row ∷ filter (is_after row.id) rows
    → Stands n row done (filter (is_after row.id) rows) (rows_changed n (λ _. done ++ filter (is_after a) rows) db)
stands_next n a row done rows db h low over e = record {
  there = subst (λ (k : ℕ). n < k) (sym (tables_kept n (λ _. done ++ filter (is_after a) rows) db)) h;
  rows = rows_there n (done ++ filter (is_after a) rows) db h ∙ ap (λ (rs : List Row). done ++ rs) e;
  low = lower a row.id done over low;
  high = all_behind row.id rows;
}
