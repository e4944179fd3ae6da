-- A change leaves the tables and indexes that it is not about.
use Rattle.std.proofs.Common.{◌≡◌, ℕ, zero, suc, Bool, true, false, cond, List, [], ◌∷◌, map, filter, find, remove, slice_get, Option, Some, None, refl, sym, ap, subst, ◌∙◌}
use Rattle.std.specs.Str.{bytes_eq}
use Rattle.ql_syntax.specs.declared.statement.ColumnDef.{ColumnDef}
use Rattle.ql_rel.specs.declared.db.Db.{Db}
use Rattle.ql_rel.specs.declared.db.Table.{Table}
use Rattle.ql_rel.specs.declared.schema.Index.{Index}
use Rattle.ql_rel.specs.declared.schema.TableSchema.{TableSchema}
use Rattle.ql_rel.specs.ChangeLaws.{is_table_named, is_index_named, LeavesTables, LeavesIndexes, LeavesThose}
use Rattle.ql_rel.specs.Changes.{changed_at, new_table, table_created, table_dropped, is_of_other, with_column, without_column, column_added, column_dropped, is_not_by, index_created, index_dropped}
use Rattle.ql_rel.specs.Databases.{schema_of, table_schema, name_if, name_at, column_name_at}
use Rattle.ql_rel.specs.Names.{comes_before, placed}

-- what stands in a list with one member more is found as before, where the test is false of that member
found_placed : {A : Type 0} (name : A → List ℕ) (p : A → Bool) (x : A) (xs : List A) → p x ≡ false → find p (placed name x xs) ≡ find p xs
found_placed name p x [] e = rw e refl
found_placed {A = A} name p x (y ∷ ys) e =
    let rest = found_placed name p x ys e in
    elim (comes_before (name x) (name y)) as (λ b. find p (cond b (x ∷ y ∷ ys) (y ∷ placed name x ys)) ≡ find p (y ∷ ys)) [
      | true ↦ rw e refl
      | false ↦ ap (λ (found : Option A). cond (p y) (Some y) found) rest
    ]

-- the test is false of the member at a place
abbrev IsFalseAt : {A : Type 0} → (A → Bool) → Option A → Type 0
IsFalseAt p None = Unit {0}
IsFalseAt p (Some x) = p x ≡ false

found_removed : {A : Type 0} (p : A → Bool) (n : ℕ) (xs : List A) → IsFalseAt p (slice_get xs n) → find p (remove xs n) ≡ find p xs
found_removed p zero [] e = refl
found_removed p (suc n) [] e = refl
found_removed p zero (x ∷ xs) e = rw e refl
found_removed {A = A} p (suc n) (x ∷ xs) e = ap (λ (found : Option A). cond (p x) (Some x) found) (found_removed p n xs e)

found_changed : {A : Type 0} (p : A → Bool) (f : A → A) (n : ℕ) (xs : List A) → ((x : A) → p (f x) ≡ p x) → IsFalseAt p (slice_get xs n) → find p (changed_at n f xs) ≡ find p xs
found_changed p f n [] k e = refl
found_changed p f zero (x ∷ xs) k e = rw (k x, e) refl
found_changed {A = A} p f (suc n) (x ∷ xs) k e = ap (λ (found : Option A). cond (p x) (Some x) found) (found_changed p f n xs k e)

some_same : {A : Type 0} (x y : A) → Some x ≡ Some y → x ≡ y
some_same x y e = cc

-- what is found and passes a filter is found behind it
found_filtered : {A : Type 0} (p q : A → Bool) (x : A) (xs : List A) → find p xs ≡ Some x → q x ≡ true → find p (filter q xs) ≡ Some x
found_filtered p q x [] f e = absurd (cc)
found_filtered p q x (y ∷ ys) f e =
    let rest = found_filtered p q x ys in
    let step : (b : Bool) → p y ≡ b → cond b (Some y) (find p ys) ≡ Some x → find p (filter q (y ∷ ys)) ≡ Some x = elim [
      | true ↦ λ t g.
          let same : y ≡ x = some_same y x g in
          let passes : q y ≡ true = ap q same ∙ e in
          rw (passes, t) g
      | false ↦ λ t g. elim (q y) as (λ b. find p (cond b (y ∷ filter q ys) (filter q ys)) ≡ Some x) [ true ↦ rw t (rest g e) | false ↦ rest g e ]
    ] in
    step (p y) refl f

none_filtered : {A : Type 0} (p q : A → Bool) (xs : List A) → find p xs ≡ None → find p (filter q xs) ≡ None
none_filtered p q [] f = refl
none_filtered p q (y ∷ ys) f =
    let rest = none_filtered p q ys in
    let step : (b : Bool) → p y ≡ b → cond b (Some y) (find p ys) ≡ None → find p (filter q (y ∷ ys)) ≡ None = elim [
      | true ↦ λ t g. absurd (cc)
      | false ↦ λ t g. elim (q y) as (λ b. find p (cond b (y ∷ filter q ys) (filter q ys)) ≡ None) [ true ↦ rw t (rest g) | false ↦ rest g ]
    ] in
    step (p y) refl f

-- the table at a place has another name
other_at : (other : List ℕ) (n : ℕ) (tables : List Table) → bytes_eq (name_if (slice_get (map table_schema tables) n)) other ≡ false → IsFalseAt (is_table_named other) (slice_get tables n)
other_at other n [] e = tt
other_at other zero (t ∷ tables) e = e
other_at other (suc n) (t ∷ tables) e = other_at other n tables e

pub leaves_created : (t : TableSchema) (db : Db) → LeavesTables t.name db (table_created t db)
leaves_created t db other e = found_placed (λ (u : Table). u.name) (is_table_named other) (new_table t) db.tables e

pub leaves_dropped : (n : ℕ) (db : Db) → LeavesTables (name_at n (schema_of db)) db (table_dropped n db)
leaves_dropped n db other e = found_removed (is_table_named other) n db.tables (other_at other n db.tables e)

pub leaves_widened : (n : ℕ) (column : ColumnDef) (db : Db) → LeavesTables (name_at n (schema_of db)) db (column_added n column db)
leaves_widened n column db other e = found_changed (is_table_named other) (with_column column) n db.tables (λ t. refl) (other_at other n db.tables e)

pub leaves_narrowed : (n k : ℕ) (db : Db) → LeavesTables (name_at n (schema_of db)) db (column_dropped n k db)
leaves_narrowed n k db other e = found_changed (is_table_named other) (without_column k) n db.tables (λ t. refl) (other_at other n db.tables e)

pub those_dropped : (n : ℕ) (db : Db) → LeavesThose (is_of_other (name_at n (schema_of db))) db (table_dropped n db)
those_dropped n db = record {
  kept = λ name index f e. found_filtered (is_index_named name) (is_of_other (name_at n (schema_of db))) index db.indexes f e;
  none = λ name f. none_filtered (is_index_named name) (is_of_other (name_at n (schema_of db))) db.indexes f;
}

pub those_narrowed : (n k : ℕ) (db : Db) → LeavesThose (is_not_by (name_at n (schema_of db)) (column_name_at n k (schema_of db))) db (column_dropped n k db)
those_narrowed n k db =
    let stays : Index → Bool = is_not_by (name_at n (schema_of db)) (column_name_at n k (schema_of db)) in
    record { kept = λ name index f e. found_filtered (is_index_named name) stays index db.indexes f e; none = λ name f. none_filtered (is_index_named name) stays db.indexes f }

pub leaves_indexed : (index : Index) (db : Db) → LeavesIndexes index.name db (index_created index db)
leaves_indexed index db other e = found_placed (λ (i : Index). i.name) (is_index_named other) index db.indexes e

pub leaves_unindexed : (n : ℕ) (index : Index) (db : Db) → slice_get db.indexes n ≡ Some index → LeavesIndexes index.name db (index_dropped n db)
leaves_unindexed n index db there other e = found_removed (is_index_named other) n db.indexes (subst (IsFalseAt (is_index_named other)) (sym there) e)
