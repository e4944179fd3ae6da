-- A column that goes keeps a database well formed.
use Rattle.std.proofs.Common.{◌≡◌, ℕ, zero, suc, ◌+◌, ◌<◌, ◌≤◌, min, Bool, true, false, cond, not, ◌&&◌, nat_lt, List, [], ◌∷◌, length, map, filter, remove, slice_get, Option, Some, None, refl, sym, ap, subst, ◌∙◌, arith}
use Rattle.std.proofs.lemmas.Bool.Decides.{nat_tests}
use Rattle.std.proofs.lemmas.List.Edits.{length-remove}
use Rattle.std.proofs.lemmas.List.Sums.{sum_by-cons}
use Rattle.std.specs.List.{sum_by, AllByRecursion}
use Rattle.std.specs.Str.{bytes_eq}
use Rattle.ql_value.specs.Length.{value_length}
use Rattle.ql_value.specs.declared.value.Value.{Value}
use Rattle.ql_syntax.specs.declared.statement.ColumnDef.{ColumnDef}
use Rattle.ql_syntax.specs.declared.statement.Item.{Item}
use Rattle.ql_syntax.specs.declared.statement.Item.TheVariants as item
use Rattle.ql_rel.specs.declared.db.Db.{Db}
use Rattle.ql_rel.specs.declared.db.Row.{Row}
use Rattle.ql_rel.specs.declared.db.Table.{Table}
use Rattle.ql_rel.specs.declared.schema.Index.{Index}
use Rattle.ql_rel.specs.declared.schema.Schema.{Schema}
use Rattle.ql_rel.specs.declared.schema.TableSchema.{TableSchema}
use Rattle.ql_rel.specs.Changes.{changed_at, without_value, without_column, is_by, is_not_by, column_dropped}
use Rattle.ql_rel.specs.Databases.{schema_of, table_schema, columns_if, columns_at, column_name_if, column_name_at, name_if, name_at}
use Rattle.ql_rel.specs.Limits.{is_long_key, value_under, key_of, has_long_key, first_long_key, is_past_column, IsTableWithin, IsWithin}
use Rattle.ql_rel.specs.Names.{IsByName, table_names}
use Rattle.ql_rel.specs.WellFormed.{Fits, AllFit, Rise, AllBelow, IsShort, HoldsRows, IsMade, IsWellFormed}
use Rattle.ql_rel.proofs.AcceptLemmas.{bytes_other, is_not}
use Rattle.ql_rel.proofs.ColumnForms.{map_changed, same_changed, length_changed, all_changed, none_changed}
use Rattle.ql_rel.proofs.FormLemmas.{all_well}
use Rattle.ql_rel.proofs.NameLemmas.{all_of_remove, shorter_remove, shorter_filter, by_name_filter}
use Rattle.ql_rel.proofs.TableForms.{all_short, long_parts}

narrow_values : (k : ℕ) (columns : List ColumnDef) (values : List Value) → Fits columns values → Fits (remove columns k) (remove values k)
narrow_values zero [] [] f = tt
narrow_values (suc k) [] [] f = tt
narrow_values k [] (x ∷ values) f = absurd f
narrow_values k (c ∷ columns) [] f = absurd f
narrow_values zero (c ∷ columns) (x ∷ values) f = f.1
narrow_values (suc k) (c ∷ columns) (x ∷ values) f = (f.0, narrow_values k columns values f.1)

narrow_fit : (k : ℕ) (columns : List ColumnDef) (rows : List Row) → AllFit columns rows → AllFit (remove columns k) (map (without_value k) rows)
narrow_fit k columns [] h = tt
narrow_fit k columns (r ∷ rows) h = (narrow_values k columns r.values h.0, narrow_fit k columns rows h.1)

narrow_rise : (from k : ℕ) (rows : List Row) → Rise from rows → Rise from (map (without_value k) rows)
narrow_rise from k [] h = tt
narrow_rise from k (r ∷ rows) h = (h.0, narrow_rise (r.id + 1) k rows h.1)

narrow_below : (next k : ℕ) (rows : List Row) → AllBelow next rows → AllBelow next (map (without_value k) rows)
narrow_below next k [] h = tt
narrow_below next k (r ∷ rows) h = (h.0, narrow_below next k rows h.1)

-- the row gets no longer

sum_first : (x : Value) (values : List Value) → sum_by value_length (x ∷ values) ≡ value_length x + sum_by value_length values
sum_first x values = sum_by-cons value_length x values

first_gone : (x : Value) (values : List Value) → remove (x ∷ values) zero ≡ values
first_gone x values = refl

later_gone : (k : ℕ) (x : Value) (values : List Value) → remove (x ∷ values) (suc k) ≡ x ∷ remove values k
later_gone k x values = refl

no_less : (l r a b : ℕ) → l ≡ b → r ≡ a + b → l ≤ r
no_less l r a b e f = omega arith

both_more : (l r a b c : ℕ) → l ≡ a + b → r ≡ a + c → b ≤ c → l ≤ r
both_more l r a b c e f h = omega arith

less_bytes : (k : ℕ) (values : List Value) → sum_by value_length (remove values k) ≤ sum_by value_length values
less_bytes zero [] = omega arith
less_bytes (suc k) [] = omega arith
less_bytes zero (x ∷ values) =
    no_less (sum_by value_length (remove (x ∷ values) zero)) (sum_by value_length (x ∷ values)) (value_length x) (sum_by value_length values) (ap (λ ys. sum_by value_length ys) (first_gone x values)) (sum_first x values)
less_bytes (suc k) (x ∷ values) =
    both_more (sum_by value_length (remove (x ∷ values) (suc k))) (sum_by value_length (x ∷ values)) (value_length x) (sum_by value_length (remove values k)) (sum_by value_length values)
    (ap (λ ys. sum_by value_length ys) (later_gone k x values) ∙ sum_first x (remove values k)) (sum_first x values) (less_bytes k values)

shorter : (limit top a b : ℕ) → b ≤ a → nat_lt limit (min (2 + a) top) ≡ false → nat_lt limit (min (2 + b) top) ≡ false
shorter limit top a b l e = grind (arith, nat_tests)

-- the keys in the indexes that are left stay as they are

narrow_under : (name : List ℕ) (k : ℕ) (columns : List ColumnDef) (values : List Value) → Fits columns values → k < length columns → bytes_eq (column_name_if (slice_get columns k)) name ≡ false →
    value_under name (remove columns k) (remove values k) ≡ value_under name columns values
narrow_under name k [] values f l e = absurd (omega arith)
narrow_under name k (c ∷ columns) [] f l e = absurd f
narrow_under name zero (c ∷ columns) (x ∷ values) f l e = rw e refl
narrow_under name (suc k) (c ∷ columns) (x ∷ values) f l e = ap (λ (y : Value). cond (bytes_eq c.name name) x y) (narrow_under name k columns values f.1 (omega (arith, l)) e)

narrow_key : (k : ℕ) (columns : List ColumnDef) (it : Item) (row : Row) → Fits columns row.values → k < length columns → is_by (column_name_if (slice_get columns k)) it ≡ false →
    key_of (remove columns k) it (without_value k row) ≡ key_of columns it row
narrow_key k columns (item.Column name) row f l e = narrow_under name k columns row.values f l (bytes_other name (column_name_if (slice_get columns k)) e)
narrow_key k columns item.Id row f l e = refl

kept_long : (table : List ℕ) (k : ℕ) (columns : List ColumnDef) (row : Row) (i : Index) (b : Bool) → Fits columns row.values → k < length columns → not (b && is_by (column_name_if (slice_get columns k)) i.item) ≡ true →
    (b && is_long_key (key_of columns i.item row)) ≡ false → (b && is_long_key (key_of (remove columns k) i.item (without_value k row))) ≡ false
kept_long table k columns row i false f l e h = refl
kept_long table k columns row i true f l e h = ap is_long_key (narrow_key k columns i.item row f l (is_not (is_by (column_name_if (slice_get columns k)) i.item) e)) ∙ h

narrow_long : (table : List ℕ) (k : ℕ) (columns : List ColumnDef) (indexes : List Index) (row : Row) → Fits columns row.values → k < length columns →
    first_long_key table columns (filter (is_not_by table (column_name_if (slice_get columns k))) indexes) row ≡ None →
    first_long_key table (remove columns k) (filter (is_not_by table (column_name_if (slice_get columns k))) indexes) (without_value k row) ≡ None
narrow_long table k columns [] row f l h = refl
narrow_long table k columns (i ∷ indexes) row f l h =
    let gone = column_name_if (slice_get columns k) in
    let left = filter (is_not_by table gone) indexes in
    let rest = narrow_long table k columns indexes row f l in
    let step : (b : Bool) → is_not_by table gone i ≡ b → first_long_key table columns (cond b (i ∷ left) left) row ≡ None → first_long_key table (remove columns k) (cond b (i ∷ left) left) (without_value k row) ≡ None = elim [
      | true ↦ λ e n.
          let parts = long_parts (has_long_key table columns row i) i.name (first_long_key table columns left row) n in
          let short : has_long_key table (remove columns k) (without_value k row) i ≡ false = kept_long table k columns row i (bytes_eq i.table table) f l e parts.0 in
          rw short (rest parts.1)
      | false ↦ λ e n. rest n
    ] in
    step (is_not_by table gone i) refl h

narrow_short : (t : Table) (k : ℕ) (indexes : List Index) (rows : List Row) → k < length t.columns → AllFit t.columns rows →
    AllByRecursion (IsShort t (filter (is_not_by t.name (column_name_if (slice_get t.columns k))) indexes)) rows →
    AllByRecursion (IsShort (without_column k t) (filter (is_not_by t.name (column_name_if (slice_get t.columns k))) indexes)) (map (without_value k) rows)
narrow_short t k indexes [] l f h = tt
narrow_short t k indexes (r ∷ rows) l f h = (
  record {
    size = shorter _ _ (sum_by value_length r.values) (sum_by value_length (remove r.values k)) (less_bytes k r.values) h.0.size;
    keys = narrow_long t.name k t.columns indexes r f.0 l h.0.keys;
  },
  narrow_short t k indexes rows l f.1 h.1,
)

narrow_holds : (next : ℕ) (tables : List Table) (indexes : List Index) (k : ℕ) (t : Table) → k < length t.columns →
    HoldsRows (record { next_id = next; tables = tables; indexes = filter (is_not_by t.name (column_name_if (slice_get t.columns k))) indexes }) t →
    HoldsRows (record { next_id = next; tables = tables; indexes = filter (is_not_by t.name (column_name_if (slice_get t.columns k))) indexes }) (without_column k t)
narrow_holds next tables indexes k t l h = record {
  fit = narrow_fit k t.columns t.rows h.fit;
  rise = narrow_rise 1 k t.rows h.rise;
  below = narrow_below next k t.rows h.below;
  short = narrow_short t k indexes t.rows l h.fit h.short;
}

-- the schema

abbrev pub narrower : ℕ → TableSchema → TableSchema
narrower k t = record { name = t.name; columns = remove t.columns k }

within_narrower : (k : ℕ) (t : TableSchema) → k < length t.columns → 1 < length t.columns → IsTableWithin t → IsTableWithin (narrower k t)
within_narrower k t l m w =
    let less = shorter_remove k t.columns in
    let one = length-remove t.columns k l in
    record { some = omega (arith, one, m); few = omega (arith, less, w.few); texts = all_of_remove (λ (c : ColumnDef). is_past_column c ≡ false) k t.columns w.texts }

within_dropped : (n k : ℕ) (p : Index → Bool) (s : Schema) → k < length (columns_at n s) → 1 < length (columns_at n s) → IsWithin s →
    IsWithin (record { tables = changed_at n (narrower k) s.tables; indexes = filter p s.indexes })
within_dropped n k p s l m w =
    let less = shorter_filter p s.indexes in
    record {
      tables = rw (length_changed (narrower k) n s.tables) w.tables;
      indexes = omega (arith, less, w.indexes);
      columns = all_changed IsTableWithin (narrower k) n s.tables
          (λ t there x. within_narrower k t (subst (λ (o : Option TableSchema). k < length (columns_if o)) there l) (subst (λ (o : Option TableSchema). 1 < length (columns_if o)) there m) x) w.columns;
    }

pub schema_there : (n : ℕ) (tables : List Table) (t : Table) → slice_get tables n ≡ Some t → slice_get (map table_schema tables) n ≡ Some (table_schema t)
schema_there n [] t e = absurd (cc)
schema_there zero (u ∷ tables) t e = let same : u ≡ t = cc in ap (λ (x : Table). Some (table_schema x)) same
schema_there (suc n) (u ∷ tables) t e = schema_there n tables t e

-- the table at a place, where its indexes are those that are left
narrow_at : (n k : ℕ) (db : Db) (tables : List Table) (t : Table) → slice_get (map table_schema db.tables) n ≡ Some (table_schema t) → k < length (columns_at n (schema_of db)) →
    HoldsRows (record { next_id = db.next_id; tables = tables; indexes = filter (is_not_by (name_at n (schema_of db)) (column_name_at n k (schema_of db))) db.indexes }) t →
    HoldsRows (record { next_id = db.next_id; tables = tables; indexes = filter (is_not_by (name_at n (schema_of db)) (column_name_at n k (schema_of db))) db.indexes }) (without_column k t)
narrow_at n k db tables t there l =
    subst (λ (o : Option TableSchema). k < length (columns_if o) →
    HoldsRows (record { next_id = db.next_id; tables = tables; indexes = filter (is_not_by (name_if o) (column_name_if (slice_get (columns_if o) k))) db.indexes }) t →
    HoldsRows (record { next_id = db.next_id; tables = tables; indexes = filter (is_not_by (name_if o) (column_name_if (slice_get (columns_if o) k))) db.indexes }) (without_column k t))
    (sym there) (narrow_holds db.next_id tables db.indexes k t) l

pub well_narrowed : (n k : ℕ) (db : Db) → IsWellFormed db → k < length (columns_at n (schema_of db)) → 1 < length (columns_at n (schema_of db)) → IsMade (schema_of (column_dropped n k db)) → IsWellFormed (column_dropped n k db)
well_narrowed n k db w l m made =
    let p = is_not_by (name_at n (schema_of db)) (column_name_at n k (schema_of db)) in
    let new = column_dropped n k db in
    let same : map table_schema (changed_at n (without_column k) db.tables) ≡ changed_at n (narrower k) (map table_schema db.tables) = map_changed table_schema (without_column k) (narrower k) (λ t. refl) n db.tables in
    record {
      made = made;
      within = subst (λ (ts : List TableSchema). IsWithin (record { tables = ts; indexes = filter p db.indexes })) (sym same) (within_dropped n k p (schema_of db) l m w.within);
      tables = subst IsByName (sym (ap table_names same ∙ same_changed (λ (t : TableSchema). t.name) (narrower k) (λ t. refl) n (map table_schema db.tables))) w.tables;
      indexes = by_name_filter (λ (i : Index). i.name) p db.indexes w.indexes;
      begun = w.begun;
      left = w.left;
      fresh = λ e. w.fresh (none_changed (without_column k) n db.tables e);
      rows = all_changed (HoldsRows new) (without_column k) n db.tables
          (λ t there h. narrow_at n k db new.tables t (schema_there n db.tables t there) l h)
          (all_well db new db.tables (λ t h. record { fit = h.fit; rise = h.rise; below = h.below; short = all_short t.name t.columns p db.indexes t.rows h.short }) w.rows);
    }
