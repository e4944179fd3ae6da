-- Changes of tables keep a database well formed.
use Rattle.std.proofs.Common.{◌≡◌, ℕ, suc, ◌+◌, ◌<◌, ◌≤◌, Bool, true, false, cond, nat_lt, nat_le, List, [], ◌∷◌, length, map, filter, remove, Option, Some, None, refl, sym, ap, subst, arith}
use Rattle.std.proofs.lemmas.Bool.Decides.{nat_tests}
use Rattle.std.specs.List.{list_any, AllByRecursion}
use Rattle.ql_syntax.specs.declared.statement.ColumnDef.{ColumnDef}
use Rattle.ql_rel.specs.declared.db.Db.{Db}
use Rattle.ql_rel.specs.declared.db.Row.{Row}
use Rattle.ql_rel.specs.declared.db.Table.{Table}
use Rattle.ql_rel.specs.declared.schema.Index.{Index}
use Rattle.ql_rel.specs.declared.schema.Schema.{Schema}
use Rattle.ql_rel.specs.declared.schema.TableSchema.{TableSchema}
use Rattle.ql_rel.specs.Changes.{new_table, table_created, table_dropped, id_after, is_of_other}
use Rattle.ql_rel.specs.Databases.{schema_of, table_schema, empty_schema, name_at}
use Rattle.ql_rel.specs.Limits.{most_tables, most_columns, last_id, has_long_key, first_long_key, is_past_column, are_past_columns, is_past_table, IsTableWithin, IsWithin}
use Rattle.ql_rel.specs.Names.{IsByName, has_name, table_names, index_names, is_name_taken, placed}
use Rattle.ql_rel.specs.WellFormed.{HoldsRows, IsReadAsItself, IsMade, IsWellFormed}
use Rattle.ql_rel.proofs.AcceptLemmas.{all_thinned, accepts_thinned, below_empty, creates_thinned}
use Rattle.ql_rel.proofs.FormLemmas.{IsShortAs, all_well}
use Rattle.ql_rel.proofs.NameLemmas.{or_parts, placed_all, length_placed, map_placed, by_name_placed, all_of_remove, map_remove, shorter_remove, shorter_filter, by_name_filter, by_name_remove}

-- a table is created

room : (limit n : ℕ) → nat_le limit n ≡ false → n < limit
room limit n e = grind (arith, nat_tests)

not_over : (limit n : ℕ) → nat_lt limit n ≡ false → n ≤ limit
not_over limit n e = grind (arith, nat_tests)

none_past : (columns : List ColumnDef) → list_any is_past_column columns ≡ false → AllByRecursion (λ (c : ColumnDef). is_past_column c ≡ false) columns
none_past [] e = tt
none_past (c ∷ columns) e = let parts = or_parts (is_past_column c) (list_any is_past_column columns) e in (parts.0, none_past columns parts.1)

within_table : (t : TableSchema) → 0 < length t.columns → are_past_columns t.columns ≡ false → IsTableWithin t
within_table t some e =
    let parts = or_parts (nat_lt most_columns (length t.columns)) (list_any is_past_column t.columns) e in
    record { some = some; few = not_over most_columns (length t.columns) parts.0; texts = none_past t.columns parts.1 }

within_created : (t : TableSchema) (s : Schema) → IsWithin s → IsTableWithin t → length s.tables < most_tables →
    IsWithin (record { tables = placed (λ (u : TableSchema). u.name) t s.tables; indexes = s.indexes })
within_created t s w x l = record {
  tables = rw (length_placed (λ (u : TableSchema). u.name) t s.tables) (omega (arith, l));
  indexes = w.indexes;
  columns = placed_all IsTableWithin (λ (u : TableSchema). u.name) t s.tables x w.columns;
}

pub well_created : (t : TableSchema) (db : Db) → IsWellFormed db → 0 < length t.columns → is_name_taken t.name (schema_of db) ≡ false → is_past_table t (schema_of db) ≡ false →
    IsMade (schema_of (table_created t db)) → IsWellFormed (table_created t db)
well_created t db w some free few made =
    let schemas : List TableSchema = map table_schema db.tables in
    let same : map table_schema (placed (λ (x : Table). x.name) (new_table t) db.tables) ≡ placed (λ (u : TableSchema). u.name) t schemas = map_placed table_schema (λ (u : TableSchema). u.name) (new_table t) db.tables in
    let past = or_parts (nat_le most_tables (length schemas)) (are_past_columns t.columns) few in
    let taken = or_parts (has_name t.name (table_names schemas)) (has_name t.name (index_names db.indexes)) free in
    record {
      made = made;
      within = subst (λ (ts : List TableSchema). IsWithin (record { tables = ts; indexes = db.indexes })) (sym same) (within_created t (schema_of db) w.within (within_table t some past.1) (room most_tables (length schemas) past.0));
      tables = subst (λ (ts : List TableSchema). IsByName (table_names ts)) (sym same)
          (subst IsByName (sym (map_placed (λ (u : TableSchema). u.name) (λ n. n) t schemas)) (by_name_placed t.name (table_names schemas) taken.0 w.tables));
      indexes = w.indexes;
      begun = w.begun;
      left = w.left;
      fresh = λ e. absurd (let long = length_placed (λ (x : Table). x.name) (new_table t) db.tables in let none : length (placed (λ (x : Table). x.name) (new_table t) db.tables) ≡ 0 = ap length e in omega (arith, long, none));
      rows = placed_all (HoldsRows (table_created t db)) (λ (x : Table). x.name) (new_table t) db.tables (record { fit = tt; rise = tt; below = tt; short = tt }) (all_well db (table_created t db) db.tables (λ u k. k) w.rows);
    }

-- a table goes

pub long_parts : (b : Bool) (n : List ℕ) (o : Option (List ℕ)) → cond b (Some n) o ≡ None → (b ≡ false) × (o ≡ None)
long_parts true n o e = absurd (cc)
long_parts false n o e = (refl, e)

-- a key that is not too long in any index is not in some of them
pub short_filtered : (name : List ℕ) (columns : List ColumnDef) (p : Index → Bool) (indexes : List Index) (row : Row) → first_long_key name columns indexes row ≡ None → first_long_key name columns (filter p indexes) row ≡ None
short_filtered name columns p [] row e = refl
short_filtered name columns p (i ∷ indexes) row e =
    let parts = long_parts (has_long_key name columns row i) i.name (first_long_key name columns indexes row) e in
    let rest = short_filtered name columns p indexes row parts.1 in
    elim (p i) as (λ b. first_long_key name columns (cond b (i ∷ filter p indexes) (filter p indexes)) row ≡ None) [ true ↦ rw parts.0 rest | false ↦ rest ]

pub all_short : (name : List ℕ) (columns : List ColumnDef) (p : Index → Bool) (indexes : List Index) (rows : List Row) → AllByRecursion (IsShortAs name columns indexes) rows → AllByRecursion (IsShortAs name columns (filter p indexes)) rows
all_short name columns p indexes [] h = tt
all_short name columns p indexes (r ∷ rows) h = (record { size = h.0.size; keys = short_filtered name columns p indexes r h.0.keys }, all_short name columns p indexes rows h.1)

abbrev Left : ℕ → List Table → List Index → Db
Left next tables indexes = record { next_id = next; tables = tables; indexes = indexes }

rows_left : (next : ℕ) (indexes : List Index) (tables : List Table) → AllByRecursion (HoldsRows (Left next tables indexes)) tables → AllByRecursion (HoldsRows (Left (id_after tables next) tables indexes)) tables
rows_left next indexes [] h = tt
rows_left next indexes (t ∷ tables) h = h

begun_left : (next : ℕ) (tables : List Table) → 1 ≤ next → 1 ≤ id_after tables next
begun_left next [] h = omega arith
begun_left next (t ∷ tables) h = h

within_left : (next : ℕ) (tables : List Table) → next ≤ last_id + 1 → id_after tables next ≤ last_id + 1
within_left next [] h = omega arith
within_left next (t ∷ tables) h = h

within_dropped : (n : ℕ) (p : Index → Bool) (s : Schema) → IsWithin s → IsWithin (record { tables = remove s.tables n; indexes = filter p s.indexes })
within_dropped n p s w =
    let fewer = shorter_remove n s.tables in
    let less = shorter_filter p s.indexes in
    record { tables = omega (arith, fewer, w.tables); indexes = omega (arith, less, w.indexes); columns = all_of_remove IsTableWithin n s.tables w.columns }

made_dropped : (n : ℕ) (s : Schema) → n < length s.tables → IsMade s → IsMade (record { tables = remove s.tables n; indexes = filter (is_of_other (name_at n s)) s.indexes })
made_dropped n s l m =
    let thin = creates_thinned n s.tables s.indexes l in
    record {
      read = all_thinned IsReadAsItself thin m.read;
      accepted = accepts_thinned empty_schema empty_schema thin (below_empty (name_at n s)) m.accepted;
    }

length_schemas : (tables : List Table) → length (map table_schema tables) ≡ length tables
length_schemas [] = refl
length_schemas (t ∷ tables) = ap suc (length_schemas tables)

pub well_dropped : (n : ℕ) (db : Db) → IsWellFormed db → n < length db.tables → IsWellFormed (table_dropped n db)
well_dropped n db w l =
    let p = is_of_other (name_at n (schema_of db)) in
    let gone = remove db.tables n in
    let same : map table_schema gone ≡ remove (map table_schema db.tables) n = map_remove table_schema n db.tables in
    let mid : Db = record { next_id = db.next_id; tables = gone; indexes = filter p db.indexes } in
    record {
      made = subst (λ (ts : List TableSchema). IsMade (record { tables = ts; indexes = filter p db.indexes })) (sym same) (made_dropped n (schema_of db) (rw (length_schemas db.tables) l) w.made);
      within = subst (λ (ts : List TableSchema). IsWithin (record { tables = ts; indexes = filter p db.indexes })) (sym same) (within_dropped n p (schema_of db) w.within);
      tables = subst (λ (ts : List TableSchema). IsByName (table_names ts)) (sym same)
          (subst IsByName (sym (map_remove (λ (u : TableSchema). u.name) n (map table_schema db.tables))) (by_name_remove n (table_names (map table_schema db.tables)) w.tables));
      indexes = by_name_filter (λ (i : Index). i.name) p db.indexes w.indexes;
      begun = begun_left db.next_id gone w.begun;
      left = within_left db.next_id gone w.left;
      fresh = λ e. ap (λ (ts : List Table). id_after ts db.next_id) e;
      rows = rows_left db.next_id (filter p db.indexes) gone (all_well db mid gone (λ t k. record { fit = k.fit; rise = k.rise; below = k.below; short = all_short t.name t.columns p db.indexes t.rows k.short }) (all_of_remove (HoldsRows db) n db.tables w.rows));
    }
