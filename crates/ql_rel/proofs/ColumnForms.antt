-- Changes of columns keep a database well formed.
use Rattle.std.proofs.Common.{◌≡◌, ℕ, zero, suc, ◌+◌, ◌<◌, true, false, cond, ◌&&◌, nat_le, List, [], ◌∷◌, ◌++◌, length, map, slice_get, Option, Some, None, refl, sym, ap, subst, ◌∙◌, arith, length-append}
use Rattle.std.proofs.lemmas.Bool.Decides.{nat_tests}
use Rattle.std.specs.List.{list_any, AllByRecursion}
use Rattle.std.specs.Str.{bytes_eq}
use Rattle.ql_value.specs.declared.value.Value.{Value}
use Rattle.ql_value.specs.declared.value.Value.TheVariants as v
use Rattle.ql_syntax.specs.declared.statement.ColumnDef.{ColumnDef}
use Rattle.ql_syntax.specs.declared.statement.Item.{Item}
use Rattle.ql_syntax.specs.declared.statement.Item.TheVariants as item
use Rattle.ql_rel.specs.declared.db.Db.{Db}
use Rattle.ql_rel.specs.declared.db.Row.{Row}
use Rattle.ql_rel.specs.declared.db.Table.{Table}
use Rattle.ql_rel.specs.declared.fault.RelFault.{RelFault}
use Rattle.ql_rel.specs.declared.fault.RelFault.TheVariants as fault
use Rattle.ql_rel.specs.declared.schema.Index.{Index}
use Rattle.ql_rel.specs.declared.schema.Schema.{Schema}
use Rattle.ql_rel.specs.declared.schema.TableSchema.{TableSchema}
use Rattle.ql_rel.specs.Changes.{changed_at, with_null, with_column, column_added}
use Rattle.ql_rel.specs.Databases.{schema_of, table_schema, columns_if, columns_at, rows_if, rows_at}
use Rattle.ql_rel.specs.Limits.{most_columns, is_long_key, value_under, key_of, has_long_key, first_long_key, is_past_column, is_past_added, IsTableWithin, IsWithin}
use Rattle.ql_rel.specs.Names.{IsByName, table_names}
use Rattle.ql_rel.specs.Refusals.{refused_if, is_long_with_null, column_refusal}
use Rattle.ql_rel.specs.WellFormed.{Fits, AllFit, Rise, AllBelow, IsShort, HoldsRows, IsMade, IsWellFormed}
use Rattle.ql_rel.proofs.FormLemmas.{all_well, both_none, test_none}
use Rattle.ql_rel.proofs.NameLemmas.{or_parts}

-- a list with the member at a place changed

pub map_changed : {A B : Type 0} (f : A → B) (g : A → A) (h : B → B) → ((x : A) → f (g x) ≡ h (f x)) → (n : ℕ) (xs : List A) → map f (changed_at n g xs) ≡ changed_at n h (map f xs)
map_changed f g h e n [] = refl
map_changed {B = B} f g h e zero (x ∷ xs) = ap (λ y. y ∷ map f xs) (e x)
map_changed {B = B} f g h e (suc n) (x ∷ xs) = ap (λ (ys : List B). f x ∷ ys) (map_changed f g h e n xs)

pub same_changed : {A B : Type 0} (f : A → B) (g : A → A) → ((x : A) → f (g x) ≡ f x) → (n : ℕ) (xs : List A) → map f (changed_at n g xs) ≡ map f xs
same_changed f g e n [] = refl
same_changed f g e zero (x ∷ xs) = ap (λ y. y ∷ map f xs) (e x)
same_changed {B = B} f g e (suc n) (x ∷ xs) = ap (λ (ys : List B). f x ∷ ys) (same_changed f g e n xs)

pub length_changed : {A : Type 0} (g : A → A) (n : ℕ) (xs : List A) → length (changed_at n g xs) ≡ length xs
length_changed g n [] = refl
length_changed g zero (x ∷ xs) = refl
length_changed g (suc n) (x ∷ xs) = ap suc (length_changed g n xs)

pub all_changed : {A : Type 0} (P : A → Type 0) (g : A → A) (n : ℕ) (xs : List A) → ((x : A) → slice_get xs n ≡ Some x → P x → P (g x)) → AllByRecursion P xs → AllByRecursion P (changed_at n g xs)
all_changed P g n [] k h = tt
all_changed P g zero (x ∷ xs) k h = (k x refl h.0, h.1)
all_changed P g (suc n) (x ∷ xs) k h = (h.0, all_changed P g n xs k h.1)

all_push : {A : Type 0} (P : A → Type 0) (xs : List A) (x : A) → AllByRecursion P xs → P x → AllByRecursion P (xs ++ x ∷ [])
all_push P [] x h p = (p, tt)
all_push P (y ∷ xs) x h p = (h.0, all_push P xs x h.1 p)

pub none_changed : {A : Type 0} (g : A → A) (n : ℕ) (xs : List A) → changed_at n g xs ≡ [] → xs ≡ []
none_changed g n [] e = refl
none_changed g zero (x ∷ xs) e = absurd (cc)
none_changed g (suc n) (x ∷ xs) e = absurd (cc)

-- a column is added

wide_values : (columns : List ColumnDef) (c : ColumnDef) (values : List Value) → Fits columns values → Fits (columns ++ c ∷ []) (values ++ v.Null ∷ [])
wide_values [] c [] f = (tt, tt)
wide_values [] c (x ∷ values) f = absurd f
wide_values (d ∷ columns) c [] f = absurd f
wide_values (d ∷ columns) c (x ∷ values) f = (f.0, wide_values columns c values f.1)

wide_fit : (columns : List ColumnDef) (c : ColumnDef) (rows : List Row) → AllFit columns rows → AllFit (columns ++ c ∷ []) (map with_null rows)
wide_fit columns c [] h = tt
wide_fit columns c (r ∷ rows) h = (wide_values columns c r.values h.0, wide_fit columns c rows h.1)

wide_rise : (from : ℕ) (rows : List Row) → Rise from rows → Rise from (map with_null rows)
wide_rise from [] h = tt
wide_rise from (r ∷ rows) h = (h.0, wide_rise (r.id + 1) rows h.1)

wide_below : (next : ℕ) (rows : List Row) → AllBelow next rows → AllBelow next (map with_null rows)
wide_below next [] h = tt
wide_below next (r ∷ rows) h = (h.0, wide_below next rows h.1)

wide_under : (name : List ℕ) (columns : List ColumnDef) (c : ColumnDef) (values : List Value) → Fits columns values → value_under name (columns ++ c ∷ []) (values ++ v.Null ∷ []) ≡ value_under name columns values
wide_under name [] c [] f = elim (bytes_eq c.name name) as (λ b. cond b v.Null v.Null ≡ v.Null) [ true ↦ refl | false ↦ refl ]
wide_under name [] c (x ∷ values) f = absurd f
wide_under name (d ∷ columns) c [] f = absurd f
wide_under name (d ∷ columns) c (x ∷ values) f = ap (λ (y : Value). cond (bytes_eq d.name name) x y) (wide_under name columns c values f.1)

wide_key : (columns : List ColumnDef) (c : ColumnDef) (it : Item) (row : Row) → Fits columns row.values → key_of (columns ++ c ∷ []) it (with_null row) ≡ key_of columns it row
wide_key columns c (item.Column name) row f = wide_under name columns c row.values f
wide_key columns c item.Id row f = refl

wide_long : (name : List ℕ) (columns : List ColumnDef) (c : ColumnDef) (indexes : List Index) (row : Row) → Fits columns row.values →
    first_long_key name (columns ++ c ∷ []) indexes (with_null row) ≡ first_long_key name columns indexes row
wide_long name columns c [] row f = refl
wide_long name columns c (i ∷ indexes) row f =
    ap (λ (x : Value). cond (bytes_eq i.table name && is_long_key x) (Some i.name) (first_long_key name (columns ++ c ∷ []) indexes (with_null row))) (wide_key columns c i.item row f)
    ∙ ap (λ (o : Option (List ℕ)). cond (has_long_key name columns row i) (Some i.name) o) (wide_long name columns c indexes row f)

wide_short : (t : Table) (c : ColumnDef) (indexes : List Index) (rows : List Row) → AllFit t.columns rows → list_any is_long_with_null rows ≡ false → AllByRecursion (IsShort t indexes) rows →
    AllByRecursion (IsShort (with_column c t) indexes) (map with_null rows)
wide_short t c indexes [] f e h = tt
wide_short t c indexes (r ∷ rows) f e h =
    let parts = or_parts (is_long_with_null r) (list_any is_long_with_null rows) e in
    (record { size = parts.0; keys = wide_long t.name t.columns c indexes r f.0 ∙ h.0.keys }, wide_short t c indexes rows f.1 parts.1 h.1)

wide_holds : (db : Db) (c : ColumnDef) (t : Table) → list_any is_long_with_null t.rows ≡ false → HoldsRows db t → HoldsRows db (with_column c t)
wide_holds db c t e h = record {
  fit = wide_fit t.columns c t.rows h.fit;
  rise = wide_rise 1 t.rows h.rise;
  below = wide_below db.next_id t.rows h.below;
  short = wide_short t c db.indexes t.rows h.fit e h.short;
}

abbrev pub wider : ColumnDef → TableSchema → TableSchema
wider c t = record { name = t.name; columns = t.columns ++ c ∷ [] }

room : (limit n : ℕ) → nat_le limit n ≡ false → n < limit
room limit n e = grind (arith, nat_tests)

within_wider : (c : ColumnDef) (t : TableSchema) → is_past_added c t.columns ≡ false → IsTableWithin t → IsTableWithin (wider c t)
within_wider c t e w =
    let parts = or_parts (nat_le most_columns (length t.columns)) (is_past_column c) e in
    let long : length (t.columns ++ c ∷ []) ≡ length t.columns + 1 = length-append t.columns (c ∷ []) in
    let few = room most_columns (length t.columns) parts.0 in
    record { some = omega (arith, long); few = omega (arith, long, few); texts = all_push (λ (d : ColumnDef). is_past_column d ≡ false) t.columns c w.texts parts.1 }

within_added : (c : ColumnDef) (n : ℕ) (s : Schema) → is_past_added c (columns_at n s) ≡ false → IsWithin s → IsWithin (record { tables = changed_at n (wider c) s.tables; indexes = s.indexes })
within_added c n s e w = record {
  tables = rw (length_changed (wider c) n s.tables) w.tables;
  indexes = w.indexes;
  columns = all_changed IsTableWithin (wider c) n s.tables (λ t there x. within_wider c t (subst (λ (o : Option TableSchema). is_past_added c (columns_if o) ≡ false) there e) x) w.columns;
}

pub well_added : (n : ℕ) (c : ColumnDef) (db : Db) → IsWellFormed db → ◌≡◌ {A = Option RelFault} (column_refusal n c db) None → IsMade (schema_of (column_added n c db)) → IsWellFormed (column_added n c db)
well_added n c db w e made =
    let parts = both_none (refused_if (is_past_added c (columns_at n (schema_of db))) fault.TableLimit) (refused_if (list_any is_long_with_null (rows_at n db)) fault.RowTooLong) e in
    let few = test_none (is_past_added c (columns_at n (schema_of db))) fault.TableLimit parts.0 in
    let short = test_none (list_any is_long_with_null (rows_at n db)) fault.RowTooLong parts.1 in
    let new = column_added n c db in
    let same : map table_schema (changed_at n (with_column c) db.tables) ≡ changed_at n (wider c) (map table_schema db.tables) = map_changed table_schema (with_column c) (wider c) (λ t. refl) n db.tables in
    record {
      made = made;
      within = subst (λ (ts : List TableSchema). IsWithin (record { tables = ts; indexes = db.indexes })) (sym same) (within_added c n (schema_of db) few w.within);
      tables = subst IsByName (sym (ap table_names same ∙ same_changed (λ (t : TableSchema). t.name) (wider c) (λ t. refl) n (map table_schema db.tables))) w.tables;
      indexes = w.indexes;
      begun = w.begun;
      left = w.left;
      fresh = λ e. w.fresh (none_changed (with_column c) n db.tables e);
      rows = all_changed (HoldsRows new) (with_column c) n db.tables (λ t there h. wide_holds new c t (subst (λ (o : Option Table). list_any is_long_with_null (rows_if o) ≡ false) there short) h) (all_well db new db.tables (λ t k. k) w.rows);
    }
