-- A table with other columns, beside fewer indexes, leaves a schema whose CREATE statements are read and accepted.
use Rattle.std.proofs.Common.{◌≡◌, ℕ, zero, suc, ◌≤◌, Bool, true, false, cond, ◌||◌, nat_le, List, [], ◌∷◌, ◌++◌, length, map, filter, slice_get, Some, refl, sym, ap, subst, ◌∙◌, arith}
use Rattle.std.specs.List.{list_any, AllByRecursion}
use Rattle.std.specs.Str.{bytes_eq}
use Rattle.ql_rel.specs.declared.schema.Index.{Index}
use Rattle.ql_rel.specs.declared.schema.Schema.{Schema}
use Rattle.ql_rel.specs.declared.schema.TableSchema.{TableSchema}
use Rattle.ql_rel.specs.Accepted.{is_reserved, are_columns, is_index_at, accepts, created, accepts_all}
use Rattle.ql_rel.specs.Changes.{changed_at}
use Rattle.ql_rel.specs.Creates.{create_table, create_index}
use Rattle.ql_rel.specs.Databases.{empty_schema}
use Rattle.ql_rel.specs.Limits.{most_tables, most_indexes, are_past_columns, is_past_table, is_past_index}
use Rattle.ql_rel.specs.Names.{has_name, table_names, index_names, is_name_taken, placed}
use Rattle.ql_rel.specs.WellFormed.{IsReadAsItself, IsMade}
use Rattle.ql_rel.proofs.AcceptLemmas.{fewer}
use Rattle.ql_rel.proofs.MadeLemmas.{NameOf, plus, taken_plus, two_parts, both_parts, neither, stands, stand}
use Rattle.ql_rel.proofs.NameLemmas.{or_parts, any_placed, length_placed, map_placed}

-- columns that may stand in a table, within their limits
abbrev pub IsFine : TableSchema → Type 0
IsFine t = (are_columns t.name t.columns ≡ true) × (are_past_columns t.columns ≡ false)

-- an index of the one table may stand at the other one
abbrev pub KeepsIndex : TableSchema → TableSchema → Index → Type 0
KeepsIndex t u i = is_index_at i.name i.table i.item t ≡ true → is_index_at i.name i.table i.item u ≡ true

-- a schema beside another one, in which a table may have other columns and indexes may be gone
record Beside (t u : TableSchema) (s z : Schema) : Type 0 where
  tables : length z.tables ≡ length s.tables
  names : (name : List ℕ) → has_name name (table_names z.tables) ≡ has_name name (table_names s.tables)
  few : length z.indexes ≤ length s.indexes
  free : (name : List ℕ) → has_name name (index_names s.indexes) ≡ false → has_name name (index_names z.indexes) ≡ false
  there : (i : Index) → KeepsIndex t u i → list_any (is_index_at i.name i.table i.item) s.tables ≡ true → list_any (is_index_at i.name i.table i.item) z.tables ≡ true

pub or_steps : (p q x y : Bool) → (p ≡ true → q ≡ true) → (x ≡ true → y ≡ true) → (p || x) ≡ true → (q || y) ≡ true
or_steps true q x y f g e = rw (f refl) refl
or_steps false true x y f g e = refl
or_steps false false x y f g e = g e

-- a table more on either side

beside_table : (t u a b : TableSchema) (s z : Schema) → b.name ≡ a.name → ((i : Index) → KeepsIndex t u i → KeepsIndex a b i) → Beside t u s z → Beside t u (plus a s) (plus b z)
beside_table t u a b s z e k h = record {
  tables = length_placed NameOf b z.tables ∙ ap suc h.tables ∙ sym (length_placed NameOf a s.tables);
  names = λ name. taken_plus name b z.tables ∙ ap (λ x. bytes_eq x name || has_name name (table_names z.tables)) e ∙ ap (λ x. bytes_eq a.name name || x) (h.names name) ∙ sym (taken_plus name a s.tables);
  few = h.few;
  free = h.free;
  there = λ i keeps f.
      any_placed NameOf (is_index_at i.name i.table i.item) b z.tables
      ∙ or_steps (is_index_at i.name i.table i.item a) (is_index_at i.name i.table i.item b) (list_any (is_index_at i.name i.table i.item) s.tables) (list_any (is_index_at i.name i.table i.item) z.tables)
      (k i keeps) (h.there i keeps) (sym (any_placed NameOf (is_index_at i.name i.table i.item) a s.tables) ∙ f);
}

abbrev with_index : Index → Schema → Schema
with_index i schema = record schema { indexes = placed (λ (j : Index). j.name) i schema.indexes }

names_with : (name : List ℕ) (i : Index) (is : List Index) → has_name name (index_names (placed (λ (j : Index). j.name) i is)) ≡ (bytes_eq i.name name || has_name name (index_names is))
names_with name i is = ap (has_name name) (map_placed (λ (j : Index). j.name) (λ (x : List ℕ). x) i is) ∙ any_placed (λ (x : List ℕ). x) (λ other. bytes_eq other name) i.name (index_names is)

-- an index more on both sides, or on the first one alone

beside_index : (t u : TableSchema) (i : Index) (s z : Schema) → Beside t u s z → Beside t u (with_index i s) (with_index i z)
beside_index t u i s z h = record {
  tables = h.tables;
  names = h.names;
  few = rw (length_placed (λ (j : Index). j.name) i z.indexes, length_placed (λ (j : Index). j.name) i s.indexes) (omega (arith, h.few));
  free = λ name e.
      let parts = or_parts (bytes_eq i.name name) (has_name name (index_names s.indexes)) (sym (names_with name i s.indexes) ∙ e) in
      names_with name i z.indexes ∙ neither (bytes_eq i.name name) (has_name name (index_names z.indexes)) parts.0 (h.free name parts.1);
  there = h.there;
}

beside_skipped : (t u : TableSchema) (i : Index) (s z : Schema) → Beside t u s z → Beside t u (with_index i s) z
beside_skipped t u i s z h = record {
  tables = h.tables;
  names = h.names;
  few = rw (length_placed (λ (j : Index). j.name) i s.indexes) (omega (arith, h.few));
  free = λ name e. h.free name (or_parts (bytes_eq i.name name) (has_name name (index_names s.indexes)) (sym (names_with name i s.indexes) ∙ e)).1;
  there = h.there;
}

-- what is accepted over the one is accepted over the other

table_accepted : (t u a b : TableSchema) (s z : Schema) → Beside t u s z → b.name ≡ a.name → (IsFine a → IsFine b) → accepts s (create_table a) ≡ true → accepts z (create_table b) ≡ true
unfolding accepts
table_accepted t u a b s z h e f k =
    let p = stands (is_reserved a.name) (is_name_taken a.name s) (are_columns a.name a.columns) (is_past_table a s) k in
    let taken = or_parts (has_name a.name (table_names s.tables)) (has_name a.name (index_names s.indexes)) p.new in
    let past = or_parts (nat_le most_tables (length s.tables)) (are_past_columns a.columns) p.within in
    let fine = f (p.parts, past.1) in
    stand (is_reserved b.name) (is_name_taken b.name z) (are_columns b.name b.columns) (is_past_table b z) (record {
      free = ap is_reserved e ∙ p.free;
      new = ap (λ name. is_name_taken name z) e ∙ neither _ _ (h.names a.name ∙ taken.0) (h.free a.name taken.1);
      parts = fine.0;
      within = neither _ _ (ap (nat_le most_tables) h.tables ∙ past.0) fine.1;
    })

index_accepted : (t u : TableSchema) (i : Index) (s z : Schema) → Beside t u s z → KeepsIndex t u i → accepts s (create_index i) ≡ true → accepts z (create_index i) ≡ true
unfolding accepts
index_accepted t u i s z h keeps k =
    let p = stands (is_reserved i.name) (is_name_taken i.name s) (list_any (is_index_at i.name i.table i.item) s.tables) (is_past_index s) k in
    let taken = or_parts (has_name i.name (table_names s.tables)) (has_name i.name (index_names s.indexes)) p.new in
    stand (is_reserved i.name) (is_name_taken i.name z) (list_any (is_index_at i.name i.table i.item) z.tables) (is_past_index z) (record {
      free = p.free;
      new = neither _ _ (h.names i.name ∙ taken.0) (h.free i.name taken.1);
      parts = h.there i keeps p.parts;
      within = fewer most_indexes (length z.indexes) (length s.indexes) h.few p.within;
    })

indexes_accepted : (t u : TableSchema) (q : Index → Bool) (is : List Index) (s z : Schema) → Beside t u s z → AllByRecursion (λ (i : Index). q i ≡ true → KeepsIndex t u i) is
    → accepts_all s (map create_index is) ≡ true → accepts_all z (map create_index (filter q is)) ≡ true
unfolding created
indexes_accepted t u q [] s z h keeps k = refl
indexes_accepted t u q (i ∷ is) s z h keeps k =
    let parts = two_parts (accepts s (create_index i)) (accepts_all (with_index i s) (map create_index is)) k in
    let with_it = indexes_accepted t u q is (with_index i s) (with_index i z) (beside_index t u i s z h) keeps.1 parts.1 in
    let without_it = indexes_accepted t u q is (with_index i s) z (beside_skipped t u i s z h) keeps.1 parts.1 in
    let by : (b : Bool) → q i ≡ b → accepts_all z (map create_index (cond b (i ∷ filter q is) (filter q is))) ≡ true = elim [
      | true ↦ λ e. both_parts (accepts z (create_index i)) (accepts_all (with_index i z) (map create_index (filter q is))) (index_accepted t u i s z h (keeps.0 e) parts.0) with_it
      | false ↦ λ e. without_it
    ] in
    by (q i) refl

tables_accepted : (t u : TableSchema) (q : Index → Bool) (ts : List TableSchema) (is : List Index) (s z : Schema) → Beside t u s z → AllByRecursion (λ (i : Index). q i ≡ true → KeepsIndex t u i) is
    → accepts_all s (map create_table ts ++ map create_index is) ≡ true → accepts_all z (map create_table ts ++ map create_index (filter q is)) ≡ true
unfolding created
tables_accepted t u q [] is s z h keeps k = indexes_accepted t u q is s z h keeps k
tables_accepted t u q (a ∷ ts) is s z h keeps k =
    let parts = two_parts (accepts s (create_table a)) (accepts_all (plus a s) (map create_table ts ++ map create_index is)) k in
    both_parts (accepts z (create_table a)) (accepts_all (plus a z) (map create_table ts ++ map create_index (filter q is)))
    (table_accepted t u a a s z h refl (λ f. f) parts.0)
    (tables_accepted t u q ts is (plus a s) (plus a z) (beside_table t u a a s z refl (λ i keep e. e) h) keeps parts.1)

altered_accepted : (n : ℕ) (g : TableSchema → TableSchema) (q : Index → Bool) (t : TableSchema) (ts : List TableSchema) (is : List Index) (s z : Schema) → slice_get ts n ≡ Some t → (g t).name ≡ t.name → (IsFine t → IsFine (g t)) → Beside t (g t) s z
    → AllByRecursion (λ (i : Index). q i ≡ true → KeepsIndex t (g t) i) is → accepts_all s (map create_table ts ++ map create_index is) ≡ true → accepts_all z (map create_table (changed_at n g ts) ++ map create_index (filter q is)) ≡ true
unfolding created
altered_accepted n g q t [] is s z at e f h keeps k = absurd (cc)
altered_accepted zero g q t (a ∷ ts) is s z at e f h keeps k =
    let same : a ≡ t = cc in
    let whole : accepts_all s (create_table t ∷ (map create_table ts ++ map create_index is)) ≡ true = subst (λ (x : TableSchema). accepts_all s (create_table x ∷ (map create_table ts ++ map create_index is)) ≡ true) same k in
    let parts = two_parts (accepts s (create_table t)) (accepts_all (plus t s) (map create_table ts ++ map create_index is)) whole in
    subst (λ (x : TableSchema). accepts_all z (create_table (g x) ∷ (map create_table ts ++ map create_index (filter q is))) ≡ true) (sym same)
    (both_parts (accepts z (create_table (g t))) (accepts_all (plus (g t) z) (map create_table ts ++ map create_index (filter q is)))
    (table_accepted t (g t) t (g t) s z h e f parts.0)
    (tables_accepted t (g t) q ts is (plus t s) (plus (g t) z) (beside_table t (g t) t (g t) s z e (λ i keep. keep) h) keeps parts.1))
altered_accepted (suc n) g q t (a ∷ ts) is s z at e f h keeps k =
    let parts = two_parts (accepts s (create_table a)) (accepts_all (plus a s) (map create_table ts ++ map create_index is)) k in
    both_parts (accepts z (create_table a)) (accepts_all (plus a z) (map create_table (changed_at n g ts) ++ map create_index (filter q is)))
    (table_accepted t (g t) a a s z h refl (λ f. f) parts.0)
    (altered_accepted n g q t ts is (plus a s) (plus a z) at e f (beside_table t (g t) a a s z refl (λ i keep e. e) h) keeps parts.1)

beside_empty : (t u : TableSchema) → Beside t u empty_schema empty_schema
beside_empty t u = record { tables = refl; names = λ name. refl; few = omega arith; free = λ name e. e; there = λ i keeps e. e }

read_indexes : (q : Index → Bool) (is : List Index) → AllByRecursion IsReadAsItself (map create_index is) → AllByRecursion IsReadAsItself (map create_index (filter q is))
read_indexes q [] h = tt
read_indexes q (i ∷ is) h =
    let rest = read_indexes q is h.1 in
    elim (q i) as (λ b. AllByRecursion IsReadAsItself (map create_index (cond b (i ∷ filter q is) (filter q is)))) [ true ↦ (h.0, rest) | false ↦ rest ]

read_tables : (q : Index → Bool) (ts : List TableSchema) (is : List Index) → AllByRecursion IsReadAsItself (map create_table ts ++ map create_index is) → AllByRecursion IsReadAsItself (map create_table ts ++ map create_index (filter q is))
read_tables q [] is h = read_indexes q is h
read_tables q (a ∷ ts) is h = (h.0, read_tables q ts is h.1)

altered_read : (n : ℕ) (g : TableSchema → TableSchema) (q : Index → Bool) (t : TableSchema) (ts : List TableSchema) (is : List Index) → slice_get ts n ≡ Some t → (IsReadAsItself (create_table t) → IsReadAsItself (create_table (g t)))
    → AllByRecursion IsReadAsItself (map create_table ts ++ map create_index is) → AllByRecursion IsReadAsItself (map create_table (changed_at n g ts) ++ map create_index (filter q is))
altered_read n g q t [] is at r h = absurd (cc)
altered_read zero g q t (a ∷ ts) is at r h =
    let same : a ≡ t = cc in
    let first : IsReadAsItself (create_table (g t)) = r (subst (λ (x : TableSchema). IsReadAsItself (create_table x)) same h.0) in
    (subst (λ (x : TableSchema). IsReadAsItself (create_table (g x))) (sym same) first, read_tables q ts is h.1)
altered_read (suc n) g q t (a ∷ ts) is at r h = (h.0, altered_read n g q t ts is at r h.1)

-- the table at a place gets other columns, and indexes go
pub made_altered : (n : ℕ) (g : TableSchema → TableSchema) (q : Index → Bool) (t : TableSchema) (schema : Schema) → slice_get schema.tables n ≡ Some t → (g t).name ≡ t.name → (IsFine t → IsFine (g t))
    → AllByRecursion (λ (i : Index). q i ≡ true → KeepsIndex t (g t) i) schema.indexes → (IsReadAsItself (create_table t) → IsReadAsItself (create_table (g t))) → IsMade schema
    → IsMade (record { tables = changed_at n g schema.tables; indexes = filter q schema.indexes })
made_altered n g q t schema at e f keeps r made = record {
  read = altered_read n g q t schema.tables schema.indexes at r made.read;
  accepted = altered_accepted n g q t schema.tables schema.indexes empty_schema empty_schema at e f (beside_empty t (g t)) keeps made.accepted;
}
