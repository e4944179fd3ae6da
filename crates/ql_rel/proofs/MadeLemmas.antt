-- A table that CREATE TABLE accepts leaves a schema whose CREATE statements are read and accepted.
use Rattle.std.proofs.Common.{◌≡◌, ℕ, suc, ◌+◌, ◌<◌, Bool, true, false, cond, not, ◌&&◌, ◌||◌, nat_le, List, [], ◌∷◌, ◌++◌, length, map, refl, sym, ap, subst, ◌∙◌, arith}
use Rattle.std.proofs.lemmas.Bool.Decides.{nat_tests}
use Rattle.std.proofs.lemmas.Slice.Eq.{bytes_eq-Decides}
use Rattle.std.specs.List.{list_any, AllByRecursion}
use Rattle.std.specs.Str.{bytes_eq}
use Rattle.std.specs.Cmp.Lexicographic.{slice_cmp}
use Rattle.std.specs.Ordering.{nat_cmp, is_lt, ordering_reverse}
use Rattle.std.specs.declared.cmp.Ordering.{Ordering}
use Rattle.std.specs.declared.cmp.Ordering.TheVariants.{Less, Equal, Greater}
use Rattle.std.proofs.lemmas.Cmp.{nat_list_cmp_total}
use Rattle.ql_rel.specs.declared.schema.Index.{Index}
use Rattle.ql_rel.specs.declared.schema.Schema.{Schema}
use Rattle.ql_rel.specs.declared.schema.TableSchema.{TableSchema}
use Rattle.ql_rel.specs.Accepted.{is_reserved, are_columns, is_index_at, accepts, created, accepts_all}
use Rattle.ql_rel.specs.Creates.{create_table, create_index}
use Rattle.ql_rel.specs.Databases.{empty_schema}
use Rattle.ql_rel.specs.Limits.{most_tables, are_past_columns, is_past_table, is_past_index}
use Rattle.ql_rel.specs.Names.{comes_before, has_name, table_names, index_names, is_name_taken, placed}
use Rattle.ql_rel.specs.WellFormed.{IsReadAsItself, IsMade}
use Rattle.ql_rel.proofs.NameLemmas.{or_parts, before_trans, before_other, length_placed, map_placed, any_placed}

pub other_way : (a b : List ℕ) → bytes_eq a b ≡ false → bytes_eq b a ≡ false
other_way a b e =
    let back : (r : Bool) → bytes_eq b a ≡ r → r ≡ false = elim [
      | true ↦ λ h. absurd (let same : bytes_eq a b ≡ true = (bytes_eq-Decides a b).1 (sym ((bytes_eq-Decides b a).0 h)) in cc)
      | false ↦ λ h. refl
    ] in
    back (bytes_eq b a) refl

pub two_parts : (a b : Bool) → (a && b) ≡ true → (a ≡ true) × (b ≡ true)
two_parts true b e = (refl, e)
two_parts false b e = absurd (cc)

pub both_parts : (a b : Bool) → a ≡ true → b ≡ true → (a && b) ≡ true
both_parts a b e f = rw (e, f) refl

pub neither : (a b : Bool) → a ≡ false → b ≡ false → (a || b) ≡ false
neither a b e f = rw (e, f) refl

pub or_right : (a b : Bool) → b ≡ true → (a || b) ≡ true
or_right true b e = refl
or_right false b e = e

-- what four tests say of a CREATE statement
pub record Stands (a b c d : Bool) : Type 0 where
  pub free : a ≡ false
  pub new : b ≡ false
  pub parts : c ≡ true
  pub within : d ≡ false

pub stands : (a b c d : Bool) → (not a && (not b && (c && not d))) ≡ true → Stands a b c d
stands true b c d e = absurd (cc)
stands false true c d e = absurd (cc)
stands false false false d e = absurd (cc)
stands false false true true e = absurd (cc)
stands false false true false e = record { free = refl; new = refl; parts = refl; within = refl }

pub stand : (a b c d : Bool) → Stands a b c d → (not a && (not b && (c && not d))) ≡ true
stand a b c d s = rw (s.free, s.new, s.parts, s.within) refl

abbrev pub NameOf : TableSchema → List ℕ
NameOf t = t.name

-- the schema with one table more
abbrev pub plus : TableSchema → Schema → Schema
plus t schema = record schema { tables = placed (λ (u : TableSchema). u.name) t schema.tables }

module _ {A : Type 0} (name : A → List ℕ) where
  -- two members that are placed one after the other
  swap_at : (x y h : A) (l : List A) (p q : Bool) → comes_before (name x) (name y) ≡ true → comes_before (name y) (name x) ≡ false
      → comes_before (name y) (name h) ≡ p → comes_before (name x) (name h) ≡ q → placed name x (placed name y l) ≡ placed name y (placed name x l)
      → placed name x (placed name y (h ∷ l)) ≡ placed name y (placed name x (h ∷ l))
  swap_at x y h l true true e f k j i = simp (k, j, e, f)
  swap_at x y h l true false e f k j i = absurd (let both = before_trans (name x) (name y) (name h) e k in cc)
  swap_at x y h l false true e f k j i = simp (k, j, f)
  swap_at x y h l false false e f k j i = simp (k, j) (ap (λ (zs : List A). h ∷ zs) i)

  swap_placed : (x y : A) (l : List A) → comes_before (name x) (name y) ≡ true → comes_before (name y) (name x) ≡ false → placed name x (placed name y l) ≡ placed name y (placed name x l)
  swap_placed x y [] e f = simp (e, f)
  swap_placed x y (h ∷ l) e f = swap_at x y h l (comes_before (name y) (name h)) (comes_before (name x) (name h)) e f refl refl (swap_placed x y l e f)

less_is : (o : Ordering) → is_lt o ≡ true → o ≡ Less
less_is Less e = refl
less_is Equal e = absurd (cc)
less_is Greater e = absurd (cc)

not_both : (a b : List ℕ) → comes_before a b ≡ true → comes_before b a ≡ false
not_both a b e = ap is_lt (nat_list_cmp_total.antisymm b a ∙ ap ordering_reverse (less_is (slice_cmp nat_cmp a b) e))

-- tables of different names may be placed in either order
swap_tables : (t u : TableSchema) (l : List TableSchema) → bytes_eq u.name t.name ≡ false → placed NameOf t (placed NameOf u l) ≡ placed NameOf u (placed NameOf t l)
swap_tables t u l d =
    let by : (r : Bool) → comes_before t.name u.name ≡ r → placed NameOf t (placed NameOf u l) ≡ placed NameOf u (placed NameOf t l) = elim [
      | true ↦ λ e. swap_placed NameOf t u l e (not_both t.name u.name e)
      | false ↦ λ e.
          let back = before_other t.name u.name e d in
          sym (swap_placed NameOf u t l back e)
    ] in
    by (comes_before t.name u.name) refl

-- the names with one more
pub taken_plus : (n : List ℕ) (t : TableSchema) (l : List TableSchema) → has_name n (table_names (placed NameOf t l)) ≡ (bytes_eq t.name n || has_name n (table_names l))
taken_plus n t l = ap (has_name n) (map_placed NameOf (λ (x : List ℕ). x) t l) ∙ any_placed (λ (x : List ℕ). x) (λ other. bytes_eq other n) t.name (table_names l)

few_enough : (m n : ℕ) → m < n → nat_le n m ≡ false
few_enough m n h = grind (arith, nat_tests)

-- CREATE TABLE of another table stays accepted
keep_table : (t u : TableSchema) (schema : Schema) → accepts schema (create_table u) ≡ true → bytes_eq t.name u.name ≡ false → suc (length schema.tables) < most_tables → accepts (plus t schema) (create_table u) ≡ true
unfolding accepts
keep_table t u schema a d h =
    let s = stands (is_reserved u.name) (is_name_taken u.name schema) (are_columns u.name u.columns) (is_past_table u schema) a in
    let taken = or_parts (has_name u.name (table_names schema.tables)) (has_name u.name (index_names schema.indexes)) s.new in
    let past = or_parts (nat_le most_tables (length schema.tables)) (are_past_columns u.columns) s.within in
    let more : suc (length schema.tables) ≡ length (placed NameOf t schema.tables) = sym (length_placed NameOf t schema.tables) in
    stand (is_reserved u.name) (is_name_taken u.name (plus t schema)) (are_columns u.name u.columns) (is_past_table u (plus t schema)) (record {
      free = s.free;
      new = neither _ _ (taken_plus u.name t schema.tables ∙ neither _ _ d taken.0) taken.1;
      parts = s.parts;
      within = neither _ _ (few_enough (length (placed NameOf t schema.tables)) most_tables (subst (λ n. n < most_tables) more h)) past.1;
    })

-- CREATE INDEX stays accepted
keep_index : (t : TableSchema) (i : Index) (schema : Schema) → accepts schema (create_index i) ≡ true → bytes_eq t.name i.name ≡ false → accepts (plus t schema) (create_index i) ≡ true
unfolding accepts
keep_index t i schema a d =
    let s = stands (is_reserved i.name) (is_name_taken i.name schema) (list_any (is_index_at i.name i.table i.item) schema.tables) (is_past_index schema) a in
    let taken = or_parts (has_name i.name (table_names schema.tables)) (has_name i.name (index_names schema.indexes)) s.new in
    stand (is_reserved i.name) (is_name_taken i.name (plus t schema)) (list_any (is_index_at i.name i.table i.item) (placed NameOf t schema.tables)) (is_past_index (plus t schema)) (record {
      free = s.free;
      new = neither _ _ (taken_plus i.name t schema.tables ∙ neither _ _ d taken.0) taken.1;
      parts = any_placed NameOf (is_index_at i.name i.table i.item) t schema.tables ∙ or_right (is_index_at i.name i.table i.item t) _ s.parts;
      within = s.within;
    })

after_index : (t : TableSchema) (i : Index) (schema : Schema) → created (plus t schema) (create_index i) ≡ plus t (created schema (create_index i))
unfolding created
after_index t i schema = refl

after_table : (t u : TableSchema) (schema : Schema) → bytes_eq u.name t.name ≡ false → created (plus t schema) (create_table u) ≡ plus t (created schema (create_table u))
unfolding created
after_table t u schema d = ap (λ (ts : List TableSchema). record { tables = ts; indexes = schema.indexes }) (sym (swap_tables t u schema.tables d))

after_self : (t : TableSchema) (schema : Schema) → created schema (create_table t) ≡ plus t schema
unfolding created
after_self t schema = refl

indexes_kept : (t : TableSchema) (is : List Index) (schema : Schema) → accepts_all schema (map create_index is) ≡ true → has_name t.name (index_names is) ≡ false → accepts_all (plus t schema) (map create_index is) ≡ true
indexes_kept t [] schema a n = refl
indexes_kept t (i ∷ is) schema a n =
    let parts = two_parts (accepts schema (create_index i)) (accepts_all (created schema (create_index i)) (map create_index is)) a in
    let names = or_parts (bytes_eq i.name t.name) (has_name t.name (index_names is)) n in
    both_parts (accepts (plus t schema) (create_index i)) (accepts_all (created (plus t schema) (create_index i)) (map create_index is))
    (keep_index t i schema parts.0 (other_way i.name t.name names.0))
    (subst (λ (z : Schema). accepts_all z (map create_index is) ≡ true) (sym (after_index t i schema)) (indexes_kept t is (created schema (create_index i)) parts.1 names.1))

tables_of_index : (schema : Schema) (i : Index) → (created schema (create_index i)).tables ≡ schema.tables
unfolding created
tables_of_index schema i = refl

count_after : (u : TableSchema) (schema : Schema) → length (created schema (create_table u)).tables ≡ suc (length schema.tables)
unfolding created
count_after u schema = length_placed NameOf u schema.tables

names_after : (n : List ℕ) (u : TableSchema) (schema : Schema) → has_name n (table_names (created schema (create_table u)).tables) ≡ (bytes_eq u.name n || has_name n (table_names schema.tables))
unfolding created
names_after n u schema = taken_plus n u schema.tables

indexes_after : (u : TableSchema) (schema : Schema) → (created schema (create_table u)).indexes ≡ schema.indexes
unfolding created
indexes_after u schema = refl

-- the CREATE statements of tables and indexes stay accepted behind one table more
tables_kept : (t : TableSchema) (us : List TableSchema) (is : List Index) (schema : Schema) → accepts_all schema (map create_table us ++ map create_index is) ≡ true
    → has_name t.name (table_names us) ≡ false → has_name t.name (index_names is) ≡ false → length schema.tables + length us < most_tables
    → accepts_all (plus t schema) (map create_table us ++ map create_index is) ≡ true
tables_kept t [] is schema a n m h = indexes_kept t is schema a m
tables_kept t (u ∷ us) is schema a n m h =
    let rest = map create_table us ++ map create_index is in
    let parts = two_parts (accepts schema (create_table u)) (accepts_all (created schema (create_table u)) rest) a in
    let names = or_parts (bytes_eq u.name t.name) (has_name t.name (table_names us)) n in
    both_parts (accepts (plus t schema) (create_table u)) (accepts_all (created (plus t schema) (create_table u)) rest)
    (keep_table t u schema parts.0 (other_way u.name t.name names.0) (omega arith))
    (subst (λ (z : Schema). accepts_all z rest ≡ true) (sym (after_table t u schema names.0))
    (tables_kept t us is (created schema (create_table u)) parts.1 names.1 m (omega (arith, count_after u schema))))

-- what CREATE TABLE needs of a schema and of the CREATE statements behind it
pub record IsNew (t : TableSchema) (schema : Schema) : Type 0 where
  pub free : is_reserved t.name ≡ false
  pub tables : has_name t.name (table_names schema.tables) ≡ false
  pub indexes : has_name t.name (index_names schema.indexes) ≡ false
  pub columns : are_columns t.name t.columns ≡ true
  pub within : are_past_columns t.columns ≡ false

new_accepted : (t : TableSchema) (schema : Schema) → IsNew t schema → length schema.tables < most_tables → accepts schema (create_table t) ≡ true
unfolding accepts
new_accepted t schema n h = stand (is_reserved t.name) (is_name_taken t.name schema) (are_columns t.name t.columns) (is_past_table t schema) (record {
  free = n.free;
  new = neither _ _ n.tables n.indexes;
  parts = n.columns;
  within = neither _ _ (few_enough (length schema.tables) most_tables h) n.within;
})

first_accepted : (t : TableSchema) (us : List TableSchema) (is : List Index) (schema : Schema) → accepts_all schema (map create_table us ++ map create_index is) ≡ true → IsNew t schema
    → has_name t.name (table_names us) ≡ false → has_name t.name (index_names is) ≡ false → length schema.tables + length us < most_tables
    → accepts_all schema (create_table t ∷ (map create_table us ++ map create_index is)) ≡ true
first_accepted t us is schema a w n m h =
    let rest = map create_table us ++ map create_index is in
    both_parts (accepts schema (create_table t)) (accepts_all (created schema (create_table t)) rest)
    (new_accepted t schema w (omega arith))
    (subst (λ (z : Schema). accepts_all z rest ≡ true) (sym (after_self t schema)) (tables_kept t us is schema a n m h))

placed_accepted : (t : TableSchema) (us : List TableSchema) (is : List Index) (schema : Schema) → accepts_all schema (map create_table us ++ map create_index is) ≡ true → IsNew t schema
    → has_name t.name (table_names us) ≡ false → has_name t.name (index_names is) ≡ false → length schema.tables + length us < most_tables
    → accepts_all schema (map create_table (placed NameOf t us) ++ map create_index is) ≡ true
placed_accepted t [] is schema a w n m h = first_accepted t [] is schema a w n m h
placed_accepted t (u ∷ us) is schema a w n m h =
    let rest = map create_table us ++ map create_index is in
    let parts = two_parts (accepts schema (create_table u)) (accepts_all (created schema (create_table u)) rest) a in
    let names = or_parts (bytes_eq u.name t.name) (has_name t.name (table_names us)) n in
    let next : IsNew t (created schema (create_table u)) = record {
      free = w.free;
      tables = names_after t.name u schema ∙ neither _ _ names.0 w.tables;
      indexes = ap (λ (js : List Index). has_name t.name (index_names js)) (indexes_after u schema) ∙ w.indexes;
      columns = w.columns;
      within = w.within;
    } in
    let later = both_parts (accepts schema (create_table u)) (accepts_all (created schema (create_table u)) (map create_table (placed NameOf t us) ++ map create_index is)) parts.0
    (placed_accepted t us is (created schema (create_table u)) parts.1 next names.1 m (omega (arith, count_after u schema))) in
    let first = first_accepted t (u ∷ us) is schema a w n m h in
    elim (comes_before t.name u.name) as (λ b. accepts_all schema (map create_table (cond b (t ∷ u ∷ us) (u ∷ placed NameOf t us)) ++ map create_index is) ≡ true) [ true ↦ first | false ↦ later ]

read_placed : (t : TableSchema) (us : List TableSchema) (is : List Index) → IsReadAsItself (create_table t) → AllByRecursion IsReadAsItself (map create_table us ++ map create_index is)
    → AllByRecursion IsReadAsItself (map create_table (placed NameOf t us) ++ map create_index is)
read_placed t [] is r h = (r, h)
read_placed t (u ∷ us) is r h =
    let rest = read_placed t us is r h.1 in
    elim (comes_before t.name u.name) as (λ b. AllByRecursion IsReadAsItself (map create_table (cond b (t ∷ u ∷ us) (u ∷ placed NameOf t us)) ++ map create_index is)) [ true ↦ (r, h) | false ↦ (h.0, rest) ]

-- a schema with one table more is made by its CREATE statements
pub made_plus : (t : TableSchema) (schema : Schema) → IsMade schema → IsReadAsItself (create_table t) → IsNew t schema → length schema.tables < most_tables → IsMade (plus t schema)
made_plus t schema made r n h = record {
  read = read_placed t schema.tables schema.indexes r made.read;
  accepted = placed_accepted t schema.tables schema.indexes empty_schema made.accepted
      (record { free = n.free; tables = refl; indexes = refl; columns = n.columns; within = n.within }) n.tables n.indexes (omega (arith, h));
}
