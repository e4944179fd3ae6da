-- The CREATE statements of a schema stay accepted when those of one table and of its indexes go.
use Rattle.std.proofs.Common.{◌≡◌, ℕ, zero, suc, ◌<◌, ◌≤◌, Bool, true, false, not, ◌&&◌, ◌||◌, nat_le, List, [], ◌∷◌, ◌++◌, length, map, filter, remove, slice_get, if◌then◌else◌, refl, sym, ap, subst, ◌∙◌, arith}
use Rattle.std.proofs.lemmas.Bool.Decides.{nat_tests}
use Rattle.std.proofs.lemmas.Cmp.{nat_list_eq_equiv}
use Rattle.std.specs.List.{list_any, AllByRecursion}
use Rattle.std.specs.Str.{bytes_eq}
use Rattle.ql_syntax.specs.declared.statement.ColumnDef.{ColumnDef}
use Rattle.ql_syntax.specs.declared.statement.Item.{Item}
use Rattle.ql_syntax.specs.declared.statement.Statement.{Statement}
use Rattle.ql_syntax.specs.declared.statement.Statement.TheVariants as s
use Rattle.ql_rel.specs.declared.schema.Index.{Index}
use Rattle.ql_rel.specs.declared.schema.Schema.{Schema}
use Rattle.ql_rel.specs.declared.schema.TableSchema.{TableSchema}
use Rattle.ql_rel.specs.Accepted.{is_reserved, are_columns, is_index_at, accepts, created, accepts_all}
use Rattle.ql_rel.specs.Changes.{is_of_other}
use Rattle.ql_rel.specs.Creates.{create_table, create_index}
use Rattle.ql_rel.specs.Databases.{empty_schema, name_if}
use Rattle.ql_rel.specs.Limits.{most_tables, most_indexes, are_past_columns, is_past_table, is_past_index}
use Rattle.ql_rel.specs.Names.{has_name, table_names, index_names, is_name_taken, placed}
use Rattle.ql_rel.proofs.NameLemmas.{or_parts, any_placed, length_placed, map_placed}

and_parts : (x y : Bool) → (x && y) ≡ true → (x ≡ true) × (y ≡ true)
and_parts true y e = (refl, e)
and_parts false y e = absurd (cc)

and_both : (x y : Bool) → x ≡ true → y ≡ true → (x && y) ≡ true
and_both true y e f = f
and_both false y e f = absurd (cc)

or_both : (x y : Bool) → x ≡ false → y ≡ false → (x || y) ≡ false
or_both true y e f = absurd (cc)
or_both false y e f = f

or_more : (q x y : Bool) → (x ≡ true → y ≡ true) → (q || x) ≡ true → (q || y) ≡ true
or_more true x y f e = refl
or_more false x y f e = f e

or_less : (q x y : Bool) → q ≡ false → (x ≡ true → y ≡ true) → (q || x) ≡ true → y ≡ true
or_less true x y n f e = absurd (cc)
or_less false x y n f e = f e

pub is_not : (b : Bool) → not b ≡ true → b ≡ false
is_not true e = absurd (cc)
is_not false e = refl

not_is : (b : Bool) → b ≡ false → not b ≡ true
not_is true e = absurd (cc)
not_is false e = refl

or_third : (a b c : Bool) → ((a || b) || c) ≡ (a || (b || c))
or_third true b c = refl
or_third false b c = refl

or_second : (a b c : Bool) → (a || (b || c)) ≡ (b || (a || c))
or_second true true c = refl
or_second true false c = refl
or_second false true c = refl
or_second false false c = refl

pub fewer : (limit m n : ℕ) → m ≤ n → nat_le limit n ≡ false → nat_le limit m ≡ false
fewer limit m n l e = grind (arith, nat_tests)

pub bytes_other : (a b : List ℕ) → bytes_eq a b ≡ false → bytes_eq b a ≡ false
bytes_other a b e = nat_list_eq_equiv.symm b a ∙ e

-- the CREATE statements that are left when those of a table and of its indexes go
pub data Thinned (gone : List ℕ) : List Statement → List Statement → Type 0 where
  nothing : Thinned gone [] []
  with_its : {name : List ℕ} {columns : List ColumnDef} {kept all : List Statement} → Thinned gone kept all →
      Thinned gone (s.CreateTable false name columns ∷ kept) (s.CreateTable false name columns ∷ all)
  without_its : {columns : List ColumnDef} {kept all : List Statement} → Thinned gone kept all → Thinned gone kept (s.CreateTable false gone columns ∷ all)
  with_one : {unique : Bool} {name at : List ℕ} {it : Item} {kept all : List Statement} → bytes_eq at gone ≡ false → Thinned gone kept all →
      Thinned gone (s.CreateIndex unique false name at it ∷ kept) (s.CreateIndex unique false name at it ∷ all)
  without_one : {unique : Bool} {name at : List ℕ} {it : Item} {kept all : List Statement} → Thinned gone kept all → Thinned gone kept (s.CreateIndex unique false name at it ∷ all)

-- what holds of all statements holds of those that are left
pub all_thinned : {gone : List ℕ} {kept all : List Statement} (P : Statement → Type 0) → Thinned gone kept all → AllByRecursion P all → AllByRecursion P kept
all_thinned P nothing h = tt
all_thinned P (with_its t) h = (h.0, all_thinned P t h.1)
all_thinned P (without_its t) h = all_thinned P t h.1
all_thinned P (with_one e t) h = (h.0, all_thinned P t h.1)
all_thinned P (without_one t) h = all_thinned P t h.1

-- a schema beside which another one lacks at most a table and its indexes
pub record IsBelow (gone : List ℕ) (less more : Schema) : Type 0 where
  tables : length less.tables ≤ length more.tables
  indexes : length less.indexes ≤ length more.indexes
  free : (name : List ℕ) → is_name_taken name more ≡ false → is_name_taken name less ≡ false
  there : (index at : List ℕ) (it : Item) → bytes_eq at gone ≡ false → list_any (is_index_at index at it) more.tables ≡ true → list_any (is_index_at index at it) less.tables ≡ true

abbrev with_table : TableSchema → Schema → Schema
with_table t schema = record schema { tables = placed (λ (u : TableSchema). u.name) t schema.tables }

abbrev with_index : Index → Schema → Schema
with_index i schema = record schema { indexes = placed (λ (j : Index). j.name) i schema.indexes }

taken_table : (name : List ℕ) (t : TableSchema) (schema : Schema) → is_name_taken name (with_table t schema) ≡ (bytes_eq t.name name || is_name_taken name schema)
taken_table name t schema =
    ap (λ ns. has_name name ns || has_name name (index_names schema.indexes)) (map_placed (λ (u : TableSchema). u.name) (λ n. n) t schema.tables)
    ∙ ap (λ b. b || has_name name (index_names schema.indexes)) (any_placed (λ n. n) (λ other. bytes_eq other name) t.name (table_names schema.tables))
    ∙ or_third (bytes_eq t.name name) (has_name name (table_names schema.tables)) (has_name name (index_names schema.indexes))

taken_index : (name : List ℕ) (i : Index) (schema : Schema) → is_name_taken name (with_index i schema) ≡ (bytes_eq i.name name || is_name_taken name schema)
taken_index name i schema =
    ap (λ ns. has_name name (table_names schema.tables) || has_name name ns) (map_placed (λ (j : Index). j.name) (λ n. n) i schema.indexes)
    ∙ ap (λ b. has_name name (table_names schema.tables) || b) (any_placed (λ n. n) (λ other. bytes_eq other name) i.name (index_names schema.indexes))
    ∙ or_second (has_name name (table_names schema.tables)) (bytes_eq i.name name) (has_name name (index_names schema.indexes))

-- with a table more in both, or in the larger one alone

below_table : {gone : List ℕ} {less more : Schema} (t : TableSchema) → IsBelow gone less more → IsBelow gone (with_table t less) (with_table t more)
below_table {less = less} {more = more} t b = record {
  tables = rw (length_placed (λ (u : TableSchema). u.name) t less.tables, length_placed (λ (u : TableSchema). u.name) t more.tables) (omega (arith, b.tables));
  indexes = b.indexes;
  free = λ name e.
      let parts = or_parts (bytes_eq t.name name) (is_name_taken name more) (sym (taken_table name t more) ∙ e) in
      taken_table name t less ∙ or_both (bytes_eq t.name name) (is_name_taken name less) parts.0 (b.free name parts.1);
  there = λ index at it e h.
      any_placed (λ (u : TableSchema). u.name) (is_index_at index at it) t less.tables
      ∙ or_more (is_index_at index at it t) (list_any (is_index_at index at it) more.tables) (list_any (is_index_at index at it) less.tables) (b.there index at it e)
      (sym (any_placed (λ (u : TableSchema). u.name) (is_index_at index at it) t more.tables) ∙ h);
}

below_no_table : {gone : List ℕ} {less more : Schema} (columns : List ColumnDef) → IsBelow gone less more → IsBelow gone less (with_table (record { name = gone; columns = columns }) more)
below_no_table {gone = gone} {less = less} {more = more} columns b =
    let t : TableSchema = record { name = gone; columns = columns } in
    record {
      tables = rw (length_placed (λ (u : TableSchema). u.name) t more.tables) (omega (arith, b.tables));
      indexes = b.indexes;
      free = λ name e. b.free name (or_parts (bytes_eq gone name) (is_name_taken name more) (sym (taken_table name t more) ∙ e)).1;
      there = λ index at it e h.
          let other : is_index_at index at it t ≡ false = rw (bytes_other at gone e) refl in
          or_less (is_index_at index at it t) (list_any (is_index_at index at it) more.tables) (list_any (is_index_at index at it) less.tables) other (b.there index at it e)
          (sym (any_placed (λ (u : TableSchema). u.name) (is_index_at index at it) t more.tables) ∙ h);
    }

-- with an index more in both, or in the larger one alone

below_index : {gone : List ℕ} {less more : Schema} (i : Index) → IsBelow gone less more → IsBelow gone (with_index i less) (with_index i more)
below_index {less = less} {more = more} i b = record {
  tables = b.tables;
  indexes = rw (length_placed (λ (j : Index). j.name) i less.indexes, length_placed (λ (j : Index). j.name) i more.indexes) (omega (arith, b.indexes));
  free = λ name e.
      let parts = or_parts (bytes_eq i.name name) (is_name_taken name more) (sym (taken_index name i more) ∙ e) in
      taken_index name i less ∙ or_both (bytes_eq i.name name) (is_name_taken name less) parts.0 (b.free name parts.1);
  there = b.there;
}

below_no_index : {gone : List ℕ} {less more : Schema} (i : Index) → IsBelow gone less more → IsBelow gone less (with_index i more)
below_no_index {less = less} {more = more} i b = record {
  tables = b.tables;
  indexes = rw (length_placed (λ (j : Index). j.name) i more.indexes) (omega (arith, b.indexes));
  free = λ name e. b.free name (or_parts (bytes_eq i.name name) (is_name_taken name more) (sym (taken_index name i more) ∙ e)).1;
  there = b.there;
}

-- what is accepted over the larger schema is accepted over the smaller one

accepts_table : {gone : List ℕ} {less more : Schema} (name : List ℕ) (columns : List ColumnDef) → IsBelow gone less more → accepts more (s.CreateTable false name columns) ≡ true → accepts less (s.CreateTable false name columns) ≡ true
unfolding accepts
accepts_table {less = less} {more = more} name columns b e =
    let t : TableSchema = record { name = name; columns = columns } in
    let one = and_parts (not (is_reserved name)) _ e in
    let two = and_parts (not (is_name_taken name more)) _ one.1 in
    let three = and_parts (are_columns name columns) _ two.1 in
    let past = or_parts (nat_le most_tables (length more.tables)) (are_past_columns columns) (is_not (is_past_table t more) three.1) in
    let few : is_past_table t less ≡ false = or_both (nat_le most_tables (length less.tables)) (are_past_columns columns) (fewer most_tables (length less.tables) (length more.tables) b.tables past.0) past.1 in
    and_both (not (is_reserved name)) _ one.0 (and_both (not (is_name_taken name less)) _ (not_is _ (b.free name (is_not _ two.0))) (and_both (are_columns name columns) _ three.0 (not_is _ few)))

accepts_index : {gone : List ℕ} {less more : Schema} (unique : Bool) (name at : List ℕ) (it : Item) → bytes_eq at gone ≡ false → IsBelow gone less more →
    accepts more (s.CreateIndex unique false name at it) ≡ true → accepts less (s.CreateIndex unique false name at it) ≡ true
unfolding accepts
accepts_index {less = less} {more = more} unique name at it other b e =
    let one = and_parts (not (is_reserved name)) _ e in
    let two = and_parts (not (is_name_taken name more)) _ one.1 in
    let three = and_parts (list_any (is_index_at name at it) more.tables) _ two.1 in
    let few : is_past_index less ≡ false = fewer most_indexes (length less.indexes) (length more.indexes) b.indexes (is_not (is_past_index more) three.1) in
    and_both (not (is_reserved name)) _ one.0 (and_both (not (is_name_taken name less)) _ (not_is _ (b.free name (is_not _ two.0))) (and_both (list_any (is_index_at name at it) less.tables) _ (b.there name at it other three.0) (not_is _ few)))

pub accepts_thinned : {gone : List ℕ} {kept all : List Statement} (less more : Schema) → Thinned gone kept all → IsBelow gone less more → accepts_all more all ≡ true → accepts_all less kept ≡ true
unfolding created
accepts_thinned less more nothing b e = refl
accepts_thinned less more (with_its {name = name} {columns = columns} t) b e =
    let parts = and_parts (accepts more (s.CreateTable false name columns)) _ e in
    let x : TableSchema = record { name = name; columns = columns } in
    and_both (accepts less (s.CreateTable false name columns)) _ (accepts_table name columns b parts.0) (accepts_thinned (with_table x less) (with_table x more) t (below_table x b) parts.1)
accepts_thinned {gone = gone} less more (without_its {columns = columns} t) b e =
    let parts = and_parts (accepts more (s.CreateTable false gone columns)) _ e in
    accepts_thinned less (with_table (record { name = gone; columns = columns }) more) t (below_no_table columns b) parts.1
accepts_thinned less more (with_one {unique = unique} {name = name} {at = at} {it = it} other t) b e =
    let parts = and_parts (accepts more (s.CreateIndex unique false name at it)) _ e in
    let x : Index = record { name = name; table = at; item = it; unique = unique } in
    and_both (accepts less (s.CreateIndex unique false name at it)) _ (accepts_index unique name at it other b parts.0) (accepts_thinned (with_index x less) (with_index x more) t (below_index x b) parts.1)
accepts_thinned less more (without_one {unique = unique} {name = name} {at = at} {it = it} t) b e =
    let parts = and_parts (accepts more (s.CreateIndex unique false name at it)) _ e in
    let x : Index = record { name = name; table = at; item = it; unique = unique } in
    accepts_thinned less (with_index x more) t (below_no_index x b) parts.1

pub below_empty : (gone : List ℕ) → IsBelow gone empty_schema empty_schema
below_empty gone = record { tables = omega arith; indexes = omega arith; free = λ name e. e; there = λ index at it e h. h }

-- the CREATE statements of a schema without one of its tables

same_tables : (gone : List ℕ) (tables : List TableSchema) (kept all : List Statement) → Thinned gone kept all → Thinned gone (map create_table tables ++ kept) (map create_table tables ++ all)
same_tables gone [] kept all h = h
same_tables gone (t ∷ tables) kept all h = with_its (same_tables gone tables kept all h)

less_tables : (n : ℕ) (tables : List TableSchema) (kept all : List Statement) → n < length tables → Thinned (name_if (slice_get tables n)) kept all →
    Thinned (name_if (slice_get tables n)) (map create_table (remove tables n) ++ kept) (map create_table tables ++ all)
less_tables n [] kept all l h = absurd (omega arith)
less_tables zero (t ∷ tables) kept all l h = without_its (same_tables t.name tables kept all h)
less_tables (suc n) (t ∷ tables) kept all l h = with_its (less_tables n tables kept all (omega (arith, l)) h)

kept_index : (gone : List ℕ) (i : Index) (kept all : List Statement) (b : Bool) → bytes_eq i.table gone ≡ b → (more : List Index) → kept ≡ map create_index more → Thinned gone kept all →
    Thinned gone (map create_index (if not b then i ∷ more else more)) (create_index i ∷ all)
kept_index gone i kept all true e more f h = without_one (subst (λ k. Thinned gone k all) f h)
kept_index gone i kept all false e more f h = with_one e (subst (λ k. Thinned gone k all) f h)

less_indexes : (gone : List ℕ) (indexes : List Index) → Thinned gone (map create_index (filter (is_of_other gone) indexes)) (map create_index indexes)
less_indexes gone [] = nothing
less_indexes gone (i ∷ indexes) = kept_index gone i _ _ (bytes_eq i.table gone) refl (filter (is_of_other gone) indexes) refl (less_indexes gone indexes)

pub creates_thinned : (n : ℕ) (tables : List TableSchema) (indexes : List Index) → n < length tables →
    Thinned (name_if (slice_get tables n)) (map create_table (remove tables n) ++ map create_index (filter (is_of_other (name_if (slice_get tables n))) indexes)) (map create_table tables ++ map create_index indexes)
creates_thinned n tables indexes l = less_tables n tables _ _ l (less_indexes (name_if (slice_get tables n)) indexes)
