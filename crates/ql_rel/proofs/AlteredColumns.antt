-- A table with a column more or less, whose columns take every value, leaves a schema that its CREATE statements make.
use Rattle.std.proofs.Common.{◌≡◌, ℕ, zero, suc, ◌+◌, ◌<◌, ◌≤◌, Bool, true, false, not, ◌&&◌, nat_lt, nat_le, List, [], ◌∷◌, ◌++◌, length, map, filter, remove, slice_get, Option, Some, refl, sym, ap, subst, ◌∙◌, arith, length-append}
use Rattle.std.proofs.lemmas.Bool.Decides.{nat_tests}
use Rattle.std.proofs.lemmas.List.Edits.{length-remove}
use Rattle.std.proofs.lemmas.Slice.Eq.{bytes_eq-Decides}
use Rattle.std.specs.Prelude.{is_none}
use Rattle.std.specs.List.{list_any, list_all, AllByRecursion}
use Rattle.std.specs.Str.{bytes_eq}
use Rattle.ql_syntax.specs.declared.scope.Scope.{Scope}
use Rattle.ql_syntax.specs.declared.statement.ColumnDef.{ColumnDef}
use Rattle.ql_syntax.specs.declared.statement.Item.{Item}
use Rattle.ql_syntax.specs.declared.statement.Item.TheVariants as item
use Rattle.ql_rel.specs.declared.db.Db.{Db}
use Rattle.ql_rel.specs.declared.schema.Index.{Index}
use Rattle.ql_rel.specs.declared.schema.TableSchema.{TableSchema}
use Rattle.ql_rel.specs.Accepted.{is_reserved, rule_scope, is_rule, is_default, is_column, is_item_there}
use Rattle.ql_rel.specs.Changes.{changed_at, with_column, without_column, is_by, is_not_by, column_added, column_dropped}
use Rattle.ql_rel.specs.CreatePlans.{takes_all}
use Rattle.ql_rel.specs.Creates.{create_table}
use Rattle.ql_rel.specs.Databases.{schema_of, table_schema, name_if, columns_if, column_name_if}
use Rattle.ql_rel.specs.Limits.{most_columns, is_past_column, is_past_added}
use Rattle.ql_rel.specs.Names.{has_name, are_different, column_names, is_index_of, is_column_taken}
use Rattle.ql_rel.specs.WellFormed.{IsReadAsItself, IsMade}
use Rattle.ql_rel.proofs.AlteredLemmas.{IsFine, KeepsIndex, or_steps, made_altered}
use Rattle.ql_rel.proofs.ColumnForms.{map_changed, wider}
use Rattle.ql_rel.proofs.CreateLemmas.{rule_none, default_none, is_not, some_is, any_front}
use Rattle.ql_rel.proofs.MadeLemmas.{other_way, two_parts, both_parts, neither}
use Rattle.ql_rel.proofs.NameLemmas.{or_parts, map_remove, shorter_remove}
use Rattle.ql_rel.proofs.NarrowForms.{narrower}

not_false : (b : Bool) → not b ≡ true → b ≡ false
not_false true e = absurd (cc)
not_false false e = refl

-- columns that take every value may stand in every table

plain_stands : (scope : Scope) (c : ColumnDef) → not (is_reserved c.name) ≡ true → takes_all c ≡ true → is_column scope c ≡ true
plain_stands scope c free h =
    let plain = two_parts (not c.not_null) (is_none c.rule && is_none c.default) h in
    let bare = two_parts (is_none c.rule) (is_none c.default) plain.1 in
    both_parts (not (is_reserved c.name)) (is_rule scope c.rule && is_default c.kind c.default) free
    (both_parts (is_rule scope c.rule) (is_default c.kind c.default) (rule_none scope c.rule bare.0) (default_none c.kind c.default bare.1))

plain_stand : (scope other : Scope) (cs : List ColumnDef) → list_all takes_all cs ≡ true → list_all (is_column scope) cs ≡ true → list_all (is_column other) cs ≡ true
plain_stand scope other [] h k = refl
plain_stand scope other (c ∷ cs) h k =
    let plain = two_parts (takes_all c) (list_all takes_all cs) h in
    let stands = two_parts (is_column scope c) (list_all (is_column scope) cs) k in
    let free = two_parts (not (is_reserved c.name)) (is_rule scope c.rule && is_default c.kind c.default) stands.0 in
    both_parts (is_column other c) (list_all (is_column other) cs) (plain_stands other c free.0 plain.0) (plain_stand scope other cs plain.1 stands.1)

-- what four tests say of the columns of a table
record Fine (name : List ℕ) (cs : List ColumnDef) : Type 0 where
  different : are_different (column_names cs) ≡ true
  stand : list_all (is_column (rule_scope name cs)) cs ≡ true
  few : nat_lt most_columns (length cs) ≡ false
  texts : list_any is_past_column cs ≡ false

fine_parts : (t : TableSchema) → IsFine t → Fine t.name t.columns
fine_parts t f =
    let a = two_parts (nat_lt 0 (length t.columns)) (are_different (column_names t.columns) && list_all (is_column (rule_scope t.name t.columns)) t.columns) f.0 in
    let b = two_parts (are_different (column_names t.columns)) (list_all (is_column (rule_scope t.name t.columns)) t.columns) a.1 in
    let p = or_parts (nat_lt most_columns (length t.columns)) (list_any is_past_column t.columns) f.1 in
    record { different = b.0; stand = b.1; few = p.0; texts = p.1 }

fine_whole : (t : TableSchema) → nat_lt 0 (length t.columns) ≡ true → Fine t.name t.columns → IsFine t
fine_whole t some f = (
  both_parts (nat_lt 0 (length t.columns)) (are_different (column_names t.columns) && list_all (is_column (rule_scope t.name t.columns)) t.columns) some
      (both_parts (are_different (column_names t.columns)) (list_all (is_column (rule_scope t.name t.columns)) t.columns) f.different f.stand),
  neither (nat_lt most_columns (length t.columns)) (list_any is_past_column t.columns) f.few f.texts,
)

-- a column more

some_more : (cs : List ColumnDef) (c : ColumnDef) → nat_lt 0 (length (cs ++ c ∷ [])) ≡ true
some_more [] c = refl
some_more (d ∷ cs) c = some_is (length (cs ++ c ∷ []))

none_more : {A : Type 0} (q : A → Bool) (xs : List A) (x : A) → list_any q xs ≡ false → q x ≡ false → list_any q (xs ++ x ∷ []) ≡ false
none_more q [] x h e = neither (q x) false e refl
none_more q (y ∷ xs) x h e = let parts = or_parts (q y) (list_any q xs) h in neither (q y) (list_any q (xs ++ x ∷ [])) parts.0 (none_more q xs x parts.1 e)

pub all_more : {A : Type 0} (q : A → Bool) (xs : List A) (x : A) → list_all q xs ≡ true → q x ≡ true → list_all q (xs ++ x ∷ []) ≡ true
all_more q [] x h e = both_parts (q x) true e refl
all_more q (y ∷ xs) x h e = let parts = two_parts (q y) (list_all q xs) h in both_parts (q y) (list_all q (xs ++ x ∷ [])) parts.0 (all_more q xs x parts.1 e)

names_more : (cs : List ColumnDef) (c : ColumnDef) → column_names (cs ++ c ∷ []) ≡ column_names cs ++ c.name ∷ []
names_more [] c = refl
names_more (d ∷ cs) c = ap (λ (ns : List (List ℕ)). d.name ∷ ns) (names_more cs c)

different_more : (names : List (List ℕ)) (n : List ℕ) → are_different names ≡ true → has_name n names ≡ false → are_different (names ++ n ∷ []) ≡ true
different_more [] n h e = refl
different_more (m ∷ names) n h e =
    let parts = two_parts (not (has_name m names)) (are_different names) h in
    let apart = or_parts (bytes_eq m n) (has_name n names) e in
    let absent : has_name m names ≡ false = not_false (has_name m names) parts.0 in
    both_parts (not (has_name m (names ++ n ∷ []))) (are_different (names ++ n ∷ []))
    (is_not (has_name m (names ++ n ∷ [])) (none_more (λ other. bytes_eq other m) names n absent (other_way m n apart.0)))
    (different_more names n parts.1 apart.1)

room_left : (limit m n : ℕ) → n ≡ m + 1 → nat_le limit m ≡ false → nat_lt limit n ≡ false
room_left limit m n e h = grind (arith, nat_tests)

-- what a column that is added meets
pub record IsAdded (c : ColumnDef) (t : TableSchema) (indexes : List Index) : Type 0 where
  pub free : is_reserved c.name ≡ false
  pub new : is_column_taken t.name c.name t.columns indexes ≡ false
  pub plain : takes_all c ≡ true
  pub plains : list_all takes_all t.columns ≡ true

fine_wider : (c : ColumnDef) (t : TableSchema) (indexes : List Index) → IsAdded c t indexes → is_past_added c t.columns ≡ false → IsFine t → IsFine (wider c t)
fine_wider c t indexes a past f =
    let p = fine_parts t f in
    let cs = t.columns ++ c ∷ [] in
    let scope = rule_scope t.name cs in
    let within = or_parts (nat_le most_columns (length t.columns)) (is_past_column c) past in
    let new = or_parts (has_name c.name (column_names t.columns)) (list_any (is_index_of t.name c.name) indexes) a.new in
    fine_whole (wider c t) (some_more t.columns c) (record {
      different = ap are_different (names_more t.columns c) ∙ different_more (column_names t.columns) c.name p.different new.0;
      stand = all_more (is_column scope) t.columns c (plain_stand (rule_scope t.name t.columns) scope t.columns a.plains p.stand) (plain_stands scope c (is_not (is_reserved c.name) a.free) a.plain);
      few = room_left most_columns (length t.columns) (length cs) (length-append t.columns (c ∷ [])) within.0;
      texts = none_more is_past_column t.columns c p.texts within.1;
    })

item_wider : (cs : List ColumnDef) (c : ColumnDef) (it : Item) → is_item_there cs it ≡ true → is_item_there (cs ++ c ∷ []) it ≡ true
item_wider cs c (item.Column name) e = ap (has_name name) (names_more cs c) ∙ any_front (λ other. bytes_eq other name) (column_names cs) (c.name ∷ []) e
item_wider cs c item.Id e = refl

not_both : (b d : Bool) → (b && d) ≡ false → b ≡ true → d ≡ false
not_both true d e h = e
not_both false d e h = absurd (cc)

same_way : (a b : List ℕ) → bytes_eq a b ≡ true → bytes_eq b a ≡ true
same_way a b e = (bytes_eq-Decides b a).1 (sym ((bytes_eq-Decides a b).0 e))

index_wider : (c : ColumnDef) (t : TableSchema) (i : Index) → is_index_of t.name c.name i ≡ false → KeepsIndex t (wider c t) i
index_wider c t i e h =
    let here = two_parts (bytes_eq t.name i.table) (is_item_there t.columns i.item && not (has_name i.name (column_names t.columns))) h in
    let parts = two_parts (is_item_there t.columns i.item) (not (has_name i.name (column_names t.columns))) here.1 in
    let cs = t.columns ++ c ∷ [] in
    let apart : bytes_eq c.name i.name ≡ false = other_way i.name c.name (not_both (bytes_eq i.table t.name) (bytes_eq i.name c.name) e (same_way t.name i.table here.0)) in
    let absent : has_name i.name (column_names cs) ≡ false =
    ap (has_name i.name) (names_more t.columns c) ∙ none_more (λ other. bytes_eq other i.name) (column_names t.columns) c.name (not_false (has_name i.name (column_names t.columns)) parts.1) apart in
    both_parts (bytes_eq t.name i.table) (is_item_there cs i.item && not (has_name i.name (column_names cs))) here.0
    (both_parts (is_item_there cs i.item) (not (has_name i.name (column_names cs))) (item_wider t.columns c i.item parts.0) (is_not (has_name i.name (column_names cs)) absent))

abbrev every : Index → Bool
every i = true

indexes_wider : (c : ColumnDef) (t : TableSchema) (is : List Index) → list_any (is_index_of t.name c.name) is ≡ false → AllByRecursion (λ (i : Index). every i ≡ true → KeepsIndex t (wider c t) i) is
indexes_wider c t [] e = tt
indexes_wider c t (i ∷ is) e = let parts = or_parts (is_index_of t.name c.name i) (list_any (is_index_of t.name c.name) is) e in (λ h. index_wider c t i parts.0, indexes_wider c t is parts.1)

all_kept : (is : List Index) → filter every is ≡ is
all_kept [] = refl
all_kept (i ∷ is) = ap (λ (js : List Index). i ∷ js) (all_kept is)

-- the table at a place gets a column more
pub added_made : (n : ℕ) (c : ColumnDef) (t : TableSchema) (db : Db) → slice_get (schema_of db).tables n ≡ Some t → IsAdded c t db.indexes → is_past_added c t.columns ≡ false
    → (IsReadAsItself (create_table t) → IsReadAsItself (create_table (wider c t))) → IsMade (schema_of db) → IsMade (schema_of (column_added n c db))
added_made n c t db at a past r made =
    let new = or_parts (has_name c.name (column_names t.columns)) (list_any (is_index_of t.name c.name) db.indexes) a.new in
    let whole = made_altered n (wider c) every t (schema_of db) at refl (fine_wider c t db.indexes a past) (indexes_wider c t db.indexes new.1) r made in
    let kept : IsMade (record { tables = changed_at n (wider c) (map table_schema db.tables); indexes = db.indexes }) =
    subst (λ (is : List Index). IsMade (record { tables = changed_at n (wider c) (map table_schema db.tables); indexes = is })) (all_kept db.indexes) whole in
    subst (λ (ts : List TableSchema). IsMade (record { tables = ts; indexes = db.indexes })) (sym (map_changed table_schema (with_column c) (wider c) (λ u. refl) n db.tables)) kept

-- a column less

none_less : {A : Type 0} (q : A → Bool) (k : ℕ) (xs : List A) → list_any q xs ≡ false → list_any q (remove xs k) ≡ false
none_less q zero [] h = refl
none_less q (suc k) [] h = refl
none_less q zero (x ∷ xs) h = (or_parts (q x) (list_any q xs) h).1
none_less q (suc k) (x ∷ xs) h = let parts = or_parts (q x) (list_any q xs) h in neither (q x) (list_any q (remove xs k)) parts.0 (none_less q k xs parts.1)

pub all_less : {A : Type 0} (q : A → Bool) (k : ℕ) (xs : List A) → list_all q xs ≡ true → list_all q (remove xs k) ≡ true
all_less q zero [] h = refl
all_less q (suc k) [] h = refl
all_less q zero (x ∷ xs) h = (two_parts (q x) (list_all q xs) h).1
all_less q (suc k) (x ∷ xs) h = let parts = two_parts (q x) (list_all q xs) h in both_parts (q x) (list_all q (remove xs k)) parts.0 (all_less q k xs parts.1)

different_less : (k : ℕ) (names : List (List ℕ)) → are_different names ≡ true → are_different (remove names k) ≡ true
different_less zero [] h = refl
different_less (suc k) [] h = refl
different_less zero (n ∷ names) h = (two_parts (not (has_name n names)) (are_different names) h).1
different_less (suc k) (n ∷ names) h =
    let parts = two_parts (not (has_name n names)) (are_different names) h in
    both_parts (not (has_name n (remove names k))) (are_different (remove names k))
    (is_not (has_name n (remove names k)) (none_less (λ other. bytes_eq other n) k names (not_false (has_name n names) parts.0))) (different_less k names parts.1)

names_less : (k : ℕ) (cs : List ColumnDef) → column_names (remove cs k) ≡ remove (column_names cs) k
names_less k cs = map_remove (λ (c : ColumnDef). c.name) k cs

some_left : (m n : ℕ) → 1 < n → n ≡ m + 1 → nat_lt 0 m ≡ true
some_left m n h e = grind (arith, nat_tests)

not_longer : (limit m n : ℕ) → m ≤ n → nat_lt limit n ≡ false → nat_lt limit m ≡ false
not_longer limit m n l h = grind (arith, nat_tests)

fine_narrower : (k : ℕ) (t : TableSchema) → k < length t.columns → 1 < length t.columns → list_all takes_all t.columns ≡ true → IsFine t → IsFine (narrower k t)
fine_narrower k t l m plains f =
    let p = fine_parts t f in
    let cs = remove t.columns k in
    let scope = rule_scope t.name cs in
    let one = length-remove t.columns k l in
    fine_whole (narrower k t) (some_left (length cs) (length t.columns) m (omega (arith, one, m))) (record {
      different = ap are_different (names_less k t.columns) ∙ different_less k (column_names t.columns) p.different;
      stand = all_less (is_column scope) k t.columns (plain_stand (rule_scope t.name t.columns) scope t.columns plains p.stand);
      few = not_longer most_columns (length cs) (length t.columns) (shorter_remove k t.columns) p.few;
      texts = none_less is_past_column k t.columns p.texts;
    })

other_left : (name : List ℕ) (k : ℕ) (cs : List ColumnDef) → bytes_eq name (column_name_if (slice_get cs k)) ≡ false → has_name name (column_names cs) ≡ true → has_name name (column_names (remove cs k)) ≡ true
other_left name k [] e h = absurd (cc)
other_left name zero (c ∷ cs) e h = let apart : bytes_eq c.name name ≡ false = other_way name c.name e in sym (rw apart refl) ∙ h
other_left name (suc k) (c ∷ cs) e h = or_steps (bytes_eq c.name name) (bytes_eq c.name name) (has_name name (column_names cs)) (has_name name (column_names (remove cs k))) (λ z. z) (other_left name k cs e) h

item_narrower : (k : ℕ) (cs : List ColumnDef) (it : Item) → is_by (column_name_if (slice_get cs k)) it ≡ false → is_item_there cs it ≡ true → is_item_there (remove cs k) it ≡ true
item_narrower k cs (item.Column name) e h = other_left name k cs e h
item_narrower k cs item.Id e h = refl

index_narrower : (k : ℕ) (t : TableSchema) (i : Index) → is_not_by t.name (column_name_if (slice_get t.columns k)) i ≡ true → KeepsIndex t (narrower k t) i
index_narrower k t i e h =
    let gone = column_name_if (slice_get t.columns k) in
    let here = two_parts (bytes_eq t.name i.table) (is_item_there t.columns i.item && not (has_name i.name (column_names t.columns))) h in
    let parts = two_parts (is_item_there t.columns i.item) (not (has_name i.name (column_names t.columns))) here.1 in
    let cs = remove t.columns k in
    let other : is_by gone i.item ≡ false = not_both (bytes_eq i.table t.name) (is_by gone i.item) (not_false (bytes_eq i.table t.name && is_by gone i.item) e) (same_way t.name i.table here.0) in
    let absent : has_name i.name (column_names cs) ≡ false =
    ap (has_name i.name) (names_less k t.columns) ∙ none_less (λ other. bytes_eq other i.name) k (column_names t.columns) (not_false (has_name i.name (column_names t.columns)) parts.1) in
    both_parts (bytes_eq t.name i.table) (is_item_there cs i.item && not (has_name i.name (column_names cs))) here.0
    (both_parts (is_item_there cs i.item) (not (has_name i.name (column_names cs))) (item_narrower k t.columns i.item other parts.0) (is_not (has_name i.name (column_names cs)) absent))

indexes_narrower : (k : ℕ) (t : TableSchema) (is : List Index) → AllByRecursion (λ (i : Index). is_not_by t.name (column_name_if (slice_get t.columns k)) i ≡ true → KeepsIndex t (narrower k t) i) is
indexes_narrower k t [] = tt
indexes_narrower k t (i ∷ is) = (index_narrower k t i, indexes_narrower k t is)

-- the table at a place gets a column less
pub dropped_made : (n k : ℕ) (t : TableSchema) (db : Db) → slice_get (schema_of db).tables n ≡ Some t → k < length t.columns → 1 < length t.columns → list_all takes_all t.columns ≡ true
    → (IsReadAsItself (create_table t) → IsReadAsItself (create_table (narrower k t))) → IsMade (schema_of db) → IsMade (schema_of (column_dropped n k db))
dropped_made n k t db at l m plains r made =
    let whole = made_altered n (narrower k) (is_not_by t.name (column_name_if (slice_get t.columns k))) t (schema_of db) at refl (fine_narrower k t l m plains) (indexes_narrower k t db.indexes) r made in
    let here : IsMade (record { tables = changed_at n (narrower k) (map table_schema db.tables); indexes = filter (is_not_by (name_if (slice_get (schema_of db).tables n)) (column_name_if (slice_get (columns_if (slice_get (schema_of db).tables n)) k))) db.indexes }) =
    subst (λ (o : Option TableSchema). IsMade (record { tables = changed_at n (narrower k) (map table_schema db.tables); indexes = filter (is_not_by (name_if o) (column_name_if (slice_get (columns_if o) k))) db.indexes })) (sym at) whole in
    subst (λ (ts : List TableSchema). IsMade (record { tables = ts; indexes = filter (is_not_by (name_if (slice_get (schema_of db).tables n)) (column_name_if (slice_get (columns_if (slice_get (schema_of db).tables n)) k))) db.indexes }))
    (sym (map_changed table_schema (without_column k) (narrower k) (λ u. refl) n db.tables)) here
