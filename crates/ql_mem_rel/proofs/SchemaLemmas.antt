-- What tables hold when tables and columns come and go.
use Rattle.std.proofs.Common.{◌≡◌, ℕ, zero, suc, ◌<◌, ◌≤◌, Bool, true, false, cond, ◌||◌, nat_lt, nat_le, List, [], ◌∷◌, length, insert, remove, get_or, slice_get, Option, Some, None, Result, Ok, Err, refl, sym, ap, subst, ◌∙◌, arith}
use Rattle.std.specs.Prelude.{OnOk, OnErr}
use Rattle.std.proofs.lemmas.Bool.Decides.{nat_tests}
use Rattle.std.proofs.lemmas.Option.{slice_get-get_or}
use Rattle.std.proofs.Common.{filter, ◌==◌}
use Rattle.std.specs.List.{list_any, AllByRecursion}
use Rattle.ql_syntax.specs.declared.statement.ColumnDef.{ColumnDef}
use Rattle.ql_rel.specs.Limits.{most_columns}
use Rattle.ql_rel.specs.declared.db.Row.{Row}
use Rattle.ql_rel.specs.declared.db.Table.{Table}
use Rattle.ql_rel.specs.declared.fault.RelFault.{RelFault}
use Rattle.ql_rel.specs.declared.bounds.TheConstants.{TABLE_LIMIT}
use Rattle.ql_rel.specs.declared.schema.Index.{Index}
use Rattle.ql_rel.specs.declared.schema.Schema.{Schema}
use Rattle.ql_rel.specs.declared.schema.TableSchema.{TableSchema}
use Rattle.ql_rel.specs.Changes.{new_table, table_created, table_dropped, id_after, is_of_other}
use Rattle.ql_rel.specs.Limits.{is_past_column, are_past_columns, is_past_table, IsTableWithin, IsWithin}
use Rattle.ql_rel.specs.Names.{comes_before, placed}
use Rattle.ql_rel.specs.Databases.{schema_of, name_at, name_if}
use Rattle.ql_mem_rel.specs.Places.{place_before, id_for}
use Rattle.ql_mem_rel.specs.PlainDbs.{db_with, tables_with, Hold}
use Rattle.ql_rel.specs.Refusals.{refused_if}
use Rattle.ql_mem_rel.proofs.TableLemmas.{hold_length, schema_with}

-- the place of a table by its name is inside the list or at its end
pub place_end : (name : List ℕ) (tables : List TableSchema) → place_before name tables ≤ length tables
place_end name [] = omega arith
place_end name (t ∷ tables) =
    let rest = place_end name tables in
    elim (comes_before name t.name) as (λ b. cond b 0 (suc (place_before name tables)) ≤ suc (length tables)) [ true ↦ omega arith | false ↦ omega arith ]

-- the tables of the database after a table was put in its place
pub placed_with : (t : TableSchema) (tables : List TableSchema) (rows : List (List Row)) → length rows ≡ length tables →
    tables_with (insert tables (place_before t.name tables) t) (insert rows (place_before t.name tables) []) ≡ placed (λ (x : Table). x.name) (new_table t) (tables_with tables rows)
placed_with t [] [] e = refl
placed_with t [] (r ∷ rows) e = absurd (omega arith)
placed_with t (u ∷ tables) [] e = absurd (omega arith)
placed_with t (u ∷ tables) (r ∷ rows) e =
    let rest = placed_with t tables rows (omega arith) in
    elim (comes_before t.name u.name) as (λ b. tables_with (insert (u ∷ tables) (cond b 0 (suc (place_before t.name tables))) t) (insert (r ∷ rows) (cond b 0 (suc (place_before t.name tables))) []) ≡
    cond b (new_table t ∷ record { name = u.name; columns = u.columns; rows = r } ∷ tables_with tables rows) (record { name = u.name; columns = u.columns; rows = r } ∷ placed (λ (x : Table). x.name) (new_table t) (tables_with tables rows))) [
      | true ↦ refl
      | false ↦ ap (λ (ts : List Table). record { name = u.name; columns = u.columns; rows = r } ∷ ts) rest
    ]

pub hold_placed : (next : ℕ) (t : TableSchema) (n : ℕ) (tables : List TableSchema) (rows : List (List Row)) → Hold next tables rows → Hold next (insert tables n t) (insert rows n [])
hold_placed next t zero [] [] h = (tt, tt, tt, tt)
hold_placed next t (suc n) [] [] h = (tt, tt, tt, tt)
hold_placed next t n [] (r ∷ rows) h = absurd h
hold_placed next t n (u ∷ tables) [] h = absurd h
hold_placed next t zero (u ∷ tables) (r ∷ rows) h = (tt, tt, tt, h)
hold_placed next t (suc n) (u ∷ tables) (r ∷ rows) h = (h.0, h.1, h.2, hold_placed next t n tables rows h.3)

pub length-placed : {A : Type 0} (x : A) (n : ℕ) (xs : List A) → length (insert xs n x) ≡ suc (length xs)
length-placed x zero xs = refl
length-placed x (suc n) [] = refl
length-placed x (suc n) (y ∷ xs) = ap suc (length-placed x n xs)

-- what is put in and taken out again leaves the list
pub insert_removed : {A : Type 0} (x : A) (n : ℕ) (xs : List A) → n ≤ length xs → remove (insert xs n x) n ≡ xs
insert_removed x zero xs h = refl
insert_removed x (suc n) [] h = absurd (omega (arith, h))
insert_removed {A = A} x (suc n) (y ∷ xs) h = ap (λ (ys : List A). y ∷ ys) (insert_removed x n xs (omega (arith, h)))

within_placed : (t : TableSchema) (n : ℕ) (tables : List TableSchema) → IsTableWithin t → AllByRecursion IsTableWithin tables → AllByRecursion IsTableWithin (insert tables n t)
within_placed t zero tables w h = (w, h)
within_placed t (suc n) [] w h = (w, tt)
within_placed t (suc n) (u ∷ tables) w h = (h.0, within_placed t n tables w h.1)

pub or_false : (a b : Bool) → (a || b) ≡ false → (a ≡ false) × (b ≡ false)
or_false true b e = absurd (cc)
or_false false b e = (refl, e)

none_past : (columns : List ColumnDef) → list_any is_past_column columns ≡ false → AllByRecursion (λ (c : ColumnDef). is_past_column c ≡ false) columns
none_past [] e = tt
none_past (c ∷ columns) e = let parts = or_false (is_past_column c) (list_any is_past_column columns) e in (parts.0, none_past columns parts.1)

lt-false : (a b : ℕ) → nat_lt a b ≡ false → b ≤ a
lt-false a b h = grind (arith, nat_tests)

pub le-false : (a b : ℕ) → nat_le a b ≡ false → b < a
le-false a b h = grind (arith, nat_tests)

pub table_within : (t : TableSchema) → 0 < length t.columns → are_past_columns t.columns ≡ false → IsTableWithin t
table_within t some e =
    let parts = or_false (nat_lt most_columns (length t.columns)) (list_any is_past_column t.columns) e in
    record { some = some; few = lt-false most_columns (length t.columns) parts.0; texts = none_past t.columns parts.1 }

-- a schema with one table more
pub within_created : (t : TableSchema) (n : ℕ) (schema : Schema) → 0 < length t.columns → is_past_table t schema ≡ false → IsWithin schema → IsWithin (record { tables = insert schema.tables n t; indexes = schema.indexes })
within_created t n schema some e w =
    let parts = or_false (nat_le TABLE_LIMIT (length schema.tables)) (are_past_columns t.columns) e in
    let few : length schema.tables < TABLE_LIMIT = le-false TABLE_LIMIT (length schema.tables) parts.0 in
    let more = length-placed t n schema.tables in
    record { tables = omega (arith, w.tables); indexes = w.indexes; columns = within_placed t n schema.tables (table_within t some parts.1) w.columns }

pub not_refused : (b : Bool) (f : RelFault) → ◌≡◌ {A = Option RelFault} (refused_if b f) None → b ≡ false
not_refused true f e = absurd (cc)
not_refused false f e = refl

-- the database with one table more
pub db_created : (t : TableSchema) (n next : ℕ) (schema : Schema) (rows new : List (List Row)) (tables : List TableSchema) → Hold next schema.tables rows → n ≡ place_before t.name schema.tables → tables ≡ insert schema.tables n t → new ≡ insert rows n [] →
    db_with next (record { tables = tables; indexes = schema.indexes }) new ≡ table_created t (db_with next schema rows)
db_created t n next schema rows new tables h p e f =
    let at : tables_with tables new ≡ tables_with (insert schema.tables n t) (insert rows n []) = rw (e, f) refl in
    let there : tables_with (insert schema.tables n t) (insert rows n []) ≡ placed (λ (x : Table). x.name) (new_table t) (tables_with schema.tables rows) =
    subst (λ k. tables_with (insert schema.tables k t) (insert rows k []) ≡ placed (λ (x : Table). x.name) (new_table t) (tables_with schema.tables rows)) (sym p) (placed_with t schema.tables rows (hold_length next schema.tables rows h)) in
    ap (λ (ts : List Table). record { next_id = next; tables = ts; indexes = schema.indexes }) (at ∙ there)

-- the tables without one
pub removed_with : (n : ℕ) (tables : List TableSchema) (rows : List (List Row)) → length rows ≡ length tables → tables_with (remove tables n) (remove rows n) ≡ remove (tables_with tables rows) n
removed_with zero [] [] e = refl
removed_with (suc n) [] [] e = refl
removed_with n [] (r ∷ rows) e = absurd (omega arith)
removed_with n (t ∷ tables) [] e = absurd (omega arith)
removed_with zero (t ∷ tables) (r ∷ rows) e = refl
removed_with (suc n) (t ∷ tables) (r ∷ rows) e = ap (λ (ts : List Table). record { name = t.name; columns = t.columns; rows = r } ∷ ts) (removed_with n tables rows (omega arith))

pub hold_removed : (next n : ℕ) (tables : List TableSchema) (rows : List (List Row)) → Hold next tables rows → Hold next (remove tables n) (remove rows n)
hold_removed next zero [] [] h = tt
hold_removed next (suc n) [] [] h = tt
hold_removed next n [] (r ∷ rows) h = absurd h
hold_removed next n (t ∷ tables) [] h = absurd h
hold_removed next zero (t ∷ tables) (r ∷ rows) h = h.3
hold_removed next (suc n) (t ∷ tables) (r ∷ rows) h = (h.0, h.1, h.2, hold_removed next n tables rows h.3)

all_removed : {A : Type 0} (P : A → Type 0) (n : ℕ) (xs : List A) → AllByRecursion P xs → AllByRecursion P (remove xs n)
all_removed P zero [] h = tt
all_removed P (suc n) [] h = tt
all_removed P zero (x ∷ xs) h = h.1
all_removed P (suc n) (x ∷ xs) h = (h.0, all_removed P n xs h.1)

removed-le : {A : Type 0} (n : ℕ) (xs : List A) → length (remove xs n) ≤ length xs
removed-le zero [] = omega arith
removed-le (suc n) [] = omega arith
removed-le zero (x ∷ xs) = omega arith
removed-le (suc n) (x ∷ xs) = let rest = removed-le n xs in omega arith

pub filtered-le : {A : Type 0} (p : A → Bool) (xs : List A) → length (filter p xs) ≤ length xs
filtered-le p [] = omega arith
filtered-le p (x ∷ xs) =
    let rest = filtered-le p xs in
    elim (p x) as (λ b. length (cond b (x ∷ filter p xs) (filter p xs)) ≤ suc (length xs)) [ true ↦ omega arith | false ↦ omega arith ]

pub within_removed : (n : ℕ) (p : Index → Bool) (schema : Schema) → IsWithin schema → IsWithin (record { tables = remove schema.tables n; indexes = filter p schema.indexes })
within_removed n p schema w =
    let few = removed-le n schema.tables in
    let less = filtered-le p schema.indexes in
    record { tables = omega (arith, w.tables); indexes = omega (arith, w.indexes); columns = all_removed IsTableWithin n schema.tables w.columns }

eq-suc : (n : ℕ) → (suc n == 0) ≡ false
eq-suc n = grind (arith, nat_tests)

-- the next id, by whether a table is left
pub id_one : (next : ℕ) (tables : List TableSchema) → (length tables == 0) ≡ true → 1 ≡ id_for tables next
id_one next [] e = refl
id_one next (t ∷ tables) e = let no : true ≡ false = sym e ∙ eq-suc (length tables) in absurd (cc)

pub id_same : (next : ℕ) (tables : List TableSchema) → (length tables == 0) ≡ false → next ≡ id_for tables next
id_same next [] e = absurd (cc)
id_same next (t ∷ tables) e = refl

-- the next id once a table went
pub id_with : (next : ℕ) (tables : List TableSchema) (rows : List (List Row)) → length rows ≡ length tables → id_for tables next ≡ id_after (tables_with tables rows) next
id_with next [] [] e = refl
id_with next [] (r ∷ rows) e = absurd (omega arith)
id_with next (t ∷ tables) [] e = absurd (omega arith)
id_with next (t ∷ tables) (r ∷ rows) e = refl

pub hold_id : (next : ℕ) (tables : List TableSchema) (rows : List (List Row)) → Hold next tables rows → Hold (id_for tables next) tables rows
hold_id next [] [] h = tt
hold_id next [] (r ∷ rows) h = absurd h
hold_id next (t ∷ tables) [] h = absurd h
hold_id next (t ∷ tables) (r ∷ rows) h = h

pub id_begun : (next : ℕ) (tables : List TableSchema) → 1 ≤ next → 1 ≤ id_for tables next
id_begun next [] h = omega arith
id_begun next (t ∷ tables) h = h

pub place_ends : (name : List ℕ) (tables xs ys : List TableSchema) (n : ℕ) → xs ≡ tables → ys ≡ tables → n ≡ place_before name xs → n ≤ length ys
place_ends name tables xs ys n e f p = subst (λ k. k ≤ length ys) (sym (p ∙ ap (λ (ts : List TableSchema). place_before name ts) (e ∙ sym f))) (place_end name ys)

pub hold_created : (next n : ℕ) (t : TableSchema) (tables xs new : List TableSchema) (rows all : List (List Row)) → xs ≡ tables → new ≡ insert xs n t → all ≡ insert rows n [] → Hold next tables rows → Hold next new all
hold_created next n t tables xs new rows all e f g h =
    let at : Hold next (insert tables n t) (insert rows n []) = hold_placed next t n tables rows h in
    let there : Hold next new (insert rows n []) = subst (λ (ts : List TableSchema). Hold next ts (insert rows n [])) (sym (f ∙ ap (λ (ts : List TableSchema). insert ts n t) e)) at in
    subst (λ (rs : List (List Row)). Hold next new rs) (sym g) there

pub within_as : (n : ℕ) (t : TableSchema) (schema : Schema) (xs new : List TableSchema) → xs ≡ schema.tables → new ≡ insert xs n t → 0 < length t.columns → is_past_table t schema ≡ false → IsWithin schema → IsWithin (record { tables = new; indexes = schema.indexes })
within_as n t schema xs new e f some past w =
    subst (λ (ts : List TableSchema). IsWithin (record { tables = ts; indexes = schema.indexes })) (sym (f ∙ ap (λ (ts : List TableSchema). insert ts n t) e)) (within_created t n schema some past w)

pub hold_dropped : (next n : ℕ) (tables xs new : List TableSchema) (rows all : List (List Row)) → xs ≡ tables → new ≡ remove xs n → all ≡ remove rows n → Hold next tables rows → Hold (id_for new next) new all
hold_dropped next n tables xs new rows all e f g h =
    let at : Hold next (remove tables n) (remove rows n) = hold_removed next n tables rows h in
    let there : Hold next new (remove rows n) = subst (λ (ts : List TableSchema). Hold next ts (remove rows n)) (sym (f ∙ ap (λ (ts : List TableSchema). remove ts n) e)) at in
    hold_id next new all (subst (λ (rs : List (List Row)). Hold next new rs) (sym g) there)

pub within_dropped : (n : ℕ) (p : Index → Bool) (schema : Schema) (xs new : List TableSchema) (is : List Index) → xs ≡ schema.tables → new ≡ remove xs n → is ≡ filter p schema.indexes → IsWithin schema → IsWithin (record { tables = new; indexes = is })
within_dropped n p schema xs new is e f g w =
    let at = within_removed n p schema w in
    let there : IsWithin (record { tables = new; indexes = filter p schema.indexes }) = subst (λ (ts : List TableSchema). IsWithin (record { tables = ts; indexes = filter p schema.indexes })) (sym (f ∙ ap (λ (ts : List TableSchema). remove ts n) e)) at in
    subst (λ (k : List Index). IsWithin (record { tables = new; indexes = k })) (sym g) there

-- the name of a table that is kept
pub name_kept : (next n : ℕ) (schema : Schema) (rows : List (List Row)) (t : TableSchema) → Hold next schema.tables rows → n < length schema.tables → t ≡ get_or schema.tables n t → name_at n (schema_of (db_with next schema rows)) ≡ t.name
name_kept next n schema rows t h l e =
    let there : slice_get schema.tables n ≡ Some t = slice_get-get_or schema.tables n t l ∙ ap (λ (x : TableSchema). Some x) (sym e) in
    ap (λ (s : Schema). name_at n s) (schema_with next schema rows (hold_length next schema.tables rows h)) ∙ ap name_if there

pub db_dropped : (next n : ℕ) (schema : Schema) (xs new : List TableSchema) (is : List Index) (rows all : List (List Row)) (t : TableSchema) → Hold next schema.tables rows → n < length schema.tables → t ≡ get_or schema.tables n t →
    xs ≡ schema.tables → new ≡ remove xs n → is ≡ filter (is_of_other t.name) schema.indexes → all ≡ remove rows n →
    db_with (id_for new next) (record { tables = new; indexes = is }) all ≡ table_dropped n (db_with next schema rows)
db_dropped next n schema xs new is rows all t h l o e f g q =
    let even = hold_length next schema.tables rows h in
    let cut : new ≡ remove schema.tables n = f ∙ ap (λ (ts : List TableSchema). remove ts n) e in
    let left : tables_with new all ≡ remove (tables_with schema.tables rows) n = rw (cut, q) (removed_with n schema.tables rows even) in
    let names : is ≡ filter (is_of_other (name_at n (schema_of (db_with next schema rows)))) schema.indexes = g ∙ ap (λ (k : List ℕ). filter (is_of_other k) schema.indexes) (sym (name_kept next n schema rows t h l o)) in
    let held = hold_length next (remove schema.tables n) (remove rows n) (hold_removed next n schema.tables rows h) in
    let ids : id_for new next ≡ id_after (remove (tables_with schema.tables rows) n) next =
    ap (λ (ts : List TableSchema). id_for ts next) cut ∙ id_with next (remove schema.tables n) (remove rows n) held ∙ ap (λ (ts : List Table). id_after ts next) (removed_with n schema.tables rows even) in
    ap (λ (k : ℕ). record { next_id = k; tables = tables_with new all; indexes = is }) ids ∙ ap (λ (ts : List Table). record { next_id = id_after (remove (tables_with schema.tables rows) n) next; tables = ts; indexes = is }) left
    ∙ ap (λ (k : List Index). record { next_id = id_after (remove (tables_with schema.tables rows) n) next; tables = remove (tables_with schema.tables rows) n; indexes = k }) names

pub get_or-any : {A : Type 0} (xs : List A) (n : ℕ) (d e : A) → n < length xs → get_or xs n d ≡ get_or xs n e
get_or-any [] n d e h = absurd (omega arith)
get_or-any (x ∷ xs) zero d e h = refl
get_or-any (x ∷ xs) (suc n) d e h = get_or-any xs n d e (omega arith)

pub db_created_as : (t : TableSchema) (n next : ℕ) (schema : Schema) (rows new : List (List Row)) (xs ys tables : List TableSchema) → Hold next schema.tables rows → xs ≡ schema.tables → n ≡ place_before t.name xs → ys ≡ schema.tables → tables ≡ insert ys n t → new ≡ insert rows n [] →
    db_with next (record { tables = tables; indexes = schema.indexes }) new ≡ table_created t (db_with next schema rows)
db_created_as t n next schema rows new xs ys tables h a p b e f =
    db_created t n next schema rows new tables h (p ∙ ap (λ (ts : List TableSchema). place_before t.name ts) a) (e ∙ ap (λ (ts : List TableSchema). insert ts n t) b) f

pub db_dropped_as : (next n : ℕ) (schema : Schema) (xs new : List TableSchema) (ys is : List Index) (rows all : List (List Row)) (d : TableSchema) → Hold next schema.tables rows → n < length schema.tables →
    xs ≡ schema.tables → new ≡ remove xs n → ys ≡ schema.indexes → is ≡ filter (is_of_other (get_or xs n d).name) ys → all ≡ remove rows n →
    db_with (id_for new next) (record { tables = new; indexes = is }) all ≡ table_dropped n (db_with next schema rows)
db_dropped_as next n schema xs new ys is rows all d h l a e b g q =
    let there : get_or xs n d ≡ get_or schema.tables n (get_or xs n d) = ap (λ (ts : List TableSchema). get_or ts n d) a ∙ get_or-any schema.tables n d (get_or xs n d) l in
    db_dropped next n schema xs new is rows all (get_or xs n d) h l there a e (g ∙ ap (λ (k : List Index). filter (is_of_other (get_or xs n d).name) k) b) q

-- what holds of tables and rows before and after one more is put in holds whatever the answer was
pub after_insert : {T E : Type 0} (P : List TableSchema → List (List Row) → Type 0) (r : Result T E) (t : TableSchema) (n : ℕ) (tables new : List TableSchema) (rows all : List (List Row)) →
    OnOk r (new ≡ insert tables n t) → OnOk r (all ≡ insert rows n []) → OnErr r (new ≡ tables) → OnErr r (all ≡ rows) → P (insert tables n t) (insert rows n []) → P tables rows → P new all
after_insert P (Ok x) t n tables new rows all e f g h more before = subst (λ (ts : List TableSchema). P ts all) (sym e) (subst (λ (rs : List (List Row)). P (insert tables n t) rs) (sym f) more)
after_insert P (Err x) t n tables new rows all e f g h more before = subst (λ (ts : List TableSchema). P ts all) (sym g) (subst (λ (rs : List (List Row)). P tables rs) (sym h) before)

pub within_copied : (t u : TableSchema) (n : ℕ) (schema : Schema) → t ≡ u → 0 < length u.columns → is_past_table u schema ≡ false → IsWithin schema → IsWithin (record { tables = insert schema.tables n t; indexes = schema.indexes })
within_copied t u n schema e some past w = within_created t n schema (subst (λ (x : TableSchema). 0 < length x.columns) (sym e) some) (subst (λ (x : TableSchema). is_past_table x schema ≡ false) (sym e) past) w
