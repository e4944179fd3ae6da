-- What tables hold when columns come and go.
use Rattle.std.proofs.Common.{◌≡◌, ℕ, zero, suc, ◌+◌, ◌<◌, Bool, false, nat_le, List, [], ◌∷◌, ◌++◌, length, map, remove, filter, get_or, slice_get, slice_set, Option, Some, None, refl, sym, ap, subst, ◌∙◌, arith}
use Rattle.std.proofs.lemmas.Option.{slice_get-get_or}
use Rattle.std.specs.List.{AllByRecursion}
use Rattle.ql_value.specs.declared.value.Value.{Value}
use Rattle.ql_value.specs.declared.value.Value.TheVariants as v
use Rattle.ql_syntax.specs.declared.statement.ColumnDef.{ColumnDef}
use Rattle.ql_rel.specs.Limits.{most_columns}
use Rattle.ql_rel.specs.declared.db.Row.{Row}
use Rattle.ql_rel.specs.declared.db.Table.{Table}
use Rattle.ql_rel.specs.declared.schema.Index.{Index}
use Rattle.ql_rel.specs.declared.schema.Schema.{Schema}
use Rattle.ql_rel.specs.declared.schema.TableSchema.{TableSchema}
use Rattle.std.proofs.Common.{Result, Ok, Err, IsErrAnd}
use Rattle.ql_rel.specs.declared.fault.RelFault.{RelFault}
use Rattle.ql_rel.specs.Changes.{changed_at, with_null, with_column, without_value, without_column, column_added, column_dropped, is_not_by}
use Rattle.std.specs.List.{list_any}
use Rattle.ql_rel.specs.declared.fault.RelFault.TheVariants as fault
use Rattle.ql_rel.specs.Databases.{columns_if, columns_at, rows_at, schema_of, name_at, column_name_at, column_name_if}
use Rattle.ql_rel.specs.Refusals.{column_refusal, IsRefusedBy, refused_if, or_next, is_long_with_null}
use Rattle.ql_rel.specs.Limits.{is_past_column, is_past_added, IsTableWithin, IsWithin}
use Rattle.ql_mem_rel.specs.Places.{with_columns, AllLonger}
use Rattle.ql_mem_rel.specs.PlainDbs.{db_with, tables_with, Hold}
use Rattle.ql_rel.specs.WellFormed.{Fits, AllFit, Rise, AllBelow}
use Rattle.ql_mem_rel.proofs.SchemaLemmas.{or_false, le-false, filtered-le, name_kept}
use Rattle.ql_mem_rel.proofs.TableLemmas.{HoldsAt, hold_length, schema_with, rows_kept, rows_with, kept_at, refused_exit, length-changed_at}

-- columns and rows of one table changed together
pub both_changed : (n : ℕ) (columns : List ColumnDef) (new : List Row) (change : Table → Table) (tables : List TableSchema) (rows : List (List Row)) (t : TableSchema) (r : List Row) → length rows ≡ length tables → n < length tables → t ≡ get_or tables n t → r ≡ get_or rows n r →
    ◌≡◌ {A = Table} (record { name = t.name; columns = columns; rows = new }) (change (record { name = t.name; columns = t.columns; rows = r })) →
    tables_with (changed_at n (with_columns columns) tables) (slice_set rows n new) ≡ changed_at n change (tables_with tables rows)
both_changed n columns new change [] rows t r e l f g q = absurd (omega arith)
both_changed n columns new change (u ∷ tables) [] t r e l f g q = absurd (omega arith)
both_changed zero columns new change (u ∷ tables) (x ∷ rows) t r e l f g q =
    let P : TableSchema → Type 0 = λ k. ◌≡◌ {A = Table} (record { name = k.name; columns = columns; rows = new }) (change (record { name = k.name; columns = k.columns; rows = r })) in
    let at = subst P f q in
    ap (λ (y : Table). y ∷ tables_with tables rows) (at ∙ ap (λ (k : List Row). change (record { name = u.name; columns = u.columns; rows = k })) g)
both_changed (suc n) columns new change (u ∷ tables) (x ∷ rows) t r e l f g q =
    ap (λ (ts : List Table). record { name = u.name; columns = u.columns; rows = x } ∷ ts) (both_changed n columns new change tables rows t r (omega arith) (omega arith) f g q)

pub hold_both : (next n : ℕ) (columns : List ColumnDef) (new : List Row) (tables : List TableSchema) (rows : List (List Row)) → Hold next tables rows → HoldsAt next columns new → Hold next (changed_at n (with_columns columns) tables) (slice_set rows n new)
hold_both next n columns new [] [] h k = tt
hold_both next n columns new [] (x ∷ rows) h k = absurd h
hold_both next n columns new (u ∷ tables) [] h k = absurd h
hold_both next zero columns new (u ∷ tables) (x ∷ rows) h k = (k.fit, k.rise, k.below, h.3)
hold_both next (suc n) columns new (u ∷ tables) (x ∷ rows) h k = (h.0, h.1, h.2, hold_both next n columns new tables rows h.3 k)

within_changed : (n : ℕ) (columns : List ColumnDef) (tables : List TableSchema) → ((t : TableSchema) → IsTableWithin (with_columns columns t)) → AllByRecursion IsTableWithin tables → AllByRecursion IsTableWithin (changed_at n (with_columns columns) tables)
within_changed n columns [] w h = tt
within_changed zero columns (t ∷ tables) w h = (w t, h.1)
within_changed (suc n) columns (t ∷ tables) w h = (h.0, within_changed n columns tables w h.1)

fits_wider : (column : ColumnDef) (columns : List ColumnDef) (values : List Value) → Fits columns values → Fits (columns ++ column ∷ []) (values ++ v.Null ∷ [])
fits_wider column [] [] h = (tt, tt)
fits_wider column [] (x ∷ values) h = absurd h
fits_wider column (c ∷ columns) [] h = absurd h
fits_wider column (c ∷ columns) (x ∷ values) h = (h.0, fits_wider column columns values h.1)

all_wider : (column : ColumnDef) (columns : List ColumnDef) (rows : List Row) → AllFit columns rows → AllFit (columns ++ column ∷ []) (map with_null rows)
all_wider column columns [] h = tt
all_wider column columns (r ∷ rows) h = (fits_wider column columns r.values h.0, all_wider column columns rows h.1)

rise_wider : (from : ℕ) (rows : List Row) → Rise from rows → Rise from (map with_null rows)
rise_wider from [] h = tt
rise_wider from (r ∷ rows) h = (h.0, rise_wider (r.id + 1) rows h.1)

below_wider : (next : ℕ) (rows : List Row) → AllBelow next rows → AllBelow next (map with_null rows)
below_wider next [] h = tt
below_wider next (r ∷ rows) h = (h.0, below_wider next rows h.1)

pub holds_wider : (next : ℕ) (column : ColumnDef) (columns : List ColumnDef) (rows : List Row) → HoldsAt next columns rows → HoldsAt next (columns ++ column ∷ []) (map with_null rows)
holds_wider next column columns rows h = record { fit = all_wider column columns rows h.fit; rise = rise_wider 1 rows h.rise; below = below_wider next rows h.below }

fits_narrower : (n : ℕ) (columns : List ColumnDef) (values : List Value) → Fits columns values → Fits (remove columns n) (remove values n)
fits_narrower zero [] [] h = tt
fits_narrower (suc n) [] [] h = tt
fits_narrower n [] (x ∷ values) h = absurd h
fits_narrower n (c ∷ columns) [] h = absurd h
fits_narrower zero (c ∷ columns) (x ∷ values) h = h.1
fits_narrower (suc n) (c ∷ columns) (x ∷ values) h = (h.0, fits_narrower n columns values h.1)

all_narrower : (n : ℕ) (columns : List ColumnDef) (rows : List Row) → AllFit columns rows → AllFit (remove columns n) (map (without_value n) rows)
all_narrower n columns [] h = tt
all_narrower n columns (r ∷ rows) h = (fits_narrower n columns r.values h.0, all_narrower n columns rows h.1)

rise_narrower : (n from : ℕ) (rows : List Row) → Rise from rows → Rise from (map (without_value n) rows)
rise_narrower n from [] h = tt
rise_narrower n from (r ∷ rows) h = (h.0, rise_narrower n (r.id + 1) rows h.1)

below_narrower : (n next : ℕ) (rows : List Row) → AllBelow next rows → AllBelow next (map (without_value n) rows)
below_narrower n next [] h = tt
below_narrower n next (r ∷ rows) h = (h.0, below_narrower n next rows h.1)

pub holds_narrower : (next n : ℕ) (columns : List ColumnDef) (rows : List Row) → HoldsAt next columns rows → HoldsAt next (remove columns n) (map (without_value n) rows)
holds_narrower next n columns rows h = record { fit = all_narrower n columns rows h.fit; rise = rise_narrower n 1 rows h.rise; below = below_narrower n next rows h.below }

fits_length : (columns : List ColumnDef) (values : List Value) → Fits columns values → length values ≡ length columns
fits_length [] [] h = refl
fits_length [] (x ∷ values) h = absurd h
fits_length (c ∷ columns) [] h = absurd h
fits_length (c ∷ columns) (x ∷ values) h = ap suc (fits_length columns values h.1)

pub all_longer : (n : ℕ) (columns : List ColumnDef) (rows : List Row) → n < length columns → AllFit columns rows → AllLonger n rows
all_longer n columns [] l h k d q = absurd (omega arith)
all_longer n columns (r ∷ rows) l h zero d q = let even = fits_length columns r.values h.0 in omega arith
all_longer n columns (r ∷ rows) l h (suc k) d q = all_longer n columns rows l h.1 k d (omega arith)

all_at : {A : Type 0} (P : A → Type 0) (xs : List A) (n : ℕ) (x : A) → AllByRecursion P xs → n < length xs → x ≡ get_or xs n x → P x
all_at P [] n x h l e = absurd (omega arith)
all_at P (y ∷ xs) zero x h l e = subst P (sym e) h.0
all_at P (y ∷ xs) (suc n) x h l e = all_at P xs n x h.1 (omega arith) e

-- the columns of a table that is kept
pub columns_there : (n : ℕ) (schema : Schema) (xs : List TableSchema) (t : TableSchema) → xs ≡ schema.tables → n < length schema.tables → t ≡ get_or xs n t → columns_at n schema ≡ t.columns
columns_there n schema xs t a l e =
    let there : slice_get schema.tables n ≡ Some t = slice_get-get_or schema.tables n t l ∙ ap (λ (x : TableSchema). Some x) (ap (λ (ts : List TableSchema). get_or ts n t) (sym a) ∙ sym e) in
    ap columns_if there

pub columns_kept : (next n : ℕ) (schema : Schema) (rows : List (List Row)) → Hold next schema.tables rows → columns_at n (schema_of (db_with next schema rows)) ≡ columns_at n schema
columns_kept next n schema rows h = ap (λ (s : Schema). columns_at n s) (schema_with next schema rows (hold_length next schema.tables rows h))

pub column_refusal_kept : (next n : ℕ) (column : ColumnDef) (schema : Schema) (rows : List (List Row)) (xs : List TableSchema) (t : TableSchema) (x : List Row) → Hold next schema.tables rows → n < length schema.tables → xs ≡ schema.tables → t ≡ get_or xs n t → x ≡ get_or rows n x →
    or_next (refused_if (is_past_added column t.columns) fault.TableLimit) (refused_if (list_any is_long_with_null x) fault.RowTooLong) ≡ column_refusal n column (db_with next schema rows)
column_refusal_kept next n column schema rows xs t x h l a e g =
    let columns : t.columns ≡ columns_at n (schema_of (db_with next schema rows)) = sym (columns_kept next n schema rows h ∙ columns_there n schema xs t a l e) in
    let held : x ≡ rows_at n (db_with next schema rows) = sym (rows_kept next schema rows n x h l g) in
    ap (λ (cs : List ColumnDef). or_next (refused_if (is_past_added column cs) fault.TableLimit) (refused_if (list_any is_long_with_null x) fault.RowTooLong)) columns
    ∙ ap (λ (rs : List Row). or_next (refused_if (is_past_added column (columns_at n (schema_of (db_with next schema rows)))) fault.TableLimit) (refused_if (list_any is_long_with_null rs) fault.RowTooLong)) held

texts_wider : (column : ColumnDef) (columns : List ColumnDef) → is_past_column column ≡ false → AllByRecursion (λ (c : ColumnDef). is_past_column c ≡ false) columns → AllByRecursion (λ (c : ColumnDef). is_past_column c ≡ false) (columns ++ column ∷ [])
texts_wider column [] e h = (e, tt)
texts_wider column (c ∷ columns) e h = (h.0, texts_wider column columns e h.1)

length-wider : (column : ColumnDef) (columns : List ColumnDef) → length (columns ++ column ∷ []) ≡ suc (length columns)
length-wider column [] = refl
length-wider column (c ∷ columns) = ap suc (length-wider column columns)

changed_within : (n : ℕ) (columns : List ColumnDef) (schema : Schema) → ((t : TableSchema) → IsTableWithin (with_columns columns t)) → IsWithin schema → IsWithin (record { tables = changed_at n (with_columns columns) schema.tables; indexes = schema.indexes })
changed_within n columns schema w h =
    let same = length-changed_at n (with_columns columns) schema.tables in
    record { tables = omega (arith, h.tables); indexes = h.indexes; columns = within_changed n columns schema.tables w h.columns }

pub within_wider : (n : ℕ) (column : ColumnDef) (schema : Schema) (t : TableSchema) → n < length schema.tables → t ≡ get_or schema.tables n t → is_past_added column t.columns ≡ false → IsWithin schema → IsWithin (record { tables = changed_at n (with_columns (t.columns ++ column ∷ [])) schema.tables; indexes = schema.indexes })
within_wider n column schema t l e p h =
    let parts = or_false (nat_le most_columns (length t.columns)) (is_past_column column) p in
    let few : length t.columns < most_columns = le-false most_columns (length t.columns) parts.0 in
    let old : IsTableWithin t = all_at IsTableWithin schema.tables n t h.columns l e in
    let more = length-wider column t.columns in
    changed_within n (t.columns ++ column ∷ []) schema (λ u. record { some = omega arith; few = omega arith; texts = texts_wider column t.columns parts.1 old.texts }) h

removed-length : {A : Type 0} (n : ℕ) (xs : List A) → n < length xs → length (remove xs n) + 1 ≡ length xs
removed-length n [] h = absurd (omega arith)
removed-length zero (x ∷ xs) h = omega arith
removed-length (suc n) (x ∷ xs) h = let rest = removed-length n xs (omega arith) in omega arith

texts_narrower : (n : ℕ) (columns : List ColumnDef) → AllByRecursion (λ (c : ColumnDef). is_past_column c ≡ false) columns → AllByRecursion (λ (c : ColumnDef). is_past_column c ≡ false) (remove columns n)
texts_narrower zero [] h = tt
texts_narrower (suc n) [] h = tt
texts_narrower zero (c ∷ columns) h = h.1
texts_narrower (suc n) (c ∷ columns) h = (h.0, texts_narrower n columns h.1)

pub within_narrower : (n place : ℕ) (p : Index → Bool) (schema : Schema) (t : TableSchema) → n < length schema.tables → t ≡ get_or schema.tables n t → place < length t.columns → 1 < length t.columns → IsWithin schema → IsWithin (record { tables = changed_at n (with_columns (remove t.columns place)) schema.tables; indexes = filter p schema.indexes })
within_narrower n place p schema t l e o m h =
    let old : IsTableWithin t = all_at IsTableWithin schema.tables n t h.columns l e in
    let less = removed-length place t.columns o in
    let cut = filtered-le p schema.indexes in
    let w = changed_within n (remove t.columns place) schema (λ u. record { some = omega arith; few = omega (arith, old.few); texts = texts_narrower place t.columns old.texts }) h in
    record { tables = w.tables; indexes = omega (arith, h.indexes); columns = w.columns }

pub hold_swapped : (next n : ℕ) (columns : List ColumnDef) (new : List Row) (old ys tables : List TableSchema) (rows all : List (List Row)) → ys ≡ old → tables ≡ changed_at n (with_columns columns) ys → all ≡ slice_set rows n new → Hold next old rows → HoldsAt next columns new → Hold next tables all
hold_swapped next n columns new old ys tables rows all b d g h k =
    let at : Hold next (changed_at n (with_columns columns) old) (slice_set rows n new) = hold_both next n columns new old rows h k in
    let there : Hold next tables (slice_set rows n new) = subst (λ (ts : List TableSchema). Hold next ts (slice_set rows n new)) (sym (d ∙ ap (λ (ts : List TableSchema). changed_at n (with_columns columns) ts) b)) at in
    subst (λ (rs : List (List Row)). Hold next tables rs) (sym g) there

tables_swapped : (n : ℕ) (columns : List ColumnDef) (new : List Row) (change : Table → Table) (old ys tables : List TableSchema) (rows all : List (List Row)) (t : TableSchema) (r : List Row) → length rows ≡ length old → n < length old → t ≡ get_or old n t → r ≡ get_or rows n r →
    ◌≡◌ {A = Table} (record { name = t.name; columns = columns; rows = new }) (change (record { name = t.name; columns = t.columns; rows = r })) → ys ≡ old → tables ≡ changed_at n (with_columns columns) ys → all ≡ slice_set rows n new →
    tables_with tables all ≡ changed_at n change (tables_with old rows)
tables_swapped n columns new change old ys tables rows all t r even l e g q b d f =
    let first : tables ≡ changed_at n (with_columns columns) old = d ∙ ap (λ (ts : List TableSchema). changed_at n (with_columns columns) ts) b in
    let both : tables_with tables all ≡ tables_with (changed_at n (with_columns columns) old) (slice_set rows n new) =
    ap (λ (ts : List TableSchema). tables_with ts all) first ∙ ap (λ (rs : List (List Row)). tables_with (changed_at n (with_columns columns) old) rs) f in
    both ∙ both_changed n columns new change old rows t r even l e g q

-- the rows and the columns of a table at hand
here : (xs old : List TableSchema) (n : ℕ) (t : TableSchema) → xs ≡ old → t ≡ get_or xs n t → t ≡ get_or old n t
here xs old n t a e = e ∙ ap (λ (ts : List TableSchema). get_or ts n t) a

rows_here : (next n : ℕ) (schema : Schema) (rows : List (List Row)) → Hold next schema.tables rows → n < length schema.tables → rows_at n (db_with next schema rows) ≡ get_or rows n (rows_at n (db_with next schema rows))
rows_here next n schema rows h l =
    let even = hold_length next schema.tables rows h in
    let within : n < length rows = subst (λ k. n < k) (sym even) l in
    rows_with schema.tables rows n (rows_at n (db_with next schema rows)) even within

held_here : (next n : ℕ) (schema : Schema) (rows : List (List Row)) (t : TableSchema) → Hold next schema.tables rows → n < length schema.tables → t ≡ get_or schema.tables n t → HoldsAt next t.columns (rows_at n (db_with next schema rows))
held_here next n schema rows t h l e =
    subst (λ (cs : List ColumnDef). HoldsAt next cs (rows_at n (db_with next schema rows))) (columns_there n schema schema.tables t refl l e)
    (kept_at next schema.tables rows n (rows_at n (db_with next schema rows)) h l (rows_here next n schema rows h l))

pub holds_added : (next n : ℕ) (column : ColumnDef) (schema : Schema) (rows : List (List Row)) (xs : List TableSchema) (t : TableSchema) (columns : List ColumnDef) (new : List Row) → Hold next schema.tables rows → n < length schema.tables → xs ≡ schema.tables → t ≡ get_or xs n t →
    columns ≡ t.columns ++ column ∷ [] → new ≡ map with_null (rows_at n (db_with next schema rows)) → HoldsAt next columns new
holds_added next n column schema rows xs t columns new h l a e c f =
    let at = holds_wider next column t.columns (rows_at n (db_with next schema rows)) (held_here next n schema rows t h l (here xs schema.tables n t a e)) in
    subst (λ (rs : List Row). HoldsAt next columns rs) (sym f) (subst (λ (cs : List ColumnDef). HoldsAt next cs (map with_null (rows_at n (db_with next schema rows)))) (sym c) at)

pub within_added : (n : ℕ) (column : ColumnDef) (schema : Schema) (xs ys tables : List TableSchema) (t : TableSchema) (columns : List ColumnDef) → n < length schema.tables → xs ≡ schema.tables → t ≡ get_or xs n t → columns ≡ t.columns ++ column ∷ [] → ys ≡ schema.tables → tables ≡ changed_at n (with_columns columns) ys →
    is_past_added column (columns_at n schema) ≡ false → IsWithin schema → IsWithin (record { tables = tables; indexes = schema.indexes })
within_added n column schema xs ys tables t columns l a e c b d p w =
    let past : is_past_added column t.columns ≡ false = ap (λ (cs : List ColumnDef). is_past_added column cs) (sym (columns_there n schema xs t a l e)) ∙ p in
    let at = within_wider n column schema t l (here xs schema.tables n t a e) past w in
    let same : tables ≡ changed_at n (with_columns (t.columns ++ column ∷ [])) schema.tables = d ∙ ap (λ (ts : List TableSchema). changed_at n (with_columns columns) ts) b ∙ ap (λ (cs : List ColumnDef). changed_at n (with_columns cs) schema.tables) c in
    subst (λ (ts : List TableSchema). IsWithin (record { tables = ts; indexes = schema.indexes })) (sym same) at

pub db_added : (next n : ℕ) (column : ColumnDef) (schema : Schema) (rows all : List (List Row)) (xs ys tables : List TableSchema) (t : TableSchema) (columns : List ColumnDef) (new : List Row) → Hold next schema.tables rows → n < length schema.tables → xs ≡ schema.tables → t ≡ get_or xs n t →
    columns ≡ t.columns ++ column ∷ [] → ys ≡ schema.tables → tables ≡ changed_at n (with_columns columns) ys → new ≡ map with_null (rows_at n (db_with next schema rows)) → all ≡ slice_set rows n new →
    db_with next (record { tables = tables; indexes = schema.indexes }) all ≡ column_added n column (db_with next schema rows)
db_added next n column schema rows all xs ys tables t columns new h l a e c b d f g =
    let r = rows_at n (db_with next schema rows) in
    let form : ◌≡◌ {A = Table} (record { name = t.name; columns = columns; rows = new }) (with_column column (record { name = t.name; columns = t.columns; rows = r })) =
    ap (λ (cs : List ColumnDef). record { name = t.name; columns = cs; rows = new }) c ∙ ap (λ (rs : List Row). record { name = t.name; columns = t.columns ++ column ∷ []; rows = rs }) f in
    ap (λ (ts : List Table). record { next_id = next; tables = ts; indexes = schema.indexes })
    (tables_swapped n columns new (with_column column) schema.tables ys tables rows all t r (hold_length next schema.tables rows h) l (here xs schema.tables n t a e) (rows_here next n schema rows h l) form b d g)

pub holds_dropped : (next n place : ℕ) (schema : Schema) (rows : List (List Row)) (xs : List TableSchema) (t : TableSchema) (columns : List ColumnDef) (new : List Row) → Hold next schema.tables rows → n < length schema.tables → xs ≡ schema.tables → t ≡ get_or xs n t →
    columns ≡ remove t.columns place → new ≡ map (without_value place) (rows_at n (db_with next schema rows)) → HoldsAt next columns new
holds_dropped next n place schema rows xs t columns new h l a e c f =
    let at = holds_narrower next place t.columns (rows_at n (db_with next schema rows)) (held_here next n schema rows t h l (here xs schema.tables n t a e)) in
    subst (λ (rs : List Row). HoldsAt next columns rs) (sym f) (subst (λ (cs : List ColumnDef). HoldsAt next cs (map (without_value place) (rows_at n (db_with next schema rows)))) (sym c) at)

pub within_left : (n place : ℕ) (p : Index → Bool) (schema : Schema) (xs ys tables : List TableSchema) (t : TableSchema) (columns : List ColumnDef) (is : List Index) → n < length schema.tables → xs ≡ schema.tables → t ≡ get_or xs n t → columns ≡ remove t.columns place → ys ≡ schema.tables → tables ≡ changed_at n (with_columns columns) ys →
    is ≡ filter p schema.indexes → place < length (columns_at n schema) → 1 < length (columns_at n schema) → IsWithin schema → IsWithin (record { tables = tables; indexes = is })
within_left n place p schema xs ys tables t columns is l a e c b d q o m w =
    let there = columns_there n schema xs t a l e in
    let at = within_narrower n place p schema t l (here xs schema.tables n t a e) (subst (λ (cs : List ColumnDef). place < length cs) there o) (subst (λ (cs : List ColumnDef). 1 < length cs) there m) w in
    let same : tables ≡ changed_at n (with_columns (remove t.columns place)) schema.tables = d ∙ ap (λ (ts : List TableSchema). changed_at n (with_columns columns) ts) b ∙ ap (λ (cs : List ColumnDef). changed_at n (with_columns cs) schema.tables) c in
    subst (λ (k : List Index). IsWithin (record { tables = tables; indexes = k })) (sym q) (subst (λ (ts : List TableSchema). IsWithin (record { tables = ts; indexes = filter p schema.indexes })) (sym same) at)

pub db_left : (next n place : ℕ) (schema : Schema) (rows all : List (List Row)) (xs ys tables : List TableSchema) (t : TableSchema) (gone : ColumnDef) (old columns : List ColumnDef) (is : List Index) (new : List Row) → Hold next schema.tables rows → n < length schema.tables → xs ≡ schema.tables → t ≡ get_or xs n t →
    old ≡ t.columns → gone ≡ get_or old place gone → place < length (columns_at n schema) →
    columns ≡ remove t.columns place → ys ≡ schema.tables → tables ≡ changed_at n (with_columns columns) ys → new ≡ map (without_value place) (rows_at n (db_with next schema rows)) → all ≡ slice_set rows n new → is ≡ filter (is_not_by t.name gone.name) schema.indexes →
    db_with next (record { tables = tables; indexes = is }) all ≡ column_dropped n place (db_with next schema rows)
db_left next n place schema rows all xs ys tables t gone old columns is new h l a e u z o c b d f g q =
    let r = rows_at n (db_with next schema rows) in
    let form : ◌≡◌ {A = Table} (record { name = t.name; columns = columns; rows = new }) (without_column place (record { name = t.name; columns = t.columns; rows = r })) =
    ap (λ (cs : List ColumnDef). record { name = t.name; columns = cs; rows = new }) c ∙ ap (λ (rs : List Row). record { name = t.name; columns = remove t.columns place; rows = rs }) f in
    let there = columns_kept next n schema rows h ∙ columns_there n schema xs t a l e in
    let inside : place < length t.columns = subst (λ (cs : List ColumnDef). place < length cs) (columns_there n schema xs t a l e) o in
    let own : slice_get t.columns place ≡ Some gone = slice_get-get_or t.columns place gone inside ∙ ap (λ (x : ColumnDef). Some x) (ap (λ (cs : List ColumnDef). get_or cs place gone) (sym u) ∙ sym z) in
    let column : column_name_at n place (schema_of (db_with next schema rows)) ≡ gone.name = ap (λ (cs : List ColumnDef). column_name_if (slice_get cs place)) there ∙ ap column_name_if own in
    let table : name_at n (schema_of (db_with next schema rows)) ≡ t.name = name_kept next n schema rows t h l (here xs schema.tables n t a e) in
    let names : is ≡ filter (is_not_by (name_at n (schema_of (db_with next schema rows))) (column_name_at n place (schema_of (db_with next schema rows)))) schema.indexes =
    q ∙ ap (λ (k : List ℕ). filter (is_not_by k gone.name) schema.indexes) (sym table) ∙ ap (λ (k : List ℕ). filter (is_not_by (name_at n (schema_of (db_with next schema rows))) k) schema.indexes) (sym column) in
    ap (λ (ts : List Table). record { next_id = next; tables = ts; indexes = is })
    (tables_swapped n columns new (without_column place) schema.tables ys tables rows all t r (hold_length next schema.tables rows h) l (here xs schema.tables n t a e) (rows_here next n schema rows h l) form b d g)
    ∙ ap (λ (k : List Index). record { next_id = next; tables = changed_at n (without_column place) (tables_with schema.tables rows); indexes = k }) names

-- the exits of the check of a new column
pub column_exit : (T U : Type 0) (next n : ℕ) (column : ColumnDef) (schema : Schema) (rows : List (List Row)) (xs : List TableSchema) (t : TableSchema) (f : RelFault) (r : Result U RelFault) → Hold next schema.tables rows → n < length schema.tables → xs ≡ schema.tables → t ≡ get_or xs n t → IsErrAnd r (λ e. e ≡ f) →
    IsRefusedBy {T = T} (refused_if (is_past_added column t.columns) fault.TableLimit) (Err f) → IsRefusedBy {T = U} (column_refusal n column (db_with next schema rows)) r
column_exit T U next n column schema rows xs t f r h l a e i g =
    subst (λ (o : Option RelFault). IsRefusedBy {T = U} o r) (column_refusal_kept next n column schema rows xs t (rows_at n (db_with next schema rows)) h l a e (rows_here next n schema rows h l))
    (refused_exit T U (refused_if (is_past_added column t.columns) fault.TableLimit) _ f r i g)

pub column_later : (next n : ℕ) (column : ColumnDef) (schema : Schema) (rows : List (List Row)) (xs : List TableSchema) (t : TableSchema) (x ys : List Row) → Hold next schema.tables rows → n < length schema.tables → xs ≡ schema.tables → t ≡ get_or xs n t → x ≡ get_or rows n x → ys ≡ x →
    ◌≡◌ {A = Option RelFault} (refused_if (is_past_added column t.columns) fault.TableLimit) None → refused_if (list_any is_long_with_null ys) fault.RowTooLong ≡ column_refusal n column (db_with next schema rows)
column_later next n column schema rows xs t x ys h l a e g y p =
    ap (λ (rs : List Row). refused_if (list_any is_long_with_null rs) fault.RowTooLong) y
    ∙ ap (λ (o : Option RelFault). or_next o (refused_if (list_any is_long_with_null x) fault.RowTooLong)) (sym p)
    ∙ column_refusal_kept next n column schema rows xs t x h l a e g

other_side : (T U : Type 0) (k : Option RelFault) (f : RelFault) → IsRefusedBy {T = T} k (Err f) → IsRefusedBy {T = U} k (Err f)
other_side T U k fault.RowTooLong g = g
other_side T U k (fault.KeyTooLong name) g = g
other_side T U k fault.IdsSpent g = g
other_side T U k fault.TableLimit g = g
other_side T U k (fault.Trouble t) g = tt

same_side : (T U : Type 0) (o k : Option RelFault) (f e : RelFault) → k ≡ o → e ≡ f → IsRefusedBy {T = T} k (Err f) → IsRefusedBy {T = U} o (Err e)
same_side T U o k f e q i g =
    subst (λ (x : RelFault). IsRefusedBy {T = U} o (Err x)) (sym i) (subst (λ (z : Option RelFault). IsRefusedBy {T = U} z (Err f)) q (other_side T U k f g))

pub column_after : (T U : Type 0) (o k : Option RelFault) (f : RelFault) (r : Result U RelFault) → k ≡ o → IsErrAnd r (λ e. e ≡ f) → IsRefusedBy {T = T} k (Err f) → IsRefusedBy {T = U} o r
column_after T U o k f (Ok x) q i g = absurd i
column_after T U o k f (Err e) q i g = same_side T U o k f e q i g
