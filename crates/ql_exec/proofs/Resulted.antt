-- The rows that a SELECT shows of a well-formed database are results of rows with the types of its FROM.
use Rattle.std.proofs.Common.{◌≡◌, ℕ, zero, suc, ◌≤◌, ◌+◌, Bool, true, false, if◌then◌else◌, List, [], ◌∷◌, map, take, drop, slice_get, Option, Some, None, Ok, Err, refl, sym, ap, subst, ◌∙◌, arith}
use Rattle.std.specs.Prelude.{IsOk}
use Rattle.std.specs.List.{AllByRecursion}
use Rattle.ql_value.specs.declared.refusal.TheConstants.{LATER}
use Rattle.ql_value.specs.declared.value.Value.{Value}
use Rattle.ql_syntax.specs.declared.scope.Slot.{Slot}
use Rattle.ql_syntax.specs.declared.statement.ColumnDef.{ColumnDef}
use Rattle.ql_syntax.specs.declared.syntax.Expr.{Expr}
use Rattle.ql_syntax.specs.declared.syntax.Expr.TheOpen.{SetSource-F}
use Rattle.ql_syntax.specs.declared.syntax.Field.{Field}
use Rattle.ql_syntax.specs.declared.syntax.FromSet.{FromSet, out-FromSet}
use Rattle.ql_syntax.specs.declared.syntax.Join.{Join}
use Rattle.ql_syntax.specs.declared.syntax.Link.{Link}
use Rattle.ql_syntax.specs.declared.syntax.Select.{Select, out-Select}
use Rattle.ql_syntax.specs.declared.syntax.SetSource.{SetSource, out-SetSource}
use Rattle.ql_syntax.specs.declared.typed.Typed.{Typed}
use Rattle.ql_syntax.specs.declared.typing.Typing.{Typing}
use Rattle.ql_syntax.specs.Answers.{Answer, refused, then_with}
use Rattle.ql_syntax.specs.Typing.{FitsRow}
use Rattle.ql_rel.specs.declared.db.Db.{Db}
use Rattle.ql_rel.specs.declared.db.Row.{Row}
use Rattle.ql_rel.specs.declared.db.Table.{Table}
use Rattle.ql_rel.specs.declared.plan.Plan.{Plan}
use Rattle.ql_rel.specs.declared.select.ResultRow.{ResultRow}
use Rattle.ql_rel.specs.Databases.{table_schema, schema_of, columns_if, rows_if}
use Rattle.ql_rel.specs.Limits.{last_id}
use Rattle.ql_rel.specs.NewNames.{place_named}
use Rattle.ql_rel.specs.Plans.{add_set, add_sets}
use Rattle.ql_rel.specs.PlanTypes.{types_if}
use Rattle.ql_rel.specs.RowLists.{without_first, at_most, window}
use Rattle.ql_rel.specs.Rows.{values_of, is_meant}
use Rattle.ql_rel.specs.SelectRows.{set_row, set_rows, rows_of_source, from_rows, count_of, filtered, result_at, results, results_of, is_in_turn, shown_of, shown_rows}
use Rattle.ql_rel.specs.WellFormed.{AllFit, AllBelow, HoldsRows, IsWellFormed}
use Rattle.ql_rel.proofs.Fits.{then_ok, same_ok}
use Rattle.ql_exec.specs.Scans.{table_types}
use Rattle.ql_exec.specs.Selections.{IsResultOf, AreResults}
use Rattle.ql_exec.proofs.Assigned.{row_fits_types}
use Rattle.ql_exec.proofs.Opened.{sole_there}
use Rattle.ql_exec.proofs.Planned.{one_set, stood_set}

-- rows of a table
rows_typed : (columns : List ColumnDef) (next : ℕ) (rows : List Row) → next ≤ last_id + 1 → AllFit columns rows → AllBelow next rows → AllByRecursion (FitsRow (table_types columns)) (map set_row rows)
rows_typed columns next [] n f b = tt
rows_typed columns next (r ∷ rows) n f b = (row_fits_types columns r (let below = b.0 in omega (arith, n, below)) f.0, rows_typed columns next rows n f.1 b.1)

table_typed : (db : Db) (n : ℕ) (tables : List Table) → db.next_id ≤ last_id + 1 → AllByRecursion (HoldsRows db) tables → AllByRecursion (FitsRow (table_types (columns_if (slice_get (map table_schema tables) n)))) (map set_row (rows_if (slice_get tables n)))
table_typed db n [] w h = tt
table_typed db zero (t ∷ tables) w h = rows_typed t.columns db.next_id t.rows w h.0.fit h.0.below
table_typed db (suc n) (t ∷ tables) w h = table_typed db n tables w h.1

-- those of a record set
set_typed : (db : Db) (set : FromSet) (rows : List (List Value)) → IsWellFormed db → IsOk (add_set (schema_of db) [] set) → from_rows db (set ∷ []) ≡ Ok rows → AllByRecursion (FitsRow (types_if (add_set (schema_of db) [] set))) rows
set_typed db set rows w ok e = by (out-SetSource (out-FromSet set).source) refl e where
  by : (x : SetSource-F Expr SetSource Field FromSet Join Link Select) → out-SetSource (out-FromSet set).source ≡ x → rows_of_source db x ≡ Ok rows → AllByRecursion (FitsRow (types_if (add_set (schema_of db) [] set))) rows
  by (SetSource-F.Table name) k a =
      let stood = stood_set (schema_of db) set name k ok in
      subst (AllByRecursion (FitsRow (types_if (add_set (schema_of db) [] set)))) (same_ok (set_rows name db) rows a)
      (subst (λ (types : List Typing). AllByRecursion (FitsRow types) (set_rows name db)) stood.typed (table_typed db (place_named name (schema_of db).tables) db.tables w.left w.rows))
  by (SetSource-F.Query select) k a = absurd (cc)

-- those of a FROM
from_typed : (db : Db) (sets : List FromSet) (rows : List (List Value)) → IsWellFormed db → IsOk (add_sets (schema_of db) [] sets) → from_rows db sets ≡ Ok rows → AllByRecursion (FitsRow (types_if (add_sets (schema_of db) [] sets))) rows
from_typed db [] rows w ok e = subst (AllByRecursion (FitsRow [])) (same_ok ([] ∷ []) rows e) (tt, tt)
from_typed db (set ∷ []) rows w ok e =
    subst (λ (a : Answer (List Slot)). AllByRecursion (FitsRow (types_if a)) rows) (sym (one_set (schema_of db) (set ∷ []) set refl))
    (set_typed db set rows w (sole_there (schema_of db) (set ∷ []) set refl ok) e)
from_typed db (set ∷ other ∷ sets) rows w ok e = absurd (cc)

-- what holds of each row holds of those that WHERE means
one_if : (P : List Value → Type 0) (meant : Bool) (row : List Value) (rows : List (List Value)) → P row → AllByRecursion P rows → AllByRecursion P (if meant then row ∷ rows else rows)
one_if P true row rows h r = (h, r)
one_if P false row rows h r = r

meant_all : (P : List Value → Type 0) (filter : Option Typed) (rows meant : List (List Value)) → AllByRecursion P rows → filtered filter rows ≡ Ok meant → AllByRecursion P meant
meant_all P filter [] meant h e = subst (AllByRecursion P) (same_ok [] meant e) tt
meant_all P filter (row ∷ rows) meant h e =
    let test = then_ok (is_meant filter row) (λ is. then_with (filtered filter rows) (λ more. Ok (if is then row ∷ more else more))) meant e in
    let rest = then_ok (filtered filter rows) (λ more. Ok (if test.0 then row ∷ more else more)) meant test.2 in
    subst (AllByRecursion P) (same_ok (if test.0 then row ∷ rest.0 else rest.0) meant rest.2) (one_if P test.0 row rest.0 h.0 (meant_all P filter rows rest.0 h.1 rest.1))

-- the fields of each row
abbrev values_in : List ResultRow → List (List Value)
values_in rows = map (λ (x : ResultRow). x.values) rows

one_result : (types : List Typing) (fields : List Typed) (row : List Value) (x : ResultRow) → FitsRow types row → result_at fields row ≡ Ok x → IsResultOf types fields x.values
one_result types fields row x f e =
    let new = then_ok (values_of row fields) (λ values. Ok (record { source = row; values = values })) x e in
    record { row = row; fits = f; is = new.1 ∙ ap Ok (ap (λ (r : ResultRow). r.values) (same_ok (record { source = row; values = new.0 }) x new.2)) }

each_result : (types : List Typing) (fields : List Typed) (rows : List (List Value)) (shown : List ResultRow) → AllByRecursion (FitsRow types) rows → results fields rows ≡ Ok shown → AllByRecursion (IsResultOf types fields) (values_in shown)
each_result types fields [] shown h e = subst (λ (xs : List ResultRow). AllByRecursion (IsResultOf types fields) (values_in xs)) (same_ok [] shown e) tt
each_result types fields (row ∷ rows) shown h e =
    let first = then_ok (result_at fields row) (λ x. then_with (results fields rows) (λ xs. Ok (x ∷ xs))) shown e in
    let rest = then_ok (results fields rows) (λ xs. Ok (first.0 ∷ xs)) shown first.2 in
    subst (λ (xs : List ResultRow). AllByRecursion (IsResultOf types fields) (values_in xs)) (same_ok (first.0 ∷ rest.0) shown rest.2)
    (one_result types fields row first.0 h.0 first.1, each_result types fields rows rest.0 h.1 rest.1)

-- some of a list
all_behind : (P : List Value → Type 0) (n : ℕ) (rows : List (List Value)) → AllByRecursion P rows → AllByRecursion P (drop n rows)
all_behind P zero rows h = h
all_behind P (suc n) [] h = tt
all_behind P (suc n) (row ∷ rows) h = all_behind P n rows h.1

all_first : (P : List Value → Type 0) (n : ℕ) (rows : List (List Value)) → AllByRecursion P rows → AllByRecursion P (take n rows)
all_first P zero rows h = tt
all_first P (suc n) [] h = tt
all_first P (suc n) (row ∷ rows) h = (h.0, all_first P n rows h.1)

all_left : (P : List Value → Type 0) (offset : Option ℕ) (rows : List (List Value)) → AllByRecursion P rows → AllByRecursion P (without_first offset rows)
all_left P None rows h = h
all_left P (Some n) rows h = all_behind P n rows h

all_most : (P : List Value → Type 0) (limit : Option ℕ) (rows : List (List Value)) → AllByRecursion P rows → AllByRecursion P (at_most limit rows)
all_most P None rows h = h
all_most P (Some n) rows h = all_first P n rows h

not_grouped : (b : Bool) (whole : Answer (List ResultRow)) (shown : List ResultRow) → (if b then refused LATER else whole) ≡ Ok shown → (b ≡ false) × (whole ≡ Ok shown)
not_grouped true whole shown e = absurd (cc)
not_grouped false whole shown e = (refl, e)

in_turn : (b : Bool) (whole : Answer (List (List Value))) (rows : List (List Value)) → (if b then whole else refused LATER) ≡ Ok rows → whole ≡ Ok rows
in_turn true whole rows e = e
in_turn false whole rows e = absurd (cc)

pub shown_results : (db : Db) (select : Select) (p : Plan) (rows : List (List Value)) → IsWellFormed db → IsOk (add_sets (schema_of db) [] (out-Select select).sets) → shown_rows db select p ≡ Ok rows
    → AreResults (types_if (add_sets (schema_of db) [] (out-Select select).sets)) p rows
shown_results db select p rows w ok e =
    let sets = (out-Select select).sets in
    let types = types_if (add_sets (schema_of db) [] sets) in
    let whole = in_turn (is_in_turn (out-Select select).distinct p) (then_with (count_of p.limit) (λ limit. then_with (count_of p.offset) (λ offset. then_with (from_rows db sets) (shown_of limit offset p)))) rows e in
    let limit = then_ok (count_of p.limit) (λ limit. then_with (count_of p.offset) (λ offset. then_with (from_rows db sets) (shown_of limit offset p))) rows whole in
    let offset = then_ok (count_of p.offset) (λ offset. then_with (from_rows db sets) (shown_of limit.0 offset p)) rows limit.2 in
    let all = then_ok (from_rows db sets) (shown_of limit.0 offset.0 p) rows offset.2 in
    let meant = then_ok (filtered p.filter all.0) (λ meant. then_with (results_of p meant) (λ shown. Ok (window offset.0 limit.0 (values_in shown)))) rows all.2 in
    let shown = then_ok (results_of p meant.0) (λ shown. Ok (window offset.0 limit.0 (values_in shown))) rows meant.2 in
    let plain = not_grouped p.grouped (results p.fields meant.0) shown.0 shown.1 in
    let each = each_result types p.fields meant.0 shown.0 (meant_all (FitsRow types) p.filter all.0 meant.0 (from_typed db sets all.0 w ok all.1) meant.1) plain.1 in
    record {
      plain = plain.0;
      each = subst (AllByRecursion (IsResultOf types p.fields)) (same_ok (window offset.0 limit.0 (values_in shown.0)) rows shown.2)
          (all_most (IsResultOf types p.fields) limit.0 (without_first offset.0 (values_in shown.0)) (all_left (IsResultOf types p.fields) offset.0 (values_in shown.0) each));
    }
