-- UPDATE and DELETE go over the rows of a table by rising id.
use Rattle.std.proofs.Common.{◌≡◌, ℕ, ◌<◌, ◌≤◌, Bool, true, false, if◌then◌else◌, List, [], ◌∷◌, ◌++◌, length, map, filter, find, flat_map, Option, Some, None, IfSome, Ok, Err, refl, sym, ap, subst, ◌∙◌, arith, append_assoc}
use Rattle.std.specs.List.{AllByRecursion}
use Rattle.ql_value.specs.declared.refusal.Refusal.{Refusal}
use Rattle.ql_value.specs.declared.value.Value.{Value}
use Rattle.ql_rel.specs.declared.db.Db.{Db}
use Rattle.ql_rel.specs.declared.db.Row.{Row}
use Rattle.ql_rel.specs.declared.fault.RelFault.{RelFault}
use Rattle.ql_rel.specs.declared.fault.RelFault.TheVariants as rel
use Rattle.ql_rel.specs.declared.plan.Plan.{Plan}
use Rattle.ql_rel.specs.declared.schema.Schema.{Schema}
use Rattle.ql_syntax.specs.Answers.{Answer, then_with, all_of}
use Rattle.ql_rel.specs.ChangeEffects.{with_new, becomes, row_becomes, rows_become, table_changed}
use Rattle.ql_rel.specs.Changes.{rows_changed, row_of}
use Rattle.ql_rel.specs.Databases.{schema_of, rows_at}
use Rattle.ql_rel.specs.Refusals.{change_refusal}
use Rattle.ql_rel.specs.Refused.{unless}
use Rattle.ql_rel.specs.Rels.{is_after, row_after}
use Rattle.ql_rel.specs.Rows.{values_of, is_meant}
use Rattle.ql_rel.specs.SelectRows.{set_row}
use Rattle.ql_rel.specs.WellFormed.{Rise}
use Rattle.ql_rel.proofs.Fits.{then_ok, same_ok}
use Rattle.ql_exec.specs.Carries.{Changed}
use Rattle.ql_exec.specs.RowChanges.{Stands, row_changed}
use Rattle.ql_exec.proofs.Kept.{schema_kept}
use Rattle.ql_exec.proofs.RowChanged.{rows_twice, rows_same, row_behind, stands_next}
use Rattle.ql_exec.proofs.Scanned.{all_after, next_found, none_found}

-- what becomes of a row keeps its id
abbrev Keep : ℕ → List Row → Type 0
Keep id rows = AllByRecursion (λ (r : Row). r.id ≡ id) rows

keeps_new : (o : Option RelFault) (row : Row) (rows : List Row) → unless o (row ∷ []) ≡ Ok rows → Keep row.id rows
keeps_new None row rows e = subst (Keep row.id) (same_ok (row ∷ []) rows e) (refl, tt)
keeps_new (Some rel.RowTooLong) row rows e = absurd (cc)
keeps_new (Some (rel.KeyTooLong index)) row rows e = absurd (cc)
keeps_new (Some rel.IdsSpent) row rows e = absurd (cc)
keeps_new (Some rel.TableLimit) row rows e = absurd (cc)
keeps_new (Some (rel.Trouble t)) row rows e = subst (Keep row.id) (same_ok (row ∷ []) rows e) (refl, tt)

keeps_id : (removes : Bool) (table : ℕ) (schema : Schema) (p : Plan) (row : Row) (rows : List Row) → becomes removes table schema p row ≡ Ok rows → Keep row.id rows
keeps_id true table schema p row rows e = subst (Keep row.id) (same_ok [] rows e) tt
keeps_id false table schema p row rows e =
    let put = λ (new : List Value). unless (change_refusal table row.id (with_new p.targets new row.values) schema) (row_of row.id (with_new p.targets new row.values) ∷ []) in
    let new = then_ok (values_of (set_row row) p.fields) put rows e in
    keeps_new (change_refusal table row.id (with_new p.targets new.0 row.values) schema) (row_of row.id (with_new p.targets new.0 row.values)) rows new.2

meant_or_not : (meant : Bool) (removes : Bool) (table : ℕ) (schema : Schema) (p : Plan) (row : Row) (rows : List Row) → (if meant then becomes removes table schema p row else Ok (row ∷ [])) ≡ Ok rows → Keep row.id rows
meant_or_not true removes table schema p row rows e = keeps_id removes table schema p row rows e
meant_or_not false removes table schema p row rows e = subst (Keep row.id) (same_ok (row ∷ []) rows e) (refl, tt)

pub keeps_row : (removes : Bool) (table : ℕ) (schema : Schema) (p : Plan) (row : Row) (rows : List Row) → row_becomes removes table schema p row ≡ Ok rows → Keep row.id rows
keeps_row removes table schema p row rows e =
    let m = then_ok (is_meant p.filter (set_row row)) (λ meant. if meant then becomes removes table schema p row else Ok (row ∷ [])) rows e in
    meant_or_not m.0 removes table schema p row rows m.2

-- the first of some rows, and the others
flat_two : (a : Answer (List Row)) (b : Answer (List (List Row))) → then_with (then_with a (λ x. then_with b (λ xs. Ok (x ∷ xs)))) (λ lists. Ok (flat_map (λ (rows : List Row). rows) lists))
    ≡ then_with a (λ x. then_with (then_with b (λ lists. Ok (flat_map (λ (rows : List Row). rows) lists))) (λ xs. Ok (x ++ xs)))
flat_two (Ok x) (Ok xs) = refl
flat_two (Ok x) (Err r) = refl
flat_two (Err r) b = refl

-- a database with rows of one table: those that are done, and what becomes of the others
abbrev pub onward : ℕ → List Row → Answer (List Row) → Db → Answer Db
onward table done rest db = then_with rest (λ rows. Ok (rows_changed table (λ _. done ++ rows) db))

onward_more : (table : ℕ) (done x : List Row) (rest : Answer (List Row)) (db : Db) → onward table done (then_with rest (λ rows. Ok (x ++ rows))) db ≡ onward table (done ++ x) rest db
onward_more table done x (Ok rows) db = rw append_assoc refl
onward_more table done x (Err r) db = refl

onward_whole : (table : ℕ) (rest : Answer (List Row)) (db : Db) → onward table [] rest db ≡ then_with rest (λ rows. Ok (rows_changed table (λ _. rows) db))
onward_whole table (Ok rows) db = refl
onward_whole table (Err r) db = refl

-- the rows behind an id are left as they were, and what became of those before stands before them
pub record Goes (removes : Bool) (table : ℕ) (p : Plan) (after : ℕ) (db : Db) (held : Option Db) : Type 0 where
  pub done : List Row
  pub holds : held ≡ Some (rows_changed table (λ _. done ++ filter (is_after after) (rows_at table db)) db)
  pub low : AllByRecursion (λ (r : Row). r.id ≤ after) done
  pub comes : onward table done (rows_become removes table (schema_of db) p (filter (is_after after) (rows_at table db))) db ≡ table_changed removes table p db

pub goes_first : (removes : Bool) (table : ℕ) (p : Plan) (db : Db) → Rise 1 (rows_at table db) → Goes removes table p 0 db (Some db)
goes_first removes table p db h =
    let all = all_after 0 1 (rows_at table db) h (omega arith) in
    record {
      done = [];
      holds = ap Some (rows_same table (filter (is_after 0) (rows_at table db)) db (sym all));
      low = tt;
      comes = onward_whole table (rows_become removes table (schema_of db) p (filter (is_after 0) (rows_at table db))) db
          ∙ ap (λ (rows : List Row). then_with (rows_become removes table (schema_of db) p rows) (λ rows. Ok (rows_changed table (λ _. rows) db))) all;
    }

low_more : (a b : ℕ) (done : List Row) (rows : List Row) → a ≤ b → AllByRecursion (λ (r : Row). r.id ≤ a) done → Keep b rows → AllByRecursion (λ (r : Row). r.id ≤ b) (done ++ rows)
low_more a b [] [] l d k = tt
low_more a b [] (r ∷ rows) l d k = (let here : r.id ≡ b = k.0 in omega (arith, here), low_more a b [] rows l d k.1)
low_more a b (r ∷ done) rows l d k = (let here : r.id ≤ a = d.0 in omega (arith, here, l), low_more a b done rows l d.1 k)

-- the next row of the relation is the next row of the table
pub row_is : (removes : Bool) (table : ℕ) (p : Plan) (after : ℕ) (db : Db) (held : Option Db) (x : Option Row) → table < length db.tables → Goes removes table p after db held → IfSome held (λ d. x ≡ row_after table after d)
    → x ≡ find (is_after after) (rows_at table db)
row_is removes table p after db held x h g e =
    subst (λ (z : Option Db). IfSome z (λ d. x ≡ row_after table after d)) g.holds e ∙ row_behind table after g.done (rows_at table db) db h g.low

-- it stands between those that are done and those behind it
pub next_stands : (removes : Bool) (table : ℕ) (p : Plan) (after : ℕ) (db : Db) (held : Option Db) (row : Row) → table < length db.tables → Rise 1 (rows_at table db) → (g : Goes removes table p after db held)
    → find (is_after after) (rows_at table db) ≡ Some row → after < row.id → Stands table row g.done (filter (is_after row.id) (rows_at table db)) (rows_changed table (λ _. g.done ++ filter (is_after after) (rows_at table db)) db)
next_stands removes table p after db held row h rise g e over =
    stands_next table after row g.done (rows_at table db) db h g.low over (next_found after 1 (rows_at table db) row rise e)

-- what all the rows from one on come to, by what that one comes to
whole_by : (removes : Bool) (table : ℕ) (p : Plan) (after : ℕ) (db : Db) (held : Option Db) (row : Row) → Rise 1 (rows_at table db) → (g : Goes removes table p after db held) → find (is_after after) (rows_at table db) ≡ Some row
    → onward table g.done (then_with (row_becomes removes table (schema_of db) p row) (λ x. then_with (rows_become removes table (schema_of db) p (filter (is_after row.id) (rows_at table db))) (λ xs. Ok (x ++ xs)))) db ≡ table_changed removes table p db
whole_by removes table p after db held row rise g e =
    let rest = filter (is_after row.id) (rows_at table db) in
    sym (ap (λ (a : Answer (List Row)). onward table g.done a db) (flat_two (row_becomes removes table (schema_of db) p row) (all_of (map (row_becomes removes table (schema_of db) p) rest))))
    ∙ sym (ap (λ (rows : List Row). onward table g.done (rows_become removes table (schema_of db) p rows) db) (next_found after 1 (rows_at table db) row rise e))
    ∙ g.comes

-- what the row comes to, in the relation as it is now
becomes_now : (removes : Bool) (table : ℕ) (p : Plan) (row : Row) (rows : List Row) (db : Db) → row_becomes removes table (schema_of (rows_changed table (λ _. rows) db)) p row ≡ row_becomes removes table (schema_of db) p row
becomes_now removes table p row rows db = ap (λ (s : Schema). row_becomes removes table s p row) (schema_kept table (λ _. rows) db)

pub goes_next : (removes : Bool) (table : ℕ) (p : Plan) (after : ℕ) (db : Db) (held new : Option Db) (row : Row) → Rise 1 (rows_at table db) → after < row.id → (g : Goes removes table p after db held) → find (is_after after) (rows_at table db) ≡ Some row
    → Changed (row_changed removes table p row g.done (filter (is_after row.id) (rows_at table db)) (rows_changed table (λ _. g.done ++ filter (is_after after) (rows_at table db)) db)) new → Goes removes table p row.id db new
goes_next removes table p after db held new row rise over g e c =
    let rows = rows_at table db in
    let rest = filter (is_after row.id) rows in
    let now = rows_changed table (λ _. g.done ++ filter (is_after after) rows) db in
    let x = then_ok (row_becomes removes table (schema_of now) p row) (λ (rs : List Row). Ok (rows_changed table (λ _. g.done ++ (rs ++ rest)) now)) c.after c.is in
    let here : row_becomes removes table (schema_of db) p row ≡ Ok x.0 = sym (becomes_now removes table p row (g.done ++ filter (is_after after) rows) db) ∙ x.1 in
    let is : rows_changed table (λ _. g.done ++ (x.0 ++ rest)) now ≡ c.after = same_ok (rows_changed table (λ _. g.done ++ (x.0 ++ rest)) now) c.after x.2 in
    record {
      done = g.done ++ x.0;
      holds = c.holds ∙ ap Some (sym is ∙ rows_twice table (g.done ++ filter (is_after after) rows) (g.done ++ (x.0 ++ rest)) db ∙ ap (λ (rs : List Row). rows_changed table (λ _. rs) db) (sym (append_assoc g.done x.0 rest)));
      low = low_more after row.id g.done x.0 (omega (arith, over)) g.low (keeps_row removes table (schema_of db) p row x.0 here);
      comes =
          sym (onward_more table g.done x.0 (rows_become removes table (schema_of db) p rest) db)
          ∙ sym (ap (λ (a : Answer (List Row)). onward table g.done (then_with a (λ ws. then_with (rows_become removes table (schema_of db) p rest) (λ xs. Ok (ws ++ xs)))) db) here)
          ∙ whole_by removes table p after db held row rise g e;
    }

stops_first : (a : Answer (List Row)) (f : List Row → Db) (r : Refusal) → ◌≡◌ {A = Answer Db} (then_with a (λ rs. Ok (f rs))) (Err r) → a ≡ Err r
stops_first (Ok x) f r e = absurd (cc)
stops_first (Err q) f r e = let same : q ≡ r = cc in ap Err same

pub goes_stops : (removes : Bool) (table : ℕ) (p : Plan) (after : ℕ) (db : Db) (held : Option Db) (row : Row) (r : Refusal) → Rise 1 (rows_at table db) → (g : Goes removes table p after db held) → find (is_after after) (rows_at table db) ≡ Some row
    → row_changed removes table p row g.done (filter (is_after row.id) (rows_at table db)) (rows_changed table (λ _. g.done ++ filter (is_after after) (rows_at table db)) db) ≡ Err r → table_changed removes table p db ≡ Err r
goes_stops removes table p after db held row r rise g e c =
    let rows = rows_at table db in
    let rest = filter (is_after row.id) rows in
    let now = rows_changed table (λ _. g.done ++ filter (is_after after) rows) db in
    let here = stops_first (row_becomes removes table (schema_of now) p row) (λ rs. rows_changed table (λ _. g.done ++ (rs ++ rest)) now) r c in
    let is : row_becomes removes table (schema_of db) p row ≡ Err r = sym (becomes_now removes table p row (g.done ++ filter (is_after after) rows) db) ∙ here in
    sym (whole_by removes table p after db held row rise g e)
    ∙ ap (λ (a : Answer (List Row)). onward table g.done (then_with a (λ ws. then_with (rows_become removes table (schema_of db) p rest) (λ xs. Ok (ws ++ xs)))) db) is

pub goes_last : (removes : Bool) (table : ℕ) (p : Plan) (after : ℕ) (db : Db) (held : Option Db) → Goes removes table p after db held → find (is_after after) (rows_at table db) ≡ None → Changed (table_changed removes table p db) held
goes_last removes table p after db held g e =
    let none = none_found after (rows_at table db) e in
    record {
      after = rows_changed table (λ _. g.done ++ []) db;
      is = sym g.comes ∙ ap (λ (rows : List Row). onward table g.done (rows_become removes table (schema_of db) p rows) db) none;
      holds = g.holds ∙ ap (λ (rows : List Row). Some (rows_changed table (λ _. g.done ++ rows) db)) none;
    }
