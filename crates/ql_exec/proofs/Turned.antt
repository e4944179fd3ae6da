-- One row of a FROM more, and the rows behind it.
use Rattle.std.proofs.Common.{◌≡◌, ℕ, ◌-◌, ◌^◌, ◌<◌, ◌≤◌, Bool, false, if◌then◌else◌, List, [], ◌∷◌, map, filter, Option, Some, None, IfSome, Ok, Err, refl, sym, ap, subst, ◌∙◌, arith}
use Rattle.std.specs.Prelude.{IsOk}
use Rattle.ql_value.specs.declared.refusal.Refusal.{Refusal}
use Rattle.ql_value.specs.declared.value.Value.{Value}
use Rattle.ql_syntax.specs.declared.typed.Typed.{Typed}
use Rattle.ql_syntax.specs.Answers.{Answer, then_with}
use Rattle.ql_rel.specs.declared.db.Db.{Db}
use Rattle.ql_rel.specs.declared.db.Row.{Row}
use Rattle.ql_rel.specs.Databases.{rows_at}
use Rattle.ql_rel.specs.Rels.{row_after}
use Rattle.ql_rel.specs.Rows.{is_meant}
use Rattle.ql_rel.specs.SelectRows.{set_row, filtered}
use Rattle.ql_rel.specs.Limits.{last_id}
use Rattle.ql_rel.specs.WellFormed.{Fits, IsWellFormed}
use Rattle.ql_syntax.specs.declared.statement.ColumnDef.{ColumnDef}
use Rattle.ql_exec.specs.Scans.{table_types}
use Rattle.ql_exec.specs.Answers.{AreTypedAt}
use Rattle.ql_syntax.specs.declared.typing.Typing.{Typing}
use Rattle.ql_syntax.specs.Typing.{FitsRow, WellTyped, type_of}
use Rattle.ql_rel.specs.declared.schema.Schema.{Schema}
use Rattle.ql_rel.specs.PlanTypes.{AreTyped, IsFilter}
use Rattle.ql_exec.specs.Turns.{rows_if, types_if, Rises, Comes}
use Rattle.ql_exec.proofs.Lined.{rise_at, typed_each}
use Rattle.ql_exec.proofs.Assigned.{filter_typed, row_fits_types}
use Rattle.ql_exec.proofs.Scanned.{next_found, none_found}
use Rattle.ql_rel.proofs.Fits.{same_ok}

-- the rows of a table behind an id begin with the row that a scan gives
pub row_comes : (table after : ℕ) (r : Row) (x : Option Row) (row : List Value) (o : Option Db) → x ≡ Some r → row ≡ set_row r → IfSome o IsWellFormed → IfSome o (λ d. x ≡ row_after table after d)
    → IfSome o (λ d. ◌≡◌ {A = Answer (List (List Value))} (Ok (rows_if (Some table) after d)) (Ok (row ∷ rows_if (Some table) r.id d)))
row_comes table after r x row None k e w h = tt
row_comes table after r x row (Some d) k e w h =
    ap Ok (ap (map set_row) (next_found after 1 (rows_at table d) r (rise_at d table d.tables w.rows) (sym h ∙ k)) ∙ ap (λ (z : List Value). z ∷ rows_if (Some table) r.id d) (sym e))

pub none_comes : (table after : ℕ) (x : Option Row) (o : Option Db) → x ≡ None → IfSome o (λ d. x ≡ row_after table after d)
    → IfSome o (λ d. ◌≡◌ {A = Answer (List (List Value))} (Ok (rows_if (Some table) after d)) (Ok []))
none_comes table after x None n h = tt
none_comes table after x (Some d) n h = ap Ok (ap (map set_row) (none_found after (rows_at table d) (sym h ∙ n)))

-- the row that came has the types of its table
pub row_types : (columns : List ColumnDef) (x : Option Row) (r : Row) (row : List Value) → x ≡ Some r → row ≡ set_row r → IfSome x (λ r. r.id ≤ last_id) → IfSome x (λ r. Fits columns r.values) → FitsRow (table_types columns) row
row_types columns x r row k e small f =
    let low : r.id ≤ last_id = subst (λ (z : Option Row). IfSome z (λ r. r.id ≤ last_id)) k small in
    let fits : Fits columns r.values = subst (λ (z : Option Row). IfSome z (λ r. Fits columns r.values)) k f in
    subst (λ (z : List Value). FitsRow (table_types columns) z) (sym e) (row_fits_types columns r low fits)

-- what is said where there is a row
pub over_here : {A : Type 0} (P : Type 0) (x : Option A) (y : A) → x ≡ Some y → IfSome x (λ _. P) → P
over_here P x y k h = subst (λ z. IfSome z (λ _. P)) k h

-- fewer ids are left
pub fewer : (before now : ℕ) → Rises before now → 2 ^ 64 - now < 2 ^ 64 - before
fewer before now h = omega (arith, h.0, h.1)

-- what an answer says of what comes is said of the database that was told before it
pub told_back : (P : Db → Type 0) (o p : Option Db) → p ≡ o → IfSome p P → IfSome o P
told_back P o p e h = subst (λ (z : Option Db). IfSome z P) e h

-- a row that WHERE does not mean
passed : (filter : Option Typed) (row : List Value) (left : List (List Value)) → is_meant filter row ≡ Ok false → filtered filter (row ∷ left) ≡ filtered filter left
passed filter row left m = ap (λ (a : Answer Bool). then_with a (λ meant. then_with (filtered filter left) (λ more. Ok (if meant then row ∷ more else more)))) m ∙ same (filtered filter left) where
  same : (a : Answer (List (List Value))) → then_with a (λ more. Ok more) ≡ a
  same (Ok rows) = refl
  same (Err r) = refl

same_rows : (a b : List (List Value)) → ◌≡◌ {A = Answer (List (List Value))} (Ok a) (Ok b) → a ≡ b
same_rows a b e = same_ok a b e

-- the rows that are left begin with the one that came
here : (x : Option (List Value)) (row : List Value) (now left : List (List Value)) → x ≡ Some row → Comes (Ok now) (Ok x) (Ok left) → now ≡ row ∷ left
here x row now left k c = same_rows now (row ∷ left) (subst (λ (z : Option (List Value)). Comes (Ok now) (Ok z) (Ok left)) k c)

-- the rows that WHERE means, where the next row is not meant
pub rows_pass : (filter : Option Typed) (x : Option (List Value)) (row seen : List Value) (m : Bool) (whole now left : Db → List (List Value)) (o p : Option Db) → x ≡ Some row → seen ≡ row → p ≡ o
    → IfSome o (λ d. filtered filter (whole d) ≡ filtered filter (now d)) → IfSome p (λ d. Comes (Ok (now d)) (Ok x) (Ok (left d))) → is_meant filter seen ≡ Ok m → m ≡ false
    → IfSome o (λ d. filtered filter (whole d) ≡ filtered filter (left d))
rows_pass filter x row seen m whole now left None p k s e g c a n = tt
rows_pass filter x row seen m whole now left (Some d) p k s e g c a n =
    let first = here x row (now d) (left d) k (told_back (λ d. Comes (Ok (now d)) (Ok x) (Ok (left d))) (Some d) p e c) in
    let test : is_meant filter row ≡ Ok false = ap (is_meant filter) (sym s) ∙ a ∙ ap Ok n in
    g ∙ ap (filtered filter) first ∙ passed filter row (left d) test

-- what ends an answer ends another one: it is there where that is, and has its refusal
pub record Ends {A : Type 0} (whole left : Answer A) : Type 0 where
  pub ok : IsOk left → IsOk whole
  pub err : (r : Refusal) → left ≡ Err r → whole ≡ Err r

-- an answer ends itself, as at the start of a loop
pub ends_self : {A : Type 0} (a : Answer A) → Ends a a
ends_self a = record { ok = λ h. h; err = λ r e. e }

pub ends_start : {A : Type 0} (a : Db → Answer A) (o : Option Db) → IfSome o (λ d. Ends (a d) (a d))
ends_start a None = tt
ends_start a (Some d) = ends_self (a d)

pub same_start : {A : Type 0} (a : Db → A) (o : Option Db) → IfSome o (λ d. a d ≡ a d)
same_start a None = tt
same_start a (Some d) = refl

-- the condition has a type at the row that came
pub meant_typed : (x : Option (List Value)) (row seen : List Value) (table now : Option ℕ) (schema held : Schema) (filter : Option Typed) → x ≡ Some row → seen ≡ row → now ≡ table → held ≡ schema
    → IfSome x (FitsRow (types_if now held)) → IsFilter (types_if table schema) filter → IfSome filter (WellTyped seen)
meant_typed x row seen table now schema held filter k s t e f h =
    let fits : FitsRow (types_if now held) row = subst (λ (z : Option (List Value)). IfSome z (FitsRow (types_if now held))) k f in
    let types : types_if now held ≡ types_if table schema = ap (λ (z : Option ℕ). types_if z held) t ∙ ap (types_if table) e in
    filter_typed (types_if table schema) seen filter (subst (λ (xs : List Value). FitsRow (types_if table schema) xs) (sym s) (subst (λ (ts : List Typing). FitsRow ts row) types fits)) h

pub fields_typed : (x : Option (List Value)) (row seen : List Value) (types : List Typing) (fields : List Typed) → x ≡ Some row → seen ≡ row → IfSome x (FitsRow types) → AreTyped (type_of types) fields → AreTypedAt seen fields
fields_typed x row seen types fields k s f h =
    typed_each types seen fields (subst (λ (xs : List Value). FitsRow types xs) (sym s) (subst (λ (z : Option (List Value)). IfSome z (FitsRow types)) k f)) h
