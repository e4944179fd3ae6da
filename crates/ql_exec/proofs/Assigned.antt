-- The values that an UPDATE puts into a row fit its columns.
use Rattle.std.proofs.Common.{◌≡◌, ℕ, zero, suc, ◌+◌, ◌<◌, ◌≤◌, Bool, true, false, List, [], ◌∷◌, ◌++◌, length, drop, slice_get, slice_index_or, slice_set, Option, Some, None, IfSome, Result, Ok, Err, refl, sym, ap, subst, ◌∙◌, arith}
use Rattle.std.specs.Prelude.{IsErrAnd}
use Rattle.ql_value.specs.Kinds.{same_kind}
use Rattle.ql_value.specs.Number.{HasKind}
use Rattle.ql_value.specs.declared.refusal.Refusal.{Refusal}
use Rattle.ql_value.specs.declared.value.Value.{Value}
use Rattle.ql_syntax.specs.declared.statement.ColumnDef.{ColumnDef}
use Rattle.ql_syntax.specs.declared.typed.Typed.{Typed}
use Rattle.ql_syntax.specs.declared.typing.Typing.{Typing}
use Rattle.ql_syntax.specs.Answers.{Answer, then_with}
use Rattle.ql_syntax.specs.Typing.{IsTyped, WellTyped, FitsRow, among, type_of}
use Rattle.ql_syntax.specs.Values.{value_at}
use Rattle.ql_eval.proofs.Soundness.{sound}
use Rattle.ql_rel.specs.declared.db.Db.{Db}
use Rattle.ql_rel.specs.declared.db.Row.{Row}
use Rattle.ql_rel.specs.declared.fault.RelFault.{RelFault}
use Rattle.ql_rel.specs.declared.fault.RelFault.TheVariants as rel
use Rattle.ql_rel.specs.declared.plan.Plan.{Plan}
use Rattle.ql_rel.specs.ChangeEffects.{with_new, row_becomes}
use Rattle.ql_rel.specs.Changes.{rows_changed, row_of, changed, removed}
use Rattle.ql_rel.specs.Databases.{schema_of}
use Rattle.ql_rel.specs.Limits.{last_id}
use Rattle.ql_rel.specs.PlanTypes.{AreTyped, IsFilter, IsValueFor, AreValuesFor, ChangeTyped}
use Rattle.ql_rel.specs.Refusals.{change_refusal}
use Rattle.ql_rel.specs.Refused.{unless}
use Rattle.ql_rel.specs.Rows.{answer_of, values_of, is_meant}
use Rattle.ql_rel.specs.SelectRows.{set_row}
use Rattle.ql_rel.specs.WellFormed.{Fits}
use Rattle.ql_rel.proofs.Fits.{then_ok, same_ok}
use Rattle.ql_exec.specs.Answers.{Answers}
use Rattle.ql_exec.specs.Carries.{Changes}
use Rattle.ql_exec.specs.RowChanges.{Stands, row_changed}
use Rattle.ql_exec.specs.Scans.{table_types}
use Rattle.ql_exec.specs.declared.fault.ExecFault.{ExecFault}
use Rattle.ql_exec.specs.declared.fault.ExecFault.TheVariants as fault
use Rattle.ql_exec.proofs.Fitted.{typed_among, kind_of_type, comes_to}
use Rattle.ql_exec.proofs.Lined.{kinds_fit, id_fits}
use Rattle.ql_exec.proofs.RowChanged.{row_gone, row_new, row_stays}

-- as many values as expressions
pub values_each : (row : List Value) (fields : List Typed) (new : List Value) → values_of row fields ≡ Ok new → length new ≡ length fields
values_each row [] new e = ap length (sym (same_ok [] new e))
values_each row (f ∷ fields) new e =
    let first = then_ok (answer_of (value_at row f)) (λ y. then_with (values_of row fields) (λ ys. Ok (y ∷ ys))) new e in
    let rest = then_ok (values_of row fields) (λ ys. Ok (first.0 ∷ ys)) new first.2 in
    ap length (sym (same_ok (first.0 ∷ rest.0) new rest.2)) ∙ ap suc (values_each row fields rest.0 rest.1)

-- a row has the types of its table
pub row_fits_types : (columns : List ColumnDef) (r : Row) → r.id ≤ last_id → Fits columns r.values → FitsRow (table_types columns) (set_row r)
row_fits_types columns r small fits = (id_fits r.id small, kinds_fit columns r.values fits)

pub filter_typed : (types : List Typing) (row : List Value) (o : Option Typed) → FitsRow types row → IsFilter types o → IfSome o (WellTyped row)
filter_typed types row None f h = tt
filter_typed types row (Some e) f h = record { types = types; fits = f; typed = typed_among _ (type_of types e) h }

value_typed : (types : List Typing) (o : Option ColumnDef) (e : Typed) → IsValueFor (type_of types) o e → IsTyped (type_of types e)
value_typed types None e h = absurd h
value_typed types (Some c) e h = typed_among (same_kind c.kind) (type_of types e) h

pub values_typed : (types : List Typing) (columns : List ColumnDef) (targets : List ℕ) (fields : List Typed) → AreValuesFor (type_of types) columns targets fields → AreTyped (type_of types) fields
values_typed types columns [] [] h = tt
values_typed types columns [] (e ∷ fields) h = absurd h
values_typed types columns (at ∷ targets) [] h = absurd h
values_typed types columns (at ∷ targets) (e ∷ fields) h = (value_typed types (slice_get columns at) e h.0, values_typed types columns targets fields h.1)

pub targets_each : (types : List Typing) (columns : List ColumnDef) (targets : List ℕ) (fields : List Typed) → AreValuesFor (type_of types) columns targets fields → length fields ≡ length targets
targets_each types columns [] [] h = refl
targets_each types columns [] (e ∷ fields) h = absurd h
targets_each types columns (at ∷ targets) [] h = absurd h
targets_each types columns (at ∷ targets) (e ∷ fields) h = ap suc (targets_each types columns targets fields h.1)

there_at : (types : List Typing) (columns : List ColumnDef) (at : ℕ) (e : Typed) → IsValueFor (type_of types) (slice_get columns at) e → at < length columns
there_at types [] at e h = absurd h
there_at types (c ∷ columns) zero e h = omega arith
there_at types (c ∷ columns) (suc at) e h = let rest = there_at types columns at e h in omega (arith, rest)

pub targets_below : (types : List Typing) (columns : List ColumnDef) (targets : List ℕ) (fields : List Typed) (k d : ℕ) → AreValuesFor (type_of types) columns targets fields → k < length targets → slice_index_or targets k d < length columns
targets_below types columns [] fields k d h l = absurd (omega (arith, l))
targets_below types columns (at ∷ targets) [] k d h l = absurd h
targets_below types columns (at ∷ targets) (e ∷ fields) zero d h l = there_at types columns at e h.0
targets_below types columns (at ∷ targets) (e ∷ fields) (suc k) d h l = targets_below types columns targets fields k d h.1 (omega (arith, l))

fits_each : (columns : List ColumnDef) (values : List Value) → Fits columns values → length values ≡ length columns
fits_each [] [] h = refl
fits_each [] (x ∷ values) h = absurd h
fits_each (c ∷ columns) [] h = absurd h
fits_each (c ∷ columns) (x ∷ values) h = ap suc (fits_each columns values h.1)

-- the places of new values are in the row
pub places_below : (types : List Typing) (columns : List ColumnDef) (targets : List ℕ) (fields : List Typed) (r : Row) (row : List Value) → row ≡ set_row r → Fits columns r.values → AreValuesFor (type_of types) columns targets fields
    → (k d : ℕ) → k < length targets → slice_index_or targets k d + 1 < length row
places_below types columns targets fields r row e fits h k d l =
    let below = targets_below types columns targets fields k d h l in
    let same = fits_each columns r.values fits in
    let long : length row ≡ suc (length r.values) = ap length e in
    omega (arith, below, same, long)

fits_set : (types : List Typing) (columns : List ColumnDef) (values : List Value) (at : ℕ) (e : Typed) (x : Value) → Fits columns values → IsValueFor (type_of types) (slice_get columns at) e
    → ((kind : _) → IsTyped (among (same_kind kind) (type_of types e)) → HasKind kind x) → Fits columns (slice_set values at x)
fits_set types [] [] at e x f h k = absurd h
fits_set types [] (y ∷ values) at e x f h k = absurd f
fits_set types (c ∷ columns) [] at e x f h k = absurd f
fits_set types (c ∷ columns) (y ∷ values) zero e x f h k = (k c.kind h, f.1)
fits_set types (c ∷ columns) (y ∷ values) (suc at) e x f h k = (f.0, fits_set types columns values at e x f.1 h k)

pub new_fits : (types : List Typing) (row : List Value) (columns : List ColumnDef) (targets : List ℕ) (fields : List Typed) (new values : List Value) → FitsRow types row → AreValuesFor (type_of types) columns targets fields → values_of row fields ≡ Ok new → Fits columns values
    → Fits columns (with_new targets new values)
new_fits types row columns [] fields new values fr h e f = f
new_fits types row columns (at ∷ targets) [] new values fr h e f = absurd h
new_fits types row columns (at ∷ targets) (g ∷ fields) new values fr h e f =
    let first = then_ok (answer_of (value_at row g)) (λ y. then_with (values_of row fields) (λ ys. Ok (y ∷ ys))) new e in
    let rest = then_ok (values_of row fields) (λ ys. Ok (first.0 ∷ ys)) new first.2 in
    let typed = value_typed types (slice_get columns at) g h.0 in
    let has = comes_to (type_of types g) (value_at row g) first.0 (sound types row g fr typed) first.1 in
    let set = fits_set types columns values at g first.0 f h.0 (λ kind t. kind_of_type kind (type_of types g) first.0 t has) in
    subst (λ (xs : List Value). Fits columns (with_new (at ∷ targets) xs values)) (same_ok (first.0 ∷ rest.0) new rest.2)
    (new_fits types row columns targets fields rest.0 (slice_set values at first.0) fr h.1 rest.1 set)

-- the new row that was made
pub made_fits : (columns : List ColumnDef) (p : Plan) (r : Row) (row values : List Value) → row ≡ set_row r → r.id ≤ last_id → Fits columns r.values → ChangeTyped (table_types columns) columns p
    → then_with (values_of row p.fields) (λ new. Ok (with_new p.targets new (drop 1 row))) ≡ Ok values → Fits columns values
made_fits columns p r row values e small fits typed v =
    let here : then_with (values_of (set_row r) p.fields) (λ new. Ok (with_new p.targets new r.values)) ≡ Ok values = subst (λ (xs : List Value). then_with (values_of xs p.fields) (λ new. Ok (with_new p.targets new (drop 1 xs))) ≡ Ok values) e v in
    let new = then_ok (values_of (set_row r) p.fields) (λ new. Ok (with_new p.targets new r.values)) values here in
    subst (Fits columns) (same_ok (with_new p.targets new.0 r.values) values new.2)
    (new_fits (table_types columns) (set_row r) columns p.targets p.fields new.0 r.values (row_fits_types columns r small fits) typed.values new.1 fits)

none_front : (after : List Row) → [] ++ after ≡ after
none_front after = refl

one_front : (r : Row) (after : List Row) → (r ∷ []) ++ after ≡ r ∷ after
one_front r after = refl

put_at : (table : ℕ) (d : Db) (before : List Row) {a b : List Row} → a ≡ b → ◌≡◌ {A = Answer Db} (Ok (rows_changed table (λ _. before ++ a) d)) (Ok (rows_changed table (λ _. before ++ b) d))
put_at table d before e = ap (λ (rows : List Row). Ok (rows_changed table (λ _. before ++ rows) d)) e

in_place_of : (table : ℕ) (d : Db) (before after : List Row) {a b : Answer (List Row)} → a ≡ b → then_with a (λ (rows : List Row). Ok (rows_changed table (λ _. before ++ (rows ++ after)) d)) ≡ then_with b (λ (rows : List Row). Ok (rows_changed table (λ _. before ++ (rows ++ after)) d))
in_place_of table d before after e = ap (λ (z : Answer (List Row)). then_with z (λ (rows : List Row). Ok (rows_changed table (λ _. before ++ (rows ++ after)) d))) e

in_place : (table : ℕ) (d : Db) (before after : List Row) {a : Answer (List Row)} {rows : List Row} → a ≡ Ok rows → then_with a (λ (rows : List Row). Ok (rows_changed table (λ _. before ++ (rows ++ after)) d)) ≡ Ok (rows_changed table (λ _. before ++ (rows ++ after)) d)
in_place table d before after e = in_place_of table d before after e

-- a row that is not meant stays
pub stays_done : (removes : Bool) (table : ℕ) (p : Plan) (r : Row) (row : List Value) (meant : Bool) (o : Option Db) → row ≡ set_row r → is_meant p.filter row ≡ Ok meant → meant ≡ false
    → IfSome o (λ d. ((before after : List Row) → Stands table r before after d → Changes {T = Unit {0}} (row_changed removes table p r before after d) (Ok tt) o))
stays_done removes table p r row meant None e m n = tt
stays_done removes table p r row meant (Some d) e m n =
    let here : is_meant p.filter (set_row r) ≡ Ok false = subst (λ (xs : List Value). is_meant p.filter xs ≡ Ok meant) e m ∙ ap Ok n in
    let same : row_becomes removes table (schema_of d) p r ≡ Ok (r ∷ []) = rw here refl in
    λ before after s. record { after = rows_changed table (λ _. before ++ r ∷ after) d; is = in_place table d before after same ∙ put_at table d before (one_front r after); holds = ap Some (row_stays table r before after d s) }

-- one that DELETE means goes
pub goes_done : {T : Type 0} (removes : Bool) (table : ℕ) (p : Plan) (r : Row) (row : List Value) (meant : Bool) (result : Result T ExecFault) (o new : Option Db) → row ≡ set_row r → is_meant p.filter row ≡ Ok meant → meant ≡ true → removes ≡ true
    → IfSome o (λ d. Changes (Ok (removed table r.id d)) result new) → IfSome o (λ d. ((before after : List Row) → Stands table r before after d → Changes (row_changed removes table p r before after d) result new))
goes_done removes table p r row meant result None new e m n k h = tt
goes_done removes table p r row meant result (Some d) new e m n k h =
    let here : is_meant p.filter (set_row r) ≡ Ok true = subst (λ (xs : List Value). is_meant p.filter xs ≡ Ok meant) e m ∙ ap Ok n in
    let none : row_becomes removes table (schema_of d) p r ≡ Ok [] = rw (here, k) refl in
    λ before after s.
    let is : row_changed removes table p r before after d ≡ Ok (removed table r.id d) = in_place table d before after none ∙ put_at table d before (none_front after) ∙ ap Ok (sym (row_gone table r before after d s)) in
    subst (λ (a : Answer Db). Changes a result new) (sym is) h

unless_then : (o : Option RelFault) (rows : List Row) (f : List Row → Db) → then_with (unless o rows) (λ rs. Ok (f rs)) ≡ unless o (f rows)
unless_then None rows f = refl
unless_then (Some rel.RowTooLong) rows f = refl
unless_then (Some (rel.KeyTooLong index)) rows f = refl
unless_then (Some rel.IdsSpent) rows f = refl
unless_then (Some rel.TableLimit) rows f = refl
unless_then (Some (rel.Trouble t)) rows f = refl

-- and one that UPDATE means gets new values, or is refused
pub puts_done : {T : Type 0} (removes : Bool) (table : ℕ) (p : Plan) (r : Row) (row values : List Value) (meant : Bool) (result : Result T ExecFault) (o new : Option Db) → row ≡ set_row r → is_meant p.filter row ≡ Ok meant → meant ≡ true → removes ≡ false
    → then_with (values_of row p.fields) (λ new. Ok (with_new p.targets new (drop 1 row))) ≡ Ok values
    → IfSome o (λ d. Changes (unless (change_refusal table r.id values (schema_of d)) (changed table r.id values d)) result new)
    → IfSome o (λ d. ((before after : List Row) → Stands table r before after d → Changes (row_changed removes table p r before after d) result new))
puts_done removes table p r row values meant result None new e m n k v h = tt
puts_done removes table p r row values meant result (Some d) new e m n k v h =
    let here : is_meant p.filter (set_row r) ≡ Ok true = subst (λ (xs : List Value). is_meant p.filter xs ≡ Ok meant) e m ∙ ap Ok n in
    let made : then_with (values_of (set_row r) p.fields) (λ new. Ok (with_new p.targets new r.values)) ≡ Ok values = subst (λ (xs : List Value). then_with (values_of xs p.fields) (λ new. Ok (with_new p.targets new (drop 1 xs))) ≡ Ok values) e v in
    let put = then_ok (values_of (set_row r) p.fields) (λ new. Ok (with_new p.targets new r.values)) values made in
    let same : with_new p.targets put.0 r.values ≡ values = same_ok (with_new p.targets put.0 r.values) values put.2 in
    let one : row_becomes removes table (schema_of d) p r ≡ unless (change_refusal table r.id values (schema_of d)) (row_of r.id values ∷ []) = rw (here, k, put.1, same) refl in
    λ before after s.
    let f = λ (rows : List Row). rows_changed table (λ _. before ++ (rows ++ after)) d in
    let is : row_changed removes table p r before after d ≡ unless (change_refusal table r.id values (schema_of d)) (changed table r.id values d) =
    in_place_of table d before after one ∙ unless_then (change_refusal table r.id values (schema_of d)) (row_of r.id values ∷ []) f
    ∙ ap (λ (rows : List Row). unless (change_refusal table r.id values (schema_of d)) (rows_changed table (λ _. before ++ rows) d)) (one_front (row_of r.id values) after)
    ∙ ap (unless (change_refusal table r.id values (schema_of d))) (sym (row_new table values r before after d s)) in
    subst (λ (a : Answer Db). Changes a result new) (sym is) h

stopped : (T : Type 0) {A : Type 0} (effect : Answer Db) (answer : Answer A) (f : ExecFault) (new : Option Db) → ((q : Refusal) → answer ≡ Err q → effect ≡ Err q) → Answers answer (Err f) → Changes {T = T} effect (Err f) new
stopped T effect answer (fault.Refused q) new h a = h q a
stopped T effect answer (fault.Trouble t) new h a = tt

-- a condition that is refused
pub meant_stops : (T : Type 0) (removes : Bool) (table : ℕ) (p : Plan) (r : Row) (row : List Value) (f : ExecFault) (result : Result T ExecFault) (o new : Option Db) → IsErrAnd result (λ e. e ≡ f) → row ≡ set_row r → Answers {A = Bool} (is_meant p.filter row) (Err f)
    → IfSome o (λ d. ((before after : List Row) → Stands table r before after d → Changes (row_changed removes table p r before after d) result new))
meant_stops T removes table p r row f result None new i e a = tt
meant_stops T removes table p r row f (Ok u) (Some d) new i e a = absurd i
meant_stops T removes table p r row f (Err g) (Some d) new i e a =
    let here : Answers {A = Bool} (is_meant p.filter (set_row r)) (Err f) = subst (λ (xs : List Value). Answers {A = Bool} (is_meant p.filter xs) (Err f)) e a in
    λ before after s. subst (λ (z : ExecFault). Changes {T = T} (row_changed removes table p r before after d) (Err z) new) (sym i) (stopped T (row_changed removes table p r before after d) (is_meant p.filter (set_row r)) f new (λ q k. rw k refl) here)

stops_in : (a : Answer (List Value)) (f : List Value → List Value) (q : Refusal) → ◌≡◌ {A = Answer (List Value)} (then_with a (λ x. Ok (f x))) (Err q) → a ≡ Err q
stops_in (Ok x) f q e = absurd (cc)
stops_in (Err r) f q e = let same : r ≡ q = cc in ap Err same

-- new values that are refused
pub values_stop : (T : Type 0) (removes : Bool) (table : ℕ) (p : Plan) (r : Row) (row : List Value) (meant : Bool) (f : ExecFault) (result : Result T ExecFault) (o new : Option Db) → IsErrAnd result (λ e. e ≡ f) → row ≡ set_row r → is_meant p.filter row ≡ Ok meant → meant ≡ true → removes ≡ false
    → Answers {A = List Value} (then_with (values_of row p.fields) (λ new. Ok (with_new p.targets new (drop 1 row)))) (Err f)
    → IfSome o (λ d. ((before after : List Row) → Stands table r before after d → Changes (row_changed removes table p r before after d) result new))
values_stop T removes table p r row meant f result None new i e m n k a = tt
values_stop T removes table p r row meant f (Ok u) (Some d) new i e m n k a = absurd i
values_stop T removes table p r row meant f (Err g) (Some d) new i e m n k a =
    let here : is_meant p.filter (set_row r) ≡ Ok true = subst (λ (xs : List Value). is_meant p.filter xs ≡ Ok meant) e m ∙ ap Ok n in
    let at : Answers {A = List Value} (then_with (values_of (set_row r) p.fields) (λ new. Ok (with_new p.targets new r.values))) (Err f) = subst (λ (xs : List Value). Answers {A = List Value} (then_with (values_of xs p.fields) (λ new. Ok (with_new p.targets new (drop 1 xs)))) (Err f)) e a in
    λ before after s. subst (λ (z : ExecFault). Changes {T = T} (row_changed removes table p r before after d) (Err z) new) (sym i)
    (stopped T (row_changed removes table p r before after d) (then_with (values_of (set_row r) p.fields) (λ new. Ok (with_new p.targets new r.values))) f new
    (λ q j. rw (here, k, stops_in (values_of (set_row r) p.fields) (λ new. with_new p.targets new r.values) q j) refl) at)
