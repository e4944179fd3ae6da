-- Values that are for columns, and the rows that they are put together to.
use Rattle.std.proofs.Common.{◌≡◌, ℕ, zero, suc, ◌+◌, ◌<◌, Bool, ◌==◌, ◌&&◌, true, List, [], ◌∷◌, ◌++◌, length, map, drop, slice_get, slice_index_or, slice_set, Option, Some, None, Ok, refl, sym, ap, subst, ◌∙◌, append_assoc, length-append, arith}
use Rattle.std.proofs.lemmas.Bool.Decides.{nat_tests}
use Rattle.std.specs.List.{AllByRecursion}
use Rattle.ql_value.specs.Kinds.{same_kind}
use Rattle.ql_value.specs.declared.value.Value.{Value}
use Rattle.ql_value.specs.declared.value.Value.TheVariants as v
use Rattle.ql_syntax.specs.declared.statement.ColumnDef.{ColumnDef}
use Rattle.ql_syntax.specs.declared.typed.Typed.{Typed}
use Rattle.ql_syntax.specs.declared.typing.Typing.{Typing}
use Rattle.ql_syntax.specs.Answers.{Answer, then_with}
use Rattle.ql_syntax.specs.Typing.{FitsRow, type_of}
use Rattle.ql_syntax.specs.Values.{value_at}
use Rattle.ql_eval.proofs.Soundness.{sound}
use Rattle.ql_rel.specs.declared.plan.Plan.{Plan}
use Rattle.ql_rel.specs.ChangeEffects.{with_new}
use Rattle.ql_rel.specs.InsertEffects.{nulls, row_from, rows_from}
use Rattle.ql_rel.specs.PlanTypes.{IsValueFor, AreValuesFor, RowsSelected}
use Rattle.ql_rel.specs.Rows.{answer_of, values_of}
use Rattle.ql_rel.specs.WellFormed.{Fits}
use Rattle.ql_rel.proofs.Fits.{then_ok, same_ok}
use Rattle.ql_rel.proofs.MadeLemmas.{two_parts}
use Rattle.ql_exec.specs.Selections.{IsFor, AreFor, IsResultOf, AreResults, counts_from}
use Rattle.ql_exec.proofs.Fitted.{typed_among, kind_of_type, comes_to}

-- as many values as columns
pub for_each : (columns : List ColumnDef) (targets : List ℕ) (values : List Value) → AreFor columns targets values → length values ≡ length targets
for_each columns [] [] h = refl
for_each columns [] (x ∷ values) h = absurd h
for_each columns (at ∷ targets) [] h = absurd h
for_each columns (at ∷ targets) (x ∷ values) h = ap suc (for_each columns targets values h.1)

-- each of them is there
there_at : (columns : List ColumnDef) (at : ℕ) (x : Value) → IsFor (slice_get columns at) x → at < length columns
there_at [] at x h = absurd h
there_at (c ∷ columns) zero x h = omega arith
there_at (c ∷ columns) (suc at) x h = let rest = there_at columns at x h in omega (arith, rest)

for_below : (columns : List ColumnDef) (targets : List ℕ) (values : List Value) (k d : ℕ) → AreFor columns targets values → k < length targets → slice_index_or targets k d < length columns
for_below columns [] values k d h l = absurd (omega (arith, l))
for_below columns (at ∷ targets) [] k d h l = absurd h
for_below columns (at ∷ targets) (x ∷ values) zero d h l = there_at columns at x h.0
for_below columns (at ∷ targets) (x ∷ values) (suc k) d h l = for_below columns targets values k d h.1 (omega (arith, l))

nulls_each : (columns : List ColumnDef) → length (nulls columns) ≡ length columns
nulls_each [] = refl
nulls_each (c ∷ columns) = ap suc (nulls_each columns)

pub nulls_fit : (columns : List ColumnDef) → Fits columns (nulls columns)
nulls_fit [] = tt
nulls_fit (c ∷ columns) = (tt, nulls_fit columns)

-- their places are in the row of NULLs
pub places_below : (columns : List ColumnDef) (targets : List ℕ) (values row : List Value) → row ≡ v.Null ∷ nulls columns → AreFor columns targets values → (k d : ℕ) → k < length targets → slice_index_or targets k d + 1 < length row
places_below columns targets values row e h k d l =
    let below = for_below columns targets values k d h l in
    let same = nulls_each columns in
    let long : length row ≡ suc (length (nulls columns)) = ap length e in
    omega (arith, below, same, long)

fits_set : (columns : List ColumnDef) (values : List Value) (at : ℕ) (x : Value) → Fits columns values → IsFor (slice_get columns at) x → Fits columns (slice_set values at x)
fits_set [] values at x f h = absurd h
fits_set (c ∷ columns) [] at x f h = absurd f
fits_set (c ∷ columns) (y ∷ values) zero x f h = (h, f.1)
fits_set (c ∷ columns) (y ∷ values) (suc at) x f h = (f.0, fits_set columns values at x f.1 h)

pub with_fits : (columns : List ColumnDef) (targets : List ℕ) (new values : List Value) → AreFor columns targets new → Fits columns values → Fits columns (with_new targets new values)
with_fits columns [] new values h f = f
with_fits columns (at ∷ targets) [] values h f = absurd h
with_fits columns (at ∷ targets) (x ∷ new) values h f = with_fits columns targets new (slice_set values at x) h.1 (fits_set columns values at x f h.0)

-- the rows that they are put together to fit the columns
pub placed_fit : (columns : List ColumnDef) (targets : List ℕ) (rows : List (List Value)) → AllByRecursion (AreFor columns targets) rows → AllByRecursion (Fits columns) (rows_from targets columns rows)
placed_fit columns targets [] h = tt
placed_fit columns targets (values ∷ rows) h = (with_fits columns targets values (nulls columns) h.0 (nulls_fit columns), placed_fit columns targets rows h.1)

value_for : (types : List Typing) (row : List Value) (o : Option ColumnDef) (e : Typed) (x : Value) → FitsRow types row → IsValueFor (type_of types) o e → answer_of (value_at row e) ≡ Ok x → IsFor o x
value_for types row None e x f h a = absurd h
value_for types row (Some c) e x f h a =
    let typed = typed_among (same_kind c.kind) (type_of types e) h in
    kind_of_type c.kind (type_of types e) x h (comes_to (type_of types e) (value_at row e) x (sound types row e f typed) a)

-- what expressions for columns come to is for them
pub values_for : (types : List Typing) (row : List Value) (columns : List ColumnDef) (targets : List ℕ) (fields : List Typed) (new : List Value) → FitsRow types row → AreValuesFor (type_of types) columns targets fields → values_of row fields ≡ Ok new → AreFor columns targets new
values_for types row columns [] [] new f h e = subst (AreFor columns []) (same_ok [] new e) tt
values_for types row columns [] (g ∷ fields) new f h e = absurd h
values_for types row columns (at ∷ targets) [] new f h e = absurd h
values_for types row columns (at ∷ targets) (g ∷ fields) new f h e =
    let first = then_ok (answer_of (value_at row g)) (λ y. then_with (values_of row fields) (λ ys. Ok (y ∷ ys))) new e in
    let rest = then_ok (values_of row fields) (λ ys. Ok (first.0 ∷ ys)) new first.2 in
    subst (AreFor columns (at ∷ targets)) (same_ok (first.0 ∷ rest.0) new rest.2)
    (value_for types row (slice_get columns at) g first.0 f h.0 first.1, values_for types row columns targets fields rest.0 f h.1 rest.1)

each_for : (types : List Typing) (columns : List ColumnDef) (targets : List ℕ) (fields : List Typed) (rows : List (List Value)) → AreValuesFor (type_of types) columns targets fields → AllByRecursion (IsResultOf types fields) rows → AllByRecursion (AreFor columns targets) rows
each_for types columns targets fields [] h r = tt
each_for types columns targets fields (values ∷ rows) h r = (values_for types r.0.row columns targets fields values r.0.fits h r.0.is, each_for types columns targets fields rows h r.1)

-- so are the rows that the SELECT of an INSERT shows
pub results_for : (types : List Typing) (columns : List ColumnDef) (p : Plan) (rows : List (List Value)) → RowsSelected types columns p → AreResults types p rows → AllByRecursion (AreFor columns p.targets) rows
results_for types columns p rows typed r = each_for types columns p.targets p.fields rows (typed.values r.plain) r.each

-- values of all columns in their order are the row
set_behind : (front : List Value) (y x : Value) (rest : List Value) → slice_set (front ++ y ∷ rest) (length front) x ≡ front ++ x ∷ rest
set_behind [] y x rest = refl
set_behind (z ∷ front) y x rest = ap (λ (zs : List Value). z ∷ zs) (set_behind front y x rest)

same_number : (m n : ℕ) → (m == n) ≡ true → m ≡ n
same_number m n h = grind (arith, nat_tests)

placed_from : (front : List Value) (targets : List ℕ) (new : List Value) (columns : List ColumnDef) (n : ℕ) → n ≡ length front → counts_from n targets ≡ true → length new ≡ length targets → length targets ≡ length columns
    → with_new targets new (front ++ nulls columns) ≡ front ++ new
placed_from front [] [] [] n e c l m = refl
placed_from front [] [] (d ∷ columns) n e c l m = absurd (omega (arith, m))
placed_from front [] (x ∷ new) columns n e c l m = absurd (omega (arith, l))
placed_from front (at ∷ targets) [] columns n e c l m = absurd (omega (arith, l))
placed_from front (at ∷ targets) (x ∷ new) [] n e c l m = absurd (omega (arith, m))
placed_from front (at ∷ targets) (x ∷ new) (d ∷ columns) n e c l m =
    let both = two_parts (at == n) (counts_from (suc n) targets) c in
    let here : at ≡ length front = same_number at n both.0 ∙ e in
    let put : slice_set (front ++ v.Null ∷ nulls columns) at x ≡ (front ++ x ∷ []) ++ nulls columns =
    ap (λ (k : ℕ). slice_set (front ++ v.Null ∷ nulls columns) k x) here ∙ set_behind front v.Null x (nulls columns) ∙ sym (append_assoc front (x ∷ []) (nulls columns)) in
    let long = length-append front (x ∷ []) in
    ap (with_new targets new) put ∙ placed_from (front ++ x ∷ []) targets new columns (suc n) (omega (arith, e, long)) both.1 (omega (arith, l)) (omega (arith, m)) ∙ append_assoc front (x ∷ []) new

pub all_placed : (columns : List ColumnDef) (targets : List ℕ) (new : List Value) → ((length targets == length columns) && counts_from 0 targets) ≡ true → AreFor columns targets new → new ≡ row_from targets new columns
all_placed columns targets new c h =
    let both = two_parts (length targets == length columns) (counts_from 0 targets) c in
    sym (placed_from [] targets new columns 0 refl both.1 (for_each columns targets new h) (same_number (length targets) (length columns) both.0))
