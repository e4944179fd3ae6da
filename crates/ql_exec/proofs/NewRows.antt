-- The rows that an INSERT makes fit the columns of its table.
use Rattle.std.proofs.Common.{◌≡◌, ℕ, ◌+◌, ◌<◌, List, [], ◌∷◌, length, drop, Ok, refl, sym, ap, subst, ◌∙◌}
use Rattle.std.proofs.lemmas.List.{drop_more}
use Rattle.std.specs.List.{AllByRecursion}
use Rattle.ql_value.specs.declared.value.Value.{Value}
use Rattle.ql_value.specs.declared.value.Value.TheVariants as v
use Rattle.ql_syntax.specs.declared.statement.ColumnDef.{ColumnDef}
use Rattle.ql_syntax.specs.declared.typed.Typed.{Typed}
use Rattle.ql_syntax.specs.Answers.{Answer, then_with}
use Rattle.ql_syntax.specs.Typing.{type_of}
use Rattle.ql_rel.specs.InsertEffects.{nulls, row_from, new_row, new_rows}
use Rattle.ql_rel.specs.PlanTypes.{AreValuesFor}
use Rattle.ql_rel.specs.Rows.{values_of}
use Rattle.ql_rel.specs.WellFormed.{Fits}
use Rattle.ql_rel.proofs.Fits.{then_ok, same_ok}
use Rattle.ql_exec.specs.Answers.{AreTypedAt}
use Rattle.ql_exec.proofs.Assigned.{values_typed}
use Rattle.ql_exec.proofs.Lined.{typed_each}
use Rattle.ql_exec.proofs.Placed.{nulls_fit, with_fits, values_for}

-- values for columns may be evaluated
pub row_evaluates : (columns : List ColumnDef) (targets : List ℕ) (exprs : List Typed) → AreValuesFor (type_of []) columns targets exprs → AreTypedAt [] exprs
row_evaluates columns targets exprs h = typed_each [] [] exprs tt (values_typed [] columns targets exprs h)

row_fits : (columns : List ColumnDef) (targets : List ℕ) (exprs : List Typed) (row : List Value) → AreValuesFor (type_of []) columns targets exprs → new_row targets columns exprs ≡ Ok row → Fits columns row
row_fits columns targets exprs row h e =
    let new = then_ok (values_of [] exprs) (λ values. Ok (row_from targets values columns)) row e in
    subst (Fits columns) (same_ok (row_from targets new.0 columns) row new.2) (with_fits columns targets new.0 (nulls columns) (values_for [] [] columns targets exprs new.0 tt h new.1) (nulls_fit columns))

pub rows_fit : (columns : List ColumnDef) (targets : List ℕ) (rows : List (List Typed)) (values : List (List Value)) → AllByRecursion (AreValuesFor (type_of []) columns targets) rows → new_rows targets columns rows ≡ Ok values → AllByRecursion (Fits columns) values
rows_fit columns targets [] values h e = subst (AllByRecursion (Fits columns)) (same_ok [] values e) tt
rows_fit columns targets (row ∷ rows) values h e =
    let first = then_ok (new_row targets columns row) (λ y. then_with (new_rows targets columns rows) (λ ys. Ok (y ∷ ys))) values e in
    let rest = then_ok (new_rows targets columns rows) (λ ys. Ok (first.0 ∷ ys)) values first.2 in
    subst (AllByRecursion (Fits columns)) (same_ok (first.0 ∷ rest.0) values rest.2) (row_fits columns targets row first.0 h.0 first.1, rows_fit columns targets rows rest.0 h.1 rest.1)

-- one NULL more
pub null_more : (columns : List ColumnDef) (i : ℕ) (d : ColumnDef) → i < length columns → nulls (drop i columns) ≡ v.Null ∷ nulls (drop (i + 1) columns)
null_more columns i d h = ap nulls (drop_more columns i d h)

-- the values of expressions, put together
pub row_made : (targets : List ℕ) (columns : List ColumnDef) (exprs : List Typed) (new row : List Value) → values_of [] exprs ≡ Ok new → row ≡ row_from targets new columns → new_row targets columns exprs ≡ Ok row
row_made targets columns exprs new row e r = ap (λ (a : Answer (List Value)). then_with a (λ values. Ok (row_from targets values columns))) e ∙ ap Ok (sym r)
