-- Values that fit columns are one for each, and each is of its column's kind.
use Rattle.std.proofs.Common.{◌≡◌, ℕ, zero, suc, ◌<◌, List, [], ◌∷◌, length, get_or, refl, ap, arith}
use Rattle.ql_value.specs.declared.value.Value.{Value}
use Rattle.ql_value.specs.Number.{HasKind}
use Rattle.ql_syntax.specs.declared.statement.ColumnDef.{ColumnDef}
use Rattle.ql_rel.specs.WellFormed.{Fits}

-- there is one value for each column
pub fits_length : (columns : List ColumnDef) (values : List Value) → Fits columns values → length columns ≡ length values
fits_length [] [] h = refl
fits_length [] (x ∷ values) h = absurd h
fits_length (column ∷ columns) [] h = absurd h
fits_length (column ∷ columns) (x ∷ values) h = ap suc (fits_length columns values h.1)

-- the value at a place is of its column's kind
pub fits_at : (columns : List ColumnDef) (values : List Value) (i : ℕ) (column : ColumnDef) (x : Value) → i < length columns → i < length values → column ≡ get_or columns i column → x ≡ get_or values i x → Fits columns values → HasKind column.kind x
fits_at [] values i column x below there here this h = absurd (omega arith)
fits_at (c ∷ columns) [] i column x below there here this h = absurd h
fits_at (c ∷ columns) (y ∷ values) zero column x below there here this h = rw (here, this) h.0
fits_at (c ∷ columns) (y ∷ values) (suc i) column x below there here this h = fits_at columns values i column x (omega arith) (omega arith) here this h.1
