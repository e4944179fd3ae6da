-- The rows that a SELECT shows, all of them, and values that are for columns.
use Rattle.std.specs.Prelude.{◌≡◌, ℕ, suc, ◌==◌, ◌&&◌, Bool, true, false, List, [], ◌∷◌, map, Option, Some, None, Ok, slice_get}
use Rattle.std.specs.List.{AllByRecursion}
use Rattle.ql_value.specs.declared.value.Value.{Value}
use Rattle.ql_value.specs.Number.{HasKind}
use Rattle.ql_syntax.specs.declared.statement.ColumnDef.{ColumnDef}
use Rattle.ql_syntax.specs.declared.typed.Typed.{Typed}
use Rattle.ql_syntax.specs.declared.typing.Typing.{Typing}
use Rattle.ql_syntax.specs.Answers.{Answer}
use Rattle.ql_syntax.specs.Typing.{FitsRow}
use Rattle.ql_rel.specs.declared.plan.Plan.{Plan}
use Rattle.ql_rel.specs.declared.select.ResultRow.{ResultRow}
use Rattle.ql_rel.specs.Rows.{values_of}
use Rattle.ql_exec.specs.Windows.{shown}
use Rattle.ql_exec.specs.declared.limits.Window.{Window}

-- the values of the rows of a result that are shown
abbrev pub shown_values : Window → List ResultRow → Answer (List (List Value))
shown_values w rows = Ok (shown w (map (λ (x : ResultRow). x.values) rows))

-- the values of fields at a row with some types
pub record IsResultOf (types : List Typing) (fields : List Typed) (values : List Value) : Type 0 where
  pub row : List Value
  pub fits : FitsRow types row
  pub is : values_of row fields ≡ Ok values

-- rows that a plan without groups shows of rows with some types
pub record AreResults (types : List Typing) (p : Plan) (rows : List (List Value)) : Type 0 where
  pub plain : p.grouped ≡ false
  pub each : AllByRecursion (IsResultOf types p.fields) rows

-- a value is NULL or of a column's kind, and the column is there
abbrev pub IsFor : Option ColumnDef → Value → Type 0
IsFor None x = ⊥
IsFor (Some c) x = HasKind c.kind x

-- values are for the columns with some numbers, one for each
abbrev pub AreFor : List ColumnDef → List ℕ → List Value → Type 0
AreFor columns [] [] = Unit {0}
AreFor columns [] (x ∷ values) = ⊥
AreFor columns (at ∷ targets) [] = ⊥
AreFor columns (at ∷ targets) (x ∷ values) = IsFor (slice_get columns at) x × AreFor columns targets values

-- the numbers count up from this one
abbrev pub counts_from : ℕ → List ℕ → Bool
counts_from at [] = true
counts_from at (n ∷ numbers) = (n == at) && counts_from (suc at) numbers
