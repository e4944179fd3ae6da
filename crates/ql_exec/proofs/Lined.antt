-- The rows of a table have its types.
use Rattle.std.proofs.Common.{ℕ, zero, suc, List, [], ◌∷◌, map, slice_get, ◌≤◌, pos, rules}
use Rattle.std.specs.List.{AllByRecursion}
use Rattle.ql_value.specs.declared.value.Kind.TheVariants as k
use Rattle.ql_value.specs.declared.value.Value.{Value}
use Rattle.ql_value.specs.declared.value.Value.TheVariants as v
use Rattle.ql_value.specs.Number.{HasKind}
use Rattle.ql_syntax.specs.declared.statement.ColumnDef.{ColumnDef}
use Rattle.ql_syntax.specs.declared.typed.Typed.{Typed}
use Rattle.ql_syntax.specs.declared.typing.Typing.{Typing}
use Rattle.ql_syntax.specs.declared.typing.Typing.TheVariants.{OfKind}
use Rattle.ql_syntax.specs.Typing.{FitsRow, type_of}
use Rattle.ql_rel.specs.declared.db.Db.{Db}
use Rattle.ql_rel.specs.declared.db.Table.{Table}
use Rattle.ql_rel.specs.Databases.{rows_if}
use Rattle.ql_rel.specs.Limits.{last_id}
use Rattle.ql_rel.specs.PlanTypes.{AreTyped}
use Rattle.ql_rel.specs.WellFormed.{Fits, HoldsRows, Rise}
use Rattle.ql_exec.specs.Answers.{AreTypedAt}

pub rise_at : (db : Db) (n : ℕ) (tables : List Table) → AllByRecursion (HoldsRows db) tables → Rise 1 (rows_if (slice_get tables n))
rise_at db n [] h = tt
rise_at db zero (t ∷ tables) h = h.0.rise
rise_at db (suc n) (t ∷ tables) h = rise_at db n tables h.1

-- the values of a row have the types of its table
pub kinds_fit : (columns : List ColumnDef) (values : List Value) → Fits columns values → FitsRow (map (λ (c : ColumnDef). OfKind c.kind) columns) values
kinds_fit [] [] h = tt
kinds_fit [] (x ∷ values) h = absurd h
kinds_fit (c ∷ columns) [] h = absurd h
kinds_fit (c ∷ columns) (x ∷ values) h = (h.0, kinds_fit columns values h.1)

pub typed_each : (types : List Typing) (row : List Value) (fields : List Typed) → FitsRow types row → AreTyped (type_of types) fields → AreTypedAt row fields
typed_each types row [] f h = tt
typed_each types row (e ∷ fields) f h = (record { types = types; fits = f; typed = h.0 }, typed_each types row fields f h.1)

pub id_fits : (id : ℕ) → id ≤ last_id → HasKind k.Int64 (v.Int k.Int64 (pos id))
id_fits id h = search rules
