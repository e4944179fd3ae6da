-- The places of rows whose ids rise, and of tables by name.
use Rattle.std.specs.Prelude.{ℕ, suc, ◌<◌, length, Bool, ◌==◌, if◌then◌else◌, nat_lt, nat_le, List, [], ◌∷◌, Option, Some, None, option_map}
use Rattle.std.proofs.Common.{get_or}
use Rattle.ql_syntax.specs.declared.statement.ColumnDef.{ColumnDef}
use Rattle.ql_rel.specs.declared.db.Row.{Row}
use Rattle.ql_rel.specs.declared.schema.TableSchema.{TableSchema}
use Rattle.ql_rel.specs.Names.{comes_before}

-- the place of the first row whose id is over a number, or the number of rows
abbrev pub place_after : ℕ → List Row → ℕ
place_after id [] = 0
place_after id (row ∷ rows) = if nat_lt id row.id then 0 else suc (place_after id rows)

-- the id of the row is a number at most
abbrev pub is_until : ℕ → Row → Bool
is_until id row = nat_le row.id id

-- the place of the row with an id, if there is one
abbrev pub place_with : ℕ → List Row → Option ℕ
place_with id [] = None
place_with id (row ∷ rows) = if row.id == id then Some 0 else option_map suc (place_with id rows)

-- the place of the first table whose name comes after this one, or the number of tables
abbrev pub place_before : List ℕ → List TableSchema → ℕ
place_before name [] = 0
place_before name (table ∷ tables) = if comes_before name table.name then 0 else suc (place_before name tables)

-- a table with other columns
abbrev pub with_columns : List ColumnDef → TableSchema → TableSchema
with_columns columns table = record { name = table.name; columns = columns }

-- the next id, which is 1 again where no table is left
abbrev pub id_for : List TableSchema → ℕ → ℕ
id_for [] next = 1
id_for (table ∷ tables) next = next

-- each row has more values than a number
abbrev pub AllLonger : ℕ → List Row → Type 0
AllLonger place rows = (k : ℕ) (d : Row) → k < length rows → place < length (get_or rows k d).values
