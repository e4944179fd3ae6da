-- What INSERT does: its rows are made, all of them, and then go into the table one after another.
use Rattle.std.specs.Prelude.{ℕ, List, [], ◌∷◌, map, Ok}
use Rattle.ql_value.specs.declared.value.Value.{Value}
use Rattle.ql_value.specs.declared.value.Value.TheVariants as v
use Rattle.ql_syntax.specs.declared.statement.ColumnDef.{ColumnDef}
use Rattle.ql_syntax.specs.declared.syntax.Select.{Select}
use Rattle.ql_syntax.specs.declared.typed.Typed.{Typed}
use Rattle.ql_syntax.specs.Answers.{Answer, then_with, all_of}
use Rattle.ql_rel.specs.declared.db.Db.{Db}
use Rattle.ql_rel.specs.declared.plan.Plan.{Plan}
use Rattle.ql_rel.specs.ChangeEffects.{with_new}
use Rattle.ql_rel.specs.Changes.{inserted}
use Rattle.ql_rel.specs.Databases.{schema_of, columns_at}
use Rattle.ql_rel.specs.NewNames.{place_named}
use Rattle.ql_rel.specs.Refusals.{insert_refusal}
use Rattle.ql_rel.specs.Refused.{unless}
use Rattle.ql_rel.specs.Rows.{values_of}
use Rattle.ql_rel.specs.SelectRows.{shown_rows}

-- NULL for each column
abbrev pub nulls : List ColumnDef → List Value
nulls columns = map (λ (c : ColumnDef). v.Null) columns

-- a row is put together: each value stands in the column that it is for, and NULL in every other one
abbrev pub row_from : List ℕ → List Value → List ColumnDef → List Value
row_from targets values columns = with_new targets values (nulls columns)

-- a new row: its expressions, which see nothing, are evaluated from left to right, and then it is put together
abbrev pub new_row : List ℕ → List ColumnDef → List Typed → Answer (List Value)
new_row targets columns exprs = then_with (values_of [] exprs) (λ values. Ok (row_from targets values columns))

-- new rows, or the first refusal
abbrev pub new_rows : List ℕ → List ColumnDef → List (List Typed) → Answer (List (List Value))
new_rows targets columns rows = all_of (map (new_row targets columns) rows)

-- rows of values, each put together
abbrev pub rows_from : List ℕ → List ColumnDef → List (List Value) → List (List Value)
rows_from targets columns rows = map (λ values. row_from targets values columns) rows

-- a row is added to the table at a place, with the next id, unless it is too long, 33, or a key of it is, 34, or the ids are spent, 35
abbrev pub row_added : ℕ → List Value → Db → Answer Db
row_added table values db = unless (insert_refusal table values db) (inserted table values db)

-- rows are added one after another, up to the first refusal
abbrev pub rows_added : ℕ → List (List Value) → Db → Answer Db
rows_added table [] db = Ok db
rows_added table (values ∷ rows) db = then_with (row_added table values db) (rows_added table rows)

-- new rows of expressions go into the table with a name: all of them are made before the first is added
abbrev pub inserts : List ℕ → List ℕ → List (List Typed) → Db → Answer Db
inserts name targets rows db =
    let table = place_named name (schema_of db).tables in
    then_with (new_rows targets (columns_at table (schema_of db)) rows) (λ values. rows_added table values db)

-- the rows that a SELECT shows go into the table with a name: all of them are there before the first is added
abbrev pub inserts_shown : List ℕ → Select → Plan → Db → Answer Db
inserts_shown name select p db =
    let table = place_named name (schema_of db).tables in
    then_with (shown_rows db select p) (λ rows. rows_added table (rows_from p.targets (columns_at table (schema_of db)) rows) db)
