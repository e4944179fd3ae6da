-- What UPDATE and DELETE do to the rows of a table, each row by itself.
use Rattle.std.specs.Prelude.{ℕ, Bool, true, false, if◌then◌else◌, List, [], ◌∷◌, map, flat_map, slice_set, Ok}
use Rattle.ql_value.specs.declared.value.Value.{Value}
use Rattle.ql_syntax.specs.Answers.{Answer, then_with, all_of}
use Rattle.ql_rel.specs.declared.db.Db.{Db}
use Rattle.ql_rel.specs.declared.db.Row.{Row}
use Rattle.ql_rel.specs.declared.plan.Plan.{Plan}
use Rattle.ql_rel.specs.declared.schema.Schema.{Schema}
use Rattle.ql_rel.specs.Changes.{rows_changed, row_of}
use Rattle.ql_rel.specs.Databases.{schema_of, rows_at}
use Rattle.ql_rel.specs.NewNames.{place_named}
use Rattle.ql_rel.specs.Refusals.{change_refusal}
use Rattle.ql_rel.specs.Refused.{unless}
use Rattle.ql_rel.specs.Rows.{values_of, is_meant}
use Rattle.ql_rel.specs.SelectRows.{set_row}

-- values with new ones at some places, from left to right
abbrev pub with_new : List ℕ → List Value → List Value → List Value
with_new (at ∷ targets) (x ∷ new) values = with_new targets new (slice_set values at x)
with_new _ _ values = values

-- what becomes of a row that DELETE means, and of one that UPDATE means: its new values are those of the old row, and then it is refused where it is too long or has a key that is, 33 and 34
abbrev pub becomes : Bool → ℕ → Schema → Plan → Row → Answer (List Row)
becomes true table schema p row = Ok []
becomes false table schema p row =
    then_with (values_of (set_row row) p.fields) (λ new.
    unless (change_refusal table row.id (with_new p.targets new row.values) schema) (row_of row.id (with_new p.targets new row.values) ∷ []))

-- what becomes of a row: the condition is evaluated, and one that it does not mean stays
abbrev pub row_becomes : Bool → ℕ → Schema → Plan → Row → Answer (List Row)
row_becomes removes table schema p row =
    then_with (is_meant p.filter (set_row row)) (λ meant. if meant then becomes removes table schema p row else Ok (row ∷ []))

-- what becomes of rows: of each in turn, or the first refusal
abbrev pub rows_become : Bool → ℕ → Schema → Plan → List Row → Answer (List Row)
rows_become removes table schema p rows = then_with (all_of (map (row_becomes removes table schema p) rows)) (λ lists. Ok (flat_map (λ rows. rows) lists))

-- the rows of the table at a place are changed by a plan: they go, or get new values
abbrev pub table_changed : Bool → ℕ → Plan → Db → Answer Db
table_changed removes table p db = then_with (rows_become removes table (schema_of db) p (rows_at table db)) (λ rows. Ok (rows_changed table (λ _. rows) db))

-- the rows of the table with a name
abbrev pub changes : Bool → List ℕ → Plan → Db → Answer Db
changes removes name p db = table_changed removes (place_named name (schema_of db).tables) p db
