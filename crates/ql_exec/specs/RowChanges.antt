-- A row of a table that is changed where it stands, and what UPDATE and DELETE ask of their plans.
use Rattle.std.specs.Prelude.{◌≡◌, ℕ, ◌<◌, Bool, List, ◌∷◌, ◌++◌, length, Ok}
use Rattle.std.specs.List.{AllByRecursion}
use Rattle.ql_rel.specs.declared.db.Db.{Db}
use Rattle.ql_rel.specs.declared.db.Row.{Row}
use Rattle.ql_rel.specs.declared.plan.Plan.{Plan}
use Rattle.ql_syntax.specs.Answers.{Answer, then_with}
use Rattle.ql_rel.specs.ChangeEffects.{row_becomes}
use Rattle.ql_rel.specs.Changes.{rows_changed}
use Rattle.ql_rel.specs.Databases.{schema_of, rows_at}

-- a row stands in a table between rows of lesser and of greater ids
pub record Stands (table : ℕ) (row : Row) (before after : List Row) (db : Db) : Type 0 where
  pub there : table < length db.tables
  pub rows : rows_at table db ≡ before ++ row ∷ after
  pub low : AllByRecursion (λ (r : Row). r.id < row.id) before
  pub high : AllByRecursion (λ (r : Row). row.id < r.id) after

-- the database with what becomes of a row in its place
abbrev pub row_changed : Bool → ℕ → Plan → Row → List Row → List Row → Db → Answer Db
row_changed removes table p row before after db =
    then_with (row_becomes removes table (schema_of db) p row) (λ rows. Ok (rows_changed table (λ _. before ++ (rows ++ after)) db))
