-- What a statement does to a database, and the text that it shows.
use Rattle.std.specs.Prelude.{ℕ, Bool, true, false, if◌then◌else◌, List, [], Ok}
use Rattle.ql_value.specs.declared.refusal.TheConstants.{LATER}
use Rattle.ql_syntax.specs.declared.statement.ColumnDef.{ColumnDef}
use Rattle.ql_syntax.specs.declared.statement.RowSource.TheVariants as source
use Rattle.ql_syntax.specs.declared.statement.Statement.{Statement}
use Rattle.ql_syntax.specs.declared.statement.Statement.TheVariants as s
use Rattle.ql_rel.specs.declared.db.Db.{Db}
use Rattle.ql_rel.specs.declared.plan.Plan.{Plan}
use Rattle.ql_rel.specs.declared.schema.TableSchema.{TableSchema}
use Rattle.ql_syntax.specs.Answers.{Answer, refused, then_with}
use Rattle.ql_rel.specs.ChangeEffects.{changes}
use Rattle.ql_rel.specs.Changes.{truncated, table_created, table_dropped, column_added, column_dropped}
use Rattle.ql_rel.specs.Databases.{schema_of, columns_at}
use Rattle.ql_rel.specs.InsertEffects.{inserts, inserts_shown}
use Rattle.ql_rel.specs.NewNames.{place_named, column_place}
use Rattle.ql_rel.specs.Refusals.{table_refusal, column_refusal}
use Rattle.ql_rel.specs.Refused.{unless}
use Rattle.ql_rel.specs.SelectRows.{select_text}
use Rattle.ql_rel.specs.StatementPlans.{statement_plan}
use Rattle.ql_rel.specs.TablePlans.{is_idle}

-- a table is added, without rows
abbrev pub table_added : TableSchema → Db → Answer Db
table_added table db = unless (table_refusal table (schema_of db)) (table_created table db)

-- a table is added, unless it is there and the statement is quiet
abbrev pub creates : Bool → TableSchema → Db → Answer Db
creates quiet table db = if is_idle (schema_of db) (s.CreateTable quiet table.name table.columns) then Ok db else table_added table db

-- the table with a name goes, if it is there
abbrev pub drops : Bool → List ℕ → Db → Db
drops quiet name db = if is_idle (schema_of db) (s.DropTable quiet name) then db else table_dropped (place_named name (schema_of db).tables) db

-- the table with a name loses its rows
abbrev pub empties : List ℕ → Db → Db
empties name db = truncated (place_named name (schema_of db).tables) db

-- the table with a name gets a column behind the others, NULL in each row, unless it has too many, 36, or a row would be too long, 33
abbrev pub adds_column : List ℕ → ColumnDef → Db → Answer Db
adds_column name column db =
    let table = place_named name (schema_of db).tables in
    unless (column_refusal table column db) (column_added table column db)

-- the table with a name loses the column with a name
abbrev pub drops_column : List ℕ → List ℕ → Db → Db
drops_column name column db =
    let table = place_named name (schema_of db).tables in
    column_dropped table (column_place column (columns_at table (schema_of db))) db

-- a database without anything to show
abbrev pub silent : Db → Answer (List ℕ × Db)
silent db = Ok ([], db)

-- what a statement with a plan does: the text that it shows and the database after it, or its refusal; those that are not named are not built yet
abbrev pub carried : Bool → Statement → Plan → Db → Answer (List ℕ × Db)
carried with_names (s.Query select) p db = then_with (select_text with_names db select p) (λ text. Ok (text, db))
carried with_names (s.CreateTable quiet name columns) p db = then_with (creates quiet (record { name = name; columns = columns }) db) silent
carried with_names (s.DropTable quiet name) p db = silent (drops quiet name db)
carried with_names (s.AddColumn name column) p db = then_with (adds_column name column db) silent
carried with_names (s.DropColumn name column) p db = silent (drops_column name column db)
carried with_names (s.Insert name names (source.Rows rows)) p db = then_with (inserts name p.targets p.rows db) silent
carried with_names (s.Insert name names (source.Query select)) p db = then_with (inserts_shown name select p db) silent
carried with_names (s.Update name sets filter) p db = then_with (changes false name p db) silent
carried with_names (s.Delete name filter) p db = then_with (changes true name p db) silent
carried with_names (s.Truncate name) p db = silent (empties name db)
carried with_names _ p db = refused LATER

-- what a statement does: its plan, and then what is done by it; the truth says whether a SELECT's text begins with the names of its fields
abbrev pub statement_effect : Bool → Statement → Db → Answer (List ℕ × Db)
statement_effect with_names statement db = then_with (statement_plan (schema_of db) statement) (λ p. carried with_names statement p db)
