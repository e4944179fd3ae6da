-- Which databases are well formed.
use Rattle.std.specs.Prelude.{◌≡◌, ℕ, ◌+◌, ◌<◌, ◌≤◌, true, false, List, [], ◌∷◌, None, Ok}
use Rattle.std.specs.List.{AllByRecursion}
use Rattle.ql_lex.specs.Tokens
use Rattle.ql_lex.specs.declared.token.Token.{Token}
use Rattle.ql_value.specs.declared.value.Value.{Value}
use Rattle.ql_value.specs.Number.{HasKind}
use Rattle.ql_syntax.specs.declared.statement.ColumnDef.{ColumnDef}
use Rattle.ql_syntax.specs.declared.statement.Statement.{Statement}
use Rattle.ql_syntax.specs.Ink.{text_of}
use Rattle.ql_syntax.specs.Lexemes.{lexemes}
use Rattle.ql_syntax.specs.StatementPrinting.{ink_of_statement}
use Rattle.ql_syntax.specs.Statements.{IsRead}
use Rattle.ql_rel.specs.Limits.{last_id}
use Rattle.ql_rel.specs.declared.db.Db.{Db}
use Rattle.ql_rel.specs.declared.db.Row.{Row}
use Rattle.ql_rel.specs.declared.db.Table.{Table}
use Rattle.ql_rel.specs.declared.schema.Index.{Index}
use Rattle.ql_rel.specs.declared.schema.Schema.{Schema}
use Rattle.ql_rel.specs.Accepted.{is_accepted}
use Rattle.ql_rel.specs.Creates.{create_statements}
use Rattle.ql_rel.specs.Databases.{schema_of}
use Rattle.ql_rel.specs.Limits.{IsWithin, row_too_long, first_long_key}
use Rattle.ql_rel.specs.Names.{IsByName, table_names, index_names}

-- the values are one for each column, NULL or of its kind
abbrev pub Fits : List ColumnDef → List Value → Type 0
Fits [] [] = Unit {0}
Fits [] (x ∷ values) = ⊥
Fits (column ∷ columns) [] = ⊥
Fits (column ∷ columns) (x ∷ values) = HasKind column.kind x × Fits columns values

-- the values of each row fit the columns
abbrev pub AllFit : List ColumnDef → List Row → Type 0
AllFit columns rows = AllByRecursion (λ (row : Row). Fits columns row.values) rows

-- the ids of the rows rise, from a number on
abbrev pub Rise : ℕ → List Row → Type 0
Rise from [] = Unit {0}
Rise from (row ∷ rows) = (from ≤ row.id) × Rise (row.id + 1) rows

-- the ids of the rows are below a number
abbrev pub AllBelow : ℕ → List Row → Type 0
AllBelow next rows = AllByRecursion (λ (row : Row). row.id < next) rows

-- no row is too long, nor is a key of one
pub record IsShort (table : Table) (indexes : List Index) (row : Row) : Type 0 where
  pub size : row_too_long row.values ≡ false
  pub keys : first_long_key table.name table.columns indexes row ≡ None

-- the rows of a table: their values fit the columns, their ids rise from 1 on and stay below the next id, and neither rows nor keys are too long
pub record HoldsRows (db : Db) (table : Table) : Type 0 where
  pub fit : AllFit table.columns table.rows
  pub rise : Rise 1 table.rows
  pub below : AllBelow db.next_id table.rows
  pub short : AllByRecursion (IsShort table db.indexes) table.rows

-- a reading of what the statement prints, as that very statement, with at most 200 brackets open at once
pub record ReadingOf (statement : Statement) : Type 0 where
  pub tokens : List Token
  pub lexed : Tokens.Reads (text_of (ink_of_statement statement)) (Ok tokens)
  pub read : IsRead (lexemes (text_of (ink_of_statement statement)) tokens) (statement ∷ [])

-- what the statement prints is read as itself: there is such a reading
abbrev pub IsReadAsItself : Statement → Type 0
IsReadAsItself statement = ∥ ReadingOf statement ∥₁

-- the CREATE statements of a schema are read as themselves, and are accepted one after another from no tables on
pub record IsMade (schema : Schema) : Type 0 where
  pub read : AllByRecursion IsReadAsItself (create_statements schema)
  pub accepted : is_accepted schema ≡ true

-- a database is well formed: its CREATE statements make its schema, which keeps the limits; tables and indexes stand by name; the next id is from 1 to 2^63, and 1 where there are no tables; and each table holds its rows
pub record IsWellFormed (db : Db) : Type 0 where
  pub made : IsMade (schema_of db)
  pub within : IsWithin (schema_of db)
  pub tables : IsByName (table_names (schema_of db).tables)
  pub indexes : IsByName (index_names db.indexes)
  pub begun : 1 ≤ db.next_id
  pub left : db.next_id ≤ last_id + 1
  pub fresh : db.tables ≡ [] → db.next_id ≡ 1
  pub rows : AllByRecursion (HoldsRows db) db.tables
