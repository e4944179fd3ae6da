-- Databases as values: what stands at a place, and the schema.
use Rattle.std.specs.Prelude.{ℕ, List, [], map, Option, Some, None, slice_get}
use Rattle.ql_syntax.specs.declared.statement.ColumnDef.{ColumnDef}
use Rattle.ql_rel.specs.declared.db.Db.{Db}
use Rattle.ql_rel.specs.declared.db.Row.{Row}
use Rattle.ql_rel.specs.declared.db.Table.{Table}
use Rattle.ql_rel.specs.declared.schema.Schema.{Schema}
use Rattle.ql_rel.specs.declared.schema.TableSchema.{TableSchema}

-- a table without its rows
abbrev pub table_schema : Table → TableSchema
table_schema table = record { name = table.name; columns = table.columns }

-- the tables of a database without their rows, and its indexes
abbrev pub schema_of : Db → Schema
schema_of db = record { tables = map table_schema db.tables; indexes = db.indexes }

-- the database with no tables; its first row will have the id 1
abbrev pub empty_db : Db
empty_db = record { next_id = 1; tables = []; indexes = [] }

-- the schema with no tables
abbrev pub empty_schema : Schema
empty_schema = record { tables = []; indexes = [] }

-- the columns of a table, none where there is no table
abbrev pub columns_if : Option TableSchema → List ColumnDef
columns_if None = []
columns_if (Some table) = table.columns

-- the columns of the table at a place, counted from 0
abbrev pub columns_at : ℕ → Schema → List ColumnDef
columns_at table schema = columns_if (slice_get schema.tables table)

-- the name of a table, no bytes where there is no table
abbrev pub name_if : Option TableSchema → List ℕ
name_if None = []
name_if (Some table) = table.name

-- the name of the table at a place
abbrev pub name_at : ℕ → Schema → List ℕ
name_at table schema = name_if (slice_get schema.tables table)

-- the rows of a table, none where there is no table
abbrev pub rows_if : Option Table → List Row
rows_if None = []
rows_if (Some table) = table.rows

-- the rows of the table at a place
abbrev pub rows_at : ℕ → Db → List Row
rows_at table db = rows_if (slice_get db.tables table)

-- the name of a column, no bytes where there is no column
abbrev pub column_name_if : Option ColumnDef → List ℕ
column_name_if None = []
column_name_if (Some column) = column.name

-- the name of the column at a place of the table at a place
abbrev pub column_name_at : ℕ → ℕ → Schema → List ℕ
column_name_at table column schema = column_name_if (slice_get (columns_at table schema) column)
