-- The changes of a database, each as one function. Tables, columns and indexes are named by their places, counted from 0; at a place where nothing stands nothing changes.
use Rattle.std.specs.Prelude.{ℕ, zero, suc, ◌+◌, Bool, false, ◌&&◌, not, ◌==◌, if◌then◌else◌, List, [], ◌∷◌, ◌++◌, map, remove}
use Rattle.std.specs.List.{filter}
use Rattle.std.specs.Str.{bytes_eq}
use Rattle.ql_value.specs.declared.value.Value.{Value}
use Rattle.ql_value.specs.declared.value.Value.TheVariants as v
use Rattle.ql_syntax.specs.declared.statement.ColumnDef.{ColumnDef}
use Rattle.ql_syntax.specs.declared.statement.Item.{Item}
use Rattle.ql_syntax.specs.declared.statement.Item.TheVariants as item
use Rattle.ql_rel.specs.declared.db.Db.{Db}
use Rattle.ql_rel.specs.declared.db.Row.{Row}
use Rattle.ql_rel.specs.declared.db.Table.{Table}
use Rattle.ql_rel.specs.declared.schema.Index.{Index}
use Rattle.ql_rel.specs.declared.schema.TableSchema.{TableSchema}
use Rattle.ql_rel.specs.Databases.{schema_of, name_at, column_name_at}
use Rattle.ql_rel.specs.Names.{placed}

-- a list with the member at a place changed
abbrev pub changed_at : {A : Type 0} → ℕ → (A → A) → List A → List A
changed_at place change [] = []
changed_at zero change (x ∷ xs) = change x ∷ xs
changed_at (suc place) change (x ∷ xs) = x ∷ changed_at place change xs

-- a table with its rows changed
abbrev pub with_rows : (List Row → List Row) → Table → Table
with_rows change table = record table { rows = change table.rows }

-- a database with the rows of one table changed
abbrev pub rows_changed : ℕ → (List Row → List Row) → Db → Db
rows_changed table change db = record db { tables = changed_at table (with_rows change) db.tables }

-- a row
abbrev pub row_of : ℕ → List Value → Row
row_of id values = record { id = id; values = values }

-- rows with one more behind them
abbrev pub with_row : Row → List Row → List Row
with_row row rows = rows ++ row ∷ []

-- a row is added with the next id, which rises by one
abbrev pub inserted : ℕ → List Value → Db → Db
inserted table values db = record (rows_changed table (with_row (row_of db.next_id values)) db) { next_id = db.next_id + 1 }

-- a row with other values, if it has the id
abbrev pub with_values : ℕ → List Value → Row → Row
with_values id values row = if row.id == id then row_of row.id values else row

-- the row with an id gets other values
abbrev pub changed : ℕ → ℕ → List Value → Db → Db
changed table id values db = rows_changed table (map (with_values id values)) db

-- the row has another id
abbrev pub is_other : ℕ → Row → Bool
is_other id row = not (row.id == id)

-- the row with an id goes
abbrev pub removed : ℕ → ℕ → Db → Db
removed table id db = rows_changed table (filter (is_other id)) db

-- no rows
abbrev pub no_rows : List Row → List Row
no_rows rows = []

-- all rows of a table go
abbrev pub truncated : ℕ → Db → Db
truncated table db = rows_changed table no_rows db

-- a table without rows
abbrev pub new_table : TableSchema → Table
new_table table = record { name = table.name; columns = table.columns; rows = [] }

-- a table is added, without rows
abbrev pub table_created : TableSchema → Db → Db
table_created table db = record db { tables = placed (λ (t : Table). t.name) (new_table table) db.tables }

-- the next id, which is 1 again where no table is left
abbrev pub id_after : List Table → ℕ → ℕ
id_after [] id = 1
id_after (table ∷ tables) id = id

-- the index is of another table
abbrev pub is_of_other : List ℕ → Index → Bool
is_of_other table index = not (bytes_eq index.table table)

-- a table goes, with its rows and its indexes
abbrev pub table_dropped : ℕ → Db → Db
table_dropped table db =
    let tables = remove db.tables table in
    record { next_id = id_after tables db.next_id; tables = tables; indexes = filter (is_of_other (name_at table (schema_of db))) db.indexes }

-- a row with NULL behind its values
abbrev pub with_null : Row → Row
with_null row = row_of row.id (row.values ++ v.Null ∷ [])

-- a table with one more column, NULL in each row
abbrev pub with_column : ColumnDef → Table → Table
with_column column table = record { name = table.name; columns = table.columns ++ column ∷ []; rows = map with_null table.rows }

-- a column is added behind the others
abbrev pub column_added : ℕ → ColumnDef → Db → Db
column_added table column db = record db { tables = changed_at table (with_column column) db.tables }

-- a row without the value at a place
abbrev pub without_value : ℕ → Row → Row
without_value place row = row_of row.id (remove row.values place)

-- a table without the column at a place, and its rows without their values there
abbrev pub without_column : ℕ → Table → Table
without_column place table = record { name = table.name; columns = remove table.columns place; rows = map (without_value place) table.rows }

-- the index is by this column
abbrev pub is_by : List ℕ → Item → Bool
is_by column (item.Column name) = bytes_eq name column
is_by column item.Id = false

-- the index is not by this column of this table
abbrev pub is_not_by : List ℕ → List ℕ → Index → Bool
is_not_by table column index = not (bytes_eq index.table table && is_by column index.item)

-- a column goes, with its values and its indexes
abbrev pub column_dropped : ℕ → ℕ → Db → Db
column_dropped table column db =
    record db {
      tables = changed_at table (without_column column) db.tables;
      indexes = filter (is_not_by (name_at table (schema_of db)) (column_name_at table column (schema_of db))) db.indexes;
    }

-- an index is added
abbrev pub index_created : Index → Db → Db
index_created index db = record db { indexes = placed (λ (i : Index). i.name) index db.indexes }

-- an index goes
abbrev pub index_dropped : ℕ → Db → Db
index_dropped index db = record db { indexes = remove db.indexes index }
