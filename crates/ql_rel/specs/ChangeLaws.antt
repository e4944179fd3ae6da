-- What every change keeps.
use Rattle.std.specs.Prelude.{◌≡◌, ℕ, ◌≤◌, true, false, List, find, Option, Some, None, slice_get, Bool}
use Rattle.std.specs.List.{AllByRecursion}
use Rattle.std.specs.Str.{bytes_eq}
use Rattle.ql_value.specs.declared.value.Value.{Value}
use Rattle.ql_syntax.specs.declared.statement.ColumnDef.{ColumnDef}
use Rattle.ql_rel.specs.declared.db.Db.{Db}
use Rattle.ql_rel.specs.declared.db.Row.{Row}
use Rattle.ql_rel.specs.declared.db.Table.{Table}
use Rattle.ql_rel.specs.declared.schema.Index.{Index}
use Rattle.ql_rel.specs.declared.schema.TableSchema.{TableSchema}
use Rattle.ql_rel.specs.Changes.{rows_changed, inserted, changed, removed, truncated, table_created, table_dropped, id_after, is_of_other, column_added, column_dropped, is_not_by, index_created, index_dropped}
use Rattle.ql_rel.specs.Databases.{schema_of, rows_at, name_at, column_name_at}
use Rattle.ql_rel.specs.Rels.{has_id}
use Rattle.ql_rel.specs.WellFormed.{Rise, AllBelow}

-- the ids of a table rise, and are below the next one
pub record HasIds (next : ℕ) (table : Table) : Type 0 where
  pub rise : Rise 1 table.rows
  pub below : AllBelow next table.rows

-- the ids of all tables do
abbrev pub HaveIds : Db → Type 0
HaveIds db = AllByRecursion (HasIds db.next_id) db.tables

-- the table has the name
abbrev pub is_table_named : List ℕ → Table → Bool
is_table_named name table = bytes_eq table.name name

-- the index has the name
abbrev pub is_index_named : List ℕ → Index → Bool
is_index_named name index = bytes_eq index.name name

-- the table with a name, with its columns and its rows
abbrev pub table_named : List ℕ → Db → Option Table
table_named name db = find (is_table_named name) db.tables

-- the index with a name
abbrev pub index_named : List ℕ → Db → Option Index
index_named name db = find (is_index_named name) db.indexes

-- each table but the one with this name is as before, with its rows
abbrev pub LeavesTables : List ℕ → Db → Db → Type 0
LeavesTables name before after = (other : List ℕ) → bytes_eq name other ≡ false → table_named other after ≡ table_named other before

-- each index but the one with this name is as before
abbrev pub LeavesIndexes : List ℕ → Db → Db → Type 0
LeavesIndexes name before after = (other : List ℕ) → bytes_eq name other ≡ false → index_named other after ≡ index_named other before

-- each index of which a test is true is as before, and where none had a name none has it
pub record LeavesThose (stays : Index → Bool) (before after : Db) : Type 0 where
  pub kept : (name : List ℕ) (index : Index) → index_named name before ≡ Some index → stays index ≡ true → index_named name after ≡ Some index
  pub none : (name : List ℕ) → index_named name before ≡ None → index_named name after ≡ None

-- a change of a table's rows leaves the schema and the rows of every other table; ids keep rising, and a row that is added has an id that no row of any table has; a table or a column that comes or goes leaves every other table with its rows, and all indexes but those of the table or by the column; an index that comes or goes leaves every table and every other index; of all changes a new row and the drop of the last table alone change the next id
pub record ChangeLaws : Type 0 where
  pub schema : (table : ℕ) (change : List Row → List Row) (db : Db) → schema_of (rows_changed table change db) ≡ schema_of db
  pub others : (table other : ℕ) (change : List Row → List Row) (db : Db) → (other ≡ table → ⊥) → rows_at other (rows_changed table change db) ≡ rows_at other db
  pub next : (table : ℕ) (change : List Row → List Row) (db : Db) → (rows_changed table change db).next_id ≡ db.next_id
  pub fresh : (table : ℕ) (db : Db) → HaveIds db → find (has_id db.next_id) (rows_at table db) ≡ None
  pub insert : (table : ℕ) (values : List Value) (db : Db) → 1 ≤ db.next_id → HaveIds db → HaveIds (inserted table values db)
  pub change : (table id : ℕ) (values : List Value) (db : Db) → HaveIds db → HaveIds (changed table id values db)
  pub remove : (table id : ℕ) (db : Db) → HaveIds db → HaveIds (removed table id db)
  pub truncate : (table : ℕ) (db : Db) → HaveIds db → HaveIds (truncated table db)
  pub create_table : (table : TableSchema) (db : Db) → let after = table_created table db in LeavesTables table.name db after × (after.indexes ≡ db.indexes) × (after.next_id ≡ db.next_id)
  pub drop_table : (table : ℕ) (db : Db) → let after = table_dropped table db in let name = name_at table (schema_of db) in LeavesTables name db after × LeavesThose (is_of_other name) db after × (after.next_id ≡ id_after after.tables db.next_id)
  pub add_column : (table : ℕ) (column : ColumnDef) (db : Db) → let after = column_added table column db in LeavesTables (name_at table (schema_of db)) db after × (after.indexes ≡ db.indexes) × (after.next_id ≡ db.next_id)
  pub drop_column : (table column : ℕ) (db : Db) → let after = column_dropped table column db in let name = name_at table (schema_of db) in LeavesTables name db after × LeavesThose (is_not_by name (column_name_at table column (schema_of db))) db after × (after.next_id ≡ db.next_id)
  pub create_index : (index : Index) (db : Db) → let after = index_created index db in LeavesIndexes index.name db after × (after.tables ≡ db.tables) × (after.next_id ≡ db.next_id)
  pub drop_index : (place : ℕ) (index : Index) (db : Db) → slice_get db.indexes place ≡ Some index → let after = index_dropped place db in LeavesIndexes index.name db after × (after.tables ≡ db.tables) × (after.next_id ≡ db.next_id)
