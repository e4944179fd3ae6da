-- What keeps a database well formed.
use Rattle.std.specs.Prelude.{◌≡◌, ℕ, ◌<◌, false, List, length, Option, None}
use Rattle.ql_value.specs.declared.value.Value.{Value}
use Rattle.ql_syntax.specs.declared.statement.ColumnDef.{ColumnDef}
use Rattle.ql_rel.specs.declared.db.Db.{Db}
use Rattle.ql_rel.specs.declared.fault.RelFault.{RelFault}
use Rattle.ql_rel.specs.declared.schema.TableSchema.{TableSchema}
use Rattle.ql_rel.specs.Changes.{inserted, changed, removed, truncated, table_created, table_dropped, column_added, column_dropped}
use Rattle.ql_rel.specs.Databases.{empty_db, schema_of, columns_at}
use Rattle.ql_rel.specs.Limits.{is_past_table}
use Rattle.ql_rel.specs.Names.{is_name_taken}
use Rattle.ql_rel.specs.Refusals.{insert_refusal, change_refusal, column_refusal}
use Rattle.ql_rel.specs.WellFormed.{Fits, IsMade, IsWellFormed}

-- the database with no tables is well formed, and each change of rows, a table more or less, and a column more or less keep one so, where they are allowed and not refused
pub record FormLaws : Type 0 where
  pub empty : IsWellFormed empty_db
  pub insert : (table : ℕ) (values : List Value) (db : Db) → IsWellFormed db → table < length db.tables → Fits (columns_at table (schema_of db)) values → ◌≡◌ {A = Option RelFault} (insert_refusal table values db) None → IsWellFormed (inserted table values db)
  pub change : (table id : ℕ) (values : List Value) (db : Db) → IsWellFormed db → Fits (columns_at table (schema_of db)) values → ◌≡◌ {A = Option RelFault} (change_refusal table id values (schema_of db)) None → IsWellFormed (changed table id values db)
  pub remove : (table id : ℕ) (db : Db) → IsWellFormed db → IsWellFormed (removed table id db)
  pub truncate : (table : ℕ) (db : Db) → IsWellFormed db → IsWellFormed (truncated table db)
  pub create_table : (table : TableSchema) (db : Db) → IsWellFormed db → 0 < length table.columns → is_name_taken table.name (schema_of db) ≡ false → is_past_table table (schema_of db) ≡ false → IsMade (schema_of (table_created table db)) → IsWellFormed (table_created table db)
  pub drop_table : (table : ℕ) (db : Db) → IsWellFormed db → table < length db.tables → IsWellFormed (table_dropped table db)
  pub add_column : (table : ℕ) (column : ColumnDef) (db : Db) → IsWellFormed db → ◌≡◌ {A = Option RelFault} (column_refusal table column db) None → IsMade (schema_of (column_added table column db)) → IsWellFormed (column_added table column db)
  pub drop_column : (table column : ℕ) (db : Db) → IsWellFormed db → column < length (columns_at table (schema_of db)) → 1 < length (columns_at table (schema_of db)) → IsMade (schema_of (column_dropped table column db)) → IsWellFormed (column_dropped table column db)
