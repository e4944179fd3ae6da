-- The names that a statement gives, and the table that it changes.
use Rattle.std.specs.Prelude.{ℕ, suc, if◌then◌else◌, List, [], ◌∷◌, Option, Some, None, Ok}
use Rattle.std.specs.Str.{bytes_eq}
use Rattle.ql_value.specs.declared.refusal.TheConstants.{NO_TABLE, EXISTS}
use Rattle.ql_value.specs.declared.refusal.TheConstants.{RESERVED}
use Rattle.ql_syntax.specs.declared.statement.ColumnDef.{ColumnDef}
use Rattle.ql_rel.specs.declared.schema.Schema.{Schema}
use Rattle.ql_rel.specs.declared.schema.TableSchema.{TableSchema}
use Rattle.ql_rel.specs.Accepted.{is_reserved}
use Rattle.ql_syntax.specs.Answers.{Answer, refused_at}
use Rattle.ql_rel.specs.Names.{has_name, is_name_taken}
use Rattle.ql_rel.specs.Plans.{table_named, is_metadata}

-- a new name: 9 where it begins with two underscores
abbrev pub new_name : List ℕ → Answer (Unit {0})
new_name name = if is_reserved name then refused_at RESERVED name else Ok tt

-- the name of a new table: 4 where a table or an index has it
abbrev pub free_table : List ℕ → Schema → Answer (Unit {0})
free_table name schema = if is_name_taken name schema then refused_at EXISTS name else Ok tt

-- the name of a new column beside columns with these names: 4 where one of them has it
abbrev pub free_column : List ℕ → List (List ℕ) → Answer (Unit {0})
free_column name names = if has_name name names then refused_at EXISTS name else Ok tt

-- a table that is there, and else 1
abbrev pub table_there : List ℕ → Option TableSchema → Answer TableSchema
table_there name None = refused_at NO_TABLE name
table_there name (Some table) = Ok table

-- the table that a statement changes: 9 for a set that describes the database itself, then 1 where there is none
abbrev pub known_table : List ℕ → Schema → Answer TableSchema
known_table name schema = if is_metadata name then refused_at RESERVED name else table_there name (table_named name schema.tables)

-- the place of the table with a name, that behind the last one where there is none
abbrev pub place_named : List ℕ → List TableSchema → ℕ
place_named name [] = 0
place_named name (table ∷ tables) = if bytes_eq table.name name then 0 else suc (place_named name tables)

-- the place of the column with a name, that behind the last one where there is none
abbrev pub column_place : List ℕ → List ColumnDef → ℕ
column_place name [] = 0
column_place name (c ∷ columns) = if bytes_eq c.name name then 0 else suc (column_place name columns)
