-- The CREATE statements of a schema.
use Rattle.std.specs.Prelude.{false, List, ◌++◌, map}
use Rattle.ql_syntax.specs.declared.statement.Statement.{Statement}
use Rattle.ql_syntax.specs.declared.statement.Statement.TheVariants as s
use Rattle.ql_rel.specs.declared.schema.Index.{Index}
use Rattle.ql_rel.specs.declared.schema.Schema.{Schema}
use Rattle.ql_rel.specs.declared.schema.TableSchema.{TableSchema}

-- the CREATE TABLE of a table
abbrev pub create_table : TableSchema → Statement
create_table table = s.CreateTable false table.name table.columns

-- the CREATE INDEX of an index
abbrev pub create_index : Index → Statement
create_index index = s.CreateIndex index.unique false index.name index.table index.item

-- those of a schema: its tables by name, and then its indexes by name
abbrev pub create_statements : Schema → List Statement
create_statements schema = map create_table schema.tables ++ map create_index schema.indexes
