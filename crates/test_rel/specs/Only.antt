-- A schema of one table.
use Rattle.std.specs.Prelude.{ℕ, List, [], ◌∷◌}
use Rattle.ql_syntax.specs.declared.statement.ColumnDef.{ColumnDef}
use Rattle.ql_rel.specs.declared.schema.Schema.{Schema}

-- the schema of one table with a name and columns, and no index
abbrev pub only : List ℕ → List ColumnDef → Schema
only name columns = record { tables = record { name = name; columns = columns } ∷ []; indexes = [] }
