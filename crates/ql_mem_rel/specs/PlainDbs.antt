-- A database as its schema and the rows of each table.
use Rattle.std.specs.Prelude.{◌≡◌, ℕ, ◌+◌, ◌<◌, false, List, [], ◌∷◌}
use Rattle.std.specs.Coded.{×_prop, Unit-prop}
use Rattle.std.specs.List.{AllByRecursion-prop}
use Rattle.std.proofs.Props.{props}
use Rattle.ql_value.specs.declared.value.Kind.{Kind}
use Rattle.ql_value.specs.declared.value.Kind.TheVariants as k
use Rattle.ql_value.specs.declared.value.Value.{Value}
use Rattle.ql_value.specs.declared.value.Value.TheVariants as v
use Rattle.ql_value.specs.Number.{HasKind}
use Rattle.ql_syntax.specs.declared.statement.ColumnDef.{ColumnDef}
use Rattle.ql_rel.specs.declared.db.Db.{Db}
use Rattle.ql_rel.specs.declared.db.Row.{Row}
use Rattle.ql_rel.specs.declared.db.Table.{Table}
use Rattle.ql_rel.specs.declared.schema.Schema.{Schema}
use Rattle.ql_rel.specs.declared.schema.TableSchema.{TableSchema}
use Rattle.ql_rel.specs.Limits.{is_past_column, IsTableWithin, IsWithin}
use Rattle.ql_rel.specs.WellFormed.{Fits, AllFit, Rise, AllBelow}

-- the tables of a schema, each with its rows
abbrev pub tables_with : List TableSchema → List (List Row) → List Table
tables_with [] rows = []
tables_with (table ∷ tables) [] = []
tables_with (table ∷ tables) (rows ∷ more) = record { name = table.name; columns = table.columns; rows = rows } ∷ tables_with tables more

-- the database of a next id, a schema and the rows of each table
abbrev pub db_with : ℕ → Schema → List (List Row) → Db
db_with next schema rows = record { next_id = next; tables = tables_with schema.tables rows; indexes = schema.indexes }

-- the rows of each table fit its columns, and their ids rise and stay below the next one
abbrev pub Hold : ℕ → List TableSchema → List (List Row) → Type 0
Hold next [] [] = Unit {0}
Hold next [] (rows ∷ more) = ⊥
Hold next (table ∷ tables) [] = ⊥
Hold next (table ∷ tables) (rows ∷ more) = AllFit table.columns rows × Rise 1 rows × AllBelow next rows × Hold next tables more

-- a value is of a kind in one way
pub HasKind-prop : (kind : Kind) (x : Value) → IsProp (HasKind kind x)
HasKind-prop kind v.Null = Unit-prop
HasKind-prop kind (v.Int own z) = hlevel props
HasKind-prop k.Bool (v.Bool b) = Unit-prop
HasKind-prop k.Text (v.Text b) = Unit-prop
HasKind-prop k.Blob (v.Blob b) = Unit-prop
HasKind-prop kind x = hlevel props

pub Fits-prop : (columns : List ColumnDef) (values : List Value) → IsProp (Fits columns values)
Fits-prop [] [] = Unit-prop
Fits-prop [] (x ∷ values) = hlevel props
Fits-prop (column ∷ columns) [] = hlevel props
Fits-prop (column ∷ columns) (x ∷ values) = ×_prop (HasKind-prop column.kind x) (Fits-prop columns values)

pub Rise-prop : (from : ℕ) (rows : List Row) → IsProp (Rise from rows)
Rise-prop from [] = Unit-prop
Rise-prop from (row ∷ rows) = hlevel (props, Rise-prop (row.id + 1) rows)

pub AllBelow-prop : (next : ℕ) (rows : List Row) → IsProp (AllBelow next rows)
AllBelow-prop next rows = AllByRecursion-prop (λ (row : Row). row.id < next) (λ row. hlevel props) rows

pub AllFit-prop : (columns : List ColumnDef) (rows : List Row) → IsProp (AllFit columns rows)
AllFit-prop columns rows = AllByRecursion-prop (λ (row : Row). Fits columns row.values) (λ row. Fits-prop columns row.values) rows

pub Hold-prop : (next : ℕ) (tables : List TableSchema) (rows : List (List Row)) → IsProp (Hold next tables rows)
Hold-prop next [] [] = Unit-prop
Hold-prop next [] (rows ∷ more) = hlevel props
Hold-prop next (table ∷ tables) [] = hlevel props
Hold-prop next (table ∷ tables) (rows ∷ more) = hlevel (AllFit-prop table.columns rows, Rise-prop 1 rows, AllBelow-prop next rows, Hold-prop next tables more)

IsTableWithin-prop : (table : TableSchema) → IsProp (IsTableWithin table)
IsTableWithin-prop table = hlevel (props, AllByRecursion-prop (λ (c : ColumnDef). is_past_column c ≡ false) (λ c. hlevel props) table.columns)

pub IsWithin-prop : (schema : Schema) → IsProp (IsWithin schema)
IsWithin-prop schema = hlevel (props, AllByRecursion-prop IsTableWithin IsTableWithin-prop schema.tables)
