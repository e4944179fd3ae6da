-- The limits of rows, keys and schemas.
use Rattle.std.specs.Prelude.{◌≡◌, ℕ, ◌<◌, ◌≤◌, pos, Bool, false, ◌||◌, ◌&&◌, if◌then◌else◌, nat_lt, nat_le, List, [], ◌∷◌, length, Option, Some, None}
use Rattle.std.specs.List.{list_any, AllByRecursion}
use Rattle.std.specs.Str.{bytes_eq}
use Rattle.ql_value.specs.declared.value.Kind.TheVariants as k
use Rattle.ql_value.specs.declared.value.Value.{Value}
use Rattle.ql_value.specs.declared.value.Value.TheVariants as v
use Rattle.ql_value.specs.Length.{length_of_row, length_of_key}
use Rattle.ql_syntax.specs.declared.statement.ColumnDef.{ColumnDef}
use Rattle.ql_syntax.specs.declared.statement.Item.{Item}
use Rattle.ql_syntax.specs.declared.statement.Item.TheVariants as item
use Rattle.ql_syntax.specs.declared.syntax.Expr.{Expr}
use Rattle.ql_syntax.specs.Ink.{text_of}
use Rattle.ql_syntax.specs.Printing.{ink_of_expr}
use Rattle.ql_rel.specs.declared.db.Row.{Row}
use Rattle.ql_rel.specs.declared.schema.Index.{Index}
use Rattle.ql_rel.specs.declared.schema.Schema.{Schema}
use Rattle.ql_rel.specs.declared.schema.TableSchema.{TableSchema}
use Rattle.ql_rel.specs.TextLimits.{is_past_text}

-- a database has at most so many tables
abbrev pub most_tables : ℕ
most_tables = 4096

-- and so many indexes
abbrev pub most_indexes : ℕ
most_indexes = 4096

-- a table has at most so many columns
abbrev pub most_columns : ℕ
most_columns = 256

-- a row has at most so many bytes
abbrev pub longest_row : ℕ
longest_row = 65787

-- a key of an index has at most so many bytes
abbrev pub longest_key : ℕ
longest_key = 1092

-- the greatest id of a row
abbrev pub last_id : ℕ
last_id = 9223372036854775807

-- the values are too long for a row
abbrev pub row_too_long : List Value → Bool
row_too_long values = nat_lt longest_row (length_of_row values)

-- the value of the column with a name, NULL where there is none
abbrev pub value_under : List ℕ → List ColumnDef → List Value → Value
value_under name [] values = v.Null
value_under name (column ∷ columns) [] = v.Null
value_under name (column ∷ columns) (x ∷ values) = if bytes_eq column.name name then x else value_under name columns values

-- the value by which an index orders a row
abbrev pub key_of : List ColumnDef → Item → Row → Value
key_of columns (item.Column name) row = value_under name columns row.values
key_of columns item.Id row = v.Int k.Int64 (pos row.id)

-- the value is too long for a key
abbrev pub is_long_key : Value → Bool
is_long_key value = nat_lt longest_key (length_of_key value)

-- a row of a table has a key in the index that is too long
abbrev pub has_long_key : List ℕ → List ColumnDef → Row → Index → Bool
has_long_key table columns row index = bytes_eq index.table table && is_long_key (key_of columns index.item row)

-- the first index, by name, in which a row of a table has a key that is too long
abbrev pub first_long_key : List ℕ → List ColumnDef → List Index → Row → Option (List ℕ)
first_long_key table columns [] row = None
first_long_key table columns (index ∷ indexes) row =
    if has_long_key table columns row index then Some index.name else first_long_key table columns indexes row

-- the printed text of an expression is past the limits of a rule or a default
unfoldable pub is_past_expr : Expr → Bool
is_past_expr e = is_past_text (text_of (ink_of_expr e))

abbrev pub is_past_if : Option Expr → Bool
is_past_if None = false
is_past_if (Some e) = is_past_expr e

-- the rule or the default of a column is past the limits
abbrev pub is_past_column : ColumnDef → Bool
is_past_column column = is_past_if column.rule || is_past_if column.default

-- the columns of a table are past the limits: more than 256, or one of them is past its own
abbrev pub are_past_columns : List ColumnDef → Bool
are_past_columns columns = nat_lt most_columns (length columns) || list_any is_past_column columns

-- one table more would be past the limits
abbrev pub is_past_table : TableSchema → Schema → Bool
is_past_table table schema = nat_le most_tables (length schema.tables) || are_past_columns table.columns

-- one column more of a table with these columns would be past the limits
abbrev pub is_past_added : ColumnDef → List ColumnDef → Bool
is_past_added column columns = nat_le most_columns (length columns) || is_past_column column

-- one index more would be past the limits
abbrev pub is_past_index : Schema → Bool
is_past_index schema = nat_le most_indexes (length schema.indexes)

-- a table has 1 to 256 columns, with rules and defaults within their limits
pub record IsTableWithin (table : TableSchema) : Type 0 where
  pub some : 0 < length table.columns
  pub few : length table.columns ≤ most_columns
  pub texts : AllByRecursion (λ (c : ColumnDef). is_past_column c ≡ false) table.columns

-- a schema has at most 4,096 tables, each within its limits, and at most 4,096 indexes
pub record IsWithin (schema : Schema) : Type 0 where
  pub tables : length schema.tables ≤ most_tables
  pub indexes : length schema.indexes ≤ most_indexes
  pub columns : AllByRecursion IsTableWithin schema.tables
