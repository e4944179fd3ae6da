-- Which databases are lawful: well formed, and what they hold meets the conditions of columns and indexes.
use Rattle.std.specs.Prelude.{◌≡◌, ℕ, Bool, true, false, not, ◌&&◌, ◌||◌, if◌then◌else◌, IsOkAnd, List, [], ◌∷◌, map, find, Option, Some, None, option_map}
use Rattle.std.specs.List.{list_any, AllByRecursion}
use Rattle.std.specs.Ordering.{is_eq}
use Rattle.std.specs.Str.{bytes_eq}
use Rattle.ql_value.specs.declared.value.Value.{Value}
use Rattle.ql_value.specs.declared.value.Value.TheVariants as v
use Rattle.ql_value.specs.Order.{compared}
use Rattle.ql_syntax.specs.declared.statement.ColumnDef.{ColumnDef}
use Rattle.ql_syntax.specs.declared.syntax.Expr.{Expr}
use Rattle.ql_syntax.specs.Values.{gives, value_at}
use Rattle.ql_rel.specs.declared.db.Db.{Db}
use Rattle.ql_rel.specs.declared.db.Row.{Row}
use Rattle.ql_rel.specs.declared.db.Table.{Table}
use Rattle.ql_rel.specs.declared.schema.Index.{Index}
use Rattle.ql_rel.specs.Accepted.{rule_scope}
use Rattle.ql_rel.specs.Limits.{key_of}
use Rattle.ql_syntax.specs.declared.scope.Scope.{Scope}
use Rattle.ql_syntax.specs.Resolving.{check_expr}
use Rattle.ql_rel.specs.WellFormed.{IsWellFormed}

-- the value is NULL
abbrev pub is_null : Value → Bool
is_null v.Null = true
is_null _ = false

-- two values are the same, and not NULL
abbrev pub is_shared : Value → Value → Bool
is_shared x y = not (is_null x) && is_eq (compared x y)

-- two of the values are the same, and not NULL
abbrev pub has_shared : List Value → Bool
has_shared [] = false
has_shared (x ∷ values) = list_any (is_shared x) values || has_shared values

-- the keys of an index, one for each row of its table
abbrev pub keys_in : Index → List Table → List Value
keys_in index [] = []
keys_in index (table ∷ tables) =
    if bytes_eq table.name index.table then map (key_of table.columns index.item) table.rows else keys_in index tables

-- the index is unique, and yet two rows share a value
abbrev pub is_broken : List Table → Index → Bool
is_broken tables index = index.unique && has_shared (keys_in index tables)

-- the first unique index, by name, of which two rows share a value that is not NULL
abbrev pub first_shared : Db → Option (List ℕ)
first_shared db = option_map (λ (i : Index). i.name) (find (is_broken db.tables) db.indexes)

-- a value stands in a column: it is not NULL where the column is NOT NULL
abbrev pub MayStand : ColumnDef → Value → Type 0
MayStand column x = column.not_null ≡ true → is_null x ≡ false

-- no value is NULL in a NOT NULL column
abbrev pub AllMayStand : List ColumnDef → List Value → Type 0
AllMayStand [] values = Unit {0}
AllMayStand (column ∷ columns) [] = Unit {0}
AllMayStand (column ∷ columns) (x ∷ values) = MayStand column x × AllMayStand columns values

-- a rule gives true for the values of a row
abbrev pub IsTrueOf : Scope → List Value → Option Expr → Type 0
IsTrueOf scope values None = Unit {0}
IsTrueOf scope values (Some rule) = IsOkAnd (check_expr scope false rule) (λ c. value_at values c.tree ≡ gives (v.Bool true))

-- a row meets the conditions of its table's columns
pub record MeetsColumns (table : Table) (row : Row) : Type 0 where
  pub not_null : AllMayStand table.columns row.values
  pub rules : AllByRecursion (λ (c : ColumnDef). IsTrueOf (rule_scope table.name table.columns) row.values c.rule) table.columns

-- a database is lawful: it is well formed, every row meets the conditions of its columns, and no two rows share a value under a unique index
pub record IsLawful (db : Db) : Type 0 where
  pub formed : IsWellFormed db
  pub columns : AllByRecursion (λ (t : Table). AllByRecursion (MeetsColumns t) t.rows) db.tables
  pub unique : first_shared db ≡ None
