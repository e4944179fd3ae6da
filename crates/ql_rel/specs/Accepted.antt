-- Which CREATE statements are accepted over a schema, and the schema after them. Once the plan and the effect of statements over databases are defined, this file says it by those; nothing else depends on how it is said here.
use Rattle.std.specs.Prelude.{ℕ, Bool, true, false, not, ◌&&◌, nat_lt, is_ok, List, [], ◌∷◌, length, map, take, codes, Option, Some, None}
use Rattle.std.specs.List.{list_any, list_all}
use Rattle.std.specs.Str.{bytes_eq}
use Rattle.ql_value.specs.declared.value.Kind.{Kind}
use Rattle.ql_value.specs.Kinds.{is_truth, same_kind}
use Rattle.ql_syntax.specs.declared.statement.ColumnDef.{ColumnDef}
use Rattle.ql_syntax.specs.declared.statement.Item.{Item}
use Rattle.ql_syntax.specs.declared.statement.Item.TheVariants as item
use Rattle.ql_syntax.specs.declared.statement.Statement.{Statement}
use Rattle.ql_syntax.specs.declared.statement.Statement.TheVariants as s
use Rattle.ql_syntax.specs.declared.syntax.Expr.{Expr}
use Rattle.ql_syntax.specs.declared.typing.Typing.{Typing}
use Rattle.ql_syntax.specs.declared.typing.Typing.TheVariants.{OfKind}
use Rattle.ql_syntax.specs.Typing.{among}
use Rattle.ql_rel.specs.declared.schema.Index.{Index}
use Rattle.ql_rel.specs.declared.schema.Schema.{Schema}
use Rattle.ql_rel.specs.declared.schema.TableSchema.{TableSchema}
use Rattle.ql_syntax.specs.Answers.{Answer, then_with}
use Rattle.ql_syntax.specs.Checked.{require_type, meet_type}
use Rattle.ql_rel.specs.Creates.{create_statements}
use Rattle.ql_rel.specs.Databases.{empty_schema}
use Rattle.ql_rel.specs.Limits.{is_past_table, is_past_index}
use Rattle.ql_rel.specs.Names.{placed, has_name, are_different, column_names, is_name_taken}
use Rattle.ql_syntax.specs.declared.scope.Scope.{Scope}
use Rattle.ql_syntax.specs.Resolving.{check_expr}

-- the name begins with two underscores
abbrev pub is_reserved : List ℕ → Bool
is_reserved name = bytes_eq (take 2 name) (codes "__")

-- what a rule sees: the columns of its table, and no id
abbrev pub rule_scope : List ℕ → List ColumnDef → Scope
rule_scope table columns =
    record { row = map (λ (c : ColumnDef). record { set = Some table; column = Some c.name; typing = OfKind c.kind }) columns; fields = []; hides = false }

-- what a default sees: nothing
abbrev pub no_scope : Scope
no_scope = record { row = []; fields = []; hides = false }

-- a rule that is a truth
abbrev pub rule_of : Scope → Expr → Answer Typing
rule_of scope rule = then_with (check_expr scope false rule) (λ c. require_type (among is_truth c.typing))

-- a default of the column's kind
abbrev pub default_of : Kind → Expr → Answer Typing
default_of kind default = then_with (check_expr no_scope false default) (λ c. then_with (meet_type (OfKind kind) c) (λ d. require_type (among (same_kind kind) d.typing)))

abbrev pub is_rule : Scope → Option Expr → Bool
is_rule scope None = true
is_rule scope (Some rule) = is_ok (rule_of scope rule)

abbrev pub is_default : Kind → Option Expr → Bool
is_default kind None = true
is_default kind (Some default) = is_ok (default_of kind default)

-- a column of a table may stand there
abbrev pub is_column : Scope → ColumnDef → Bool
is_column scope c = not (is_reserved c.name) && (is_rule scope c.rule && is_default c.kind c.default)

-- the columns of a table may stand there: there is one, and they have different names
abbrev pub are_columns : List ℕ → List ColumnDef → Bool
are_columns table columns =
    nat_lt 0 (length columns) && (are_different (column_names columns) && list_all (is_column (rule_scope table columns)) columns)

-- an index by the item may stand at a table with these columns
abbrev pub is_item_there : List ColumnDef → Item → Bool
is_item_there columns (item.Column name) = has_name name (column_names columns)
is_item_there columns item.Id = true

-- an index with a name and an item may stand at a table: the table has a column of the item, and none of the index's name
abbrev pub is_index_at : List ℕ → List ℕ → Item → TableSchema → Bool
is_index_at index table it t =
    bytes_eq t.name table && (is_item_there t.columns it && not (has_name index (column_names t.columns)))

-- the statement is accepted over the schema
unfoldable pub accepts : Schema → Statement → Bool
accepts schema (s.CreateTable quiet table columns) =
    not (is_reserved table) && (not (is_name_taken table schema)
    && (are_columns table columns && not (is_past_table (record { name = table; columns = columns }) schema)))
accepts schema (s.CreateIndex unique quiet index table it) =
    not (is_reserved index) && (not (is_name_taken index schema)
    && (list_any (is_index_at index table it) schema.tables && not (is_past_index schema)))
accepts schema _ = false

-- the schema after a CREATE statement
unfoldable pub created : Schema → Statement → Schema
created schema (s.CreateTable quiet table columns) =
    record schema { tables = placed (λ (t : TableSchema). t.name) (record { name = table; columns = columns }) schema.tables }
created schema (s.CreateIndex unique quiet index table it) =
    record schema { indexes = placed (λ (i : Index). i.name) (record { name = index; table = table; item = it; unique = unique }) schema.indexes }
created schema _ = schema

-- the statements are accepted one after another, from a schema on
abbrev pub accepts_all : Schema → List Statement → Bool
accepts_all schema [] = true
accepts_all schema (statement ∷ statements) = accepts schema statement && accepts_all (created schema statement) statements

-- the CREATE statements of a schema are accepted, from no tables on
abbrev pub is_accepted : Schema → Bool
is_accepted schema = accepts_all empty_schema (create_statements schema)
