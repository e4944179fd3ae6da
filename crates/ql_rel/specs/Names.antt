-- Names: lists by name, in the order of the names' bytes, and names that are taken.
use Rattle.std.specs.Prelude.{◌≡◌, ℕ, Bool, true, not, ◌&&◌, ◌||◌, if◌then◌else◌, List, [], ◌∷◌, map}
use Rattle.std.specs.List.{list_any}
use Rattle.std.specs.Str.{bytes_eq}
use Rattle.std.specs.Cmp.Lexicographic.{slice_cmp}
use Rattle.std.specs.Ordering.{nat_cmp, is_lt}
use Rattle.ql_syntax.specs.declared.statement.ColumnDef.{ColumnDef}
use Rattle.ql_rel.specs.declared.schema.Index.{Index}
use Rattle.ql_rel.specs.declared.schema.Schema.{Schema}
use Rattle.ql_rel.specs.declared.schema.TableSchema.{TableSchema}

-- the first name comes before the second
abbrev pub comes_before : List ℕ → List ℕ → Bool
comes_before a b = is_lt (slice_cmp nat_cmp a b)

-- the names stand in their order, and no two are the same
abbrev pub IsByName : List (List ℕ) → Type 0
IsByName [] = Unit {0}
IsByName (a ∷ []) = Unit {0}
IsByName (a ∷ b ∷ names) = (comes_before a b ≡ true) × IsByName (b ∷ names)

-- a list by name with one member more: it stands before the first one whose name comes after its own
abbrev pub placed : {A : Type 0} → (A → List ℕ) → A → List A → List A
placed name x [] = x ∷ []
placed name x (y ∷ ys) = if comes_before (name x) (name y) then x ∷ y ∷ ys else y ∷ placed name x ys

-- one of the names is this one
abbrev pub has_name : List ℕ → List (List ℕ) → Bool
has_name name names = list_any (λ other. bytes_eq other name) names

-- no two of the names are the same
abbrev pub are_different : List (List ℕ) → Bool
are_different [] = true
are_different (name ∷ names) = not (has_name name names) && are_different names

-- the names of tables, of indexes, and of columns
abbrev pub table_names : List TableSchema → List (List ℕ)
table_names tables = map (λ (t : TableSchema). t.name) tables

abbrev pub index_names : List Index → List (List ℕ)
index_names indexes = map (λ (i : Index). i.name) indexes

abbrev pub column_names : List ColumnDef → List (List ℕ)
column_names columns = map (λ (c : ColumnDef). c.name) columns

-- a table or an index has the name
abbrev pub is_name_taken : List ℕ → Schema → Bool
is_name_taken name schema = has_name name (table_names schema.tables) || has_name name (index_names schema.indexes)

-- an index of the table has the name
abbrev pub is_index_of : List ℕ → List ℕ → Index → Bool
is_index_of table name index = bytes_eq index.table table && bytes_eq index.name name

-- a column of a table with these columns, or an index of it, has the name
abbrev pub is_column_taken : List ℕ → List ℕ → List ColumnDef → List Index → Bool
is_column_taken table name columns indexes = has_name name (column_names columns) || list_any (is_index_of table name) indexes
