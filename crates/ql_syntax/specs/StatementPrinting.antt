-- What a statement prints.
use Rattle.std.specs.Prelude.{ℕ, Bool, true, false, List, [], ◌∷◌, ◌++◌, map, codes, Option, Some, None}
use Rattle.ql_lex.specs.declared.marks.Mark.TheVariants as m
use Rattle.ql_lex.specs.declared.words.Word.TheVariants as w
use Rattle.ql_syntax.specs.declared.statement.Assign.{Assign}
use Rattle.ql_syntax.specs.declared.statement.ColumnDef.{ColumnDef}
use Rattle.ql_syntax.specs.declared.statement.Item.{Item}
use Rattle.ql_syntax.specs.declared.statement.Item.TheVariants as item
use Rattle.ql_syntax.specs.declared.statement.RowSource.{RowSource}
use Rattle.ql_syntax.specs.declared.statement.RowSource.TheVariants as rows
use Rattle.ql_syntax.specs.declared.statement.Statement.{Statement}
use Rattle.ql_syntax.specs.declared.statement.Statement.TheVariants as s
use Rattle.ql_syntax.specs.declared.syntax.Expr.{Expr}
use Rattle.ql_syntax.specs.Ink.{space, mark, keyword, small, name, listed, bracketed}
use Rattle.ql_syntax.specs.Printing.{Inks, word_of_kind, behind, ink_of_expr, ink_of_select}

-- an expression that may be left out
abbrev pub ink_of_option : Option Expr → Option Inks
ink_of_option None = None
ink_of_option (Some expr) = Some (ink_of_expr expr)

-- `IF EXISTS`, or nothing
abbrev pub ink_of_if_exists : Bool → Inks
ink_of_if_exists true = keyword w.If ∷ space ∷ keyword w.Exists ∷ space ∷ []
ink_of_if_exists false = []

-- `IF NOT EXISTS`, or nothing
abbrev pub ink_of_if_not_exists : Bool → Inks
ink_of_if_not_exists true = keyword w.If ∷ space ∷ keyword w.Not ∷ space ∷ keyword w.Exists ∷ space ∷ []
ink_of_if_not_exists false = []

-- `UNIQUE`, or nothing
abbrev pub ink_of_unique : Bool → Inks
ink_of_unique true = keyword w.Unique ∷ space ∷ []
ink_of_unique false = []

-- NOT NULL, or the rule that stands in its place
abbrev pub ink_of_rule : Bool → Option Expr → Inks
ink_of_rule true rule = space ∷ keyword w.Not ∷ space ∷ keyword w.Null ∷ []
ink_of_rule false None = []
ink_of_rule false (Some rule) = space ∷ ink_of_expr rule

-- a column of a table
abbrev pub ink_of_column : ColumnDef → Inks
ink_of_column x =
    name x.name ∷ space ∷ small (word_of_kind x.kind) ∷ ink_of_rule x.not_null x.rule ++ behind w.Default (ink_of_option x.default)

-- what an index orders by
abbrev pub ink_of_item : Item → Inks
ink_of_item (item.Column column) = name column ∷ []
ink_of_item item.Id = name (codes "id") ∷ bracketed []

-- the names of an INSERT in brackets, or nothing
abbrev pub ink_of_names : List (List ℕ) → Inks
ink_of_names [] = []
ink_of_names (x ∷ xs) = space ∷ bracketed (listed (map (λ (x : List ℕ). name x ∷ []) (x ∷ xs)))

-- a row of an INSERT
abbrev pub ink_of_row : List Expr → Inks
ink_of_row row = bracketed (listed (map ink_of_expr row))

-- where an INSERT takes its rows from
abbrev pub ink_of_rows : RowSource → Inks
ink_of_rows (rows.Rows rows) = keyword w.Values ∷ space ∷ listed (map ink_of_row rows)
ink_of_rows (rows.Query query) = ink_of_select query

-- an assignment of an UPDATE
abbrev pub ink_of_assign : Assign → Inks
ink_of_assign x = name x.column ∷ space ∷ mark m.Equal ∷ space ∷ ink_of_expr x.value

-- what a statement prints
abbrev pub ink_of_statement : Statement → Inks
ink_of_statement s.Begin = keyword w.Begin ∷ space ∷ keyword w.Transaction ∷ []
ink_of_statement s.Commit = keyword w.Commit ∷ []
ink_of_statement s.Rollback = keyword w.Rollback ∷ []
ink_of_statement (s.Query query) = ink_of_select query
ink_of_statement (s.CreateTable quiet table columns) =
    keyword w.Create ∷ space ∷ keyword w.Table ∷ space ∷ ink_of_if_not_exists quiet ++ (name table ∷ space ∷ bracketed (listed (map ink_of_column columns)))
ink_of_statement (s.DropTable quiet table) = keyword w.Drop ∷ space ∷ keyword w.Table ∷ space ∷ ink_of_if_exists quiet ++ (name table ∷ [])
ink_of_statement (s.AddColumn table column) =
    keyword w.Alter ∷ space ∷ keyword w.Table ∷ space ∷ name table ∷ space ∷ keyword w.Add ∷ space ∷ ink_of_column column
ink_of_statement (s.DropColumn table column) =
    keyword w.Alter ∷ space ∷ keyword w.Table ∷ space ∷ name table ∷ space ∷ keyword w.Drop ∷ space ∷ keyword w.Column ∷ space ∷ name column ∷ []
ink_of_statement (s.CreateIndex unique quiet index table it) =
    keyword w.Create ∷ space ∷ ink_of_unique unique ++ (keyword w.Index ∷ space ∷ ink_of_if_not_exists quiet
    ++ (name index ∷ space ∷ keyword w.On ∷ space ∷ name table ∷ space ∷ bracketed (ink_of_item it)))
ink_of_statement (s.DropIndex quiet index) = keyword w.Drop ∷ space ∷ keyword w.Index ∷ space ∷ ink_of_if_exists quiet ++ (name index ∷ [])
ink_of_statement (s.Insert table columns source) =
    keyword w.Insert ∷ space ∷ keyword w.Into ∷ space ∷ name table ∷ ink_of_names columns ++ (space ∷ ink_of_rows source)
ink_of_statement (s.Update table sets filter) =
    keyword w.Update ∷ space ∷ name table ∷ space ∷ keyword w.Set ∷ space ∷ listed (map ink_of_assign sets) ++ behind w.Where (ink_of_option filter)
ink_of_statement (s.Delete table filter) =
    keyword w.Delete ∷ space ∷ keyword w.From ∷ space ∷ name table ∷ behind w.Where (ink_of_option filter)
ink_of_statement (s.Truncate table) = keyword w.Truncate ∷ space ∷ keyword w.Table ∷ space ∷ name table ∷ []
