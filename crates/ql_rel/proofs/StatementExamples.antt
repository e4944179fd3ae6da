-- What plans, effects and events are on a few statements.
use Rattle.std.proofs.Common.{◌≡◌, ℕ, pos, true, false, List, [], ◌∷◌, ◌++◌, None, Ok, refl}
use Rattle.std.specs.Prelude.{codes}
use Rattle.ql_value.specs.declared.value.Kind.{Kind}
use Rattle.ql_value.specs.declared.value.Kind.TheVariants as k
use Rattle.ql_value.specs.declared.value.Value.{Value}
use Rattle.ql_value.specs.declared.value.Value.TheVariants as v
use Rattle.ql_syntax.specs.declared.statement.ColumnDef.{ColumnDef}
use Rattle.ql_syntax.specs.declared.statement.Item.TheVariants as item
use Rattle.ql_syntax.specs.declared.statement.RowSource.TheVariants as source
use Rattle.ql_syntax.specs.declared.statement.Statement.TheVariants as s
use Rattle.ql_syntax.specs.declared.syntax.Select.{Select}
use Rattle.ql_syntax.specs.declared.typed.Typed.TheVariants as t
use Rattle.ql_syntax.specs.declared.typing.Typing.TheVariants.{OnlyNull, OfKind}
use Rattle.ql_syntax.specs.declared.checked.Checked.{Checked}
use Rattle.ql_rel.specs.declared.db.Db.{Db}
use Rattle.ql_rel.specs.declared.db.Row.{Row}
use Rattle.ql_rel.specs.declared.plan.Plan.{Plan}
use Rattle.ql_rel.specs.declared.schema.Schema.{Schema}
use Rattle.ql_syntax.specs.Answers.{refused, refused_at, then_with}
use Rattle.ql_rel.specs.Changes.{row_of}
use Rattle.ql_syntax.specs.Checked.{of_type, literal_of}
use Rattle.ql_rel.specs.Sessions.{committed, opened, session}
use Rattle.ql_rel.specs.Databases.{empty_db}
use Rattle.ql_rel.specs.InsertEffects.{row_from, rows_from, rows_added, inserts_shown}
use Rattle.ql_rel.specs.Events.{Event, shows, refused_in, places_of, told_by}
use Rattle.ql_rel.specs.SelectRows.{set_rows, heading, lines_of, shown_rows}
use Rattle.ql_rel.specs.Targets.{new_target, all_targets, targets_of, for_kind, counted_for}
use Rattle.ql_rel.specs.CreatePlans.{no_parts}
use Rattle.ql_rel.specs.StatementEffects.{statement_effect}
use Rattle.ql_rel.specs.StatementPlans.{statement_plan}
use Rattle.ql_rel.specs.TablePlans.{dropped_column}

abbrev column : List ℕ → Kind → ColumnDef
column name kind = record { name = name; kind = kind; not_null = false; rule = None; default = None }

-- `t (a int8, b string)`, without rows and with two
abbrev t_columns : List ColumnDef
t_columns = column (codes "a") k.Int8 ∷ column (codes "b") k.Text ∷ []

abbrev with_rows_of : ℕ → List Row → Db
with_rows_of next rows = record { next_id = next; tables = record { name = codes "t"; columns = t_columns; rows = rows } ∷ []; indexes = [] }

abbrev one : List Value
one = v.Int k.Int8 (pos 1) ∷ v.Text (codes "x") ∷ []

abbrev two : List Value
two = v.Null ∷ v.Null ∷ []

-- CREATE TABLE: a table without rows; the name of a table, a name with `__`, a column twice, NOT NULL
created_once : statement_effect false (s.CreateTable false (codes "t") t_columns) empty_db ≡ Ok ([], with_rows_of 1 [])
created_once = refl

created_twice : statement_effect false (s.CreateTable false (codes "t") t_columns) (with_rows_of 1 []) ≡ refused_at 4 (codes "t")
created_twice = refl

created_reserved : statement_effect false (s.CreateTable false (codes "__t") t_columns) empty_db ≡ refused_at 9 (codes "__t")
created_reserved = refl

column_twice : statement_effect false (s.CreateTable false (codes "t") (column (codes "a") k.Int8 ∷ column (codes "a") k.Text ∷ [])) empty_db ≡ refused_at 4 (codes "a")
column_twice = refl

column_reserved : statement_effect false (s.CreateTable false (codes "t") (column (codes "__a") k.Int8 ∷ [])) empty_db ≡ refused_at 9 (codes "__a")
column_reserved = refl

not_null_later : statement_effect false (s.CreateTable false (codes "t") (record (column (codes "a") k.Int8) { not_null = true } ∷ [])) empty_db ≡ refused 10
not_null_later = refl

-- INSERT: a set that describes the database itself, no table, named columns
insert_metadata : statement_effect false (s.Insert (codes "__Table") [] (source.Rows [])) empty_db ≡ refused_at 9 (codes "__Table")
insert_metadata = refl

insert_nowhere : statement_effect false (s.Insert (codes "t") [] (source.Rows [])) empty_db ≡ refused_at 1 (codes "t")
insert_nowhere = refl

insert_named : statement_effect false (s.Insert (codes "t") (codes "a" ∷ []) (source.Rows [])) (with_rows_of 1 []) ≡ Ok ([], with_rows_of 1 [])
insert_named = refl

-- a row is put together: the value of the second column alone, and both values in the other order
second_alone : row_from (1 ∷ []) (v.Text (codes "x") ∷ []) t_columns ≡ v.Null ∷ v.Text (codes "x") ∷ []
second_alone = refl

both_turned : row_from (1 ∷ 0 ∷ []) (v.Text (codes "x") ∷ v.Int k.Int8 (pos 1) ∷ []) t_columns ≡ one
both_turned = refl

-- rows of a SELECT are put together like others, and go in behind the rows that it was made of
shown_placed : rows_from (1 ∷ []) t_columns ((v.Text (codes "x") ∷ []) ∷ (v.Null ∷ []) ∷ []) ≡ (v.Null ∷ v.Text (codes "x") ∷ []) ∷ two ∷ []
shown_placed = refl

shown_twice : (select : Select) (p : Plan) → shown_rows (with_rows_of 4 (row_of 3 one ∷ [])) select p ≡ Ok (one ∷ one ∷ []) → p.targets ≡ 0 ∷ 1 ∷ []
    → inserts_shown (codes "t") select p (with_rows_of 4 (row_of 3 one ∷ [])) ≡ Ok (with_rows_of 6 (row_of 3 one ∷ row_of 4 one ∷ row_of 5 one ∷ []))
shown_twice select p shown at = rw (shown, at) refl

-- a quiet CREATE TABLE looks at nothing behind a name that is there; the name itself is judged, and so is that of an index
abbrev ix : Schema
ix = record { tables = record { name = codes "t"; columns = t_columns } ∷ []; indexes = record { name = codes "ix"; table = codes "t"; item = item.Id; unique = false } ∷ [] }

abbrev a_twice : List ColumnDef
a_twice = column (codes "a") k.Int8 ∷ column (codes "a") k.Text ∷ []

idle_create : statement_plan ix (s.CreateTable true (codes "t") a_twice) ≡ Ok no_parts
idle_create = refl

quiet_twice : statement_plan ix (s.CreateTable true (codes "v") a_twice) ≡ refused_at 4 (codes "a")
quiet_twice = refl

quiet_index : statement_plan ix (s.CreateTable true (codes "ix") t_columns) ≡ refused_at 4 (codes "ix")
quiet_index = refl

quiet_reserved : statement_plan ix (s.CreateTable true (codes "__v") t_columns) ≡ refused_at 9 (codes "__v")
quiet_reserved = refl

-- DROP TABLE: a set that describes the database itself is 9 also where the statement is quiet; an index is no table
drop_metadata : statement_plan ix (s.DropTable true (codes "__Table")) ≡ refused_at 9 (codes "__Table")
drop_metadata = refl

idle_drop : statement_plan ix (s.DropTable true (codes "ix")) ≡ Ok no_parts
idle_drop = refl

drop_nowhere : statement_plan ix (s.DropTable false (codes "ix")) ≡ refused_at 1 (codes "ix")
drop_nowhere = refl

-- ALTER TABLE: a column more, NULL in each row, and a column less
column_more : statement_effect false (s.AddColumn (codes "t") (column (codes "c") k.Bool)) (with_rows_of 2 (row_of 1 one ∷ []))
    ≡ Ok ([], record { next_id = 2; tables = record { name = codes "t"; columns = t_columns ++ column (codes "c") k.Bool ∷ []; rows = row_of 1 (one ++ v.Null ∷ []) ∷ [] } ∷ []; indexes = [] })
column_more = refl

column_less : statement_effect false (s.DropColumn (codes "t") (codes "a")) (with_rows_of 2 (row_of 1 one ∷ []))
    ≡ Ok ([], record { next_id = 2; tables = record { name = codes "t"; columns = column (codes "b") k.Text ∷ []; rows = row_of 1 (v.Text (codes "x") ∷ []) ∷ [] } ∷ []; indexes = [] })
column_less = refl

-- ALTER TABLE: the name of an index of the table; 2 before 6
add_taken : statement_plan ix (s.AddColumn (codes "t") (column (codes "ix") k.Int8)) ≡ refused_at 4 (codes "ix")
add_taken = refl

add_other : statement_plan ix (s.AddColumn (codes "t") (column (codes "t") k.Int8)) ≡ Ok no_parts
add_other = refl

drop_no_column : statement_plan ix (s.DropColumn (codes "t") (codes "ix")) ≡ refused_at 2 (codes "ix")
drop_no_column = refl

drop_only : dropped_column (codes "a") (column (codes "a") k.Int8 ∷ []) ≡ refused 6
drop_only = refl

-- the columns of an UPDATE: 2 before 3
set_twice : new_target t_columns (codes "a" ∷ []) (codes "a") ≡ refused_at 3 (codes "a")
set_twice = refl

set_nowhere : new_target t_columns (codes "c" ∷ []) (codes "c") ≡ refused_at 2 (codes "c")
set_nowhere = refl

set_second : new_target t_columns (codes "a" ∷ []) (codes "b") ≡ Ok (record { at = 1; kind = k.Text })
set_second = refl

-- the columns of an INSERT: all where none is named, else those that are, in their order; a column that is nowhere, one that is named twice, and what comes first
all_columns : targets_of t_columns [] ≡ Ok (record { at = 0; kind = k.Int8 } ∷ record { at = 1; kind = k.Text } ∷ [])
all_columns = refl

named_turned : targets_of t_columns (codes "b" ∷ codes "a" ∷ []) ≡ Ok (record { at = 1; kind = k.Text } ∷ record { at = 0; kind = k.Int8 } ∷ [])
named_turned = refl

named_nowhere : targets_of t_columns (codes "b" ∷ codes "c" ∷ []) ≡ refused_at 2 (codes "c")
named_nowhere = refl

named_twice : targets_of t_columns (codes "a" ∷ codes "a" ∷ codes "c" ∷ []) ≡ refused_at 3 (codes "a")
named_twice = refl

-- values for columns: `127` and `128` for an int8, a string and NULL for one, `1` for a string; another number of values
abbrev number : ℕ → Checked
number n = literal_of (record { minus = false; size = n })

abbrev words : Checked
words = of_type (OfKind k.Text) (t.Constant (v.Text (codes "x")))

abbrev nothing : Checked
nothing = of_type OnlyNull (t.Constant v.Null)

greatest_int8 : for_kind k.Int8 (number 127) ≡ Ok (t.Constant (v.Int k.Int8 (pos 127)))
greatest_int8 = refl

past_int8 : for_kind k.Int8 (number 128) ≡ refused 7
past_int8 = refl

text_for_number : for_kind k.Int8 words ≡ refused 5
text_for_number = refl

number_for_text : for_kind k.Text (number 1) ≡ refused 5
number_for_text = refl

null_for_number : for_kind k.Int8 nothing ≡ Ok (t.Constant v.Null)
null_for_number = refl

too_few : counted_for (all_targets 0 t_columns) (number 1 ∷ []) ≡ refused 6
too_few = refl

first_refusal : counted_for (all_targets 0 t_columns) (number 128 ∷ number 1 ∷ []) ≡ refused 7
first_refusal = refl

values_turned : then_with (targets_of t_columns (codes "b" ∷ codes "a" ∷ [])) (λ targets. counted_for targets (words ∷ number 127 ∷ [])) ≡ Ok (words.tree ∷ t.Constant (v.Int k.Int8 (pos 127)) ∷ [])
values_turned = refl

-- rows go in with the next ids, and are shown by rising id
two_rows : rows_added 0 (one ∷ two ∷ []) (with_rows_of 7 []) ≡ Ok (with_rows_of 9 (row_of 7 one ∷ row_of 8 two ∷ []))
two_rows = refl

ids_spent : rows_added 0 (one ∷ two ∷ []) (with_rows_of 9223372036854775807 []) ≡ refused 35
ids_spent = refl

rows_with_ids : set_rows (codes "t") (with_rows_of 9 (row_of 7 one ∷ [])) ≡ (v.Int k.Int64 (pos 7) ∷ one) ∷ []
rows_with_ids = refl

abbrev shown_row : List Value
shown_row = v.Text (codes "x") ∷ v.Null ∷ []

two_lines : heading true (codes "a" ∷ []) ++ lines_of (shown_row ∷ []) ≡ codes "\"a\"" ++ codes "\n" ++ (codes "\"x\"" ++ codes ", " ++ codes "<nil>" ++ codes "\n")
two_lines = refl

-- statements: the text, one commit at the end, and its line behind it; a refusal commits nothing
abbrev made : List Event
made = shows [] ∷ committed true 1 (with_rows_of 1 [])

table_made : (session false true 1 (s.CreateTable false (codes "t") t_columns ∷ []) (opened false empty_db)).events ≡ made
table_made = refl

line_behind : places_of made ≡ 0 ∷ []
line_behind = refl

commit_told : (told_by 0 made ≡ 0) × (told_by 1 made ≡ 1)
commit_told = (refl, refl)

refused_second : session false true 1 (s.CreateTable false (codes "t") t_columns ∷ s.CreateTable false (codes "t") t_columns ∷ []) (opened false empty_db)
    ≡ record { events = shows [] ∷ []; closing = refused_in 2 (record { number = 4; name = codes "t" }) }
refused_second = refl
