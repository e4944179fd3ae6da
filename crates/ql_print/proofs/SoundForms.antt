-- Each form of a printed statement is sound where its parts are.
use Rattle.std.proofs.Common.{◌≡◌, ℕ, Bool, true, false, List, [], ◌∷◌, ◌++◌, Option, Some, None, map, refl}
use Rattle.std.specs.Char.{to_ascii_uppercase}
use Rattle.ql_lex.specs.declared.marks.Mark.TheVariants as m
use Rattle.ql_lex.specs.declared.words.Word.{Word}
use Rattle.ql_lex.specs.declared.words.Word.TheVariants as w
use Rattle.ql_lex.specs.Tokens.{IsName}
use Rattle.ql_lex.specs.Words.{word_bytes, IsWord}
use Rattle.ql_value.specs.declared.value.Kind.{Kind}
use Rattle.ql_syntax.specs.declared.statement.Assign.{Assign}
use Rattle.ql_syntax.specs.declared.statement.ColumnDef.{ColumnDef}
use Rattle.ql_syntax.specs.declared.statement.Item.{Item}
use Rattle.ql_syntax.specs.declared.statement.Item.TheVariants as item
use Rattle.ql_syntax.specs.declared.statement.RowSource.{RowSource}
use Rattle.ql_syntax.specs.declared.statement.RowSource.TheVariants as rows
use Rattle.ql_syntax.specs.declared.statement.Statement.TheVariants as s
use Rattle.ql_syntax.specs.declared.syntax.Expr.{Expr}
use Rattle.ql_syntax.specs.declared.syntax.Function.TheVariants as f
use Rattle.ql_syntax.specs.Ink.{space, text_of, mark, keyword, small, name, listed, bracketed}
use Rattle.ql_syntax.specs.Printing.{Inks, behind, word_of_kind, ink_of_expr}
use Rattle.ql_syntax.specs.StatementPrinting.{ink_of_option, ink_of_if_exists, ink_of_if_not_exists, ink_of_unique, ink_of_rule, ink_of_column, ink_of_item, ink_of_names, ink_of_row, ink_of_rows, ink_of_assign, ink_of_statement}
use Rattle.ql_print.proofs.LexedInk.{blank, token}
use Rattle.ql_print.proofs.CutLemmas.{is_spelled_as_word, mark_cut}
use Rattle.ql_print.proofs.SoundInk.{IsSound, IsLater, AreSound, sound_part, empty_sound, later_none, sound_then, later_then, keyword_lexed, name_lexed, bracketed_part, listed_sound}
use Rattle.ql_print.proofs.SoundParts.{behind_later}
use Rattle.ql_print.proofs.SoundSelects.{IsSoundOption, name_sound}
use Rattle.ql_print.proofs.SoundTokens.{kind_lexed, function_name}

-- a keyword and a blank before a part
after_keyword : (word : Word) (x : Inks) → is_spelled_as_word (map to_ascii_uppercase (word_bytes word)) ≡ true → IsWord (map to_ascii_uppercase (word_bytes word)) word
    → IsSound x → IsSound (keyword word ∷ space ∷ x)
after_keyword word x s i h = record { goes = λ tail e l. keyword_lexed word (space ∷ x ++ tail) s i refl (blank (h.goes tail e l)) }

-- a keyword alone
last_keyword : (word : Word) → is_spelled_as_word (map to_ascii_uppercase (word_bytes word)) ≡ true → IsWord (map to_ascii_uppercase (word_bytes word)) word → IsSound (keyword word ∷ [])
last_keyword word s i = record { goes = λ tail e l. keyword_lexed word tail s i e l }

-- a name and a blank before a part
after_name : (bytes : List ℕ) (x : Inks) → IsName bytes → IsSound x → IsSound (name bytes ∷ space ∷ x)
after_name bytes x n h = record { goes = λ tail e l. name_lexed bytes (space ∷ x ++ tail) n refl (blank (h.goes tail e l)) }

-- a name before a part that no word goes on with
name_then : (bytes : List ℕ) (x : Inks) → IsName bytes → IsLater x → IsSound (name bytes ∷ x)
name_then bytes x n h = sound_then (name bytes ∷ []) x (name_sound bytes n) h

-- a blank before a part
after_blank : (x : Inks) → IsSound x → IsLater (space ∷ x)
after_blank x h = record { goes = λ tail e l. blank (h.goes tail e l); apart = λ tail e. refl }

if_exists : (quiet : Bool) (x : Inks) → IsSound x → IsSound (ink_of_if_exists quiet ++ x)
if_exists true x h = after_keyword w.If (keyword w.Exists ∷ space ∷ x) refl refl (after_keyword w.Exists x refl refl h)
if_exists false x h = h

if_not_exists : (quiet : Bool) (x : Inks) → IsSound x → IsSound (ink_of_if_not_exists quiet ++ x)
if_not_exists true x h =
    after_keyword w.If (keyword w.Not ∷ space ∷ keyword w.Exists ∷ space ∷ x) refl refl (after_keyword w.Not (keyword w.Exists ∷ space ∷ x) refl refl (after_keyword w.Exists x refl refl h))
if_not_exists false x h = h

unique : (is : Bool) (x : Inks) → IsSound x → IsSound (ink_of_unique is ++ x)
unique true x h = after_keyword w.Unique x refl refl h
unique false x h = h

default_later : (x : Option Expr) → IsSoundOption x → IsLater (behind w.Default (ink_of_option x))
default_later None h = later_none
default_later (Some x) h = behind_later w.Default (ink_of_expr x) refl refl h

where_later : (x : Option Expr) → IsSoundOption x → IsLater (behind w.Where (ink_of_option x))
where_later None h = later_none
where_later (Some x) h = behind_later w.Where (ink_of_expr x) refl refl h

-- NOT NULL, or a rule, or nothing
pub rule_later : (not_null : Bool) (rule : Option Expr) → IsSoundOption rule → IsLater (ink_of_rule not_null rule)
rule_later true rule h = after_blank (keyword w.Not ∷ space ∷ keyword w.Null ∷ []) (after_keyword w.Not (keyword w.Null ∷ []) refl refl (last_keyword w.Null refl refl))
rule_later false None h = later_none
rule_later false (Some rule) h = after_blank (ink_of_expr rule) h

-- a kind before a part that no word goes on with
kind_then : (kind : Kind) (x : Inks) → IsLater x → IsSound (small (word_of_kind kind) ∷ x)
kind_then kind x h = record { goes = λ tail e l. kind_lexed kind (x ++ tail) (h.apart tail e) (h.goes tail e l) }

-- a column of a table
pub column_sound : (x : ColumnDef) → IsName x.name → IsSoundOption x.rule → IsSoundOption x.default → IsSound (ink_of_column x)
column_sound x n r d =
    let at_rule = ink_of_rule x.not_null x.rule in
    let at_default = behind w.Default (ink_of_option x.default) in
    after_name x.name (small (word_of_kind x.kind) ∷ at_rule ++ at_default) n
    (kind_then x.kind (at_rule ++ at_default) (later_then at_rule at_default (rule_later x.not_null x.rule r) (default_later x.default d)))

-- CREATE TABLE
pub create_table_sound : (quiet : Bool) (table : List ℕ) (columns : List ColumnDef) → IsName table → AreSound (map ink_of_column columns) → IsSound (ink_of_statement (s.CreateTable quiet table columns))
create_table_sound quiet table columns n h =
    let inner = bracketed (listed (map ink_of_column columns)) in
    let named = name table ∷ space ∷ inner in
    after_keyword w.Create (keyword w.Table ∷ space ∷ ink_of_if_not_exists quiet ++ named) refl refl
    (after_keyword w.Table (ink_of_if_not_exists quiet ++ named) refl refl
    (if_not_exists quiet named (after_name table inner n (sound_part (bracketed_part (listed (map ink_of_column columns)) (listed_sound (map ink_of_column columns) h))))))

-- DROP TABLE
pub drop_table_sound : (quiet : Bool) (table : List ℕ) → IsName table → IsSound (ink_of_statement (s.DropTable quiet table))
drop_table_sound quiet table n =
    after_keyword w.Drop (keyword w.Table ∷ space ∷ ink_of_if_exists quiet ++ (name table ∷ [])) refl refl
    (after_keyword w.Table (ink_of_if_exists quiet ++ (name table ∷ [])) refl refl (if_exists quiet (name table ∷ []) (name_sound table n)))

-- ALTER TABLE .. ADD
pub add_column_sound : (table : List ℕ) (x : ColumnDef) → IsName table → IsSound (ink_of_column x) → IsSound (ink_of_statement (s.AddColumn table x))
add_column_sound table x n h =
    after_keyword w.Alter (keyword w.Table ∷ space ∷ name table ∷ space ∷ keyword w.Add ∷ space ∷ ink_of_column x) refl refl
    (after_keyword w.Table (name table ∷ space ∷ keyword w.Add ∷ space ∷ ink_of_column x) refl refl
    (after_name table (keyword w.Add ∷ space ∷ ink_of_column x) n (after_keyword w.Add (ink_of_column x) refl refl h)))

-- ALTER TABLE .. DROP COLUMN
pub drop_column_sound : (table column : List ℕ) → IsName table → IsName column → IsSound (ink_of_statement (s.DropColumn table column))
drop_column_sound table column n c =
    after_keyword w.Alter (keyword w.Table ∷ space ∷ name table ∷ space ∷ keyword w.Drop ∷ space ∷ keyword w.Column ∷ space ∷ name column ∷ []) refl refl
    (after_keyword w.Table (name table ∷ space ∷ keyword w.Drop ∷ space ∷ keyword w.Column ∷ space ∷ name column ∷ []) refl refl
    (after_name table (keyword w.Drop ∷ space ∷ keyword w.Column ∷ space ∷ name column ∷ []) n
    (after_keyword w.Drop (keyword w.Column ∷ space ∷ name column ∷ []) refl refl (after_keyword w.Column (name column ∷ []) refl refl (name_sound column c)))))

-- an index orders by a name or by the id
abbrev pub IsNamedItem : Item → Type 0
IsNamedItem (item.Column column) = IsName column
IsNamedItem item.Id = Unit {0}

-- what an index orders by
pub item_sound : (it : Item) → IsNamedItem it → IsSound (ink_of_item it)
item_sound (item.Column column) n = name_sound column n
item_sound item.Id n = record {
  goes = λ tail e l. name_lexed _ (bracketed [] ++ tail) (function_name f.Id) refl ((bracketed_part [] empty_sound).goes tail e l);
}

-- CREATE INDEX
pub create_index_sound : (is quiet : Bool) (index table : List ℕ) (it : Item) → IsName index → IsName table → IsNamedItem it → IsSound (ink_of_statement (s.CreateIndex is quiet index table it))
create_index_sound is quiet index table it i t n =
    let inner = bracketed (ink_of_item it) in
    let on = name index ∷ space ∷ keyword w.On ∷ space ∷ name table ∷ space ∷ inner in
    after_keyword w.Create (ink_of_unique is ++ (keyword w.Index ∷ space ∷ ink_of_if_not_exists quiet ++ on)) refl refl
    (unique is (keyword w.Index ∷ space ∷ ink_of_if_not_exists quiet ++ on)
    (after_keyword w.Index (ink_of_if_not_exists quiet ++ on) refl refl
    (if_not_exists quiet on
    (after_name index (keyword w.On ∷ space ∷ name table ∷ space ∷ inner) i
    (after_keyword w.On (name table ∷ space ∷ inner) refl refl (after_name table inner t (sound_part (bracketed_part (ink_of_item it) (item_sound it n)))))))))

-- DROP INDEX
pub drop_index_sound : (quiet : Bool) (index : List ℕ) → IsName index → IsSound (ink_of_statement (s.DropIndex quiet index))
drop_index_sound quiet index n =
    after_keyword w.Drop (keyword w.Index ∷ space ∷ ink_of_if_exists quiet ++ (name index ∷ [])) refl refl
    (after_keyword w.Index (ink_of_if_exists quiet ++ (name index ∷ [])) refl refl (if_exists quiet (name index ∷ []) (name_sound index n)))

-- the names of an INSERT
abbrev pub name_inks : List (List ℕ) → List Inks
name_inks names = map (λ (x : List ℕ). name x ∷ []) names

names_later : (names : List (List ℕ)) → AreSound (name_inks names) → IsLater (ink_of_names names)
names_later [] h = later_none
names_later (x ∷ xs) h = after_blank (bracketed (listed (name_inks (x ∷ xs)))) (sound_part (bracketed_part (listed (name_inks (x ∷ xs))) (listed_sound (name_inks (x ∷ xs)) h)))

-- a row of an INSERT
pub row_sound : (row : List Expr) → AreSound (map ink_of_expr row) → IsSound (ink_of_row row)
row_sound row h = sound_part (bracketed_part (listed (map ink_of_expr row)) (listed_sound (map ink_of_expr row) h))

-- where an INSERT takes its rows from
pub rows_sound : (all : List (List Expr)) → AreSound (map ink_of_row all) → IsSound (ink_of_rows (rows.Rows all))
rows_sound all h = after_keyword w.Values (listed (map ink_of_row all)) refl refl (listed_sound (map ink_of_row all) h)

-- INSERT
pub insert_sound : (table : List ℕ) (columns : List (List ℕ)) (from : RowSource) → IsName table → AreSound (name_inks columns) → IsSound (ink_of_rows from) → IsSound (ink_of_statement (s.Insert table columns from))
insert_sound table columns from n c h =
    let behind = ink_of_names columns ++ (space ∷ ink_of_rows from) in
    after_keyword w.Insert (keyword w.Into ∷ space ∷ name table ∷ behind) refl refl
    (after_keyword w.Into (name table ∷ behind) refl refl
    (name_then table behind n (later_then (ink_of_names columns) (space ∷ ink_of_rows from) (names_later columns c) (after_blank (ink_of_rows from) h))))

-- an assignment of an UPDATE
pub assign_sound : (x : Assign) → IsName x.column → IsSound (ink_of_expr x.value) → IsSound (ink_of_assign x)
assign_sound x n h =
    after_name x.column (mark m.Equal ∷ space ∷ ink_of_expr x.value) n
    (record { goes = λ tail e l. token (mark_cut m.Equal (text_of (ink_of_expr x.value ++ tail))) (blank (h.goes tail e l)) })

-- UPDATE
pub update_sound : (table : List ℕ) (sets : List Assign) (filter : Option Expr) → IsName table → AreSound (map ink_of_assign sets) → IsSoundOption filter → IsSound (ink_of_statement (s.Update table sets filter))
update_sound table sets filter n h k =
    let all = listed (map ink_of_assign sets) in
    let at_filter = behind w.Where (ink_of_option filter) in
    after_keyword w.Update (name table ∷ space ∷ keyword w.Set ∷ space ∷ all ++ at_filter) refl refl
    (after_name table (keyword w.Set ∷ space ∷ all ++ at_filter) n
    (after_keyword w.Set (all ++ at_filter) refl refl (sound_then all at_filter (listed_sound (map ink_of_assign sets) h) (where_later filter k))))

-- DELETE
pub delete_sound : (table : List ℕ) (filter : Option Expr) → IsName table → IsSoundOption filter → IsSound (ink_of_statement (s.Delete table filter))
delete_sound table filter n k =
    let at_filter = behind w.Where (ink_of_option filter) in
    after_keyword w.Delete (keyword w.From ∷ space ∷ name table ∷ at_filter) refl refl
    (after_keyword w.From (name table ∷ at_filter) refl refl (name_then table at_filter n (where_later filter k)))

-- TRUNCATE TABLE
pub truncate_sound : (table : List ℕ) → IsName table → IsSound (ink_of_statement (s.Truncate table))
truncate_sound table n =
    after_keyword w.Truncate (keyword w.Table ∷ space ∷ name table ∷ []) refl refl (after_keyword w.Table (name table ∷ []) refl refl (name_sound table n))

-- BEGIN TRANSACTION, COMMIT and ROLLBACK
pub begin_sound : IsSound (ink_of_statement s.Begin)
begin_sound = after_keyword w.Begin (keyword w.Transaction ∷ []) refl refl (last_keyword w.Transaction refl refl)

pub commit_sound : IsSound (ink_of_statement s.Commit)
commit_sound = last_keyword w.Commit refl refl

pub rollback_sound : IsSound (ink_of_statement s.Rollback)
rollback_sound = last_keyword w.Rollback refl refl
