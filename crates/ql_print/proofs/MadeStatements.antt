-- A statement that is put together from parts that were read is read back.
use Rattle.std.proofs.Common.{◌≡◌, ℕ, Bool, false, List, [], ◌∷◌, map, refl, sym, subst}
use Rattle.std.specs.List.{AllByRecursion}
use Rattle.std.proofs.lemmas.List.Elements.{recursion_from_All}
use Rattle.ql_lex.specs.Tokens.{IsName}
use Rattle.ql_lex.specs.declared.marks.Mark.TheVariants as m
use Rattle.ql_syntax.specs.declared.statement.ColumnDef.{ColumnDef}
use Rattle.ql_syntax.specs.declared.statement.Item.{Item}
use Rattle.ql_syntax.specs.declared.statement.Statement.{Statement}
use Rattle.ql_syntax.specs.declared.statement.Statement.TheVariants as s
use Rattle.ql_syntax.specs.Ink.{text_of}
use Rattle.ql_syntax.specs.Lexemes.{Lexeme, sees, is_open}
use Rattle.ql_syntax.specs.ReadsBack.{plain_column, IsReadBack}
use Rattle.ql_syntax.specs.Rules.{item_rule, the, column}
use Rattle.ql_syntax.specs.Scripts.{limit}
use Rattle.ql_syntax.specs.StatementPrinting.{ink_of_column, ink_of_statement}
use Rattle.ql_syntax.specs.Statements.{column_of, columns_of}
use Rattle.ql_syntax.specs.StoredParts.{inner_limit, inner_item_of, WasRead, MadeReadBack}
use Rattle.ql_print.proofs.Alone.{spelled_here, known}
use Rattle.ql_print.proofs.BackColumns.{after_column, back_column_def}
use Rattle.ql_print.proofs.BackLists.{BackItem, BackMore, no_more, one_more, listed}
use Rattle.ql_print.proofs.BackParts.{Avoids}
use Rattle.ql_print.proofs.BackScripts.{is_again, is_read_back}
use Rattle.ql_print.proofs.BackStatementForms.{column_before}
use Rattle.ql_print.proofs.BackStatements.{BackStatement, BackInnerItem, back_inner_item, item_enclosed, table_created, column_added, index_created}
use Rattle.ql_print.proofs.BackTokens.{mark_token}
use Rattle.ql_print.proofs.LexedInk.{IsReadAs}
use Rattle.ql_print.proofs.SoundForms.{IsNamedItem, create_table_sound, add_column_sound, create_index_sound}
use Rattle.ql_print.proofs.SoundInk.{IsSound, AreSound, none, one}
use Rattle.ql_print.proofs.SoundStatements.{column_sound_of, inner_item_there, lexed_again}

-- what prints soundly, and is read from its tokens, is read back
is_back : (x : Statement) → IsSound (ink_of_statement x) → BackStatement limit x → IsReadBack x
is_back x sound back =
    let l : IsReadAs (text_of (ink_of_statement x)) (text_of (ink_of_statement x)) (ink_of_statement x) = lexed_again (ink_of_statement x) sound in
    is_read_back x (is_again x back) l.tokens l.lexes l.same

-- columns that were read

abbrev ColumnRead : ℕ → ColumnDef → Type 0
ColumnRead room x = WasRead (the column) column_of room x

column_sound : {n : ℕ} {x : ColumnDef} → ColumnRead n x → IsSound (ink_of_column x)
column_sound h =
    let P : ColumnDef → Type 0 = λ c. IsSound (ink_of_column c) in
    subst P (sym h.tree) (column_sound_of (known h.reads (spelled_here h)).fitting)

columns_sound : (n : ℕ) (xs : List ColumnDef) → AllByRecursion (ColumnRead n) xs → AreSound (map ink_of_column xs)
columns_sound n [] h = none
columns_sound n (x ∷ xs) h = one (column_sound h.0) (columns_sound n xs h.1)

abbrev ColumnBack : ℕ → ColumnDef → List Lexeme → Type 0
ColumnBack n x rest = BackItem n (the column) column_before column_of plain_column x rest

column_back : {n : ℕ} {x : ColumnDef} → ColumnRead n x → (rest : List Lexeme) → Avoids after_column rest → ColumnBack n x rest
column_back {n = n} h rest after =
    let P : ColumnDef → Type 0 = λ c. ColumnBack n c rest in
    subst P (sym h.tree) (back_column_def h.here h.rest h.parse h.reads (known h.reads (spelled_here h)).kept rest after)

more_columns : (n : ℕ) (xs : List ColumnDef) → AllByRecursion (ColumnRead n) xs → BackMore n (the column) column_before columns_of plain_column after_column xs (mark_token m.Close ∷ [])
more_columns n [] h = no_more refl (record { none = refl })
more_columns n (x ∷ xs) h =
    let more = more_columns n xs h.1 in
    one_more (λ a b. refl) (λ ts. record { none = refl }) (column_back h.0 _ more.after) more

table_made : (quiet : Bool) (table : List ℕ) (x : ColumnDef) (xs : List ColumnDef) → IsName table → AllByRecursion (ColumnRead inner_limit) (x ∷ xs) → IsReadBack (s.CreateTable quiet table (x ∷ xs))
table_made quiet table x xs n h =
    let more = more_columns inner_limit xs h.1 in
    is_back (s.CreateTable quiet table (x ∷ xs)) (create_table_sound quiet table (x ∷ xs) n (columns_sound inner_limit (x ∷ xs) h)) (table_created quiet table (listed (column_back h.0 _ more.after) more))

column_made : (table : List ℕ) (x : ColumnDef) → IsName table → ColumnRead limit x → IsReadBack (s.AddColumn table x)
column_made table x n h = is_back (s.AddColumn table x) (add_column_sound table x n (column_sound h)) (column_added table (column_back h [] (record { none = refl })))

item_named : {n : ℕ} {x : Item} → WasRead item_rule inner_item_of n x → IsNamedItem x
item_named h = subst IsNamedItem (sym h.tree) (inner_item_there (known h.reads (spelled_here h)).fitting)

item_back : {n : ℕ} {x : Item} → WasRead item_rule inner_item_of n x → (rest : List Lexeme) → sees is_open rest ≡ false → BackInnerItem n x rest
item_back {n = n} h rest after =
    let P : Item → Type 0 = λ x. BackInnerItem n x rest in
    subst P (sym h.tree) (back_inner_item h.reads rest after)

index_made : (unique quiet : Bool) (index table : List ℕ) (x : Item) → IsName index → IsName table → WasRead item_rule inner_item_of inner_limit x → IsReadBack (s.CreateIndex unique quiet index table x)
index_made unique quiet index table x i t h =
    is_back (s.CreateIndex unique quiet index table x) (create_index_sound unique quiet index table x i t (item_named h))
    (index_created unique quiet index table (item_enclosed (item_back h (mark_token m.Close ∷ []) refl)))

pub made_read_back : MadeReadBack
made_read_back = record {
  tables = λ quiet table x xs n h. table_made quiet table x xs n (recursion_from_All (ColumnRead inner_limit) (x ∷ xs) h);
  columns = column_made;
  indexes = index_made;
}
