-- The tokens that each form of a statement prints, before others.
use Rattle.std.proofs.Common.{◌≡◌, ℕ, Bool, true, false, List, [], ◌∷◌, Option, Some, None, refl, ap, ◌∙◌}
use Rattle.std.proofs.Math.Path.{fun_ext}
use Rattle.std.specs.Prelude.{map, codes}
use Rattle.ql_lex.specs.declared.marks.Mark.TheVariants as m
use Rattle.ql_lex.specs.declared.words.Word.{Word}
use Rattle.ql_lex.specs.declared.words.Word.TheVariants as w
use Rattle.ql_syntax.specs.declared.statement.Assign.{Assign}
use Rattle.ql_syntax.specs.declared.statement.ColumnDef.{ColumnDef}
use Rattle.ql_syntax.specs.declared.statement.Item.{Item}
use Rattle.ql_syntax.specs.declared.statement.Item.TheVariants as item
use Rattle.ql_syntax.specs.declared.statement.RowSource.{RowSource}
use Rattle.ql_syntax.specs.declared.statement.RowSource.TheVariants as rows
use Rattle.ql_syntax.specs.declared.statement.Statement.{Statement}
use Rattle.ql_syntax.specs.declared.statement.Statement.TheVariants as s
use Rattle.ql_syntax.specs.declared.syntax.Expr.{Expr}
use Rattle.ql_syntax.specs.Ink as ink
use Rattle.ql_syntax.specs.Lexemes.{Lexeme}
use Rattle.ql_syntax.specs.Printing.{Inks, word_of_kind, behind, ink_of_expr}
use Rattle.ql_syntax.specs.StatementPrinting.{ink_of_option, ink_of_if_exists, ink_of_if_not_exists, ink_of_unique, ink_of_rule, ink_of_column, ink_of_item, ink_of_names, ink_of_row, ink_of_rows, ink_of_assign, ink_of_statement}
use Rattle.ql_print.proofs.BackTokens.{mark_token, word_token, small_token, name_token, before, before_both, before_listed, before_bracketed, expr_before, select_before, listed_before, behind_before}

-- IF EXISTS, where it is written, before others
abbrev pub if_exists_before : Bool → List Lexeme → List Lexeme
if_exists_before true rest = word_token w.If ∷ word_token w.Exists ∷ rest
if_exists_before false rest = rest

-- IF NOT EXISTS, where it is written, before others
abbrev pub if_not_exists_before : Bool → List Lexeme → List Lexeme
if_not_exists_before true rest = word_token w.If ∷ word_token w.Not ∷ word_token w.Exists ∷ rest
if_not_exists_before false rest = rest

-- UNIQUE, where it is written, before others
abbrev pub unique_before : Bool → List Lexeme → List Lexeme
unique_before true rest = word_token w.Unique ∷ rest
unique_before false rest = rest

-- NOT NULL or a rule, before others
abbrev pub rule_before : Bool → Option Expr → List Lexeme → List Lexeme
rule_before true rule rest = word_token w.Not ∷ word_token w.Null ∷ rest
rule_before false None rest = rest
rule_before false (Some rule) rest = expr_before rule rest

-- a column of a table, before others
abbrev pub column_before : ColumnDef → List Lexeme → List Lexeme
column_before x rest = name_token x.name ∷ small_token (word_of_kind x.kind) ∷ rule_before x.not_null x.rule (behind_before w.Default x.default rest)

-- what an index orders by, before others
abbrev pub item_before : Item → List Lexeme → List Lexeme
item_before (item.Column column) rest = name_token column ∷ rest
item_before item.Id rest = name_token (codes "id") ∷ mark_token m.Open ∷ mark_token m.Close ∷ rest

-- a name, before others
abbrev pub name_before : List ℕ → List Lexeme → List Lexeme
name_before bytes rest = name_token bytes ∷ rest

-- the names of an INSERT, before others
abbrev pub names_before : List (List ℕ) → List Lexeme → List Lexeme
names_before [] rest = rest
names_before (x ∷ xs) rest = mark_token m.Open ∷ listed_before name_before (x ∷ xs) (mark_token m.Close ∷ rest)

-- a row of an INSERT, before others
abbrev pub row_before : List Expr → List Lexeme → List Lexeme
row_before row rest = mark_token m.Open ∷ listed_before expr_before row (mark_token m.Close ∷ rest)

-- where an INSERT takes its rows from, before others
abbrev pub rows_before : RowSource → List Lexeme → List Lexeme
rows_before (rows.Rows all) rest = word_token w.Values ∷ listed_before row_before all rest
rows_before (rows.Query query) rest = select_before query rest

-- an assignment of an UPDATE, before others
abbrev pub assign_before : Assign → List Lexeme → List Lexeme
assign_before x rest = name_token x.column ∷ mark_token m.Equal ∷ expr_before x.value rest

-- a statement, before others
abbrev pub statement_before : Statement → List Lexeme → List Lexeme
statement_before s.Begin rest = word_token w.Begin ∷ word_token w.Transaction ∷ rest
statement_before s.Commit rest = word_token w.Commit ∷ rest
statement_before s.Rollback rest = word_token w.Rollback ∷ rest
statement_before (s.Query query) rest = select_before query rest
statement_before (s.CreateTable quiet table columns) rest =
    word_token w.Create ∷ word_token w.Table ∷ if_not_exists_before quiet (name_token table ∷ mark_token m.Open ∷ listed_before column_before columns (mark_token m.Close ∷ rest))
statement_before (s.DropTable quiet table) rest = word_token w.Drop ∷ word_token w.Table ∷ if_exists_before quiet (name_token table ∷ rest)
statement_before (s.AddColumn table column) rest = word_token w.Alter ∷ word_token w.Table ∷ name_token table ∷ word_token w.Add ∷ column_before column rest
statement_before (s.DropColumn table column) rest =
    word_token w.Alter ∷ word_token w.Table ∷ name_token table ∷ word_token w.Drop ∷ word_token w.Column ∷ name_token column ∷ rest
statement_before (s.CreateIndex unique quiet index table it) rest =
    word_token w.Create ∷ unique_before unique (word_token w.Index ∷ if_not_exists_before quiet
    (name_token index ∷ word_token w.On ∷ name_token table ∷ mark_token m.Open ∷ item_before it (mark_token m.Close ∷ rest)))
statement_before (s.DropIndex quiet index) rest = word_token w.Drop ∷ word_token w.Index ∷ if_exists_before quiet (name_token index ∷ rest)
statement_before (s.Insert table columns from) rest = word_token w.Insert ∷ word_token w.Into ∷ name_token table ∷ names_before columns (rows_before from rest)
statement_before (s.Update table sets filter) rest =
    word_token w.Update ∷ name_token table ∷ word_token w.Set ∷ listed_before assign_before sets (behind_before w.Where filter rest)
statement_before (s.Delete table filter) rest = word_token w.Delete ∷ word_token w.From ∷ name_token table ∷ behind_before w.Where filter rest
statement_before (s.Truncate table) rest = word_token w.Truncate ∷ word_token w.Table ∷ name_token table ∷ rest

if_exists_is : (quiet : Bool) (rest : List Lexeme) → before (ink_of_if_exists quiet) rest ≡ if_exists_before quiet rest
if_exists_is true rest = refl
if_exists_is false rest = refl

if_not_exists_is : (quiet : Bool) (rest : List Lexeme) → before (ink_of_if_not_exists quiet) rest ≡ if_not_exists_before quiet rest
if_not_exists_is true rest = refl
if_not_exists_is false rest = refl

unique_is : (unique : Bool) (rest : List Lexeme) → before (ink_of_unique unique) rest ≡ unique_before unique rest
unique_is true rest = refl
unique_is false rest = refl

option_is : (word : Word) (part : Option Expr) (rest : List Lexeme) → before (behind word (ink_of_option part)) rest ≡ behind_before word part rest
unfolding expr_before
option_is word None rest = refl
option_is word (Some part) rest = refl

rule_is : (not_null : Bool) (rule : Option Expr) (rest : List Lexeme) → before (ink_of_rule not_null rule) rest ≡ rule_before not_null rule rest
unfolding expr_before
rule_is true rule rest = refl
rule_is false None rest = refl
rule_is false (Some rule) rest = refl

pub column_is : (x : ColumnDef) (rest : List Lexeme) → before (ink_of_column x) rest ≡ column_before x rest
column_is x rest = ap (λ ts. name_token x.name ∷ small_token (word_of_kind x.kind) ∷ ts)
    (before_both (ink_of_rule x.not_null x.rule) _ rest ∙ rule_is x.not_null x.rule _ ∙ ap (rule_before x.not_null x.rule) (option_is w.Default x.default rest))

pub item_is : (x : Item) (rest : List Lexeme) → before (ink_of_item x) rest ≡ item_before x rest
item_is (item.Column column) rest = refl
item_is item.Id rest = refl

-- A list, where each member prints what is said.
listed_is : {A : Type 0} (f : A → Inks) (print : A → List Lexeme → List Lexeme) → ((x : A) (rest : List Lexeme) → before (f x) rest ≡ print x rest) →
    (xs : List A) (rest : List Lexeme) → before (ink.listed (map f xs)) rest ≡ listed_before print xs rest
listed_is f print e xs rest = rw (← fun_ext (λ x. fun_ext (e x))) (before_listed f xs rest)

names_is : (names : List (List ℕ)) (rest : List Lexeme) → before (ink_of_names names) rest ≡ names_before names rest
names_is [] rest = refl
names_is (x ∷ xs) rest = before_bracketed (ink.listed (map (λ (x : List ℕ). ink.name x ∷ []) (x ∷ xs))) rest ∙ ap (λ ts. mark_token m.Open ∷ ts) (before_listed (λ (x : List ℕ). ink.name x ∷ []) (x ∷ xs) _)

row_is : (row : List Expr) (rest : List Lexeme) → before (ink_of_row row) rest ≡ row_before row rest
unfolding expr_before
row_is row rest = before_bracketed (ink.listed (map ink_of_expr row)) rest ∙ ap (λ ts. mark_token m.Open ∷ ts) (before_listed ink_of_expr row _)

rows_is : (x : RowSource) (rest : List Lexeme) → before (ink_of_rows x) rest ≡ rows_before x rest
unfolding select_before
rows_is (rows.Rows all) rest = ap (λ ts. word_token w.Values ∷ ts) (listed_is ink_of_row row_before row_is all rest)
rows_is (rows.Query query) rest = refl

assign_is : (x : Assign) (rest : List Lexeme) → before (ink_of_assign x) rest ≡ assign_before x rest
unfolding expr_before
assign_is x rest = refl

-- a statement
pub statement_is : (x : Statement) (rest : List Lexeme) → before (ink_of_statement x) rest ≡ statement_before x rest
unfolding select_before
statement_is s.Begin rest = refl
statement_is s.Commit rest = refl
statement_is s.Rollback rest = refl
statement_is (s.Query query) rest = refl
statement_is (s.CreateTable quiet table columns) rest = ap (λ ts. word_token w.Create ∷ word_token w.Table ∷ ts)
    (before_both (ink_of_if_not_exists quiet) _ rest ∙ if_not_exists_is quiet _ ∙ ap (λ ts. if_not_exists_before quiet (name_token table ∷ ts))
    (before_bracketed (ink.listed (map ink_of_column columns)) rest ∙ ap (λ ts. mark_token m.Open ∷ ts) (listed_is ink_of_column column_before column_is columns _)))
statement_is (s.DropTable quiet table) rest = ap (λ ts. word_token w.Drop ∷ word_token w.Table ∷ ts) (before_both (ink_of_if_exists quiet) _ rest ∙ if_exists_is quiet _)
statement_is (s.AddColumn table column) rest = ap (λ ts. word_token w.Alter ∷ word_token w.Table ∷ name_token table ∷ word_token w.Add ∷ ts) (column_is column rest)
statement_is (s.DropColumn table column) rest = refl
statement_is (s.CreateIndex unique quiet index table it) rest = ap (λ ts. word_token w.Create ∷ ts)
    (before_both (ink_of_unique unique) _ rest ∙ unique_is unique _ ∙ ap (λ ts. unique_before unique (word_token w.Index ∷ ts))
    (before_both (ink_of_if_not_exists quiet) _ rest ∙ if_not_exists_is quiet _ ∙ ap (λ ts. if_not_exists_before quiet (name_token index ∷ word_token w.On ∷ name_token table ∷ ts))
    (before_bracketed (ink_of_item it) rest ∙ ap (λ ts. mark_token m.Open ∷ ts) (item_is it _))))
statement_is (s.DropIndex quiet index) rest = ap (λ ts. word_token w.Drop ∷ word_token w.Index ∷ ts) (before_both (ink_of_if_exists quiet) _ rest ∙ if_exists_is quiet _)
statement_is (s.Insert table columns from) rest = ap (λ ts. word_token w.Insert ∷ word_token w.Into ∷ name_token table ∷ ts)
    (before_both (ink_of_names columns) _ rest ∙ names_is columns _ ∙ ap (names_before columns) (rows_is from rest))
statement_is (s.Update table sets filter) rest = ap (λ ts. word_token w.Update ∷ name_token table ∷ word_token w.Set ∷ ts)
    (before_both (ink.listed (map ink_of_assign sets)) _ rest ∙ listed_is ink_of_assign assign_before assign_is sets _ ∙ ap (listed_before assign_before sets) (option_is w.Where filter rest))
statement_is (s.Delete table filter) rest = ap (λ ts. word_token w.Delete ∷ word_token w.From ∷ name_token table ∷ ts) (option_is w.Where filter rest)
statement_is (s.Truncate table) rest = refl
