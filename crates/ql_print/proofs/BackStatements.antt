-- Every statement that was read is printed, and read again as the same.
use Rattle.std.proofs.Common.{◌≡◌, ℕ, suc, Bool, true, false, List, [], ◌∷◌, Option, refl, ap}
use Rattle.std.specs.Prelude.{map, codes}
use Rattle.ql_lex.specs.declared.marks.Mark.TheVariants as m
use Rattle.ql_lex.specs.declared.words.Word.TheVariants as w
use Rattle.ql_syntax.specs.declared.statement.Assign.{Assign}
use Rattle.ql_syntax.specs.declared.statement.ColumnDef.{ColumnDef}
use Rattle.ql_syntax.specs.declared.statement.Item.{Item}
use Rattle.ql_syntax.specs.declared.statement.RowSource.{RowSource}
use Rattle.ql_syntax.specs.declared.statement.RowSource.TheVariants as rows
use Rattle.ql_syntax.specs.declared.statement.Statement.{Statement}
use Rattle.ql_syntax.specs.declared.statement.Statement.TheVariants as s
use Rattle.ql_syntax.specs.declared.syntax.Expr.{Expr}
use Rattle.ql_syntax.specs.declared.syntax.Select.{Select}
use Rattle.ql_syntax.specs.Lexemes.{Lexeme, is_word, is_comma, is_open, is_id, sees}
use Rattle.ql_syntax.specs.Rules.{item_rule, Rule, before, nothing, ◌then◌, ◌or◌, maybe, list, bracketed, if_exists, if_not_exists, mark, word, name, the, expr, select, statement, creation, removal, alteration, insertion, update, deletion, column}
use Rattle.ql_syntax.specs.Readings.{Parse, Reads, leaf, pair, left, right, absent, present, group, node}
use Rattle.ql_syntax.specs.Readings as r
use Rattle.ql_syntax.specs.StoredParts.{inner_item_of}
use Rattle.ql_syntax.specs.Trees.{is_present}
use Rattle.ql_syntax.specs.Statements.{source_of, column_of, columns_of, row_of, rows_of, assign_of, assigns_of, item_of, creation_of, removal_of, alteration_of, insertion_of, update_of, deletion_of, after_removal, statement_of}
use Rattle.ql_syntax.specs.ReadsBack.{plain_expr, plain_column, plain_assign, plain_rows, plain_statement}
use Rattle.ql_print.proofs.BackTokens.{mark_token, word_token, name_token, behind_before}
use Rattle.ql_print.proofs.BackStatementForms.{if_exists_before, if_not_exists_before, unique_before, column_before, item_before, row_before, rows_before, assign_before, statement_before}
use Rattle.ql_print.proofs.BackParts.{Kept, Avoids, after_expr}
use Rattle.ql_print.proofs.BackLists.{BackItem, BackList}
use Rattle.ql_print.proofs.BackPrimary.{and_false}
use Rattle.ql_print.proofs.BackTests.{BackSelect}
use Rattle.ql_print.proofs.BackSelectParts.{BackOption, option_after}
use Rattle.ql_print.proofs.BackSelects.{back_filter}
use Rattle.ql_print.proofs.Back.{inner_again, selects_again}
use Rattle.ql_print.proofs.BackColumns.{option_same, back_column_def, back_columns, BackNames, back_names, back_rows, back_assigns}

-- a printed statement is read as that statement
pub record BackStatement (n : ℕ) (x : Statement) : Type 0 where
  pub parse : Parse
  pub reads : Reads n (the statement) (statement_before x []) parse []
  pub tree : statement_of parse ≡ plain_statement x

-- how IF NOT EXISTS is read
abbrev not_exists_parse : Bool → Parse
not_exists_parse true = present (pair (leaf (word_token w.If)) (pair (leaf (word_token w.Not)) (leaf (word_token w.Exists))))
not_exists_parse false = absent

not_exists_reads : {n : ℕ} (quiet : Bool) (ts : List Lexeme) → sees (is_word w.If) ts ≡ false → Reads n (maybe if_not_exists) (if_not_exists_before quiet ts) (not_exists_parse quiet) ts
not_exists_reads true ts f = r.entered refl (r.both (r.takes refl) (r.both (r.takes refl) (r.takes refl)))
not_exists_reads false ts f = r.left_out f

not_exists_present : (quiet : Bool) → is_present (not_exists_parse quiet) ≡ quiet
not_exists_present true = refl
not_exists_present false = refl

-- how IF EXISTS is read
abbrev exists_parse : Bool → Parse
exists_parse true = present (pair (leaf (word_token w.If)) (leaf (word_token w.Exists)))
exists_parse false = absent

exists_reads : {n : ℕ} (quiet : Bool) (ts : List Lexeme) → sees (is_word w.If) ts ≡ false → Reads n (maybe if_exists) (if_exists_before quiet ts) (exists_parse quiet) ts
exists_reads true ts f = r.entered refl (r.both (r.takes refl) (r.takes refl))
exists_reads false ts f = r.left_out f

exists_present : (quiet : Bool) → is_present (exists_parse quiet) ≡ quiet
exists_present true = refl
exists_present false = refl

-- how UNIQUE is read
abbrev unique_parse : Bool → Parse
unique_parse true = present (leaf (word_token w.Unique))
unique_parse false = absent

unique_present : (unique : Bool) → is_present (unique_parse unique) ≡ unique
unique_present true = refl
unique_present false = refl

-- CREATE INDEX behind UNIQUE
abbrev index_rule : Rule
index_rule = word w.Index then maybe if_not_exists then name then word w.On then name then bracketed (before is_id is_open then bracketed nothing or name)

index_reads : {n : ℕ} {ts rest : List Lexeme} {a : Parse} (unique : Bool) → Reads n index_rule (word_token w.Index ∷ ts) a rest →
    Reads n (the creation) (word_token w.Create ∷ unique_before unique (word_token w.Index ∷ ts)) (node creation (pair (leaf (word_token w.Create)) (right (pair (unique_parse unique) a)))) rest
index_reads true h = r.by_rule (r.both (r.takes refl) (r.second refl refl (r.both (r.entered refl (r.takes refl)) h)))
index_reads false h = r.by_rule (r.both (r.takes refl) (r.second refl refl (r.both (r.left_out refl) h)))

creation_reads : {n : ℕ} {ts rest : List Lexeme} {a : Parse} → Reads n (the creation) (word_token w.Create ∷ ts) a rest →
    Reads n (the statement) (word_token w.Create ∷ ts) (node statement (right (right (right (right (left a)))))) rest
creation_reads h = r.by_rule (r.second refl refl (r.second refl refl (r.second refl refl (r.second refl refl (r.first refl h)))))

-- what an index orders by, in the brackets of CREATE INDEX
pub record BackInnerItem (n : ℕ) (it : Item) (rest : List Lexeme) : Type 0 where
  pub parse : Parse
  pub reads : Reads n item_rule (item_before it rest) parse rest
  pub tree : inner_item_of parse ≡ it

pub back_inner_item : {n : ℕ} {ts r : List Lexeme} {a : Parse} → Reads n item_rule ts a r → (rest : List Lexeme) → sees is_open rest ≡ false → BackInnerItem n (inner_item_of a) rest
back_inner_item (r.first e (r.both s (r.enclosed o h c))) rest after = record {
  parse = left (pair (leaf (name_token (codes "id"))) (group absent));
  reads = r.first refl (r.both (r.takes_before refl refl) (r.enclosed refl r.takes_nothing refl));
  tree = refl;
}
back_inner_item (r.second e d (r.takes {t = t} s)) rest after = record {
  parse = right (leaf (name_token t.text));
  reads = r.second (and_false (is_id (name_token t.text)) _ after) refl (r.takes refl);
  tree = refl;
}

-- the same with its brackets
pub record BackIndexItem (n : ℕ) (it : Item) (rest : List Lexeme) : Type 0 where
  pub parse : Parse
  pub reads : Reads n (bracketed item_rule) (mark_token m.Open ∷ item_before it (mark_token m.Close ∷ rest)) parse rest
  pub tree : item_of parse ≡ it

pub item_enclosed : {n : ℕ} {it : Item} {rest : List Lexeme} → BackInnerItem n it (mark_token m.Close ∷ rest) → BackIndexItem (suc n) it rest
item_enclosed b = record { parse = group b.parse; reads = r.enclosed refl b.reads refl; tree = b.tree }

back_item : {n : ℕ} {ts r : List Lexeme} {a : Parse} → Reads n (bracketed item_rule) ts a r → (rest : List Lexeme) → BackIndexItem n (item_of a) rest
back_item (r.enclosed o h c) rest = item_enclosed (back_inner_item h (mark_token m.Close ∷ rest) refl)

pub table_created : {n : ℕ} (quiet : Bool) (table : List ℕ) {x : ColumnDef} {xs : List ColumnDef} → BackList n (the column) column_before column_of columns_of plain_column (x ∷ xs) (mark_token m.Close ∷ []) →
    BackStatement (suc n) (s.CreateTable quiet table (x ∷ xs))
table_created quiet table l = record {
  parse = node statement (right (right (right (right (left (node creation (pair (leaf (word_token w.Create)) (left (pair (leaf (word_token w.Table)) (pair (not_exists_parse quiet) (pair (leaf (name_token table)) (group (pair l.first l.more)))))))))))));
  reads = creation_reads (r.by_rule (r.both (r.takes refl) (r.first refl (r.both (r.takes refl) (r.both (not_exists_reads quiet _ refl) (r.both (r.takes refl) (r.enclosed refl l.reads refl)))))));
  tree = rw (not_exists_present quiet) (ap (s.CreateTable quiet table) l.tree);
}

pub index_created : {n : ℕ} (unique quiet : Bool) (index table : List ℕ) {it : Item} → BackIndexItem n it [] → BackStatement n (s.CreateIndex unique quiet index table it)
index_created {n = n} unique quiet index table {it = it} b =
    let behind : List Lexeme = if_not_exists_before quiet (name_token index ∷ word_token w.On ∷ name_token table ∷ mark_token m.Open ∷ item_before it (mark_token m.Close ∷ [])) in
    let reads : Reads n index_rule (word_token w.Index ∷ behind) (pair (leaf (word_token w.Index)) (pair (not_exists_parse quiet) (pair (leaf (name_token index)) (pair (leaf (word_token w.On)) (pair (leaf (name_token table)) b.parse))))) [] =
    r.both (r.takes refl) (r.both (not_exists_reads quiet _ refl) (r.both (r.takes refl) (r.both (r.takes refl) (r.both (r.takes refl) b.reads)))) in
    record {
      parse = node statement (right (right (right (right (left (node creation (pair (leaf (word_token w.Create)) (right (pair (unique_parse unique) (pair (leaf (word_token w.Index)) (pair (not_exists_parse quiet) (pair (leaf (name_token index)) (pair (leaf (word_token w.On)) (pair (leaf (name_token table)) b.parse))))))))))))));
      reads = creation_reads (index_reads unique reads);
      tree = rw (unique_present unique, not_exists_present quiet, b.tree) refl;
    }

back_creation : {n : ℕ} {ts r : List Lexeme} {a : Parse} → Reads n (the creation) ts a r → Kept a → BackStatement n (creation_of a)
back_creation (r.by_rule (r.both i (r.first e (r.both j (r.both q (r.both (r.takes {t = t} s) (r.enclosed o (r.both h k) c))))))) kept =
    table_created _ t.text (back_columns h k kept.1.1.1.1.0 kept.1.1.1.1.1 (mark_token m.Close ∷ []) (record { none = refl }))
back_creation (r.by_rule (r.both i (r.second e d (r.both u (r.both j (r.both q (r.both (r.takes {t = x} s) (r.both on (r.both (r.takes {t = t} s') h))))))))) kept =
    index_created _ _ x.text t.text (back_item h [])

removal_reads : {n : ℕ} {ts rest : List Lexeme} {a : Parse} → Reads n (the removal) (word_token w.Drop ∷ ts) a rest →
    Reads n (the statement) (word_token w.Drop ∷ ts) (node statement (right (right (right (right (right (left a))))))) rest
removal_reads h = r.by_rule (r.second refl refl (r.second refl refl (r.second refl refl (r.second refl refl (r.second refl refl (r.first refl h))))))

table_dropped : {n : ℕ} (quiet : Bool) (table : List ℕ) → BackStatement n (s.DropTable quiet table)
table_dropped quiet table = record {
  parse = node statement (right (right (right (right (right (left (node removal (pair (leaf (word_token w.Drop)) (left (pair (leaf (word_token w.Table)) (pair (exists_parse quiet) (leaf (name_token table)))))))))))));
  reads = removal_reads (r.by_rule (r.both (r.takes refl) (r.first refl (r.both (r.takes refl) (r.both (exists_reads quiet _ refl) (r.takes refl))))));
  tree = rw (exists_present quiet) refl;
}

index_dropped : {n : ℕ} (quiet : Bool) (index : List ℕ) → BackStatement n (s.DropIndex quiet index)
index_dropped quiet index = record {
  parse = node statement (right (right (right (right (right (left (node removal (pair (leaf (word_token w.Drop)) (right (pair (leaf (word_token w.Index)) (pair (exists_parse quiet) (leaf (name_token index)))))))))))));
  reads = removal_reads (r.by_rule (r.both (r.takes refl) (r.second refl refl (r.both (r.takes refl) (r.both (exists_reads quiet _ refl) (r.takes refl))))));
  tree = rw (exists_present quiet) refl;
}

back_removal : {n : ℕ} {ts r : List Lexeme} {a : Parse} → Reads n (the removal) ts a r → BackStatement n (removal_of a)
back_removal (r.by_rule (r.both i (r.first e (r.both j (r.both q (r.takes {t = t} s)))))) = table_dropped _ t.text
back_removal (r.by_rule (r.both i (r.second e d (r.both j (r.both q (r.takes {t = t} s)))))) = index_dropped _ t.text

alteration_reads : {n : ℕ} {ts rest : List Lexeme} {a : Parse} → Reads n (the alteration) (word_token w.Alter ∷ ts) a rest →
    Reads n (the statement) (word_token w.Alter ∷ ts) (node statement (right (right (right (right (right (right (left a)))))))) rest
alteration_reads h = r.by_rule (r.second refl refl (r.second refl refl (r.second refl refl (r.second refl refl (r.second refl refl (r.second refl refl (r.first refl h)))))))

pub column_added : {n : ℕ} (table : List ℕ) {x : ColumnDef} → BackItem n (the column) column_before column_of plain_column x [] → BackStatement n (s.AddColumn table x)
column_added table b = record {
  parse = node statement (right (right (right (right (right (right (left (node alteration (pair (leaf (word_token w.Alter)) (pair (leaf (word_token w.Table)) (pair (leaf (name_token table)) (left (pair (leaf (word_token w.Add)) b.parse)))))))))))));
  reads = alteration_reads (r.by_rule (r.both (r.takes refl) (r.both (r.takes refl) (r.both (r.takes refl) (r.first refl (r.both (r.takes refl) b.reads))))));
  tree = ap (s.AddColumn table) b.tree;
}

column_dropped : {n : ℕ} (table bytes : List ℕ) → BackStatement n (s.DropColumn table bytes)
column_dropped table bytes = record {
  parse = node statement (right (right (right (right (right (right (left (node alteration (pair (leaf (word_token w.Alter)) (pair (leaf (word_token w.Table)) (pair (leaf (name_token table)) (right (pair (leaf (word_token w.Drop)) (pair (leaf (word_token w.Column)) (leaf (name_token bytes))))))))))))))));
  reads = alteration_reads (r.by_rule (r.both (r.takes refl) (r.both (r.takes refl) (r.both (r.takes refl) (r.second refl refl (r.both (r.takes refl) (r.both (r.takes refl) (r.takes refl))))))));
  tree = refl;
}

back_alteration : {n : ℕ} {ts r : List Lexeme} {a : Parse} → Reads n (the alteration) ts a r → Kept a → BackStatement n (alteration_of a)
back_alteration (r.by_rule (r.both i (r.both j (r.both (r.takes {t = t} s) (r.first e (r.both d h)))))) kept = column_added t.text (back_column_def _ _ _ h kept.1.1.1.1 [] (record { none = refl }))
back_alteration (r.by_rule (r.both i (r.both j (r.both (r.takes {t = t} s) (r.second e e' (r.both d (r.both c (r.takes {t = x} s')))))))) kept = column_dropped t.text x.text

truncated : {n : ℕ} (table : List ℕ) → BackStatement n (s.Truncate table)
truncated table = record {
  parse = node statement (right (right (right (right (right (right (right (left (pair (leaf (word_token w.Truncate)) (pair (leaf (word_token w.Table)) (leaf (name_token table))))))))))));
  reads = r.by_rule (r.second refl refl (r.second refl refl (r.second refl refl (r.second refl refl (r.second refl refl (r.second refl refl (r.second refl refl (r.first refl (r.both (r.takes refl) (r.both (r.takes refl) (r.takes refl)))))))))));
  tree = refl;
}

-- where an INSERT takes its rows from
record BackSource (n : ℕ) (x : RowSource) : Type 0 where
  parse : Parse
  reads : Reads n (word w.Values then list (bracketed (list (the expr))) or the select) (rows_before x []) parse []
  tree : source_of parse ≡ plain_rows x
  other : sees is_open (rows_before x []) ≡ false

rows_listed : {n : ℕ} {x : List Expr} {xs : List (List Expr)} → BackList n (bracketed (list (the expr))) row_before row_of rows_of (map plain_expr) (x ∷ xs) [] → BackSource n (rows.Rows (x ∷ xs))
rows_listed l = record {
  parse = left (pair (leaf (word_token w.Values)) (pair l.first l.more));
  reads = r.first refl (r.both (r.takes refl) l.reads);
  tree = ap rows.Rows l.tree;
  other = refl;
}

rows_selected : {n : ℕ} {query : Select} → BackSelect n query [] → BackSource n (rows.Query query)
rows_selected b = record {
  parse = right b.parse;
  reads = r.second (rw b.spelled refl) (rw b.spelled refl) b.reads;
  tree = ap rows.Query b.tree;
  other = rw b.spelled refl;
}

back_source : {n : ℕ} {ts r : List Lexeme} {a : Parse} → Reads n (word w.Values then list (bracketed (list (the expr))) or the select) ts a r → Kept a → BackSource n (source_of a)
back_source (r.first e (r.both s (r.both h k))) kept = rows_listed (back_rows h k kept.1.0 kept.1.1 [] (record { none = refl }))
back_source {n = n} (r.second e d h) kept = rows_selected ((selects_again n).again h kept [] (record { none = refl }))

inserted : {n : ℕ} (table : List ℕ) {names : List (List ℕ)} {x : RowSource} → BackNames n names (rows_before x []) → BackSource n x → BackStatement n (s.Insert table names x)
inserted table b c = record {
  parse = node statement (right (right (right (right (right (right (right (right (left (node insertion (pair (leaf (word_token w.Insert)) (pair (leaf (word_token w.Into)) (pair (leaf (name_token table)) (pair b.parse c.parse))))))))))))));
  reads = r.by_rule (r.second refl refl (r.second refl refl (r.second refl refl (r.second refl refl (r.second refl refl (r.second refl refl (r.second refl refl (r.second refl refl
      (r.first refl (r.by_rule (r.both (r.takes refl) (r.both (r.takes refl) (r.both (r.takes refl) (r.both b.reads c.reads))))))))))))));
  tree = rw (b.tree, c.tree) refl;
}

back_insertion : {n : ℕ} {ts r : List Lexeme} {a : Parse} → Reads n (the insertion) ts a r → Kept a → BackStatement n (insertion_of a)
back_insertion (r.by_rule (r.both i (r.both j (r.both (r.takes {t = t} s) (r.both h k))))) kept =
    let from = back_source k kept.1.1.1.1 in
    inserted t.text (back_names h kept.1.1.1.0 _ from.other) from

updated : {n : ℕ} (table : List ℕ) {x : Assign} {xs : List Assign} {where_is : Option Expr} → BackList n (name then mark m.Equal then the expr) assign_before assign_of assigns_of plain_assign (x ∷ xs) (behind_before w.Where where_is []) →
    BackOption n w.Where where_is [] → BackStatement n (s.Update table (x ∷ xs) where_is)
updated table {where_is = where_is} l b = record {
  parse = node statement (right (right (right (right (right (right (right (right (right (left (node update (pair (leaf (word_token w.Update)) (pair (leaf (name_token table)) (pair (present (leaf (word_token w.Set))) (pair (pair l.first l.more) b.parse)))))))))))))));
  reads = r.by_rule (r.second refl refl (r.second refl refl (r.second refl refl (r.second refl refl (r.second refl refl (r.second refl refl (r.second refl refl (r.second refl refl (r.second refl refl
      (r.first refl (r.by_rule (r.both (r.takes refl) (r.both (r.takes refl) (r.both (r.entered refl (r.takes refl)) (r.both l.reads b.reads)))))))))))))));
  tree = rw (l.tree, b.tree, option_same where_is) refl;
}

back_update : {n : ℕ} {ts r : List Lexeme} {a : Parse} → Reads n (the update) ts a r → Kept a → BackStatement n (update_of a)
back_update {n = n} (r.by_rule (r.both i (r.both (r.takes {t = t} s) (r.both j (r.both (r.both h k) f))))) kept =
    let none : Avoids (is_word w.Where ∷ is_comma ∷ after_expr) [] = record { none = refl } in
    let b = back_filter (inner_again n) f kept.1.1.1.1 [] (record { none = refl }) in
    updated t.text (back_assigns h k kept.1.1.1.0.0 kept.1.1.1.0.1 _ (option_after b none (λ ts. record { none = refl }))) b

deleted : {n : ℕ} (table : List ℕ) {where_is : Option Expr} → BackOption n w.Where where_is [] → BackStatement n (s.Delete table where_is)
deleted table {where_is = where_is} b = record {
  parse = node statement (right (right (right (right (right (right (right (right (right (right (node deletion (pair (leaf (word_token w.Delete)) (pair (leaf (word_token w.From)) (pair (leaf (name_token table)) b.parse))))))))))))));
  reads = r.by_rule (r.second refl refl (r.second refl refl (r.second refl refl (r.second refl refl (r.second refl refl (r.second refl refl (r.second refl refl (r.second refl refl (r.second refl refl
      (r.second refl refl (r.by_rule (r.both (r.takes refl) (r.both (r.takes refl) (r.both (r.takes refl) b.reads))))))))))))));
  tree = rw (b.tree, option_same where_is) refl;
}

back_deletion : {n : ℕ} {ts r : List Lexeme} {a : Parse} → Reads n (the deletion) ts a r → Kept a → BackStatement n (deletion_of a)
back_deletion {n = n} (r.by_rule (r.both i (r.both j (r.both (r.takes {t = t} s) f)))) kept = deleted t.text (back_filter (inner_again n) f kept.1.1.1 [] (record { none = refl }))

-- a SELECT
queried : {n : ℕ} {query : Select} → BackSelect n query [] → BackStatement n (s.Query query)
queried b = record {
  parse = node statement (right (right (right (left b.parse))));
  reads = r.by_rule (r.second (rw b.spelled refl) (rw b.spelled refl) (r.second (rw b.spelled refl) (rw b.spelled refl) (r.second (rw b.spelled refl) (rw b.spelled refl) (r.first (rw b.spelled refl) b.reads))));
  tree = ap s.Query b.tree;
}

begun : {n : ℕ} → BackStatement n s.Begin
begun = record {
  parse = node statement (left (pair (leaf (word_token w.Begin)) (leaf (word_token w.Transaction))));
  reads = r.by_rule (r.first refl (r.both (r.takes refl) (r.takes refl)));
  tree = refl;
}

committed : {n : ℕ} → BackStatement n s.Commit
committed = record {
  parse = node statement (right (left (leaf (word_token w.Commit))));
  reads = r.by_rule (r.second refl refl (r.first refl (r.takes refl)));
  tree = refl;
}

rolled_back : {n : ℕ} → BackStatement n s.Rollback
rolled_back = record {
  parse = node statement (right (right (left (leaf (word_token w.Rollback)))));
  reads = r.by_rule (r.second refl refl (r.second refl refl (r.first refl (r.takes refl))));
  tree = refl;
}

-- a statement from the alteration on
abbrev after_removal_rule : Rule
after_removal_rule =
    the alteration
    or word w.Truncate then word w.Table then name
    or the insertion
    or the update
    or the deletion

back_after_removal : {n : ℕ} {ts r : List Lexeme} {a : Parse} → Reads n after_removal_rule ts a r → Kept a → BackStatement n (after_removal a)
back_after_removal (r.first e h) kept = back_alteration h kept
back_after_removal (r.second e d (r.first i (r.both j (r.both k (r.takes {t = t} s))))) kept = truncated t.text
back_after_removal (r.second e d (r.second i i' (r.first j h))) kept = back_insertion h kept
back_after_removal (r.second e d (r.second i i' (r.second j j' (r.first k h)))) kept = back_update h kept
back_after_removal (r.second e d (r.second i i' (r.second j j' (r.second k k' h)))) kept = back_deletion h kept

pub back_statement : {n : ℕ} {ts r : List Lexeme} {a : Parse} → Reads n (the statement) ts a r → Kept a → BackStatement n (statement_of a)
back_statement (r.by_rule (r.first e h)) kept = begun
back_statement (r.by_rule (r.second e d (r.first i h))) kept = committed
back_statement (r.by_rule (r.second e d (r.second i i' (r.first j h)))) kept = rolled_back
back_statement {n = n} (r.by_rule (r.second e d (r.second i i' (r.second j j' (r.first k h))))) kept = queried ((selects_again n).again h kept [] (record { none = refl }))
back_statement (r.by_rule (r.second e d (r.second i i' (r.second j j' (r.second k k' (r.first l h)))))) kept = back_creation h kept
back_statement (r.by_rule (r.second e d (r.second i i' (r.second j j' (r.second k k' (r.second l l' (r.first o h))))))) kept = back_removal h
back_statement (r.by_rule (r.second e d (r.second i i' (r.second j j' (r.second k k' (r.second l l' (r.second o o' h))))))) kept = back_after_removal h kept
