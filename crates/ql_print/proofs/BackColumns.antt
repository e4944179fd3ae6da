-- Printed columns, names, rows and assignments of statements are read again.
use Rattle.std.proofs.Common.{◌≡◌, ℕ, suc, Bool, true, false, List, [], ◌∷◌, Option, Some, None, refl, ap, ◌∙◌}
use Rattle.std.specs.Prelude.{map, option_map}
use Rattle.std.proofs.lemmas.Bool.{or_right}
use Rattle.ql_lex.specs.declared.marks.Mark.TheVariants as m
use Rattle.ql_lex.specs.declared.words.Word.TheVariants as w
use Rattle.ql_value.specs.declared.value.Kind.{Kind}
use Rattle.ql_value.specs.declared.value.Kind.TheVariants as k
use Rattle.ql_syntax.specs.declared.syntax.Expr.{Expr}
use Rattle.ql_syntax.specs.Lexemes.{Lexeme, is_word, is_name, is_number, is_text, is_open, is_comma, is_prefix, is_kind, is_count, is_function, sees, sees_two}
use Rattle.ql_syntax.specs.Printing.{word_of_kind}
use Rattle.ql_syntax.specs.Rules.{◌then◌, ◌or◌, maybe, further, list, bracketed, mark, word, name, the, begins_expr, expr, column}
use Rattle.ql_syntax.specs.Readings.{Parse, Reads, leaf, pair, left, right, absent, present, group, node}
use Rattle.ql_syntax.specs.Readings as r
use Rattle.ql_syntax.specs.Trees.{expr_of, exprs_of, option_of, name_of, kind_named}
use Rattle.ql_syntax.specs.Statements.{is_not_null, rule_in, column_of, columns_of, names_of, row_of, rows_of, assign_of, assigns_of}
use Rattle.ql_syntax.specs.ReadsBack.{plain_expr, plain_option, plain_column, plain_assign}
use Rattle.ql_print.proofs.BackTokens.{mark_token, word_token, small_token, name_token, expr_before, behind_before}
use Rattle.ql_print.proofs.BackStatementForms.{rule_before, column_before, name_before, names_before, row_before, assign_before}
use Rattle.ql_print.proofs.BackOps.{kind_named_is}
use Rattle.ql_print.proofs.BackParts.{Kept, Avoids, avoids_first, avoids_rest, after_expr, Back}
use Rattle.ql_print.proofs.BackLists.{BackItem, BackList, list_again, expr_begins, expr_no_not}
use Rattle.ql_print.proofs.BackSelectParts.{BackOption, no_option, some_option, option_after}
use Rattle.ql_print.proofs.BackPrimaries.{back_exprs}
use Rattle.ql_print.proofs.Back.{exprs_again}

-- what goes on with the rule of a column
abbrev pub after_rule : List (Lexeme → Bool)
after_rule = is_word w.Not ∷ is_prefix ∷ is_number ∷ is_text ∷ is_word w.True ∷ is_word w.False ∷ is_word w.Null ∷ is_name ∷ is_open ∷ is_kind ∷ after_expr

-- what goes on with a column
abbrev pub after_column : List (Lexeme → Bool)
after_column = is_word w.Default ∷ after_rule

two_false : (test : Lexeme → Bool) (ts : List Lexeme) → sees test ts ≡ false → sees_two test is_open ts ≡ false
two_false test [] h = refl
two_false test (t ∷ ts) h = rw h refl

no_count : (ts : List Lexeme) → sees is_name ts ≡ false → sees is_count ts ≡ false
no_count [] h = refl
no_count (t ∷ ts) h = rw h refl

no_function : (ts : List Lexeme) → sees is_name ts ≡ false → sees is_function ts ≡ false
no_function [] h = refl
no_function (t ∷ ts) h = rw h refl

begins_none : {tests : List (Lexeme → Bool)} {ts : List Lexeme} →
    Avoids (is_prefix ∷ is_number ∷ is_text ∷ is_word w.True ∷ is_word w.False ∷ is_word w.Null ∷ is_name ∷ is_open ∷ is_kind ∷ tests) ts → begins_expr ts ≡ false
begins_none {ts = ts} h =
    let h1 = avoids_rest h in
    let h2 = avoids_rest h1 in
    let h3 = avoids_rest h2 in
    let h4 = avoids_rest h3 in
    let h5 = avoids_rest h4 in
    let h6 = avoids_rest h5 in
    let h7 = avoids_rest h6 in
    let h8 = avoids_rest h7 in
    let count = two_false is_count ts (no_count ts (avoids_first h6)) in
    let function = two_false is_function ts (no_function ts (avoids_first h6)) in
    rw (avoids_first h, avoids_first h1, avoids_first h2, avoids_first h3, avoids_first h4, avoids_first h5, count, function, avoids_first h6, avoids_first h7, avoids_first h8) refl

expr_in_rule : {ts : List Lexeme} → Avoids after_rule ts → Avoids after_expr ts
expr_in_rule h = avoids_rest (avoids_rest (avoids_rest (avoids_rest (avoids_rest (avoids_rest (avoids_rest (avoids_rest (avoids_rest (avoids_rest h)))))))))

pub option_same : (part : Option Expr) → option_map plain_expr part ≡ plain_option part
option_same None = refl
option_same (Some part) = refl

-- NOT NULL, or the rule in its place
pub record BackRule (n : ℕ) (not_null : Bool) (rule : Option Expr) (rest : List Lexeme) : Type 0 where
  pub parse : Parse
  pub reads : Reads n (maybe (word w.Not then word w.Null or the expr)) (rule_before not_null rule rest) parse rest
  pub null_is : is_not_null parse ≡ not_null
  pub rule_is : rule_in parse ≡ plain_option rule

some_rule : {n : ℕ} {x : Expr} {rest : List Lexeme} → Back n expr x rest → BackRule n false (Some x) rest
some_rule {x = x} {rest = rest} b =
    let begins : begins_expr (expr_before x rest) ≡ true = expr_begins b.reads in
    let other : sees (is_word w.Not) (expr_before x rest) ≡ false = expr_no_not (expr_before x rest) begins in
    record {
      parse = present (right b.parse);
      reads = r.entered (or_right (sees (is_word w.Not) (expr_before x rest)) _ begins) (r.second other begins b.reads);
      null_is = refl;
      rule_is = ap Some b.tree;
    }

back_rule : {n : ℕ} {ts r : List Lexeme} {a : Parse} → Reads n (maybe (word w.Not then word w.Null or the expr)) ts a r → Kept a → (rest : List Lexeme) → Avoids after_rule rest → BackRule n (is_not_null a) (rule_in a) rest
back_rule (r.left_out e) kept rest after = record { parse = absent; reads = r.left_out (rw (avoids_first after, begins_none (avoids_rest after)) refl); null_is = refl; rule_is = refl }
back_rule (r.entered e (r.first d h)) kept rest after = record {
  parse = present (left (pair (leaf (word_token w.Not)) (leaf (word_token w.Null))));
  reads = r.entered refl (r.first refl (r.both (r.takes refl) (r.takes refl)));
  null_is = refl;
  rule_is = refl;
}
back_rule {n = n} (r.entered e (r.second d d' h)) kept rest after = some_rule ((exprs_again n).again h kept rest (expr_in_rule after))

back_default : {n : ℕ} {ts r : List Lexeme} {a : Parse} → Reads n (maybe (word w.Default then the expr)) ts a r → Kept a → (rest : List Lexeme) → Avoids after_column rest → BackOption n w.Default (option_of a) rest
back_default (r.left_out e) kept rest after = no_option (avoids_first after)
back_default {n = n} (r.entered e (r.both s h)) kept rest after = some_option w.Default refl ((exprs_again n).again h kept.1 rest (expr_in_rule (avoids_rest after)))

kind_again : (kind : Kind) → is_kind (small_token (word_of_kind kind)) ≡ true
kind_again k.Bool = refl
kind_again k.Int8 = refl
kind_again k.Int16 = refl
kind_again k.Int32 = refl
kind_again k.Int64 = refl
kind_again k.Uint8 = refl
kind_again k.Uint16 = refl
kind_again k.Uint32 = refl
kind_again k.Uint64 = refl
kind_again k.Text = refl
kind_again k.Blob = refl

column_again : {n : ℕ} (bytes : List ℕ) (kind : Kind) {not_null : Bool} {rule default : Option Expr} {rest : List Lexeme} →
    BackRule n not_null rule (behind_before w.Default default rest) → BackOption n w.Default default rest →
    BackItem n (the column) column_before column_of plain_column (record { name = bytes; kind = kind; not_null = not_null; rule = rule; default = default }) rest
column_again bytes kind {not_null = not_null} {rule = rule} {default = default} b d = record {
  parse = node column (pair (leaf (name_token bytes)) (pair (leaf (small_token (word_of_kind kind))) (pair b.parse d.parse)));
  reads = r.by_rule (r.both (r.takes refl) (r.both (r.takes (kind_again kind)) (r.both b.reads d.reads)));
  tree = rw (kind_named_is kind, b.null_is, b.rule_is, d.tree, option_same default) refl;
  begins = refl;
}

-- a column
pub back_column_def : {n : ℕ} (ts r : List Lexeme) (a : Parse) → Reads n (the column) ts a r → Kept a → (rest : List Lexeme) → Avoids after_column rest → BackItem n (the column) column_before column_of plain_column (column_of a) rest
back_column_def ts behind a (r.by_rule (r.both (r.takes {t = t} s) (r.both (r.takes {t = u} i) (r.both h d)))) kept rest after =
    let default = back_default d kept.1.1.1 rest after in
    column_again t.text (kind_named u.kind) (back_rule h kept.1.1.0 _ (option_after default after (λ ts. record { none = refl }))) default

-- columns in brackets
pub back_columns : {n : ℕ} {ts mid r : List Lexeme} {a b : Parse} → Reads n (the column) ts a mid → Reads n (further (the column)) mid b r → Kept a → Kept b → (rest : List Lexeme) → Avoids (is_comma ∷ after_column) rest →
    BackList n (the column) column_before column_of columns_of plain_column (column_of a ∷ columns_of b) rest
back_columns h k kept others rest after = list_again refl (λ a b. refl) (λ ts. record { none = refl }) back_column_def h k kept others rest after

-- a name
back_name : {n : ℕ} (ts r : List Lexeme) (a : Parse) → Reads n name ts a r → Kept a → (rest : List Lexeme) → Avoids [] rest → BackItem n name name_before name_of (λ x. x) (name_of a) rest
back_name ts behind a (r.takes {t = t} s) kept rest after = record { parse = leaf (name_token t.text); reads = r.takes refl; tree = refl; begins = refl }

map_same : {A : Type 0} (xs : List A) → map (λ x. x) xs ≡ xs
map_same [] = refl
map_same (x ∷ xs) = ap (λ ys. x ∷ ys) (map_same xs)

-- the names of an INSERT
pub record BackNames (n : ℕ) (names : List (List ℕ)) (rest : List Lexeme) : Type 0 where
  pub parse : Parse
  pub reads : Reads n (maybe (bracketed (list name))) (names_before names rest) parse rest
  pub tree : names_of parse ≡ names

names_again : {n : ℕ} {x : List ℕ} {xs : List (List ℕ)} {rest : List Lexeme} → BackList n name name_before name_of names_of (λ x. x) (x ∷ xs) (mark_token m.Close ∷ rest) → BackNames (suc n) (x ∷ xs) rest
names_again {x = x} {xs = xs} l = record {
  parse = present (group (pair l.first l.more));
  reads = r.entered refl (r.enclosed refl l.reads refl);
  tree = l.tree ∙ map_same (x ∷ xs);
}

pub back_names : {n : ℕ} {ts r : List Lexeme} {a : Parse} → Reads n (maybe (bracketed (list name))) ts a r → Kept a → (rest : List Lexeme) → sees is_open rest ≡ false → BackNames n (names_of a) rest
back_names (r.left_out e) kept rest f = record { parse = absent; reads = r.left_out f; tree = refl }
back_names (r.entered e (r.enclosed o (r.both h k) c)) kept rest f =
    names_again (list_again refl (λ a b. refl) (λ ts. record { none = refl }) back_name h k kept.0 kept.1 (mark_token m.Close ∷ rest) (record { none = refl }))

-- a row of an INSERT
row_again : {n : ℕ} {x : Expr} {xs : List Expr} {rest : List Lexeme} → BackList n (the expr) expr_before expr_of exprs_of plain_expr (x ∷ xs) (mark_token m.Close ∷ rest) →
    BackItem (suc n) (bracketed (list (the expr))) row_before row_of (map plain_expr) (x ∷ xs) rest
row_again l = record { parse = group (pair l.first l.more); reads = r.enclosed refl l.reads refl; tree = l.tree; begins = refl }

back_row : {n : ℕ} (ts r : List Lexeme) (a : Parse) → Reads n (bracketed (list (the expr))) ts a r → Kept a → (rest : List Lexeme) → Avoids [] rest → BackItem n (bracketed (list (the expr))) row_before row_of (map plain_expr) (row_of a) rest
back_row ts behind a (r.enclosed o (r.both h k) c) kept rest after = row_again (back_exprs (exprs_again _) h k kept.0 kept.1 (mark_token m.Close ∷ rest) (record { none = refl }))

-- the rows of an INSERT
pub back_rows : {n : ℕ} {ts mid r : List Lexeme} {a b : Parse} → Reads n (bracketed (list (the expr))) ts a mid → Reads n (further (bracketed (list (the expr)))) mid b r → Kept a → Kept b → (rest : List Lexeme) → Avoids (is_comma ∷ []) rest →
    BackList n (bracketed (list (the expr))) row_before row_of rows_of (map plain_expr) (row_of a ∷ rows_of b) rest
back_rows h k kept others rest after = list_again refl (λ a b. refl) (λ ts. record { none = refl }) back_row h k kept others rest after

-- an assignment of an UPDATE
assign_again : {n : ℕ} (bytes : List ℕ) {x : Expr} {rest : List Lexeme} → Back n expr x rest → BackItem n (name then mark m.Equal then the expr) assign_before assign_of plain_assign (record { column = bytes; value = x }) rest
assign_again bytes b = record {
  parse = pair (leaf (name_token bytes)) (pair (leaf (mark_token m.Equal)) b.parse);
  reads = r.both (r.takes refl) (r.both (r.takes refl) b.reads);
  tree = rw b.tree refl;
  begins = refl;
}

back_assign : {n : ℕ} (ts r : List Lexeme) (a : Parse) → Reads n (name then mark m.Equal then the expr) ts a r → Kept a → (rest : List Lexeme) → Avoids after_expr rest → BackItem n (name then mark m.Equal then the expr) assign_before assign_of plain_assign (assign_of a) rest
back_assign {n = n} ts behind a (r.both (r.takes {t = t} s) (r.both e h)) kept rest after = assign_again t.text ((exprs_again n).again h kept.1.1 rest after)

-- the assignments of an UPDATE
pub back_assigns : {n : ℕ} {ts mid r : List Lexeme} {a b : Parse} → Reads n (name then mark m.Equal then the expr) ts a mid → Reads n (further (name then mark m.Equal then the expr)) mid b r → Kept a → Kept b → (rest : List Lexeme) → Avoids (is_comma ∷ after_expr) rest →
    BackList n (name then mark m.Equal then the expr) assign_before assign_of assigns_of plain_assign (assign_of a ∷ assigns_of b) rest
back_assigns h k kept others rest after = list_again refl (λ a b. refl) (λ ts. record { none = refl }) back_assign h k kept others rest after
