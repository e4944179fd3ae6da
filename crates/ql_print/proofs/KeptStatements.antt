-- The tokens of printed statements are those that were read.
use Rattle.std.proofs.Common.{◌≡◌, ℕ, true, List, [], ◌∷◌, ◌++◌, map, refl, append-nil, subst}
use Rattle.std.specs.Prelude.{flat_map}
use Rattle.std.specs.List.{AllByRecursion}
use Rattle.ql_lex.specs.declared.marks.Mark.TheVariants as m
use Rattle.ql_lex.specs.declared.words.Word.{Word}
use Rattle.ql_lex.specs.declared.words.Word.TheVariants as w
use Rattle.ql_syntax.specs.declared.statement.Statement.{Statement}
use Rattle.ql_syntax.specs.Ink.{space, tokens_of, mark, keyword, name, listed, bracketed}
use Rattle.ql_syntax.specs.Lexemes.{Lexeme, is_word, is_name}
use Rattle.ql_syntax.specs.Printing.{Inks, behind, ink_of_expr}
use Rattle.ql_syntax.specs.StatementPrinting.{ink_of_option, ink_of_if_exists, ink_of_if_not_exists, ink_of_unique, ink_of_rule, ink_of_column, ink_of_item, ink_of_names, ink_of_row, ink_of_rows, ink_of_assign, ink_of_statement}
use Rattle.ql_syntax.specs.Rules.{◌then◌, ◌or◌, the, many, maybe, further, list, word, expr, select, column, statement, creation, removal, alteration, insertion, update, deletion}
use Rattle.ql_syntax.specs.Rules as rule
use Rattle.ql_syntax.specs.Readings.{Parse, Reads}
use Rattle.ql_syntax.specs.Readings as r
use Rattle.ql_syntax.specs.SameTokens.{SameTokens, SameScript, ends_list, ends_statement, ink_of_script}
use Rattle.ql_syntax.specs.SameTokens as is
use Rattle.ql_syntax.specs.Statements.{is_not_null, rule_in, columns_of, names_of, row_of, rows_of, assigns_of, item_of, creation_of, removal_of, alteration_of, insertion_of, update_of, deletion_of, statement_of, later_of, statements_of}
use Rattle.ql_syntax.specs.Statements as tree
use Rattle.ql_syntax.specs.Rules.{item_rule}
use Rattle.ql_syntax.specs.Trees.{expr_of, option_of, is_present}
use Rattle.ql_print.proofs.BackTokens.{word_token}
use Rattle.ql_print.proofs.KeptTokens.{IsWorth, Goes, goes_none, goes_then, goes_space, goes_mark, goes_word, goes_name, goes_kind, goes_id, goes_bracketed, word_worth, close_ends_list, semicolon_ends, list_ends, commas, goes_further, goes_trailing}
use Rattle.ql_print.proofs.KeptLevels.{bracketed_kept}
use Rattle.ql_print.proofs.KeptQueries.{behind_ends, exprs_kept, selects_kept}

expr_kept : {n : ℕ} {ts rest : List Lexeme} {a : Parse} → Reads n (the expr) ts a rest → Goes ts rest (ink_of_expr (expr_of a))
expr_kept {n = n} h = (exprs_kept n).kept h

-- an expression behind a keyword, if it is there
option_kept : (a : Word) {n : ℕ} {ts rest : List Lexeme} {b : Parse} → Reads n (maybe (word a then the expr)) ts b rest → Goes ts rest (behind a (ink_of_option (option_of b)))
option_kept a (r.left_out f) = goes_none
option_kept a (r.entered f (r.both (r.takes i) h)) = goes_space (goes_word i (goes_space (expr_kept h)))

-- columns

rule_kept : {n : ℕ} {ts rest : List Lexeme} {a : Parse} → Reads n (maybe (word w.Not then word w.Null or the expr)) ts a rest → Goes ts rest (ink_of_rule (is_not_null a) (rule_in a))
rule_kept (r.left_out f) = goes_none
rule_kept (r.entered f (r.first g (r.both (r.takes i) (r.takes j)))) = goes_space (goes_word i (goes_space (goes_word j goes_none)))
rule_kept (r.entered f (r.second g h k)) = goes_space (expr_kept k)

column_kept : {n : ℕ} {ts rest : List Lexeme} {a : Parse} → Reads n (the column) ts a rest → Goes ts rest (ink_of_column (tree.column_of a))
column_kept (r.by_rule (r.both (r.takes i) (r.both (r.takes j) (r.both h k)))) = goes_name i (goes_space (goes_kind j (goes_then (rule_kept h) (option_kept w.Default k))))

further_columns : {n : ℕ} {ts rest : List Lexeme} {a : Parse} → ends_list rest ≡ true → Reads n (further (the column)) ts a rest → Goes ts rest (commas (map ink_of_column (columns_of a)))
further_columns l (r.no_comma f) = goes_none
further_columns l (r.trailing i f) = goes_trailing i l
further_columns l (r.member {b = b} i f h k) = goes_further (map ink_of_column (columns_of b)) i (column_kept h) (further_columns l k)

columns_kept : {n : ℕ} {ts rest : List Lexeme} {a : Parse} → ends_list rest ≡ true → Reads n (list (the column)) ts a rest → Goes ts rest (listed (map ink_of_column (columns_of a)))
columns_kept l (r.both h k) = goes_then (column_kept h) (further_columns l k)

-- CREATE, DROP and ALTER

if_exists_kept : {n : ℕ} {ts mid rest : List Lexeme} {a : Parse} {x : Inks} → Reads n (maybe rule.if_exists) ts a mid → Goes mid rest x → Goes ts rest (ink_of_if_exists (is_present a) ++ x)
if_exists_kept (r.left_out f) h = h
if_exists_kept (r.entered f (r.both (r.takes i) (r.takes j))) h = goes_word i (goes_space (goes_word j (goes_space h)))

if_not_exists_kept : {n : ℕ} {ts mid rest : List Lexeme} {a : Parse} {x : Inks} → Reads n (maybe rule.if_not_exists) ts a mid → Goes mid rest x → Goes ts rest (ink_of_if_not_exists (is_present a) ++ x)
if_not_exists_kept (r.left_out f) h = h
if_not_exists_kept (r.entered f (r.both (r.takes i) (r.both (r.takes j) (r.takes k)))) h = goes_word i (goes_space (goes_word j (goes_space (goes_word k (goes_space h)))))

unique_kept : {n : ℕ} {ts mid rest : List Lexeme} {a : Parse} {x : Inks} → Reads n (maybe (word w.Unique)) ts a mid → Goes mid rest x → Goes ts rest (ink_of_unique (is_present a) ++ x)
unique_kept (r.left_out f) h = h
unique_kept (r.entered f (r.takes i)) h = goes_word i (goes_space h)

-- what an index orders by, in brackets
item_kept : {n : ℕ} {ts rest : List Lexeme} {a : Parse} → Reads n (rule.bracketed item_rule) ts a rest → Goes ts rest (bracketed (ink_of_item (item_of a)))
item_kept (r.enclosed o (r.first f (r.both (r.takes_before i j) (r.enclosed p r.takes_nothing c))) d) = goes_bracketed o (goes_id i (goes_bracketed p goes_none c)) d
item_kept (r.enclosed o (r.second f g (r.takes i)) d) = goes_bracketed o (goes_name i goes_none) d

creation_kept : {n : ℕ} {ts rest : List Lexeme} {a : Parse} → Reads n (the creation) ts a rest → Goes ts rest (ink_of_statement (creation_of a))
creation_kept (r.by_rule (r.both (r.takes i) (r.first f (r.both (r.takes j) (r.both h (r.both (r.takes k) (r.enclosed {close = c} {rest = rest} o l d))))))) =
    goes_word i (goes_space (goes_word j (goes_space (if_not_exists_kept h (goes_name k (goes_space (goes_bracketed o (columns_kept (close_ends_list c rest d) l) d)))))))
creation_kept (r.by_rule (r.both (r.takes i) (r.second f g (r.both u (r.both (r.takes j) (r.both h (r.both (r.takes k) (r.both (r.takes l) (r.both (r.takes p) q))))))))) =
    goes_word i (goes_space (unique_kept u (goes_word j (goes_space (if_not_exists_kept h (goes_name k (goes_space (goes_word l (goes_space (goes_name p (goes_space (item_kept q))))))))))))

removal_kept : {n : ℕ} {ts rest : List Lexeme} {a : Parse} → Reads n (the removal) ts a rest → Goes ts rest (ink_of_statement (removal_of a))
removal_kept (r.by_rule (r.both (r.takes i) (r.first f (r.both (r.takes j) (r.both h (r.takes k)))))) = goes_word i (goes_space (goes_word j (goes_space (if_exists_kept h (goes_name k goes_none)))))
removal_kept (r.by_rule (r.both (r.takes i) (r.second f g (r.both (r.takes j) (r.both h (r.takes k)))))) = goes_word i (goes_space (goes_word j (goes_space (if_exists_kept h (goes_name k goes_none)))))

alteration_kept : {n : ℕ} {ts rest : List Lexeme} {a : Parse} → Reads n (the alteration) ts a rest → Goes ts rest (ink_of_statement (alteration_of a))
alteration_kept (r.by_rule (r.both (r.takes i) (r.both (r.takes j) (r.both (r.takes k) (r.first f (r.both (r.takes l) h)))))) =
    goes_word i (goes_space (goes_word j (goes_space (goes_name k (goes_space (goes_word l (goes_space (column_kept h))))))))
alteration_kept (r.by_rule (r.both (r.takes i) (r.both (r.takes j) (r.both (r.takes k) (r.second f g (r.both (r.takes l) (r.both (r.takes p) (r.takes q)))))))) =
    goes_word i (goes_space (goes_word j (goes_space (goes_name k (goes_space (goes_word l (goes_space (goes_word p (goes_space (goes_name q goes_none))))))))))

-- INSERT

-- the names of an INSERT
abbrev name_inks : List (List ℕ) → List Inks
name_inks names = map (λ (x : List ℕ). name x ∷ []) names

further_names : {n : ℕ} {ts rest : List Lexeme} {a : Parse} → ends_list rest ≡ true → Reads n (further rule.name) ts a rest → Goes ts rest (commas (name_inks (names_of a)))
further_names l (r.no_comma f) = goes_none
further_names l (r.trailing i f) = goes_trailing i l
further_names l (r.member {b = b} i f (r.takes j) k) = goes_further (name_inks (names_of b)) i (goes_name j goes_none) (further_names l k)

names_kept : {n : ℕ} {ts rest : List Lexeme} {a : Parse} → Reads n (maybe (rule.bracketed (list rule.name))) ts a rest → Goes ts rest (ink_of_names (names_of a))
names_kept (r.left_out f) = goes_none
names_kept (r.entered f (r.enclosed {close = c} {rest = rest} o (r.both (r.takes i) k) d)) = goes_space (goes_bracketed o (goes_name i (further_names (close_ends_list c rest d) k)) d)

row_kept : {n : ℕ} {ts rest : List Lexeme} {a : Parse} → Reads n (rule.bracketed (list (the expr))) ts a rest → Goes ts rest (ink_of_row (row_of a))
row_kept (r.enclosed {n = n} o h c) = bracketed_kept (exprs_kept n) o h c

further_rows : {n : ℕ} {ts rest : List Lexeme} {a : Parse} → ends_list rest ≡ true → Reads n (further (rule.bracketed (list (the expr)))) ts a rest → Goes ts rest (commas (map ink_of_row (rows_of a)))
further_rows l (r.no_comma f) = goes_none
further_rows l (r.trailing i f) = goes_trailing i l
further_rows l (r.member {b = b} i f h k) = goes_further (map ink_of_row (rows_of b)) i (row_kept h) (further_rows l k)

source_kept : {n : ℕ} {ts rest : List Lexeme} {a : Parse} → ends_statement rest ≡ true → Reads n (word w.Values then list (rule.bracketed (list (the expr))) or the select) ts a rest → Goes ts rest (ink_of_rows (tree.source_of a))
source_kept {rest = rest} l (r.first f (r.both (r.takes i) (r.both h k))) = goes_word i (goes_space (goes_then (row_kept h) (further_rows (list_ends rest l) k)))
source_kept {n = n} l (r.second f g h) = (selects_kept n).kept l h

insertion_kept : {n : ℕ} {ts rest : List Lexeme} {a : Parse} → ends_statement rest ≡ true → Reads n (the insertion) ts a rest → Goes ts rest (ink_of_statement (insertion_of a))
insertion_kept l (r.by_rule (r.both (r.takes i) (r.both (r.takes j) (r.both (r.takes k) (r.both h p))))) =
    goes_word i (goes_space (goes_word j (goes_space (goes_name k (goes_then (names_kept h) (goes_space (source_kept l p)))))))

-- UPDATE and DELETE

assign_kept : {n : ℕ} {ts rest : List Lexeme} {a : Parse} → Reads n (rule.name then rule.mark m.Equal then the expr) ts a rest → Goes ts rest (ink_of_assign (tree.assign_of a))
assign_kept (r.both (r.takes i) (r.both (r.takes j) h)) = goes_name i (goes_space (goes_mark j (goes_space (expr_kept h))))

further_assigns : {n : ℕ} {ts rest : List Lexeme} {a : Parse} → ends_list rest ≡ true → Reads n (further (rule.name then rule.mark m.Equal then the expr)) ts a rest → Goes ts rest (commas (map ink_of_assign (assigns_of a)))
further_assigns l (r.no_comma f) = goes_none
further_assigns l (r.trailing i f) = goes_trailing i l
further_assigns l (r.member {b = b} i f h k) = goes_further (map ink_of_assign (assigns_of b)) i (assign_kept h) (further_assigns l k)

assigns_kept : {n : ℕ} {ts rest : List Lexeme} {a : Parse} → ends_list rest ≡ true → Reads n (list (rule.name then rule.mark m.Equal then the expr)) ts a rest → Goes ts rest (listed (map ink_of_assign (assigns_of a)))
assigns_kept l (r.both h k) = goes_then (assign_kept h) (further_assigns l k)

-- UPDATE, a name and SET before a part
goes_set : {n : ℕ} {u t : Lexeme} {ts mid rest : List Lexeme} {a : Parse} {x : Inks} → is_word w.Update u ≡ true → is_name t ≡ true → Reads n (maybe (word w.Set)) ts a mid → Goes mid rest x →
    Goes (u ∷ t ∷ ts) rest (keyword w.Update ∷ space ∷ name t.text ∷ space ∷ keyword w.Set ∷ space ∷ x)
goes_set i j (r.entered f (r.takes k)) h = goes_word i (goes_space (goes_name j (goes_space (goes_word k (goes_space h)))))
goes_set {u = u} {t = t} {ts = ts} {rest = rest} {x = x} i j (r.left_out f) h =
    let plain : Goes (u ∷ t ∷ word_token w.Set ∷ ts) rest (keyword w.Update ∷ space ∷ name t.text ∷ space ∷ keyword w.Set ∷ space ∷ x) =
    goes_word i (goes_space (goes_name j (goes_space (goes_word refl (goes_space h))))) in
    record { worth = λ a. h.worth a.1.1; goes = λ a tail q. is.with_set {set = word_token w.Set} i j f refl (plain.goes (a.0, (a.1.0, (word_worth w.Set, a.1.1))) tail q) }

change_kept : {n : ℕ} {ts rest : List Lexeme} {a : Parse} → ends_statement rest ≡ true → Reads n (the update) ts a rest → Goes ts rest (ink_of_statement (update_of a))
change_kept {rest = rest} l (r.by_rule (r.both (r.takes i) (r.both (r.takes j) (r.both h (r.both p q))))) =
    goes_set i j h (goes_then (assigns_kept (behind_ends w.Where refl (list_ends rest l) q) p) (option_kept w.Where q))

deletion_kept : {n : ℕ} {ts rest : List Lexeme} {a : Parse} → Reads n (the deletion) ts a rest → Goes ts rest (ink_of_statement (deletion_of a))
deletion_kept (r.by_rule (r.both (r.takes i) (r.both (r.takes j) (r.both (r.takes k) q)))) = goes_word i (goes_space (goes_word j (goes_space (goes_name k (option_kept w.Where q)))))

-- a statement
statement_kept : {n : ℕ} {ts rest : List Lexeme} {a : Parse} → ends_statement rest ≡ true → Reads n (the statement) ts a rest → Goes ts rest (ink_of_statement (statement_of a))
statement_kept l (r.by_rule (r.first x (r.both (r.takes i) (r.takes j)))) = goes_word i (goes_space (goes_word j goes_none))
statement_kept l (r.by_rule (r.second x y (r.first z (r.takes i)))) = goes_word i goes_none
statement_kept l (r.by_rule (r.second x y (r.second x2 y2 (r.first z (r.takes i))))) = goes_word i goes_none
statement_kept {n = n} l (r.by_rule (r.second x y (r.second x2 y2 (r.second x3 y3 (r.first z h))))) = (selects_kept n).kept l h
statement_kept l (r.by_rule (r.second x y (r.second x2 y2 (r.second x3 y3 (r.second x4 y4 (r.first z h)))))) = creation_kept h
statement_kept l (r.by_rule (r.second x y (r.second x2 y2 (r.second x3 y3 (r.second x4 y4 (r.second x5 y5 (r.first z h))))))) = removal_kept h
statement_kept l (r.by_rule (r.second x y (r.second x2 y2 (r.second x3 y3 (r.second x4 y4 (r.second x5 y5 (r.second x6 y6 (r.first z h)))))))) = alteration_kept h
statement_kept l (r.by_rule (r.second x y (r.second x2 y2 (r.second x3 y3 (r.second x4 y4 (r.second x5 y5 (r.second x6 y6 (r.second x7 y7 (r.first z (r.both (r.takes i) (r.both (r.takes j) (r.takes k)))))))))))) =
    goes_word i (goes_space (goes_word j (goes_space (goes_name k goes_none))))
statement_kept l (r.by_rule (r.second x y (r.second x2 y2 (r.second x3 y3 (r.second x4 y4 (r.second x5 y5 (r.second x6 y6 (r.second x7 y7 (r.second x8 y8 (r.first z h)))))))))) = insertion_kept l h
statement_kept l (r.by_rule (r.second x y (r.second x2 y2 (r.second x3 y3 (r.second x4 y4 (r.second x5 y5 (r.second x6 y6 (r.second x7 y7 (r.second x8 y8 (r.second x9 y9 (r.first z h))))))))))) = change_kept l h
statement_kept l (r.by_rule (r.second x y (r.second x2 y2 (r.second x3 y3 (r.second x4 y4 (r.second x5 y5 (r.second x6 y6 (r.second x7 y7 (r.second x8 y8 (r.second x9 y9 (r.second x10 y10 h))))))))))) = deletion_kept h

-- scripts

-- `; ` between statements
abbrev gap : Inks
gap = mark m.Semicolon ∷ space ∷ []

-- what further statements print
abbrev later_inks : List Statement → Inks
later_inks ss = flat_map (λ (y : Inks). gap ++ y) (map ink_of_statement ss)

-- the end, or a semicolon
later_ends : {n : ℕ} {ts : List Lexeme} {a : Parse} → Reads n (many (rule.mark m.Semicolon then maybe (the statement))) ts a [] → ends_statement ts ≡ true
later_ends (r.ended f) = refl
later_ends (r.goes_on f (r.both (r.takes {t = t} {ts = ts} i) h) k) = semicolon_ends t ts i

-- statements behind one
later_kept : {n : ℕ} {ts : List Lexeme} {a : Parse} → Reads n (many (rule.mark m.Semicolon then maybe (the statement))) ts a [] → Goes ts [] (later_inks (later_of a))
later_kept (r.ended f) = goes_none
later_kept (r.goes_on f (r.both (r.takes i) (r.left_out g)) k) =
    let more = later_kept k in
    record { worth = λ a. more.worth a.1; goes = λ a tail s. is.no_semicolon i (later_ends k) (more.goes a.1 tail s) }
later_kept (r.goes_on f (r.both (r.takes i) (r.entered g h)) k) = goes_mark i (goes_space (goes_then (statement_kept (later_ends k) h) (later_kept k)))

-- all tokens are worth what they print
abbrev pub AreWorth : List Lexeme → Type 0
AreWorth ts = AllByRecursion IsWorth ts

whole : {ts : List Lexeme} {x : Inks} → AreWorth ts → Goes ts [] x → SameScript ts (tokens_of x)
whole {ts = ts} {x = x} a h =
    let all : SameTokens ts (tokens_of (x ++ [])) = h.goes a [] is.no_more in
    let same : x ++ [] ≡ x = append-nil x in
    is.begun (subst (λ (y : Inks). SameTokens ts (tokens_of y)) same all)

-- semicolons, and then statements
begins_kept : {n : ℕ} {ts : List Lexeme} {a : Parse} → AreWorth ts → Reads n (many (rule.mark m.Semicolon then maybe (the statement))) ts a [] → SameScript ts (tokens_of (ink_of_script (later_of a)))
begins_kept a (r.ended f) = is.begun is.no_more
begins_kept a (r.goes_on f (r.both (r.takes i) (r.left_out g)) k) = is.empty i (begins_kept a.1 k)
begins_kept a (r.goes_on f (r.both (r.takes i) (r.entered g h)) k) = is.empty i (whole a.1 (goes_then (statement_kept (later_ends k) h) (later_kept k)))

-- what the statements of a script print has its tokens
pub script_kept : {n : ℕ} {ts : List Lexeme} {a : Parse} → AreWorth ts → Reads n rule.script ts a [] → SameScript ts (tokens_of (ink_of_script (statements_of a)))
script_kept a (r.both (r.left_out f) (r.both h r.at_end)) = begins_kept a h
script_kept a (r.both (r.entered f i) (r.both h r.at_end)) = whole a (goes_then (statement_kept (later_ends h) i) (later_kept h))
