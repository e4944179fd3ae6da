-- Every statement of a script prints a text that the lexer reads as its tokens.
use Rattle.std.proofs.Common.{◌≡◌, ℕ, true, false, List, [], ◌∷◌, ◌++◌, Ok, map, refl, append-nil}
use Rattle.std.specs.Prelude.{All, decimal}
use Rattle.std.specs.List.{AllByRecursion}
use Rattle.std.proofs.lemmas.List.Elements.{All-nil, All-cons, recursion_from_All}
use Rattle.ql_lex.specs.declared.marks.Mark.TheVariants as m
use Rattle.ql_lex.specs.declared.token.Token.{Token}
use Rattle.ql_lex.specs.declared.words.Word.TheVariants as w
use Rattle.ql_lex.specs.Meaning.{text_value}
use Rattle.ql_lex.specs.Numbers.{number_value}
use Rattle.ql_lex.specs.Tokens as lex
use Rattle.ql_lex.specs.Tokens.{IsIn}
use Rattle.ql_lex.proofs.PlaceLemmas.{whole_in}
use Rattle.ql_value.specs.Print.{quoted}
use Rattle.ql_syntax.specs.declared.statement.Statement.{Statement}
use Rattle.ql_syntax.specs.Ink.{text_of}
use Rattle.ql_syntax.specs.Lexemes.{Lexeme, lexemes, is_number}
use Rattle.ql_syntax.specs.Printing.{Inks, ink_of_expr}
use Rattle.ql_syntax.specs.Rules.{item_rule, Rule, ◌then◌, ◌or◌, the, token, before, nothing, many, maybe, further, list, word, mark, expr, select, column, statement, creation, removal, alteration, insertion, update, deletion}
use Rattle.ql_syntax.specs.Rules as rule
use Rattle.ql_syntax.specs.Readings.{Parse, node}
use Rattle.ql_syntax.specs.StatementPrinting.{ink_of_column, ink_of_row, ink_of_rows, ink_of_assign, ink_of_statement}
use Rattle.ql_syntax.specs.Statements.{IsRead, is_not_null, rule_in, columns_of, names_of, row_of, rows_of, assigns_of, item_of, creation_of, removal_of, alteration_of, insertion_of, update_of, deletion_of, truncation_of, statement_of, with_statement, later_of, statements_of}
use Rattle.ql_syntax.specs.Statements as tree
use Rattle.ql_syntax.specs.StoredParts.{inner_item_of}
use Rattle.ql_syntax.specs.Trees.{expr_of, exprs_of, option_of, is_present}
use Rattle.ql_print.proofs.Fits.{Fits, Spelled, AreSpelled, fits, is_name, is_worth}
use Rattle.ql_print.proofs.Fits as f
use Rattle.ql_print.proofs.PrintedNumbers.{number_again}
use Rattle.ql_print.proofs.PrintedTexts.{text_again}
use Rattle.ql_print.proofs.LexedInk.{Lexed, over, IsReadAs, read_as}
use Rattle.ql_print.proofs.SoundInk.{IsSound, AreSound, none, one}
use Rattle.ql_print.proofs.SoundForms.{column_sound, create_table_sound, drop_table_sound, add_column_sound, drop_column_sound, IsNamedItem, create_index_sound, drop_index_sound, name_inks, row_sound, rows_sound, insert_sound, assign_sound, update_sound, delete_sound, truncate_sound, begin_sound, commit_sound, rollback_sound}
use Rattle.ql_print.proofs.SoundPrimaries.{list_sound}
use Rattle.ql_print.proofs.SoundQueries.{exprs_sound, selects_sound, where_there}
use Rattle.ql_print.proofs.SoundSelects.{IsSoundOption, name_sound}

expr_sound : {n : ℕ} {a : Parse} → Fits n (the expr) a → IsSound (ink_of_expr (expr_of a))
expr_sound {n = n} h = (exprs_sound n).sound h

rule_there : {n : ℕ} {a : Parse} → Fits n (maybe (word w.Not then word w.Null or the expr)) a → IsSoundOption (rule_in a)
rule_there f.left_out = tt
rule_there (f.entered (f.first h)) = tt
rule_there (f.entered (f.second h)) = expr_sound h

default_there : {n : ℕ} {a : Parse} → Fits n (maybe (word w.Default then the expr)) a → IsSoundOption (option_of a)
default_there f.left_out = tt
default_there (f.entered (f.both h k)) = expr_sound k

-- a column
pub column_sound_of : {n : ℕ} {a : Parse} → Fits n (the column) a → IsSound (ink_of_column (tree.column_of a))
column_sound_of (f.by_rule {a = a} (f.both (f.takes {t = t} e s) (f.both h (f.both k d)))) = column_sound (tree.column_of (node column a)) (is_name t e s) (rule_there k) (default_there d)

further_columns : {n : ℕ} {a : Parse} → Fits n (further (the column)) a → AreSound (map ink_of_column (columns_of a))
further_columns f.no_more = none
further_columns (f.member h k) = one (column_sound_of h) (further_columns k)

columns_sound : {n : ℕ} {a : Parse} → Fits n (list (the column)) a → AreSound (map ink_of_column (columns_of a))
columns_sound (f.both h k) = one (column_sound_of h) (further_columns k)

-- what an index orders by
pub inner_item_there : {n : ℕ} {a : Parse} → Fits n item_rule a → IsNamedItem (inner_item_of a)
inner_item_there (f.first h) = tt
inner_item_there (f.second (f.takes {t = t} e s)) = is_name t e s

item_there : {n : ℕ} {a : Parse} → Fits n (rule.bracketed item_rule) a → IsNamedItem (item_of a)
item_there (f.enclosed h) = inner_item_there h

-- what CREATE makes
creation_sound : {n : ℕ} {a : Parse} → Fits n (the creation) a → IsSound (ink_of_statement (creation_of a))
creation_sound (f.by_rule (f.both c (f.first (f.both h (f.both {a = q} i (f.both (f.takes {t = t} e s) (f.enclosed {a = a} k))))))) =
    create_table_sound (is_present q) t.text (columns_of a) (is_name t e s) (columns_sound k)
creation_sound (f.by_rule (f.both c (f.second (f.both {a = u} h (f.both i (f.both {a = q} j (f.both (f.takes {t = t} e s) (f.both k (f.both {b = it} (f.takes {t = r} d l) o))))))))) =
    create_index_sound (is_present u) (is_present q) t.text r.text (item_of it) (is_name t e s) (is_name r d l) (item_there o)

-- what DROP takes away
removal_sound : {n : ℕ} {a : Parse} → Fits n (the removal) a → IsSound (ink_of_statement (removal_of a))
removal_sound (f.by_rule (f.both c (f.first (f.both h (f.both {a = q} i (f.takes {t = t} e s)))))) = drop_table_sound (is_present q) t.text (is_name t e s)
removal_sound (f.by_rule (f.both c (f.second (f.both h (f.both {a = q} i (f.takes {t = t} e s)))))) = drop_index_sound (is_present q) t.text (is_name t e s)

-- what ALTER changes
alteration_sound : {n : ℕ} {a : Parse} → Fits n (the alteration) a → IsSound (ink_of_statement (alteration_of a))
alteration_sound (f.by_rule (f.both c (f.both h (f.both (f.takes {t = t} e s) (f.first (f.both {b = a} i k)))))) = add_column_sound t.text (tree.column_of a) (is_name t e s) (column_sound_of k)
alteration_sound (f.by_rule (f.both c (f.both h (f.both (f.takes {t = t} e s) (f.second (f.both i (f.both j (f.takes {t = r} d l)))))))) = drop_column_sound t.text r.text (is_name t e s) (is_name r d l)

further_names : {n : ℕ} {a : Parse} → Fits n (further rule.name) a → AreSound (name_inks (names_of a))
further_names f.no_more = none
further_names (f.member (f.takes {t = t} e s) k) = one (name_sound t.text (is_name t e s)) (further_names k)

names_sound : {n : ℕ} {a : Parse} → Fits n (maybe (rule.bracketed (list rule.name))) a → AreSound (name_inks (names_of a))
names_sound f.left_out = none
names_sound (f.entered (f.enclosed (f.both (f.takes {t = t} e s) k))) = one (name_sound t.text (is_name t e s)) (further_names k)

one_row : {n : ℕ} {a : Parse} → Fits n (rule.bracketed (list (the expr))) a → IsSound (ink_of_row (row_of a))
one_row (f.enclosed {n = n} {a = a} h) = row_sound (exprs_of a) (list_sound (exprs_sound n) h)

further_rows : {n : ℕ} {a : Parse} → Fits n (further (rule.bracketed (list (the expr)))) a → AreSound (map ink_of_row (rows_of a))
further_rows f.no_more = none
further_rows (f.member h k) = one (one_row h) (further_rows k)

all_rows : {n : ℕ} {a : Parse} → Fits n (list (rule.bracketed (list (the expr)))) a → AreSound (map ink_of_row (rows_of a))
all_rows (f.both h k) = one (one_row h) (further_rows k)

source_sound : {n : ℕ} {a : Parse} → Fits n (word w.Values then list (rule.bracketed (list (the expr))) or the select) a → IsSound (ink_of_rows (tree.source_of a))
source_sound (f.first (f.both {b = a} h k)) = rows_sound (rows_of a) (all_rows k)
source_sound {n = n} (f.second h) = (selects_sound n).sound h

-- INSERT
insertion_sound : {n : ℕ} {a : Parse} → Fits n (the insertion) a → IsSound (ink_of_statement (insertion_of a))
insertion_sound (f.by_rule (f.both c (f.both h (f.both (f.takes {t = t} e s) (f.both {a = names} {b = from} i k))))) =
    insert_sound t.text (names_of names) (tree.source_of from) (is_name t e s) (names_sound i) (source_sound k)

one_assign : {n : ℕ} {a : Parse} → Fits n (rule.name then mark m.Equal then the expr) a → IsSound (ink_of_assign (tree.assign_of a))
one_assign (f.both (f.takes {t = t} e s) (f.both {b = a} h k)) = assign_sound (record { column = t.text; value = expr_of a }) (is_name t e s) (expr_sound k)

further_assigns : {n : ℕ} {a : Parse} → Fits n (further (rule.name then mark m.Equal then the expr)) a → AreSound (map ink_of_assign (assigns_of a))
further_assigns f.no_more = none
further_assigns (f.member h k) = one (one_assign h) (further_assigns k)

assigns_sound : {n : ℕ} {a : Parse} → Fits n (list (rule.name then mark m.Equal then the expr)) a → AreSound (map ink_of_assign (assigns_of a))
assigns_sound (f.both h k) = one (one_assign h) (further_assigns k)

filter_there : {n : ℕ} {a : Parse} → Fits n (maybe rule.filter) a → IsSoundOption (option_of a)
filter_there {n = n} h = where_there (exprs_sound n) h

-- UPDATE
change_sound : {n : ℕ} {a : Parse} → Fits n (the update) a → IsSound (ink_of_statement (update_of a))
change_sound (f.by_rule (f.both c (f.both (f.takes {t = t} e s) (f.both h (f.both {a = sets} {b = filter} i k))))) =
    update_sound t.text (assigns_of sets) (option_of filter) (is_name t e s) (assigns_sound i) (filter_there k)

-- DELETE
deletion_sound : {n : ℕ} {a : Parse} → Fits n (the deletion) a → IsSound (ink_of_statement (deletion_of a))
deletion_sound (f.by_rule (f.both c (f.both h (f.both {b = filter} (f.takes {t = t} e s) k)))) = delete_sound t.text (option_of filter) (is_name t e s) (filter_there k)

-- a statement
statement_sound : {n : ℕ} {a : Parse} → Fits n (the statement) a → IsSound (ink_of_statement (statement_of a))
statement_sound (f.by_rule (f.first h)) = begin_sound
statement_sound (f.by_rule (f.second (f.first h))) = commit_sound
statement_sound (f.by_rule (f.second (f.second (f.first h)))) = rollback_sound
statement_sound {n = n} (f.by_rule (f.second (f.second (f.second (f.first h))))) = (selects_sound n).sound h
statement_sound (f.by_rule (f.second (f.second (f.second (f.second (f.first h)))))) = creation_sound h
statement_sound (f.by_rule (f.second (f.second (f.second (f.second (f.second (f.first h))))))) = removal_sound h
statement_sound (f.by_rule (f.second (f.second (f.second (f.second (f.second (f.second (f.first h)))))))) = alteration_sound h
statement_sound (f.by_rule (f.second (f.second (f.second (f.second (f.second (f.second (f.second (f.first (f.both h (f.both i (f.takes {t = t} e s)))))))))))) = truncate_sound t.text (is_name t e s)
statement_sound (f.by_rule (f.second (f.second (f.second (f.second (f.second (f.second (f.second (f.second (f.first h)))))))))) = insertion_sound h
statement_sound (f.by_rule (f.second (f.second (f.second (f.second (f.second (f.second (f.second (f.second (f.second (f.first h))))))))))) = change_sound h
statement_sound (f.by_rule (f.second (f.second (f.second (f.second (f.second (f.second (f.second (f.second (f.second (f.second h))))))))))) = deletion_sound h

-- the printed statements are sound
abbrev pub Sound : Statement → Type 0
Sound s = IsSound (ink_of_statement s)

later_sound : {n : ℕ} {a : Parse} → Fits n (many (mark m.Semicolon then maybe (the statement))) a → AllByRecursion Sound (later_of a)
later_sound f.ended = tt
later_sound (f.goes_on (f.both h f.left_out) k) = later_sound k
later_sound (f.goes_on (f.both h (f.entered i)) k) = (statement_sound i, later_sound k)

pub script_sound : {n : ℕ} {a : Parse} → Fits n rule.script a → AllByRecursion Sound (statements_of a)
script_sound (f.both f.left_out (f.both h k)) = later_sound h
script_sound (f.both (f.entered i) (f.both h k)) = (statement_sound i, later_sound h)

-- the tokens of a source are spelled as their kinds are
spelled_of : (source : List ℕ) (ts : List Token) → AllByRecursion (IsIn source) ts → AreSpelled (lexemes source ts)
spelled_of source [] h = tt
spelled_of source (t ∷ ts) h = (h.0.spelled, spelled_of source ts h.1)

pub all_spelled : (source : List ℕ) (ts : List Token) → lex.Reads source (Ok ts) → AreSpelled (lexemes source ts)
all_spelled source ts h = spelled_of source ts (recursion_from_All (IsIn source) ts (whole_in source ts h))

-- the text of what prints soundly is read as its tokens
pub lexed_again : (ink : Inks) → IsSound ink → IsReadAs (text_of ink) (text_of ink) ink
lexed_again ink h =
    let all : Lexed (ink ++ []) = h.goes [] refl over in
    let same : ink ++ [] ≡ ink = append-nil ink in
    read_as ink (rw same at all)

-- the text of a printed statement is read as its tokens
abbrev pub IsLexedAgain : Statement → Type 0
IsLexedAgain s = IsReadAs (text_of (ink_of_statement s)) (text_of (ink_of_statement s)) (ink_of_statement s)

each_again : (ss : List Statement) → AllByRecursion Sound ss → All IsLexedAgain ss
each_again [] h = All-nil IsLexedAgain
each_again (s ∷ ss) h = All-cons IsLexedAgain s ss (lexed_again (ink_of_statement s) h.0) (each_again ss h.1)

each_of : (ss all : List Statement) → ss ≡ all → AllByRecursion Sound all → All IsLexedAgain ss
each_of ss all e h = each_again ss (rw e h)

-- every statement of a script that was read prints a text that is read as its tokens
pub script_again : (source : List ℕ) (ts : List Token) (ss : List Statement) → lex.Reads source (Ok ts) → IsRead (lexemes source ts) ss → All IsLexedAgain ss
script_again source ts ss h i = each_of ss (statements_of i.parse) i.tree (script_sound (fits i.reads (all_spelled source ts h)).0)

-- the number of a token is read again from its decimal digits
pub number_kept : (t : Lexeme) → is_number t ≡ true → Spelled t → number_value (decimal (number_value t.text)) ≡ number_value t.text
number_kept t e h = number_again (number_value t.text) (is_worth t e h)

-- the bytes of a string are read again from the string that they print
pub text_kept : (t : Lexeme) → text_value (quoted false (text_value t.text)) ≡ text_value t.text
text_kept t = text_again (text_value t.text)
