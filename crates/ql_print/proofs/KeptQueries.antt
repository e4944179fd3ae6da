-- The tokens of a printed SELECT are those that were read; and so are those of every expression and every SELECT.
use Rattle.std.proofs.Common.{◌≡◌, ℕ, zero, suc, Bool, true, false, List, ◌∷◌, ◌++◌, map, refl}
use Rattle.std.specs.Prelude.{◌||◌, option_map}
use Rattle.ql_lex.specs.declared.marks.Mark.TheVariants as m
use Rattle.ql_lex.specs.declared.token.TokenKind.TheVariants as kind
use Rattle.ql_lex.specs.declared.words.Word.{Word}
use Rattle.ql_lex.specs.declared.words.Word.TheVariants as w
use Rattle.ql_syntax.specs.Ink.{space, keyword}
use Rattle.ql_syntax.specs.Lexemes.{Lexeme, is_word}
use Rattle.ql_syntax.specs.Printing.{Inks, behind, word_of_side, ink_of_alias, ink_of_fields, ink_of_sets, ink_of_join, ink_of_groups, ink_of_direction, ink_of_keys, ink_of_distinct, ink_of_expr, ink_of_select, ink_of_field, ink_of_source, ink_of_set, ink_of_one_join}
use Rattle.ql_syntax.specs.Rules.{Rule, ◌then◌, ◌or◌, the, maybe, further, list, word, mark, expr, ref, select, set}
use Rattle.ql_syntax.specs.Rules as rule
use Rattle.ql_syntax.specs.Readings.{Parse, Reads}
use Rattle.ql_syntax.specs.Readings as r
use Rattle.ql_syntax.specs.SameTokens.{kind_ends_list, ends_list, ends_statement, is_side}
use Rattle.ql_syntax.specs.SameTokens as is
use Rattle.ql_syntax.specs.Trees.{alias_of, is_present, is_descending, side_of, expr_of, exprs_of, option_of, behind_by, field_of, fields_of, source_of, set_of, sets_in, sets_of, join_of, select_of}
use Rattle.ql_syntax.proofs.PrintingEquations.{of_table, of_query, of_field, of_set, of_join, of_select}
use Rattle.ql_print.proofs.BackTokens.{word_token}
use Rattle.ql_print.proofs.KeptTokens.{Goes, goes_none, goes_then, goes_space, goes_mark, goes_word, goes_name, word_worth, word_ends, list_ends, commas, goes_further, goes_trailing}
use Rattle.ql_print.proofs.KeptLevels.{ExprsKept, SelectsKept, Inner, ref_kept, further_kept, query_kept, expr_kept}

-- what may stand behind a list

-- a keyword with a part, where a list may end before it
pub behind_ends : (a : Word) {n : ℕ} {x : Rule} {ts rest : List Lexeme} {b : Parse} → kind_ends_list (kind.Word a) ≡ true → ends_list rest ≡ true → Reads n (maybe (word a then x)) ts b rest → ends_list ts ≡ true
behind_ends a i l (r.left_out f) = l
behind_ends a i l (r.entered f (r.both (r.takes {t = t} {ts = ts} e) h)) = word_ends a t ts i e

direction_ends : {n : ℕ} {ts rest : List Lexeme} {b : Parse} → ends_list rest ≡ true → Reads n (maybe (word w.Asc or word w.Desc)) ts b rest → ends_list ts ≡ true
direction_ends l (r.left_out f) = l
direction_ends l (r.entered f (r.first g (r.takes {t = t} {ts = ts} e))) = word_ends w.Asc t ts refl e
direction_ends l (r.entered f (r.second g h (r.takes {t = t} {ts = ts} e))) = word_ends w.Desc t ts refl e

join_ends : {n : ℕ} {ts rest : List Lexeme} {b : Parse} → ends_list rest ≡ true → Reads n (maybe rule.join) ts b rest → ends_list ts ≡ true
join_ends l (r.left_out f) = l
join_ends l (r.entered f (r.both (r.first g (r.takes {t = t} {ts = ts} e)) k)) = word_ends w.Left t ts refl e
join_ends l (r.entered f (r.both (r.second g h (r.first i (r.takes {t = t} {ts = ts} e))) k)) = word_ends w.Right t ts refl e
join_ends l (r.entered f (r.both (r.second g h (r.second i j (r.takes {t = t} {ts = ts} e))) k)) = word_ends w.Full t ts refl e

-- fields

alias_kept : {n : ℕ} {ts rest : List Lexeme} {a : Parse} → Reads n (maybe (word w.As then rule.name)) ts a rest → Goes ts rest (ink_of_alias (alias_of a))
alias_kept (r.left_out f) = goes_none
alias_kept (r.entered f (r.both (r.takes i) (r.takes j))) = goes_space (goes_word i (goes_space (goes_name j goes_none)))

field_kept : {n : ℕ} {ts rest : List Lexeme} {a : Parse} → ExprsKept n → Reads n (the expr then maybe (word w.As then rule.name)) ts a rest → Goes ts rest (ink_of_field (field_of a))
field_kept exprs (r.both {a = a} {b = b} h k) = rw (of_field (expr_of a) (alias_of b)) (goes_then (exprs.kept h) (alias_kept k))

further_fields : {n : ℕ} {ts rest : List Lexeme} {a : Parse} → ExprsKept n → ends_list rest ≡ true → Reads n (further (the expr then maybe (word w.As then rule.name))) ts a rest → Goes ts rest (commas (map ink_of_field (fields_of a)))
further_fields exprs l (r.no_comma f) = goes_none
further_fields exprs l (r.trailing i f) = goes_trailing i l
further_fields exprs l (r.member {b = b} i f h k) = goes_further (map ink_of_field (fields_of b)) i (field_kept exprs h) (further_fields exprs l k)

fields_kept : {n : ℕ} {ts rest : List Lexeme} {a : Parse} → ExprsKept n → ends_list rest ≡ true → Reads n (mark m.Star or list (the expr then maybe (word w.As then rule.name))) ts a rest → Goes ts rest (ink_of_fields (map ink_of_field (fields_of a)))
fields_kept exprs l (r.first f (r.takes i)) = goes_mark i goes_none
fields_kept exprs l (r.second f g (r.both h k)) = goes_then (field_kept exprs h) (further_fields exprs l k)

-- record sets

source_kept : {n : ℕ} {ts rest : List Lexeme} {a : Parse} → Inner n → Reads n (rule.name or rule.bracketed rule.subselect) ts a rest → Goes ts rest (ink_of_source (source_of a))
source_kept inner (r.first f (r.takes {t = t} i)) = rw (of_table t.text) (goes_name i goes_none)
source_kept inner (r.second f g (r.enclosed o (r.both {a = q} h k) c)) = rw (of_query (select_of q)) (query_kept inner.1 o h k c)

set_kept : {n : ℕ} {ts rest : List Lexeme} {a : Parse} → Inner n → Reads n (the set) ts a rest → Goes ts rest (ink_of_set (set_of a))
set_kept inner (r.by_rule (r.both {a = a} {b = b} h k)) = rw (of_set (source_of a) (alias_of b)) (goes_then (source_kept inner h) (alias_kept k))

further_sets : {n : ℕ} {ts rest : List Lexeme} {a : Parse} → Inner n → ends_list rest ≡ true → Reads n (further (the set)) ts a rest → Goes ts rest (commas (map ink_of_set (sets_in a)))
further_sets inner l (r.no_comma f) = goes_none
further_sets inner l (r.trailing i f) = goes_trailing i l
further_sets inner l (r.member {b = b} i f h k) = goes_further (map ink_of_set (sets_in b)) i (set_kept inner h) (further_sets inner l k)

-- a join

is_left : (a b c : Bool) → a ≡ true → (a || (b || c)) ≡ true
is_left a b c e = rw e refl

is_right : (a b c : Bool) → b ≡ true → (a || (b || c)) ≡ true
is_right true b c e = refl
is_right false b c e = rw e refl

is_full : (a b c : Bool) → c ≡ true → (a || (b || c)) ≡ true
is_full true b c e = refl
is_full false true c e = refl
is_full false false c e = e

-- a side, OUTER and JOIN before a part
goes_outer : {n : ℕ} {which : Word} {t : Lexeme} {ts mid more rest : List Lexeme} {a b : Parse} {x : Inks} → is_side t ≡ true → is_word which t ≡ true →
    Reads n (maybe (word w.Outer)) ts a mid → Reads n (word w.Join) mid b more → Goes more rest x →
    Goes (t ∷ ts) rest (keyword which ∷ space ∷ keyword w.Outer ∷ space ∷ keyword w.Join ∷ space ∷ x)
goes_outer s e (r.entered f (r.takes i)) (r.takes j) h = goes_word e (goes_space (goes_word i (goes_space (goes_word j (goes_space h)))))
goes_outer {which = which} {t = t} {more = more} {rest = rest} {x = x} s e (r.left_out f) (r.takes {t = join} j) h =
    let plain : Goes (t ∷ word_token w.Outer ∷ join ∷ more) rest (keyword which ∷ space ∷ keyword w.Outer ∷ space ∷ keyword w.Join ∷ space ∷ x) =
    goes_word e (goes_space (goes_word refl (goes_space (goes_word j (goes_space h))))) in
    record { worth = λ a. h.worth a.1.1; goes = λ a tail q. is.with_outer {outer = word_token w.Outer} s refl j (plain.goes (a.0, (word_worth w.Outer, a.1)) tail q) }

goes_side : {n : ℕ} {ts at mid more rest : List Lexeme} {d a b : Parse} {x : Inks} → Reads n (word w.Left or word w.Right or word w.Full) ts d at →
    Reads n (maybe (word w.Outer)) at a mid → Reads n (word w.Join) mid b more → Goes more rest x →
    Goes ts rest (keyword (word_of_side (side_of d)) ∷ space ∷ keyword w.Outer ∷ space ∷ keyword w.Join ∷ space ∷ x)
goes_side (r.first f (r.takes {t = t} e)) o j h = goes_outer (is_left (is_word w.Left t) (is_word w.Right t) (is_word w.Full t) e) e o j h
goes_side (r.second f g (r.first i (r.takes {t = t} e))) o j h = goes_outer (is_right (is_word w.Left t) (is_word w.Right t) (is_word w.Full t) e) e o j h
goes_side (r.second f g (r.second i k (r.takes {t = t} e))) o j h = goes_outer (is_full (is_word w.Left t) (is_word w.Right t) (is_word w.Full t) e) e o j h

-- what a join prints, from what was read
join_kept : {n : ℕ} {ts mid rest : List Lexeme} {a : Parse} {x : Inks} (b c : Parse) → Inner n → ExprsKept n → Reads n rule.join ts a mid → Goes mid rest x →
    Goes ts rest (ink_of_join (option_map ink_of_one_join (join_of (r.present (r.pair b (r.pair c (r.present a)))))) ++ x)
join_kept b c inner exprs (r.both {a = s} i (r.both j (r.both k (r.both {a = a} l (r.both {b = on} (r.takes p) q))))) h =
    goes_then (rw (of_join (side_of s) (set_of a) (expr_of on)) (goes_space (goes_side i j k (goes_then (set_kept inner l) (goes_space (goes_word p (goes_space (exprs.kept q)))))))) h

-- FROM, with a join or without, before a part
from_kept : {n : ℕ} {ts mid rest : List Lexeme} {a : Parse} {x : Inks} → Inner n → ExprsKept n → ends_list mid ≡ true →
    Reads n (maybe (word w.From then list (the set) then maybe rule.join)) ts a mid → Goes mid rest x →
    Goes ts rest (ink_of_sets (map ink_of_set (sets_of a)) ++ (ink_of_join (option_map ink_of_one_join (join_of a)) ++ x))
from_kept inner exprs l (r.left_out f) h = h
from_kept inner exprs l (r.entered f (r.both (r.takes i) (r.both (r.both j k) (r.left_out g)))) h =
    goes_space (goes_word i (goes_space (goes_then (goes_then (set_kept inner j) (further_sets inner l k)) h)))
from_kept inner exprs l (r.entered f (r.both {a = b} (r.takes i) (r.both {a = d} (r.both j k) (r.entered g c)))) h =
    goes_space (goes_word i (goes_space (goes_then (goes_then (set_kept inner j) (further_sets inner (join_ends l (r.entered g c)) k)) (join_kept b d inner exprs c h))))

-- parts behind keywords

-- an expression behind a keyword, if it is there
pub option_kept : (a : Word) {n : ℕ} {ts rest : List Lexeme} {b : Parse} → ExprsKept n → Reads n (maybe (word a then the expr)) ts b rest → Goes ts rest (behind a (option_map ink_of_expr (option_of b)))
option_kept a exprs (r.left_out f) = goes_none
option_kept a exprs (r.entered f (r.both (r.takes i) h)) = goes_space (goes_word i (goes_space (exprs.kept h)))

further_refs : {n : ℕ} {ts rest : List Lexeme} {a : Parse} → ends_list rest ≡ true → Reads n (further (the ref)) ts a rest → Goes ts rest (commas (map ink_of_expr (exprs_of a)))
further_refs l (r.no_comma f) = goes_none
further_refs l (r.trailing i f) = goes_trailing i l
further_refs l (r.member {b = b} i f h k) = goes_further (map ink_of_expr (exprs_of b)) i (ref_kept h) (further_refs l k)

groups_kept : {n : ℕ} {ts rest : List Lexeme} {a : Parse} → ends_list rest ≡ true → Reads n (maybe (word w.Group then word w.By then list (the ref))) ts a rest → Goes ts rest (ink_of_groups (map ink_of_expr (behind_by a)))
groups_kept l (r.left_out f) = goes_none
groups_kept l (r.entered f (r.both (r.takes i) (r.both (r.takes j) (r.both (r.by_rule h) k)))) =
    goes_space (goes_word i (goes_space (goes_word j (goes_space (goes_then (ref_kept (r.by_rule h)) (further_refs l k))))))

-- a direction behind the keys of ORDER BY
direction_kept : {n : ℕ} {ts rest : List Lexeme} {a : Parse} (b c d : Parse) → ends_list rest ≡ true → Reads n (maybe (word w.Asc or word w.Desc)) ts a rest →
    Goes ts rest (ink_of_direction (is_descending (r.present (r.pair b (r.pair c (r.pair d a))))))
direction_kept b c d l (r.left_out f) = goes_none
direction_kept b c d l (r.entered f (r.first g (r.takes i))) = record { worth = λ a. a.1; goes = λ a tail s. is.no_asc i l s }
direction_kept b c d l (r.entered f (r.second g h (r.takes i))) = goes_space (goes_word i goes_none)

keys_kept : {n : ℕ} {ts rest : List Lexeme} {a : Parse} → ExprsKept n → ends_list rest ≡ true → Reads n (maybe (word w.Order then word w.By then list (the expr) then maybe (word w.Asc or word w.Desc))) ts a rest →
    Goes ts rest (ink_of_keys (map ink_of_expr (behind_by a)) (is_descending a))
keys_kept exprs l (r.left_out f) = goes_none
keys_kept exprs l (r.entered f (r.both {a = b} (r.takes i) (r.both {a = c} (r.takes j) (r.both (r.both {a = p} {b = q} h k) d)))) =
    goes_space (goes_word i (goes_space (goes_word j (goes_space (goes_then (goes_then (exprs.kept h) (further_kept exprs (direction_ends l d) k)) (direction_kept b c (r.pair p q) l d))))))

distinct_kept : {n : ℕ} {ts mid rest : List Lexeme} {a : Parse} {x : Inks} → Reads n (maybe (word w.Distinct)) ts a mid → Goes mid rest x → Goes ts rest (ink_of_distinct (is_present a) ++ x)
distinct_kept (r.left_out f) h = h
distinct_kept (r.entered f (r.takes i)) h = goes_word i (goes_space h)

-- a SELECT, before what may stand behind a statement
select_kept : {n : ℕ} {ts rest : List Lexeme} {a : Parse} → Inner n → ExprsKept n → ends_statement rest ≡ true → Reads n (the select) ts a rest → Goes ts rest (ink_of_select (select_of a))
select_kept {rest = rest} inner exprs e (r.by_rule (r.both (r.takes s) (r.both {a = d} h (r.both {a = shown} i (r.both {a = from} j (r.both {a = filter} k (r.both {a = groups} l (r.both {a = order} o (r.both {a = limit} {b = offset} p q))))))))) =
    let at_offset = behind_ends w.Offset refl (list_ends rest e) q in
    let at_limit = behind_ends w.Limit refl at_offset p in
    let at_order = behind_ends w.Order refl at_limit o in
    let at_groups = behind_ends w.Group refl at_order l in
    let at_filter = behind_ends w.Where refl at_groups k in
    let at_from = behind_ends w.From refl at_filter j in
    rw (of_select (is_present d) (fields_of shown) (sets_of from) (join_of from) (option_of filter) (behind_by groups) (behind_by order) (is_descending order) (option_of limit) (option_of offset))
    (goes_word s (goes_space (distinct_kept h (goes_then (fields_kept exprs at_from i) (from_kept inner exprs at_filter j
    (goes_then (option_kept w.Where exprs k) (goes_then (groups_kept at_order l) (goes_then (keys_kept exprs at_limit o) (goes_then (option_kept w.Limit exprs p) (option_kept w.Offset exprs q))))))))))

outer : (n : ℕ) → Inner n → ExprsKept n × SelectsKept n
outer n inner = let exprs : ExprsKept n = record { kept = expr_kept inner } in (exprs, record { kept = select_kept inner exprs })

inner_kept : (n : ℕ) → Inner n
inner_kept zero = tt
inner_kept (suc n) = outer n (inner_kept n)

-- every expression keeps its tokens
pub exprs_kept : (n : ℕ) → ExprsKept n
exprs_kept n = (outer n (inner_kept n)).0

-- every SELECT keeps its tokens
pub selects_kept : (n : ℕ) → SelectsKept n
selects_kept n = (outer n (inner_kept n)).1
