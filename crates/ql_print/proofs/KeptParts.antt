-- The parts of every statement of a script that was read are read back by themselves.
use Rattle.std.proofs.Common.{◌≡◌, ℕ, suc, true, List, [], ◌∷◌, ◌++◌, Ok, refl, sym, ◌∙◌, subst, append_assoc, arith}
use Rattle.std.specs.Prelude.{All}
use Rattle.std.proofs.lemmas.List.Elements.{All-nil, All-cons}
use Rattle.ql_lex.specs.Tokens as lex
use Rattle.ql_lex.specs.Tokens.{IsName}
use Rattle.ql_lex.specs.declared.marks.Mark.TheVariants as m
use Rattle.ql_lex.specs.declared.token.Token.{Token}
use Rattle.ql_lex.specs.declared.words.Word.TheVariants as w
use Rattle.ql_syntax.specs.declared.statement.Statement.{Statement}
use Rattle.ql_syntax.specs.Lexemes.{Lexeme, lexemes}
use Rattle.ql_syntax.specs.Lexemes as lexeme
use Rattle.ql_syntax.specs.Readings.{Parse, Reads}
use Rattle.ql_syntax.specs.Readings as r
use Rattle.ql_syntax.specs.Rules.{Rule, ◌then◌, ◌or◌, maybe, many, further, mark, word, name, the, script, statement, creation, removal, alteration, insertion, update, deletion, column}
use Rattle.ql_syntax.specs.Scripts.{limit}
use Rattle.ql_syntax.specs.Statements.{column_of, columns_of, creation_of, removal_of, alteration_of, insertion_of, update_of, deletion_of, after_removal, statement_of, with_statement, later_of, statements_of}
use Rattle.ql_syntax.specs.StoredParts.{inner_limit, inner_item_of, WasRead, IsColumnKept, IsItemKept, ArePartsKept, PartsReadBack}
use Rattle.ql_print.proofs.Alone.{spelled_from, columns_read_back, items_read_back}
use Rattle.ql_print.proofs.Fits.{AreSpelled, is_name}

-- these tokens are those of a source from some place on
record IsEnd (source : List ℕ) (tokens : List Token) (ts : List Lexeme) : Type 0 where
  lexed : lex.Reads source (Ok tokens)
  front : List Lexeme
  place : lexemes source tokens ≡ front ++ ts

-- behind one token
step : {source : List ℕ} {tokens : List Token} {t : Lexeme} {ts : List Lexeme} → IsEnd source tokens (t ∷ ts) → IsEnd source tokens ts
step {t = t} {ts = ts} h = record { lexed = h.lexed; front = h.front ++ t ∷ []; place = h.place ∙ sym (append_assoc h.front (t ∷ []) ts) }

-- behind what was read
behind : {source : List ℕ} {tokens : List Token} {n : ℕ} {x : Rule} {ts rest : List Lexeme} {a : Parse} → Reads n x ts a rest → IsEnd source tokens ts → IsEnd source tokens rest
behind (r.takes e) h = step h
behind (r.takes_before e d) h = step h
behind r.takes_nothing h = h
behind (r.both i k) h = behind k (behind i h)
behind (r.first e i) h = behind i h
behind (r.second e d i) h = behind i h
behind (r.left_out e) h = h
behind (r.entered e i) h = behind i h
behind (r.ended e) h = h
behind (r.goes_on e i k) h = behind k (behind i h)
behind (r.enclosed o i c) h = step (behind i (step h))
behind (r.no_comma e) h = h
behind (r.trailing e d) h = step h
behind (r.member e d i k) h = behind k (behind i (step h))
behind r.at_end h = h
behind (r.by_rule i) h = behind i h

spelled : {source : List ℕ} {tokens : List Token} {ts : List Lexeme} → IsEnd source tokens ts → AreSpelled ts
spelled {source = source} {tokens = tokens} {ts = ts} h = spelled_from source tokens h.front ts h.lexed h.place

-- the name that stands there
named : {source : List ℕ} {tokens : List Token} {t : Lexeme} {ts : List Lexeme} → IsEnd source tokens (t ∷ ts) → lexeme.is_name t ≡ true → IsName t.text
named {t = t} h e = is_name t e (spelled h).0

was_read : {source : List ℕ} {tokens : List Token} {A : Type 0} (meaning : Parse → A) {n : ℕ} {x : Rule} {ts rest : List Lexeme} {a : Parse} → IsEnd source tokens ts → Reads n x ts a rest → WasRead x meaning n (meaning a)
was_read {source = source} {tokens = tokens} meaning {ts = ts} {rest = rest} {a = a} h reads =
    record { source = source; tokens = tokens; lexed = h.lexed; front = h.front; here = ts; place = h.place; parse = a; rest = rest; reads = reads; tree = refl }

-- columns

column_kept : {source : List ℕ} {tokens : List Token} {n : ℕ} {ts rest : List Lexeme} {a : Parse} → IsEnd source tokens ts → Reads n (the column) ts a rest → IsColumnKept n (column_of a)
column_kept {n = n} {a = a} h reads = columns_read_back n (column_of a) (was_read column_of h reads)

further_kept : {source : List ℕ} {tokens : List Token} {n : ℕ} {ts rest : List Lexeme} {b : Parse} → IsEnd source tokens ts → Reads n (further (the column)) ts b rest → All (IsColumnKept n) (columns_of b)
further_kept {n = n} h (r.no_comma e) = All-nil (IsColumnKept n)
further_kept {n = n} h (r.trailing e d) = All-nil (IsColumnKept n)
further_kept {n = n} h (r.member {a = a} {b = b} e d i k) =
    All-cons (IsColumnKept n) (column_of a) (columns_of b) (column_kept (step h) i) (further_kept (behind i (step h)) k)

-- a fact of each room holds in this one
in_room : {n room : ℕ} (P : ℕ → Type 0) → suc n ≡ suc room → P n → P room
in_room {n = n} {room = room} P e h = let same : n ≡ room = omega arith in subst P same h

-- what CREATE makes
creation_kept : {source : List ℕ} {tokens : List Token} {n : ℕ} {ts rest : List Lexeme} {a : Parse} → n ≡ suc inner_limit → IsEnd source tokens ts → Reads n (the creation) ts a rest → ArePartsKept (creation_of a)
creation_kept same h (r.by_rule (r.both c (r.first e (r.both i (r.both q (r.both (r.takes {t = t} s) (r.enclosed {n = n} o (r.both {a = a} {b = b} j k) close))))))) =
    let at_name = behind q (behind i (behind c h)) in
    let inner = step (step at_name) in
    let columns : All (IsColumnKept n) (column_of a ∷ columns_of b) =
    All-cons (IsColumnKept n) (column_of a) (columns_of b) (column_kept inner j) (further_kept (behind j inner) k) in
    (named at_name s, in_room (λ room. All (IsColumnKept room) (column_of a ∷ columns_of b)) same columns)
creation_kept same h (r.by_rule (r.both c (r.second e d (r.both u (r.both i (r.both q (r.both (r.takes {t = t} s) (r.both on (r.both (r.takes {t = l} z) (r.enclosed {n = n} {a = a} o k close)))))))))) =
    let at_index = behind q (behind i (behind u (behind c h))) in
    let at_table = behind on (step at_index) in
    let it = inner_item_of a in
    let kept : IsItemKept n it = items_read_back n it (was_read inner_item_of (step (step at_table)) k) in
    (named at_index s, named at_table z, in_room (λ room. IsItemKept room it) same kept)

-- what DROP takes away
removal_kept : {n : ℕ} {ts rest : List Lexeme} {a : Parse} → Reads n (the removal) ts a rest → ArePartsKept (removal_of a)
removal_kept (r.by_rule (r.both c (r.first e (r.both i (r.both q k))))) = tt
removal_kept (r.by_rule (r.both c (r.second e d (r.both i (r.both q k))))) = tt

-- what ALTER changes
alteration_kept : {source : List ℕ} {tokens : List Token} {n : ℕ} {ts rest : List Lexeme} {a : Parse} → suc n ≡ suc limit → IsEnd source tokens ts → Reads n (the alteration) ts a rest → ArePartsKept (alteration_of a)
alteration_kept same h (r.by_rule (r.both c (r.both i (r.both (r.takes {t = t} s) (r.first e (r.both {b = a} add k)))))) =
    let at_name = behind i (behind c h) in
    (named at_name s, in_room (λ room. IsColumnKept room (column_of a)) same (column_kept (behind add (step at_name)) k))
alteration_kept same h (r.by_rule (r.both c (r.both i (r.both (r.takes {t = t} s) (r.second e d (r.both j (r.both k l))))))) = tt

insertion_kept : {n : ℕ} {ts rest : List Lexeme} {a : Parse} → Reads n (the insertion) ts a rest → ArePartsKept (insertion_of a)
insertion_kept (r.by_rule (r.both c (r.both i (r.both j (r.both k l))))) = tt

update_kept : {n : ℕ} {ts rest : List Lexeme} {a : Parse} → Reads n (the update) ts a rest → ArePartsKept (update_of a)
update_kept (r.by_rule (r.both c (r.both i (r.both j (r.both k l))))) = tt

deletion_kept : {n : ℕ} {ts rest : List Lexeme} {a : Parse} → Reads n (the deletion) ts a rest → ArePartsKept (deletion_of a)
deletion_kept (r.by_rule (r.both c (r.both i (r.both j k)))) = tt

-- a statement from the alteration on
abbrev after_removal_rule : Rule
after_removal_rule =
    the alteration
    or word w.Truncate then word w.Table then name
    or the insertion
    or the update
    or the deletion

later_form_kept : {source : List ℕ} {tokens : List Token} {ts rest : List Lexeme} {a : Parse} → IsEnd source tokens ts → Reads limit after_removal_rule ts a rest → ArePartsKept (after_removal a)
later_form_kept h (r.first e k) = alteration_kept refl h k
later_form_kept h (r.second e d (r.first i (r.both j (r.both k l)))) = tt
later_form_kept h (r.second e d (r.second i i' (r.first j k))) = insertion_kept k
later_form_kept h (r.second e d (r.second i i' (r.second j j' (r.first k l)))) = update_kept l
later_form_kept h (r.second e d (r.second i i' (r.second j j' (r.second k k' l)))) = deletion_kept l

statement_kept : {source : List ℕ} {tokens : List Token} {ts rest : List Lexeme} {a : Parse} → IsEnd source tokens ts → Reads limit (the statement) ts a rest → ArePartsKept (statement_of a)
statement_kept h (r.by_rule (r.first e k)) = tt
statement_kept h (r.by_rule (r.second e d (r.first i k))) = tt
statement_kept h (r.by_rule (r.second e d (r.second i i' (r.first j k)))) = tt
statement_kept h (r.by_rule (r.second e d (r.second i i' (r.second j j' (r.first k l))))) = tt
statement_kept h (r.by_rule (r.second e d (r.second i i' (r.second j j' (r.second k k' (r.first l o)))))) = creation_kept refl h o
statement_kept h (r.by_rule (r.second e d (r.second i i' (r.second j j' (r.second k k' (r.second l l' (r.first o q))))))) = removal_kept q
statement_kept h (r.by_rule (r.second e d (r.second i i' (r.second j j' (r.second k k' (r.second l l' (r.second o o' q))))))) = later_form_kept h q

-- statements

one_kept : {source : List ℕ} {tokens : List Token} {ts rest : List Lexeme} {a : Parse} (more : List Statement) → IsEnd source tokens ts → Reads limit (maybe (the statement)) ts a rest → All ArePartsKept more →
    All ArePartsKept (with_statement a more)
one_kept more h (r.left_out e) kept = kept
one_kept more h (r.entered {a = a} e k) kept = All-cons ArePartsKept (statement_of a) more (statement_kept h k) kept

later_kept : {source : List ℕ} {tokens : List Token} {ts rest : List Lexeme} {a : Parse} → IsEnd source tokens ts → Reads limit (many (mark m.Semicolon then maybe (the statement))) ts a rest → All ArePartsKept (later_of a)
later_kept h (r.ended e) = All-nil ArePartsKept
later_kept h (r.goes_on e (r.both i j) k) = one_kept _ (behind i h) j (later_kept (behind j (behind i h)) k)

script_kept : {source : List ℕ} {tokens : List Token} {ts rest : List Lexeme} {a : Parse} → IsEnd source tokens ts → Reads limit script ts a rest → All ArePartsKept (statements_of a)
script_kept h (r.both i (r.both j k)) = one_kept _ h i (later_kept (behind i h) j)

pub parts_read_back : PartsReadBack
parts_read_back source tokens ss lexed h =
    let whole : IsEnd source tokens (lexemes source tokens) = record { lexed = lexed; front = []; place = refl } in
    let P : List Statement → Type 0 = All ArePartsKept in
    subst P (sym h.tree) (script_kept whole h.reads)
