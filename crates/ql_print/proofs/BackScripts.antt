-- Every statement of a script that was read is printed, and read again as the same.
use Rattle.std.proofs.Common.{◌≡◌, ℕ, ◌<◌, Bool, true, false, List, [], ◌∷◌, refl, sym, ◌∙◌, append-nil, Ok, get_or}
use Rattle.std.specs.Prelude.{◌^◌, ◌&&◌, All}
use Rattle.std.specs.Fmt.{decimal}
use Rattle.std.proofs.lemmas.List.Elements.{All-nil, All-cons, All-head, All-tail, All-map}
use Rattle.std.proofs.lemmas.Bool.{ltb-true}
use Rattle.ql_lex.specs.Meaning.{text_value}
use Rattle.ql_lex.specs.Numbers.{number_value, are_digits, has_digits, base_of, digits_of}
use Rattle.ql_lex.specs.Tokens
use Rattle.ql_lex.specs.Tokens.{IsSpelled, spelling_of}
use Rattle.ql_lex.specs.declared.token.Token.{Token}
use Rattle.ql_lex.specs.declared.token.TokenKind.{TokenKind}
use Rattle.ql_lex.specs.declared.token.TokenKind.TheVariants as kind
use Rattle.ql_lex.proofs.PlaceLemmas.{whole_in}
use Rattle.ql_lex.specs.declared.marks.Mark.TheVariants as m
use Rattle.ql_value.specs.Print.{quoted}
use Rattle.ql_syntax.specs.declared.statement.Statement.{Statement}
use Rattle.ql_syntax.specs.Ink.{text_of, tokens_of}
use Rattle.ql_syntax.specs.Lexemes.{Lexeme, lexeme, lexemes, kind_is_number, is_number}
use Rattle.ql_syntax.specs.Rules.{Rule, ◌then◌, maybe, many, mark, the, script, begins_the, statement}
use Rattle.ql_syntax.specs.Readings.{Parse, Reads, pair, absent, present, stop}
use Rattle.ql_syntax.specs.Readings as r
use Rattle.ql_syntax.specs.Scripts.{limit}
use Rattle.ql_syntax.specs.Statements.{IsRead, statement_of, with_statement, later_of, statements_of}
use Rattle.ql_syntax.specs.StatementPrinting.{ink_of_statement}
use Rattle.ql_syntax.specs.ReadsBack.{plain_statement, IsReadBack}
use Rattle.ql_print.proofs.BackStatementForms.{statement_before, statement_is}
use Rattle.ql_print.proofs.BackParts.{IsKept, Kept, Each}
use Rattle.ql_print.proofs.BackStatements.{BackStatement, back_statement}

-- what is known of every literal that prints
pub record Literals : Type 0 where
  pub numbers : (n : ℕ) → n < 2 ^ 64 → number_value (decimal n) ≡ n
  pub texts : (bytes : List ℕ) → text_value (quoted false bytes) ≡ bytes

-- a number is worth less than 2^64
abbrev pub IsBounded : Lexeme → Type 0
IsBounded t = is_number t ≡ true → number_value t.text < 2 ^ 64

pub kept_tokens : Literals → (ts : List Lexeme) → All IsBounded ts → All IsKept ts
kept_tokens l [] h = All-nil IsKept
kept_tokens l (t ∷ ts) h =
    let bound : IsBounded t = All-head IsBounded t ts h in
    All-cons IsKept t ts (record { number = λ e. l.numbers (number_value t.text) (bound e); text = l.texts (text_value t.text) }) (kept_tokens l ts (All-tail IsBounded t ts h))

-- what holds of each token holds of each that a reading keeps, and of those behind it
pub each_reading : (P : Lexeme → Type 0) {n : ℕ} {x : Rule} {ts rest : List Lexeme} {a : Parse} → Reads n x ts a rest → All P ts → Each P a × All P rest
each_reading P (r.takes {t = t} {ts = ts} e) h = (All-head P t ts h, All-tail P t ts h)
each_reading P (r.takes_before {t = t} {ts = ts} e d) h = (All-head P t ts h, All-tail P t ts h)
each_reading P r.takes_nothing h = (tt, h)
each_reading P (r.both i k) h =
    let one = each_reading P i h in
    let two = each_reading P k one.1 in
    ((one.0, two.0), two.1)
each_reading P (r.first e i) h = each_reading P i h
each_reading P (r.second e d i) h = each_reading P i h
each_reading P (r.left_out e) h = (tt, h)
each_reading P (r.entered e i) h = each_reading P i h
each_reading P (r.ended e) h = (tt, h)
each_reading P (r.goes_on e i k) h =
    let one = each_reading P i h in
    let two = each_reading P k one.1 in
    ((one.0, two.0), two.1)
each_reading P (r.enclosed {bracket = bracket} {close = close} {ts = ts} {rest = rest} o i c) h =
    let one = each_reading P i (All-tail P bracket ts h) in
    (one.0, All-tail P close rest one.1)
each_reading P (r.no_comma e) h = (tt, h)
each_reading P (r.trailing {comma = comma} {ts = ts} e d) h = (tt, All-tail P comma ts h)
each_reading P (r.member {comma = comma} {ts = ts} e d i k) h =
    let one = each_reading P i (All-tail P comma ts h) in
    let two = each_reading P k one.1 in
    ((one.0, two.0), two.1)
each_reading P r.at_end h = (tt, h)
each_reading P (r.by_rule i) h = each_reading P i h

statement_begins : {n : ℕ} {ts rest : List Lexeme} {a : Parse} → Reads n (the statement) ts a rest → begins_the statement ts ≡ true
statement_begins (r.by_rule (r.first e h)) = rw e refl
statement_begins (r.by_rule (r.second f e h)) = rw (f, e) refl

script_reads : {n : ℕ} {ts : List Lexeme} {a : Parse} → Reads n (the statement) ts a [] → Reads n script ts (pair (present a) (pair stop absent)) []
script_reads h = r.both (r.entered (statement_begins h) h) (r.both (r.ended refl) r.at_end)

-- a printed statement is a script
abbrev pub IsAgain : Statement → Type 0
IsAgain s = IsRead (tokens_of (ink_of_statement s)) (plain_statement s ∷ [])

pub is_again : (s : Statement) → BackStatement limit s → IsAgain s
is_again s b =
    let same : tokens_of (ink_of_statement s) ≡ statement_before s [] = sym (append-nil (tokens_of (ink_of_statement s))) ∙ statement_is s [] in
    record {
      parse = pair (present b.parse) (pair stop absent);
      reads = rw same (script_reads b.reads);
      tree = rw b.tree refl;
    }

one_again : {ts rest : List Lexeme} {a : Parse} (more : List Statement) → Reads limit (maybe (the statement)) ts a rest → Kept a → All IsAgain more → All IsAgain (with_statement a more)
one_again more (r.left_out e) kept h = h
one_again more (r.entered {a = a} e i) kept h = All-cons IsAgain (statement_of a) more (is_again (statement_of a) (back_statement i kept)) h

later_again : {ts rest : List Lexeme} {a : Parse} → Reads limit (many (mark m.Semicolon then maybe (the statement))) ts a rest → Kept a → All IsAgain (later_of a)
later_again (r.ended e) kept = All-nil IsAgain
later_again (r.goes_on e (r.both s h) k) kept = one_again _ h kept.0.1 (later_again k kept.1)

script_again : {ts rest : List Lexeme} {a : Parse} → Reads limit script ts a rest → Kept a → All IsAgain (statements_of a)
script_again (r.both h (r.both k i)) kept = one_again _ h kept.0 (later_again k kept.1.0)

-- Every statement that the grammar reads, once printed, is read as that very statement, but that `count(*)` is read as `count()`.
pub reads_back : {ts : List Lexeme} {ss : List Statement} → All IsKept ts → IsRead ts ss → All (λ s. IsRead (tokens_of (ink_of_statement s)) (plain_statement s ∷ [])) ss
reads_back kept h = rw h.tree (script_again h.reads (each_reading IsKept h.reads kept).0)

-- where its text is lexed as its tokens, it is read back
pub is_read_back : (s : Statement) → IsRead (tokens_of (ink_of_statement s)) (plain_statement s ∷ []) →
    (tokens : List Token) → Tokens.Reads (text_of (ink_of_statement s)) (Ok tokens) → lexemes (text_of (ink_of_statement s)) tokens ≡ tokens_of (ink_of_statement s) → IsReadBack s
is_read_back s h tokens lexed same = record { tokens = tokens; lexed = lexed; read = rw same h }

and_right : (a b : Bool) → (a && b) ≡ true → b ≡ true
and_right true b h = h
and_right false b h = cc

number_bounded : (k : TokenKind) (text : List ℕ) → IsSpelled k text → kind_is_number k ≡ true → number_value text < 2 ^ 64
number_bounded kind.Number text h e = ltb-true (number_value text) (2 ^ 64) (and_right (are_digits (base_of text) (digits_of text) && has_digits (base_of text) (digits_of text)) _ h)
number_bounded _ text h e = absurd (cc)

-- a number of a script that was lexed is worth less than 2^64
pub bounded_tokens : (source : List ℕ) (tokens : List Token) → Tokens.Reads source (Ok tokens) → All IsBounded (lexemes source tokens)
bounded_tokens source tokens h =
    All-map IsBounded (lexeme source) tokens (λ k d i e. number_bounded (get_or tokens k d).kind (spelling_of source (get_or tokens k d)) (whole_in source tokens h k d i).spelled e)

-- Every statement of a script is printed, and read again as that very statement, but that `count(*)` is read as `count()`.
pub script_reads_back : Literals → {source : List ℕ} {tokens : List Token} {ss : List Statement} → Tokens.Reads source (Ok tokens) → IsRead (lexemes source tokens) ss →
    All (λ s. IsRead (tokens_of (ink_of_statement s)) (plain_statement s ∷ [])) ss
script_reads_back l {source = source} {tokens = tokens} lexed h = reads_back (kept_tokens l (lexemes source tokens) (bounded_tokens source tokens lexed)) h
