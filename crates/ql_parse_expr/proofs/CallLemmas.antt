-- The parts of calls, and what a name begins.
use Rattle.std.proofs.Common.{◌≡◌, ℕ, Bool, true, false, ◌&&◌, ◌||◌, List, [], ◌∷◌, length, drop, refl, ap, sym, ◌∙◌}
use Rattle.std.specs.Prelude.{Some, None}
use Rattle.ql_lex.specs.declared.marks.Mark.TheVariants as m
use Rattle.ql_lex.specs.declared.words.Word.{Word}
use Rattle.ql_lex.specs.declared.words.Word.TheVariants as w
use Rattle.ql_lex.specs.declared.token.TokenKind.{TokenKind}
use Rattle.ql_lex.specs.declared.token.TokenKind.TheVariants as kind
use Rattle.ql_cursor.specs.declared.fault.Fault.{Fault}
use Rattle.ql_cursor.specs.declared.fault.Fault.TheVariants as f
use Rattle.ql_syntax.specs.declared.syntax.Expr.{Expr}
use Rattle.ql_syntax.specs.declared.syntax.Expr.TheVariants as e
use Rattle.ql_syntax.specs.declared.syntax.Function.{Function}
use Rattle.ql_syntax.specs.declared.syntax.Function.TheVariants as function
use Rattle.ql_parse_expr.specs.Enclosed.{count_parts_of, count_call_of, call_of, count_parts, parts}
use Rattle.ql_parse_expr.specs.Functions.{named, is_count_function}
use Rattle.ql_syntax.specs.Lexemes.{Lexeme, sees, sees_two, is_mark, is_word, is_name, is_open, is_kind, is_count, is_function, is_number, is_text, kind_at, text_at}
use Rattle.ql_syntax.specs.Rules.{Rule, the, primary, ref, expr, token, bracketed, before, maybe, list, mark, ◌then◌, ◌or◌, enters}
use Rattle.ql_syntax.specs.Readings.{Parse, Reads, Stops, leaf, node, left, right, pair, group, present, absent, takes, takes_before, both, first, second, entered, left_out, by_rule, in_right, in_part}
use Rattle.ql_cursor.specs.Parses.{Gives, Fails, Encloses}
use Rattle.ql_syntax.specs.Trees.{expr_of, exprs_of, name_of, after_null, function_named}
use Rattle.ql_cursor.specs.Kinds.{kind_of_next}
use Rattle.ql_syntax.specs.Statements.{kind_of}
use Rattle.ql_cursor.proofs.Sequences.{fails_the, fails_right, fails_left, fails_neither, fails_second}

-- a primary that is no literal
abbrev pub after_literals : Rule
after_literals =
    before is_count is_open then bracketed (maybe (mark m.Star or list (the expr)))
    or before is_function is_open then bracketed (maybe (list (the expr)))
    or the ref
    or bracketed (the expr)
    or token is_kind then bracketed (the expr)

-- no literal begins there
pub record NoLiteral (ts : List Lexeme) : Type 0 where
  pub number : sees is_number ts ≡ false
  pub text : sees is_text ts ≡ false
  pub truth : sees (is_word w.True) ts ≡ false
  pub falsity : sees (is_word w.False) ts ≡ false
  pub null : sees (is_word w.Null) ts ≡ false

-- an alternative behind the literals
pub past_literals : {n : ℕ} {ts new : List Lexeme} {a : Parse} → NoLiteral ts → enters after_literals ts ≡ true → Reads n after_literals ts a new
    → Reads n (the primary) ts (node primary (right (right (right (right (right a)))))) new
past_literals lit e h =
    by_rule (second lit.number (rw (lit.text, lit.truth, lit.falsity, lit.null) e) (second lit.text (rw (lit.truth, lit.falsity, lit.null) e)
    (second lit.truth (rw (lit.falsity, lit.null) e) (second lit.falsity (rw lit.null e) (second lit.null e h)))))

pub fails_past : {n : ℕ} {ts : List Lexeme} {d : Fault} → NoLiteral ts → enters after_literals ts ≡ true → Fails n after_literals ts d → Fails n (the primary) ts d
fails_past lit e h =
    fails_the primary (fails_right lit.number (rw (lit.text, lit.truth, lit.falsity, lit.null) e) (fails_right lit.text (rw (lit.truth, lit.falsity, lit.null) e)
    (fails_right lit.truth (rw (lit.falsity, lit.null) e) (fails_right lit.falsity (rw lit.null e) (fails_right lit.null e h)))))

-- no primary begins there
pub fails_none : {n : ℕ} {ts : List Lexeme} {d : Fault} → NoLiteral ts → enters after_literals ts ≡ false → d ≡ f.Unexpected (length ts) → Fails n (the primary) ts d
fails_none lit e h = fails_the primary (fails_neither lit.number (rw (lit.text, lit.truth, lit.falsity, lit.null) e) h)

-- the same at the end
pub fails_at_end : {n : ℕ} (ts : List Lexeme) {d : Fault} → kind_at ts ≡ None → d ≡ f.Unexpected (length ts) → Fails n (the primary) ts d
fails_at_end [] k h = fails_the primary (fails_neither refl refl h)
fails_at_end (t ∷ ts) k h = cc

-- the kind of the first token
kind_is : (t : Lexeme) (ts : List Lexeme) (k : TokenKind) → kind_at (t ∷ ts) ≡ Some k → t.kind ≡ k
kind_is t ts k e = cc

-- a name is no literal
pub name_no_literal : (ts : List Lexeme) → kind_at ts ≡ Some kind.Name → NoLiteral ts
name_no_literal [] k = cc
name_no_literal (t ∷ ts) k = let i = kind_is t ts _ k in record { number = rw i refl; text = rw i refl; truth = rw i refl; falsity = rw i refl; null = rw i refl }

-- a keyword is a literal only where it is one of three
pub word_no_literal : (a : Word) (ts : List Lexeme) → kind_at ts ≡ Some (kind.Word a) → sees (is_word w.True) ts ≡ false → sees (is_word w.False) ts ≡ false → sees (is_word w.Null) ts ≡ false → NoLiteral ts
word_no_literal a [] k x y z = cc
word_no_literal a (t ∷ ts) k x y z = let i = kind_is t ts _ k in record { number = rw i refl; text = rw i refl; truth = x; falsity = y; null = z }

-- a mark is no literal
pub mark_no_literal : (a : _) (ts : List Lexeme) → kind_at ts ≡ Some (kind.Mark a) → NoLiteral ts
mark_no_literal a [] k = cc
mark_no_literal a (t ∷ ts) k = let i = kind_is t ts _ k in record { number = rw i refl; text = rw i refl; truth = rw i refl; falsity = rw i refl; null = rw i refl }

or_true : (a : Bool) → a || true ≡ true
or_true true = refl
or_true false = refl

and_false : (a : Bool) → a && false ≡ false
and_false true = refl
and_false false = refl

-- no call where no `(` stands behind the name
pub two_behind : (test next : Lexeme → Bool) (ts : List Lexeme) → sees next (drop 1 ts) ≡ false → sees_two test next ts ≡ false
two_behind test next [] e = refl
two_behind test next (t ∷ ts) e = rw e (and_false (test t))

-- no call where the name is that of no function
pub two_before : (test next : Lexeme → Bool) (ts : List Lexeme) → sees test ts ≡ false → sees_two test next ts ≡ false
two_before test next [] e = refl
two_before test next (t ∷ ts) e = rw e refl

-- a call where both are there
pub two_both : (test next : Lexeme → Bool) (ts : List Lexeme) → sees test ts ≡ true → sees next (drop 1 ts) ≡ true → sees_two test next ts ≡ true
two_both test next [] e g = cc
two_both test next (t ∷ ts) e g = rw (e, g) refl

-- what a test says of a name it says of its bytes
pub by_text : (test : Lexeme → Bool) (v : Bool) (ts : List Lexeme) → kind_at ts ≡ Some kind.Name → test (named (text_at ts)) ≡ v → ((t : Lexeme) → t.kind ≡ kind.Name → test t ≡ test (named t.text)) → sees test ts ≡ v
by_text test v [] k e same = cc
by_text test v (t ∷ ts) k e same = same t (kind_is t ts _ k) ∙ e

pub count_by_text : (t : Lexeme) → t.kind ≡ kind.Name → is_count t ≡ is_count (named t.text)
count_by_text t e = rw e refl

pub function_by_text : (t : Lexeme) → t.kind ≡ kind.Name → is_function t ≡ is_function (named t.text)
function_by_text t e = rw e refl

-- a column begins there
name_enters : (ts : List Lexeme) → kind_at ts ≡ Some kind.Name → sees is_name ts ≡ true
name_enters [] k = cc
name_enters (t ∷ ts) k = rw (kind_is t ts _ k) refl

-- a column
pub gives_column : {n : ℕ} (ts : List Lexeme) {v : Expr} {new : List Lexeme} → kind_at ts ≡ Some kind.Name → sees_two is_count is_open ts ≡ false → sees_two is_function is_open ts ≡ false
    → Gives n (the ref) expr_of ts v new → Gives n (the primary) expr_of ts v new
gives_column ts k c g h =
    let name = name_enters ts k in
    record {
      parse = node primary (right (right (right (right (right (right (right (left h.parse))))))));
      reads = past_literals (name_no_literal ts k) (rw (c, g, name) refl) (second c (rw (g, name) refl) (second g (rw name refl) (first name h.reads)));
      means = h.means;
    }

pub fails_column : {n : ℕ} (ts : List Lexeme) {d : Fault} → kind_at ts ≡ Some kind.Name → sees_two is_count is_open ts ≡ false → sees_two is_function is_open ts ≡ false
    → Fails n (the ref) ts d → Fails n (the primary) ts d
fails_column ts k c g h =
    let name = name_enters ts k in
    fails_past (name_no_literal ts k) (rw (c, g, name) refl) (fails_right c (rw (g, name) refl) (fails_right g (rw name refl) (fails_left name h)))

-- the parts of count where `*` does not stand there
star_or_list : {n : ℕ} {ts new : List Lexeme} {a : Parse} → sees (is_mark m.Star) ts ≡ false → Reads n (maybe (list (the expr))) ts a new
    → (b : Parse) × Reads n (maybe (mark m.Star or list (the expr))) ts b new × (count_parts_of b ≡ (false, exprs_of a))
star_or_list star (left_out f) = (absent, left_out (rw (star, f) refl), refl)
star_or_list star (entered {a = a} e h) = (present (right a), entered (rw (star, e) refl) (second star e h), refl)

pub gives_count_parts : {n : ℕ} {ts mid new : List Lexeme} {v : List Expr} → sees (is_mark m.Star) ts ≡ false → mid ≡ ts → Gives n (maybe (list (the expr))) exprs_of mid v new
    → Gives n (maybe (mark m.Star or list (the expr))) count_parts_of ts (false, v) new
gives_count_parts {n = n} {ts = ts} {new = new} {v = v} star d h =
    let h' : Gives n (maybe (list (the expr))) exprs_of ts v new = rw d at h in
    let b = star_or_list star h'.reads in
    record { parse = b.0; reads = b.1; means = ap (λ (xs : List Expr). (false, xs)) h'.means ∙ sym b.2 }

fails_star : {n : ℕ} {ts : List Lexeme} {s : _} → sees (is_mark m.Star) ts ≡ false → Stops n (maybe (list (the expr))) ts s → Stops n (maybe (mark m.Star or list (the expr))) ts s
fails_star star (in_part e i) = in_part (rw (star, e) refl) (in_right star e i)

pub fails_count_parts : {n : ℕ} {ts mid : List Lexeme} {d : Fault} → sees (is_mark m.Star) ts ≡ false → mid ≡ ts → Fails n (maybe (list (the expr))) mid d → Fails n (maybe (mark m.Star or list (the expr))) ts d
fails_count_parts {n = n} {ts = ts} {d = fault} star d h =
    let h' : Fails n (maybe (list (the expr))) ts fault = rw d at h in
    record { stops = λ no. let s = h'.stops no in (s.0, fails_star star s.1, s.2) }

-- the function count
pub function_is_count : (f : Function) → is_count_function f ≡ true → f ≡ function.Count
function_is_count function.Count e = refl
function_is_count function.Id e = cc
function_is_count function.Len e = cc
function_is_count function.Contains e = cc
function_is_count function.HasPrefix e = cc
function_is_count function.HasSuffix e = cc
function_is_count function.Coalesce e = cc
function_is_count function.Sum e = cc
function_is_count function.Avg e = cc
function_is_count function.Min e = cc
function_is_count function.Max e = cc

-- what a call of count means
count_means : (t : Lexeme) (a : Parse) → function_named t.text ≡ function.Count → count_call_of a ≡ after_null (left (pair (leaf t) (group a)))
count_means t (present (left a)) e = rw e refl
count_means t (present a) e = rw e refl
count_means t a e = rw e refl

-- a call of count
pub gives_count : {n : ℕ} (ts : List Lexeme) {mid new : List Lexeme} {v : Expr} → kind_at ts ≡ Some kind.Name → sees is_count ts ≡ true → sees is_open (drop 1 ts) ≡ true → function_named (text_at ts) ≡ function.Count
    → mid ≡ drop 1 ts → Encloses n count_parts.rule count_call_of mid v new → Gives n (the primary) expr_of ts v new
gives_count [] k c o g d h = cc
gives_count {n = n} (t ∷ ts) {mid = mid} {new = new} {v = v} k c o g d h =
    let here : mid ≡ ts = d in
    let h' : Encloses n count_parts.rule count_call_of ts v new = rw here at h in
    let two : sees_two is_count is_open (t ∷ ts) ≡ true = rw (c, o) refl in
    record {
      parse = node primary (right (right (right (right (right (left (pair (leaf t) (group h'.parse))))))));
      reads = past_literals (name_no_literal (t ∷ ts) k) (rw two refl) (first two (both (takes_before c o) h'.reads));
      means = h'.means ∙ count_means t h'.parse g;
    }

pub fails_count : {n : ℕ} (ts : List Lexeme) {mid : List Lexeme} {d : Fault} → kind_at ts ≡ Some kind.Name → sees is_count ts ≡ true → sees is_open (drop 1 ts) ≡ true
    → mid ≡ drop 1 ts → Fails n (bracketed count_parts.rule) mid d → Fails n (the primary) ts d
fails_count [] k c o e h = cc
fails_count {n = n} (t ∷ ts) {mid = mid} {d = fault} k c o e h =
    let here : mid ≡ ts = e in
    let h' : Fails n (bracketed count_parts.rule) ts fault = rw here at h in
    let two : sees_two is_count is_open (t ∷ ts) ≡ true = rw (c, o) refl in
    let named : Gives n (before is_count is_open) name_of (t ∷ ts) t.text ts = record { parse = leaf t; reads = takes_before c o; means = refl } in
    fails_past (name_no_literal (t ∷ ts) k) (rw two refl) (fails_left two (fails_second named h'))

-- a call of another function
pub gives_call : {n : ℕ} (ts : List Lexeme) {mid new : List Lexeme} {f : Function} {v : Expr} → kind_at ts ≡ Some kind.Name → sees is_count ts ≡ false → sees is_function ts ≡ true → sees is_open (drop 1 ts) ≡ true
    → f ≡ function_named (text_at ts) → mid ≡ drop 1 ts → Encloses n parts.rule (call_of f) mid v new → Gives n (the primary) expr_of ts v new
gives_call [] k x c o g d h = cc
gives_call {n = n} (t ∷ ts) {mid = mid} {new = new} {f = f} {v = v} k x c o g d h =
    let here : mid ≡ ts = d in
    let h' : Encloses n parts.rule (call_of f) ts v new = rw here at h in
    let none : sees_two is_count is_open (t ∷ ts) ≡ false = rw x refl in
    let two : sees_two is_function is_open (t ∷ ts) ≡ true = rw (c, o) refl in
    record {
      parse = node primary (right (right (right (right (right (right (left (pair (leaf t) (group h'.parse)))))))));
      reads = past_literals (name_no_literal (t ∷ ts) k) (rw (none, two) refl) (second none (rw two refl) (first two (both (takes_before c o) h'.reads)));
      means = h'.means ∙ ap (λ (q : Function). e.Call q false (exprs_of h'.parse)) g;
    }

pub fails_call : {n : ℕ} (ts : List Lexeme) {mid : List Lexeme} {d : Fault} → kind_at ts ≡ Some kind.Name → sees is_count ts ≡ false → sees is_function ts ≡ true → sees is_open (drop 1 ts) ≡ true
    → mid ≡ drop 1 ts → Fails n (bracketed parts.rule) mid d → Fails n (the primary) ts d
fails_call [] k x c o e h = cc
fails_call {n = n} (t ∷ ts) {mid = mid} {d = fault} k x c o e h =
    let here : mid ≡ ts = e in
    let h' : Fails n (bracketed parts.rule) ts fault = rw here at h in
    let none : sees_two is_count is_open (t ∷ ts) ≡ false = rw x refl in
    let two : sees_two is_function is_open (t ∷ ts) ≡ true = rw (c, o) refl in
    let named : Gives n (before is_function is_open) name_of (t ∷ ts) t.text ts = record { parse = leaf t; reads = takes_before c o; means = refl } in
    fails_past (name_no_literal (t ∷ ts) k) (rw (none, two) refl) (fails_right none (rw two refl) (fails_left two (fails_second named h')))

-- an expression in brackets
pub gives_paren : {n : ℕ} (ts : List Lexeme) {new : List Lexeme} {v : Expr} (a : _) → kind_at ts ≡ Some (kind.Mark a) → sees is_open ts ≡ true → Encloses n (the expr) expr_of ts v new → Gives n (the primary) expr_of ts (e.Paren v) new
gives_paren [] a k o h = cc
gives_paren (t ∷ ts) a k o h =
    let i = kind_is t ts _ k in
    record {
      parse = node primary (right (right (right (right (right (right (right (right (left (group h.parse))))))))));
      reads = past_literals (mark_no_literal a (t ∷ ts) k) (rw (o, i) refl)
          (second (rw i refl) (rw (o, i) refl) (second (rw i refl) (rw (o, i) refl) (second (rw i refl) (rw o refl) (first o h.reads))));
      means = ap e.Paren h.means;
    }

pub fails_paren : {n : ℕ} (ts : List Lexeme) {d : Fault} (a : _) → kind_at ts ≡ Some (kind.Mark a) → sees is_open ts ≡ true → Fails n (bracketed (the expr)) ts d → Fails n (the primary) ts d
fails_paren [] a k o h = cc
fails_paren (t ∷ ts) a k o h =
    let i = kind_is t ts _ k in
    fails_past (mark_no_literal a (t ∷ ts) k) (rw (o, i) refl)
    (fails_right (rw i refl) (rw (o, i) refl) (fails_right (rw i refl) (rw (o, i) refl) (fails_right (rw i refl) (rw o refl) (fails_left o h))))

-- another mark begins no primary
pub fails_mark : {n : ℕ} (ts : List Lexeme) {d : Fault} (a : _) → kind_at ts ≡ Some (kind.Mark a) → sees is_open ts ≡ false → d ≡ f.Unexpected (length ts) → Fails n (the primary) ts d
fails_mark [] a k o h = cc
fails_mark (t ∷ ts) a k o h = let i = kind_is t ts _ k in fails_none (mark_no_literal a (t ∷ ts) k) (rw (o, i) refl) h

-- a conversion
pub gives_convert : {n : ℕ} (ts : List Lexeme) {mid new : List Lexeme} {v : Expr} {q : _} (a : Word) → kind_at ts ≡ Some (kind.Word a) → NoLiteral ts → sees is_kind ts ≡ true → q ≡ kind_of_next ts → mid ≡ drop 1 ts
    → Encloses n (the expr) expr_of mid v new → Gives n (the primary) expr_of ts (e.Convert q v) new
gives_convert [] a k lit s g d h = cc
gives_convert {n = n} (t ∷ ts) {mid = mid} {new = new} {v = v} {q = q} a k lit s g d h =
    let i = kind_is t ts _ k in
    let here : mid ≡ ts = d in
    let h' : Encloses n (the expr) expr_of ts v new = rw here at h in
    let three : sees_two is_function is_open (t ∷ ts) ≡ false = rw i refl in
    let open_no : sees is_open (t ∷ ts) ≡ false = rw i refl in
    let name_no : sees is_name (t ∷ ts) ≡ false = rw i refl in
    let one : sees_two is_count is_open (t ∷ ts) ≡ false = rw i refl in
    record {
      parse = node primary (right (right (right (right (right (right (right (right (right (pair (leaf t) (group h'.parse)))))))))));
      reads = past_literals lit (rw (one, three, name_no, open_no, s) refl)
          (second one (rw (three, name_no, open_no, s) refl) (second three (rw (name_no, open_no, s) refl) (second name_no (rw (open_no, s) refl) (second open_no s (both (takes s) h'.reads)))));
      means = rw (g, h'.means) refl;
    }

pub fails_convert : {n : ℕ} (ts : List Lexeme) {mid : List Lexeme} {d : Fault} (a : Word) → kind_at ts ≡ Some (kind.Word a) → NoLiteral ts → sees is_kind ts ≡ true → mid ≡ drop 1 ts
    → Fails n (bracketed (the expr)) mid d → Fails n (the primary) ts d
fails_convert [] a k lit s e h = cc
fails_convert {n = n} (t ∷ ts) {mid = mid} {d = fault} a k lit s e h =
    let i = kind_is t ts _ k in
    let here : mid ≡ ts = e in
    let h' : Fails n (bracketed (the expr)) ts fault = rw here at h in
    let three : sees_two is_function is_open (t ∷ ts) ≡ false = rw i refl in
    let open_no : sees is_open (t ∷ ts) ≡ false = rw i refl in
    let name_no : sees is_name (t ∷ ts) ≡ false = rw i refl in
    let one : sees_two is_count is_open (t ∷ ts) ≡ false = rw i refl in
    let named : Gives n (token is_kind) kind_of (t ∷ ts) (kind_of_next (t ∷ ts)) ts = record { parse = leaf t; reads = takes s; means = refl } in
    fails_past lit (rw (one, three, name_no, open_no, s) refl)
    (fails_right one (rw (three, name_no, open_no, s) refl) (fails_right three (rw (name_no, open_no, s) refl) (fails_right name_no (rw (open_no, s) refl) (fails_right open_no s (fails_second named h')))))

-- another keyword begins no primary
pub fails_word : {n : ℕ} (ts : List Lexeme) {d : Fault} (a : Word) → kind_at ts ≡ Some (kind.Word a) → NoLiteral ts → sees is_kind ts ≡ false → d ≡ f.Unexpected (length ts) → Fails n (the primary) ts d
fails_word [] a k lit s h = cc
fails_word (t ∷ ts) a k lit s h = let i = kind_is t ts _ k in fails_none lit (rw (s, i) refl) h

-- a name that is known as a function's, and not as count
pub not_count : (a b : Bool) → a || b ≡ true → a ≡ false → b ≡ true
not_count true b e g = cc
not_count false b e g = e
