-- The statements of a script, and that the answer is the only one.
use Rattle.std.proofs.Common.{◌≡◌, ◌⊎◌, inl, inr, ℕ, suc, ◌<◌, ◌+◌, ◌-◌, ◌≤◌, true, false, List, [], ◌∷◌, ◌++◌, length, drop, refl, ap, sym, ◌∙◌, arith, append_assoc, append-nil}
use Rattle.std.specs.Prelude.{Option, Result, Ok, Err}
use Rattle.ql_lex.specs.declared.marks.Mark.TheVariants as m
use Rattle.ql_cursor.specs.declared.fault.Fault.{Fault}
use Rattle.ql_cursor.specs.declared.fault.Fault.TheVariants as f
use Rattle.ql_parse.specs.declared.fault.ParseFault.{ParseFault}
use Rattle.ql_parse.specs.declared.fault.ParseFault.TheVariants as p
use Rattle.ql_syntax.specs.declared.statement.Statement.{Statement}
use Rattle.ql_parse.specs.Later.{later_rule, listed, maybe_statement_of}
use Rattle.ql_lex.specs.declared.token.Token.{Token}
use Rattle.ql_syntax.specs.Lexemes.{Lexeme, lexemes, sees, is_mark}
use Rattle.ql_syntax.specs.Rules.{Rule, the, statement, maybe, script, finish}
use Rattle.ql_syntax.specs.Readings as r
use Rattle.ql_syntax.specs.Readings.{Parse, leaf, pair, cell, stop, absent, present, Reads, Stop, Stops, unexpected, too_nested}
use Rattle.ql_cursor.specs.Parses.{Gives, Fails, Adds, fault_of}
use Rattle.ql_parse.specs.ScriptFaults.{parse_fault}
use Rattle.ql_parse.specs.ScriptLaws.{ScriptLaws, Outcome, read, nested}
use Rattle.ql_parse.specs.ScriptLaws as outcome
use Rattle.ql_syntax.specs.Scripts.{limit, IsUnexpected, IsTooNested}
use Rattle.ql_syntax.specs.Statements.{IsRead, later_of, statements_of, with_statement}
use Rattle.ql_parse.proofs.Outcomes.{Ends, reads, stops, a_script}
use Rattle.ql_cursor.proofs.GrammarLaws.{begins_as_ruled, one_reading, reads_or_stops, one_stop, shorter}

-- whatever is read from here on completes what stands behind semicolons, and wherever reading stops it stops
pub record LaterGoing (n : ℕ) (old now : List Lexeme) (before found : List Statement) : Type 0 where
  pub reads : (a : Parse) (rest : List Lexeme) → Reads n later_rule now a rest → (b : Parse) × Reads n later_rule old b rest × (found ++ later_of a ≡ before ++ later_of b)
  pub stops : (s : Stop) → Stops n later_rule now s → Stops n later_rule old s

pub later_going : (n : ℕ) (old : List Lexeme) (before : List Statement) → LaterGoing n old old before before
later_going n old before = record { reads = λ a rest h. (a, h, refl); stops = λ s h. h }

-- a statement that may be empty, before others
with_listed : {n : ℕ} {ts rest : List Lexeme} {a : Parse} (more : List Statement) → Reads n (maybe (the statement)) ts a rest → with_statement a more ≡ listed (maybe_statement_of a) ++ more
with_listed more (r.left_out e) = refl
with_listed more (r.entered e h) = refl

-- one more semicolon, with a statement behind it or none
pub one_later : {n : ℕ} {old : List Lexeme} (now : List Lexeme) {mid new : List Lexeme} {before found after : List Statement} {s : Option Statement} → LaterGoing n old now before found
    → sees (is_mark m.Semicolon) now ≡ true → mid ≡ drop 1 now → Gives n (maybe (the statement)) maybe_statement_of mid s new → after ≡ found ++ listed s → LaterGoing n old new before after
one_later [] g e d h i = cc
one_later {n = n} (t ∷ ts) {mid = mid} {new = new} {found = found} {s = s} g e d h i =
    let here : mid ≡ ts = d in
    let h' : Gives n (maybe (the statement)) maybe_statement_of ts s new = rw here at h in
    record {
      reads = λ a rest k.
          let w = g.reads (cell (pair (leaf t) h'.parse) a) rest (r.goes_on e (r.both (r.takes e) h'.reads) k) in
          (w.0, w.1, rw (i, append_assoc, h'.means, ← with_listed (later_of a) h'.reads) w.2);
      stops = λ stop k. g.stops stop (r.in_later e (r.both (r.takes e) h'.reads) k);
    }

-- no semicolon stands there
pub no_later : {n : ℕ} {old now new : List Lexeme} {before found : List Statement} → LaterGoing n old now before found → sees (is_mark m.Semicolon) now ≡ false → new ≡ now → Adds n later_rule later_of old before new found
no_later {found = found} g e d =
    let w = g.reads stop _ (r.ended e) in
    rw d (record { parse = w.0; reads = w.1; means = sym (append-nil found) ∙ w.2 })

-- the statement behind a semicolon fails
pub later_fails : {n : ℕ} {old : List Lexeme} (now : List Lexeme) {mid : List Lexeme} {before found : List Statement} {d : Fault} → LaterGoing n old now before found
    → sees (is_mark m.Semicolon) now ≡ true → mid ≡ drop 1 now → Fails n (maybe (the statement)) mid d → Fails n later_rule old d
later_fails [] g e d h = cc
later_fails {n = n} (t ∷ ts) {mid = mid} {d = fault} g e d h =
    let here : mid ≡ ts = d in
    let h' : Fails n (maybe (the statement)) ts fault = rw here at h in
    record { stops = λ no. let s = h'.stops no in (s.0, g.stops s.0 (r.in_one e (r.in_second (r.takes e) s.1)), s.2) }

-- a semicolon and what stands behind it are shorter
pub fewer_later : {n : ℕ} (now : List Lexeme) {mid new : List Lexeme} {s : Option Statement} → sees (is_mark m.Semicolon) now ≡ true → mid ≡ drop 1 now → Gives n (maybe (the statement)) maybe_statement_of mid s new → suc (length new) ≤ length now
fewer_later [] e d h = cc
fewer_later (t ∷ ts) e d h = omega (arith, ap length d, shorter h.reads)

-- a whole script
pub gives_script : {n : ℕ} {old mid new : List Lexeme} {first : Option Statement} {empty found all : List Statement} → Gives n (maybe (the statement)) maybe_statement_of old first mid → empty ≡ [] → found ≡ empty ++ listed first
    → Adds n later_rule later_of mid found new all → new ≡ [] → Gives n script statements_of old all new
gives_script {n = n} {old = old} {mid = mid} {new = new} {first = first} {found = found} {all = all} h e i k d =
    let k' : Adds n later_rule later_of mid found [] all = rw d at k in
    rw d (record {
      parse = pair h.parse (pair k'.parse absent);
      reads = r.both h.reads (r.both k'.reads r.at_end);
      means = rw (k'.means, i, e, h.means) (sym (with_listed (later_of k'.parse) h.reads));
    })

-- a token is left behind the script
left_over : {n : ℕ} (ts : List Lexeme) → 0 < length ts → Stops n finish ts (unexpected ts)
left_over [] h = absurd (omega arith)
left_over (t ∷ ts) h = r.not_at_end

pub fails_left : {n : ℕ} {old mid new : List Lexeme} {first : Option Statement} {found all : List Statement} {d : Fault} → Gives n (maybe (the statement)) maybe_statement_of old first mid
    → Adds n later_rule later_of mid found new all → 0 < length new → d ≡ f.Unexpected (length new) → Fails n script old d
fails_left {new = new} h k e i = record { stops = λ no. (unexpected new, r.in_second h.reads (r.in_second k.reads (left_over new e)), i) }

-- no list of tokens is read to its end but by the end
pub script_ends : {n : ℕ} {ts rest : List Lexeme} {a : Parse} → Reads n script ts a rest → rest ≡ []
script_ends (r.both h (r.both k r.at_end)) = refl

-- where reading stops, no more tokens stand than before
abbrev place_of : Stop → List Lexeme
place_of (unexpected here) = here
place_of (too_nested here) = here

stop_within : {n : ℕ} {x : Rule} {ts : List Lexeme} {s : Stop} → Stops n x ts s → length (place_of s) ≤ length ts
stop_within (r.other_token f) = omega arith
stop_within (r.not_before f) = omega arith
stop_within (r.in_first i) = stop_within i
stop_within (r.in_second h i) = omega (arith, shorter h, stop_within i)
stop_within (r.in_left e i) = stop_within i
stop_within (r.in_right e f i) = stop_within i
stop_within (r.neither e f) = omega arith
stop_within (r.in_part e i) = stop_within i
stop_within (r.in_one e i) = stop_within i
stop_within (r.in_later e h i) = omega (arith, shorter h, stop_within i)
stop_within (r.not_open f) = omega arith
stop_within (r.no_room e) = omega arith
stop_within (r.within o i) = omega (arith, stop_within i)
stop_within (r.not_closed o h f) = omega (arith, shorter h)
stop_within (r.in_member e f i) = omega (arith, stop_within i)
stop_within (r.in_further e f h i) = omega (arith, shorter h, stop_within i)
stop_within r.not_at_end = omega arith
stop_within (r.by_its_rule i) = stop_within i

-- an answer is the statements of the tokens
pub is_read : {ts new : List Lexeme} {ss : List Statement} → Gives limit script statements_of ts ss new → IsRead ts ss
is_read {ts = ts} h = record { parse = h.parse; reads = rw (script_ends h.reads) at h.reads; tree = h.means }

-- a fault is the token where reading stops
unexpected_at : {ts : List Lexeme} (count left i : ℕ) (s : Stop) → count ≡ length ts → Stops limit script ts s → f.Unexpected left ≡ fault_of s → p.Unexpected (count - left) ≡ p.Unexpected i → IsUnexpected ts i
unexpected_at {ts = ts} count left i (unexpected here) c h e g =
    let l : left ≡ length here = cc in
    let w : length here ≤ length ts = stop_within h in
    let j : count - left ≡ i = cc in
    record { here = here; stops = h; place = omega (arith, l, w, j, c) }
unexpected_at count left i (too_nested here) c h e g = cc

nested_at : {ts : List Lexeme} (count left i : ℕ) (s : Stop) → count ≡ length ts → Stops limit script ts s → f.TooNested left ≡ fault_of s → p.TooNested (count - left) ≡ p.TooNested i → IsTooNested ts i
nested_at count left i (unexpected here) c h e g = cc
nested_at {ts = ts} count left i (too_nested here) c h e g =
    let l : left ≡ length here = cc in
    let w : length here ≤ length ts = stop_within h in
    let j : count - left ≡ i = cc in
    record { here = here; stops = h; place = omega (arith, l, w, j, c) }

pub is_unexpected : {ts : List Lexeme} (count i : ℕ) (d : Fault) → count ≡ length ts → Fails limit script ts d → parse_fault count d ≡ p.Unexpected i → IsUnexpected ts i
is_unexpected count i (f.Unexpected left) c h g = let s = h.stops (λ e. cc) in unexpected_at count left i s.0 c s.1 s.2 g
is_unexpected count i (f.TooNested left) c h g = cc
is_unexpected count i f.NoMemory c h g = cc

pub is_nested : {ts : List Lexeme} (count i : ℕ) (d : Fault) → count ≡ length ts → Fails limit script ts d → parse_fault count d ≡ p.TooNested i → IsTooNested ts i
is_nested count i (f.Unexpected left) c h g = cc
is_nested count i (f.TooNested left) c h g = let s = h.stops (λ e. cc) in nested_at count left i s.0 c s.1 s.2 g
is_nested count i f.NoMemory c h g = cc

-- the laws
one_script : (ts : List Lexeme) (ss rs : List Statement) → IsRead ts ss → IsRead ts rs → ss ≡ rs
one_script ts ss rs h k = let e = one_reading h.reads k.reads in h.tree ∙ ap statements_of e.0 ∙ sym k.tree

length_of_unexpected : (a b : List Lexeme) → unexpected a ≡ unexpected b → length a ≡ length b
length_of_unexpected a b e = let same : a ≡ b = cc in ap length same

length_of_nested : (a b : List Lexeme) → too_nested a ≡ too_nested b → length a ≡ length b
length_of_nested a b e = let same : a ≡ b = cc in ap length same

one_unexpected : (ts : List Lexeme) (i j : ℕ) → IsUnexpected ts i → IsUnexpected ts j → i ≡ j
one_unexpected ts i j h k = omega (arith, length_of_unexpected h.here k.here (one_stop h.stops k.stops), h.place, k.place)

one_nested : (ts : List Lexeme) (i j : ℕ) → IsTooNested ts i → IsTooNested ts j → i ≡ j
one_nested ts i j h k = omega (arith, length_of_nested h.here k.here (one_stop h.stops k.stops), h.place, k.place)

one_reason : (ts : List Lexeme) (i j : ℕ) → IsUnexpected ts i → IsTooNested ts j → ⊥
one_reason ts i j h k = let e = one_stop h.stops k.stops in cc

-- every list of tokens comes to something
some_outcome : (ts : List Lexeme) → Outcome ts
some_outcome ts = by (a_script limit ts)
  where
    by : Ends limit script ts → Outcome ts
    by (reads {a = a} h) = read (statements_of a) (record { parse = a; reads = rw (script_ends h) at h; tree = refl })
    by (stops {s = r.unexpected here} h) = outcome.unexpected (length ts - length here) (record { here = here; stops = h; place = omega (arith, stop_within h) })
    by (stops {s = r.too_nested here} h) = nested (length ts - length here) (record { here = here; stops = h; place = omega (arith, stop_within h) })

pub script_laws : ScriptLaws
script_laws = record {
  some_outcome = some_outcome;
  one_script = one_script;
  one_unexpected = one_unexpected;
  one_nested = one_nested;
  one_reason = one_reason;
  read_or_unexpected = λ ts ss i h k. reads_or_stops h.reads k.stops;
  read_or_nested = λ ts ss i h k. reads_or_stops h.reads k.stops;
  first_tokens = begins_as_ruled;
}

-- what else the tokens are is the answer, unless memory runs out
pub ok_just_read : {ts new : List Lexeme} {ss : List Statement} → Gives limit script statements_of ts ss new → (rs : List Statement) → IsRead ts rs
    → ◌≡◌ {A = Result (List Statement) ParseFault} (Ok ss) (Ok rs) ⊎ ◌≡◌ {A = Result (List Statement) ParseFault} (Ok ss) (Err p.NoMemory)
ok_just_read {ts = ts} h rs k = inl (ap (λ (xs : List Statement). Ok xs) (one_script ts _ rs (is_read h) k))

pub ok_no_stop : {ts new : List Lexeme} {ss : List Statement} {s : Stop} → Gives limit script statements_of ts ss new → Stops limit script ts s → ⊥
ok_no_stop h k = reads_or_stops h.reads k

pub err_just_read : {ts : List Lexeme} (count : ℕ) (d : Fault) → Fails limit script ts d → (rs : List Statement) → IsRead ts rs
    → ◌≡◌ {A = Result (List Statement) ParseFault} (Err (parse_fault count d)) (Ok rs) ⊎ ◌≡◌ {A = Result (List Statement) ParseFault} (Err (parse_fault count d)) (Err p.NoMemory)
err_just_read count (f.Unexpected left) h rs k = absurd (reads_or_stops k.reads (h.stops (λ e. cc)).1)
err_just_read count (f.TooNested left) h rs k = absurd (reads_or_stops k.reads (h.stops (λ e. cc)).1)
err_just_read count f.NoMemory h rs k = inr refl

fault_unexpected : (count left i : ℕ) (s : Stop) (here : List Lexeme) → f.Unexpected left ≡ fault_of s → s ≡ unexpected here → i + length here ≡ count → count - left ≡ i
fault_unexpected count left i (unexpected there) here e g c =
    let l : left ≡ length there = cc in
    omega (arith, l, length_of_unexpected there here g, c)
fault_unexpected count left i (too_nested there) here e g c = cc

fault_nested : (count left i : ℕ) (s : Stop) (here : List Lexeme) → f.TooNested left ≡ fault_of s → s ≡ too_nested here → i + length here ≡ count → count - left ≡ i
fault_nested count left i (too_nested there) here e g c =
    let l : left ≡ length there = cc in
    omega (arith, l, length_of_nested there here g, c)
fault_nested count left i (unexpected there) here e g c = cc

no_nested_fault : (left : ℕ) (s : Stop) (here : List Lexeme) → f.TooNested left ≡ fault_of s → s ≡ unexpected here → ⊥
no_nested_fault left (unexpected there) here e g = cc
no_nested_fault left (too_nested there) here e g = cc

no_unexpected_fault : (left : ℕ) (s : Stop) (here : List Lexeme) → f.Unexpected left ≡ fault_of s → s ≡ too_nested here → ⊥
no_unexpected_fault left (unexpected there) here e g = cc
no_unexpected_fault left (too_nested there) here e g = cc

pub err_just_unexpected : {ts : List Lexeme} (count : ℕ) (d : Fault) → count ≡ length ts → Fails limit script ts d → (i : ℕ) → IsUnexpected ts i
    → ◌≡◌ {A = Result (List Statement) ParseFault} (Err (parse_fault count d)) (Err (p.Unexpected i)) ⊎ ◌≡◌ {A = Result (List Statement) ParseFault} (Err (parse_fault count d)) (Err p.NoMemory)
err_just_unexpected count (f.Unexpected left) c h i k =
    let s = h.stops (λ e. cc) in
    inl (ap (λ (q : ℕ). Err (p.Unexpected q)) (fault_unexpected count left i s.0 k.here s.2 (one_stop s.1 k.stops) (k.place ∙ sym c)))
err_just_unexpected count (f.TooNested left) c h i k = let s = h.stops (λ e. cc) in absurd (no_nested_fault left s.0 k.here s.2 (one_stop s.1 k.stops))
err_just_unexpected count f.NoMemory c h i k = inr refl

pub err_just_nested : {ts : List Lexeme} (count : ℕ) (d : Fault) → count ≡ length ts → Fails limit script ts d → (i : ℕ) → IsTooNested ts i
    → ◌≡◌ {A = Result (List Statement) ParseFault} (Err (parse_fault count d)) (Err (p.TooNested i)) ⊎ ◌≡◌ {A = Result (List Statement) ParseFault} (Err (parse_fault count d)) (Err p.NoMemory)
err_just_nested count (f.Unexpected left) c h i k = let s = h.stops (λ e. cc) in absurd (no_unexpected_fault left s.0 k.here s.2 (one_stop s.1 k.stops))
err_just_nested count (f.TooNested left) c h i k =
    let s = h.stops (λ e. cc) in
    inl (ap (λ (q : ℕ). Err (p.TooNested q)) (fault_nested count left i s.0 k.here s.2 (one_stop s.1 k.stops) (k.place ∙ sym c)))
err_just_nested count f.NoMemory c h i k = inr refl

-- no token is left
pub none_left : (ts : List Lexeme) → length ts ≤ 0 → ts ≡ []
none_left [] h = refl
none_left (t ∷ ts) h = absurd (omega arith)

-- as many lexemes as tokens
pub counted : (source : List ℕ) (tokens : List Token) → length tokens ≡ length (lexemes source tokens)
counted source [] = refl
counted source (t ∷ ts) = ap suc (counted source ts)
