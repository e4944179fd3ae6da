-- Repetitions and lists that are read in a loop: whatever is read from here on completes the whole, and wherever reading stops from
-- here on, the whole stops.
use Rattle.std.proofs.Common.{◌≡◌, ℕ, suc, Bool, true, false, List, [], ◌∷◌, ◌++◌, length, drop, refl, ap, sym, ◌∙◌, append_assoc, append-nil, ◌≤◌, arith}
use Rattle.ql_syntax.specs.Lexemes.{Lexeme, sees, is_comma}
use Rattle.ql_syntax.specs.Rules.{Rule, many, further, list, enters}
use Rattle.ql_syntax.specs.Readings.{Parse, pair, cell, stop, Stop, Reads, Stops, both, ended, goes_on, no_comma, trailing, member, in_first, in_second, in_one, in_later, in_member, in_further}
use Rattle.ql_cursor.specs.Parses.{Gives, Fails}
use Rattle.ql_cursor.specs.declared.fault.Fault.{Fault}
use Rattle.ql_cursor.proofs.GrammarLaws.{shorter}

pub record Going {A : Type 0} (n : ℕ) (inner whole : Rule) (items all : Parse → List A) (old now : List Lexeme) (found : List A) : Type 0 where
  pub reads : (a : Parse) (rest : List Lexeme) → Reads n inner now a rest → (b : Parse) × Reads n whole old b rest × (found ++ items a ≡ all b)
  pub stops : (s : Stop) → Stops n inner now s → Stops n whole old s

-- nothing is read yet
pub going : {A : Type 0} (n : ℕ) (x : Rule) (items : Parse → List A) (old : List Lexeme) (found : List A) → found ≡ [] → Going n x x items items old old found
going n x items old found e = record {
  reads = λ a rest h. (a, h, rw e refl);
  stops = λ s h. h;
}

-- one more part of a repetition
pub one_more : {A : Type 0} {n : ℕ} {x whole : Rule} {items all : Parse → List A} {old now new : List Lexeme} {found : List A} {tree : Parse → A} {value : A}
    → Going n (many x) whole items all old now found → enters x now ≡ true → Gives n x tree now value new
    → ((a b : Parse) → Reads n x now a new → items (cell a b) ≡ tree a ∷ items b) → Going n (many x) whole items all old new (found ++ (value ∷ []))
one_more {found = found} {value = value} g e h cells = record {
  reads = λ a rest r.
      let w = g.reads (cell h.parse a) rest (goes_on e h.reads r) in
      (w.0, w.1, rw (append_assoc, h.means) (rw (cells h.parse a h.reads) at w.2));
  stops = λ s i. g.stops s (in_later e h.reads i);
}

-- the repetition is over
pub no_more : {A : Type 0} {n : ℕ} {x whole : Rule} {items all : Parse → List A} {old now : List Lexeme} {found : List A}
    → Going n (many x) whole items all old now found → enters x now ≡ false → items stop ≡ [] → Gives n whole all old found now
no_more {found = found} g e stopped =
    let w = g.reads stop _ (ended e) in
    record { parse = w.0; reads = w.1; means = sym (append-nil found) ∙ ap (λ xs. found ++ xs) (sym stopped) ∙ w.2 }

-- a part of the repetition fails
pub one_fails : {A : Type 0} {n : ℕ} {x whole : Rule} {items all : Parse → List A} {old now : List Lexeme} {found : List A} {d : Fault}
    → Going n (many x) whole items all old now found → enters x now ≡ true → Fails n x now d → Fails n whole old d
one_fails g e h = record { stops = λ no. let s = h.stops no in (s.0, g.stops s.0 (in_one e s.1), s.2) }

-- a token and a part behind it make the rest shorter
pub fewer : {A : Type 0} {n : ℕ} {x : Rule} {tree : Parse → A} (test : Lexeme → Bool) (now : List Lexeme) {after new : List Lexeme} {value : A}
    → sees test now ≡ true → after ≡ drop 1 now → Gives n x tree after value new → suc (length new) ≤ length now
fewer test [] e d h = cc
fewer test (t ∷ ts) e d h = omega (arith, ap length d, shorter h.reads)

-- the first member of a list
pub first_member : {A : Type 0} {n : ℕ} {x : Rule} {tree : Parse → A} {items : Parse → List A} {old mid : List Lexeme} {value : A} (fresh found : List A)
    → Gives n x tree old value mid → fresh ≡ [] → found ≡ fresh ++ (value ∷ []) → ((a b : Parse) → items (pair a b) ≡ tree a ∷ items b) → Going n (further x) (list x) items items old mid found
first_member {value = value} fresh found h d e pairs = record {
  reads = λ a rest r. (pair h.parse a, both h.reads r, rw (e, d, h.means) (sym (pairs h.parse a)));
  stops = λ s i. in_second h.reads i;
}

-- the first member fails
pub first_fails : {n : ℕ} {x : Rule} {old : List Lexeme} {d : Fault} → Fails n x old d → Fails n (list x) old d
first_fails h = record { stops = λ no. let s = h.stops no in (s.0, in_first s.1, s.2) }

-- one more member behind a comma
pub one_member : {A : Type 0} {n : ℕ} {x whole : Rule} {items all : Parse → List A} {old : List Lexeme} (now : List Lexeme) {after new : List Lexeme} {found : List A} {tree : Parse → A} {value : A}
    → Going n (further x) whole items all old now found → sees is_comma now ≡ true → after ≡ drop 1 now → enters x after ≡ true → Gives n x tree after value new
    → ((a b : Parse) → items (cell a b) ≡ tree a ∷ items b) → Going n (further x) whole items all old new (found ++ (value ∷ []))
one_member [] g k d e h cells = cc
one_member {n = n} {x = x} (t ∷ ts) {after = after} {new = new} {found = found} {tree = tree} {value = value} g k d e h cells =
    let here : after ≡ ts = d in
    let e' : enters x ts ≡ true = rw here at e in
    let h' : Gives n x tree ts value new = rw here at h in
    record {
      reads = λ a rest r.
          let w = g.reads (cell h'.parse a) rest (member k e' h'.reads r) in
          (w.0, w.1, rw (append_assoc, h'.means) (rw (cells h'.parse a) at w.2));
      stops = λ s i. g.stops s (in_further k e' h'.reads i);
    }

-- no comma stands there
pub no_member : {A : Type 0} {n : ℕ} {x whole : Rule} {items all : Parse → List A} {old now new : List Lexeme} {found : List A}
    → Going n (further x) whole items all old now found → sees is_comma now ≡ false → new ≡ now → items stop ≡ [] → Gives n whole all old found new
no_member {found = found} g e d stopped =
    let w = g.reads stop _ (no_comma e) in
    rw d (record { parse = w.0; reads = w.1; means = sym (append-nil found) ∙ ap (λ xs. found ++ xs) (sym stopped) ∙ w.2 })

-- the comma is the trailing one
pub last_comma : {A : Type 0} {n : ℕ} {x whole : Rule} {items all : Parse → List A} {old : List Lexeme} (now : List Lexeme) {new : List Lexeme} {found : List A}
    → Going n (further x) whole items all old now found → sees is_comma now ≡ true → new ≡ drop 1 now → enters x new ≡ false → items stop ≡ [] → Gives n whole all old found new
last_comma [] g k d e stopped = cc
last_comma {x = x} (t ∷ ts) {new = new} {found = found} g k d e stopped =
    let here : new ≡ ts = d in
    let e' : enters x ts ≡ false = rw here at e in
    let w = g.reads stop _ (trailing k e') in
    rw here (record { parse = w.0; reads = w.1; means = sym (append-nil found) ∙ ap (λ xs. found ++ xs) (sym stopped) ∙ w.2 })

-- a member behind a comma fails
pub member_fails : {A : Type 0} {n : ℕ} {x whole : Rule} {items all : Parse → List A} {old : List Lexeme} (now : List Lexeme) {after : List Lexeme} {found : List A} {d : Fault}
    → Going n (further x) whole items all old now found → sees is_comma now ≡ true → after ≡ drop 1 now → enters x after ≡ true → Fails n x after d → Fails n whole old d
member_fails [] g k d e h = cc
member_fails {n = n} {x = x} (t ∷ ts) {after = after} {d = fault} g k d e h =
    let here : after ≡ ts = d in
    let e' : enters x ts ≡ true = rw here at e in
    let h' : Fails n x ts fault = rw here at h in
    record { stops = λ no. let s = h'.stops no in (s.0, g.stops s.0 (in_member k e' s.1), s.2) }
