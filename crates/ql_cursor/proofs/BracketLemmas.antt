-- Brackets round a part.
use Rattle.std.proofs.Common.{◌≡◌, ℕ, suc, true, false, List, [], ◌∷◌, length, drop, sym}
use Rattle.ql_syntax.specs.Lexemes.{Lexeme, sees, is_open, is_close}
use Rattle.ql_syntax.specs.Rules.{Rule, token, bracketed}
use Rattle.ql_syntax.specs.Readings.{Parse, group, Reads, Stop, Stops, takes, enclosed, other_token, unexpected, too_nested, not_open, no_room, within, not_closed}
use Rattle.ql_cursor.specs.Parses.{Gives, Fails, Encloses, fault_of}
use Rattle.ql_cursor.specs.declared.fault.Fault.{Fault}
use Rattle.ql_cursor.specs.declared.fault.Fault.TheVariants as f

closing : {n k : ℕ} {x : Rule} {bracket : Lexeme} {ts mid : List Lexeme} {a : Parse} {d : Fault} → is_open bracket ≡ true → Reads n x ts a mid → (s : Stop) → Stops k (token is_close) mid s → d ≡ fault_of s
    → (s : Stop) × Stops (suc n) (bracketed x) (bracket ∷ ts) s × (d ≡ fault_of s)
closing e h _ (other_token f) g = (_, not_closed e h f, g)

closed : {n k : ℕ} {x : Rule} {bracket : Lexeme} {ts mid new : List Lexeme} {a b : Parse} → is_open bracket ≡ true → Reads n x ts a mid → Reads k (token is_close) mid b new → Reads (suc n) (bracketed x) (bracket ∷ ts) (group a) new
closed e h (takes c) = enclosed e h c

-- no bracket is opened there
pub fails_open : (n : ℕ) (x : Rule) (old : List Lexeme) (d : Fault) → sees is_open old ≡ false → d ≡ f.Unexpected (length old) → Fails n (bracketed x) old d
fails_open n x old d e g = record { stops = λ no. (unexpected old, not_open e, g) }

-- no more may be opened
pub fails_nested : (n : ℕ) (x : Rule) (old : List Lexeme) (d : Fault) → n ≡ 0 → sees is_open old ≡ true → d ≡ f.TooNested (length old) → Fails n (bracketed x) old d
fails_nested n x old d z e g = rw z (record { stops = λ no. (too_nested old, no_room e, g) })

-- the part in brackets fails
pub fails_inside : {n m : ℕ} {x : Rule} (old : List Lexeme) {after : List Lexeme} {d : Fault} → suc m ≡ n → sees is_open old ≡ true → after ≡ drop 1 old → Fails m x after d → Fails n (bracketed x) old d
fails_inside [] z e g h = cc
fails_inside {n = n} {m = m} {x = x} (t ∷ ts) {after = after} {d = fault} z e g h =
    let here : after ≡ ts = g in
    let h' : Fails m x ts fault = rw here at h in
    rw (sym z) (record { stops = λ no. let s = h'.stops no in (s.0, within e s.1, s.2) })

-- the bracket is not closed
pub fails_close : {A : Type 0} {n m k : ℕ} {x : Rule} {tree : Parse → A} {value : A} (old : List Lexeme) {after mid : List Lexeme} {d : Fault} → suc m ≡ n → sees is_open old ≡ true → after ≡ drop 1 old
    → Gives m x tree after value mid → Fails k (token is_close) mid d → Fails n (bracketed x) old d
fails_close [] z e g h i = cc
fails_close {n = n} {m = m} {x = x} {tree = tree} {value = value} (t ∷ ts) {after = after} {mid = mid} z e g h i =
    let here : after ≡ ts = g in
    let h' : Gives m x tree ts value mid = rw here at h in
    rw (sym z) (record { stops = λ no. let s = i.stops no in closing e h'.reads s.0 s.1 s.2 })

-- brackets round a part
pub gives_enclosed : {A B : Type 0} {n m k : ℕ} {x : Rule} {tree : Parse → A} {value : A} {none : Parse → B} {nothing : B} (old : List Lexeme) {after mid new : List Lexeme} → suc m ≡ n → sees is_open old ≡ true → after ≡ drop 1 old
    → Gives m x tree after value mid → Gives k (token is_close) none mid nothing new → Encloses n x tree old value new
gives_enclosed [] z e g h i = cc
gives_enclosed {n = n} {m = m} {x = x} {tree = tree} {value = value} (t ∷ ts) {after = after} {mid = mid} {new = new} z e g h i =
    let here : after ≡ ts = g in
    let h' : Gives m x tree ts value mid = rw here at h in
    rw (sym z) (record { parse = h'.parse; reads = closed e h'.reads i.reads; means = h'.means })
