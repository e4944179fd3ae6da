-- Where parts in turn fail.
use Rattle.std.proofs.Common.{◌≡◌, ℕ, true, false, List, length}
use Rattle.ql_syntax.specs.Lexemes.{Lexeme}
use Rattle.ql_syntax.specs.Rules.{Production, Rule, ◌then◌, ◌or◌, maybe, the, rule_of, enters}
use Rattle.ql_syntax.specs.Readings.{Parse, in_first, in_second, in_left, in_right, neither, in_part, by_its_rule, unexpected}
use Rattle.ql_cursor.specs.Parses.{Gives, Fails}
use Rattle.ql_cursor.specs.declared.fault.Fault.{Fault}
use Rattle.ql_cursor.specs.declared.fault.Fault.TheVariants as f

-- a production fails where its rule does
pub fails_the : {n : ℕ} (p : Production) {old : List Lexeme} {d : Fault} → Fails n (rule_of p) old d → Fails n (the p) old d
fails_the p h = record { stops = λ no. let s = h.stops no in (s.0, by_its_rule s.1, s.2) }

-- the first of two parts fails
pub fails_first : {n : ℕ} {x y : Rule} {old : List Lexeme} {d : Fault} → Fails n x old d → Fails n (x then y) old d
fails_first h = record { stops = λ no. let s = h.stops no in (s.0, in_first s.1, s.2) }

-- the second of two parts fails
pub fails_second : {A : Type 0} {n : ℕ} {x y : Rule} {tree : Parse → A} {value : A} {old mid : List Lexeme} {d : Fault} → Gives n x tree old value mid → Fails n y mid d → Fails n (x then y) old d
fails_second h i = record { stops = λ no. let s = i.stops no in (s.0, in_second h.reads s.1, s.2) }

-- the first alternative is entered and fails
pub fails_left : {n : ℕ} {x y : Rule} {old : List Lexeme} {d : Fault} → enters x old ≡ true → Fails n x old d → Fails n (x or y) old d
fails_left e h = record { stops = λ no. let s = h.stops no in (s.0, in_left e s.1, s.2) }

-- the second alternative is entered and fails
pub fails_right : {n : ℕ} {x y : Rule} {old : List Lexeme} {d : Fault} → enters x old ≡ false → enters y old ≡ true → Fails n y old d → Fails n (x or y) old d
fails_right e g h = record { stops = λ no. let s = h.stops no in (s.0, in_right e g s.1, s.2) }

-- no alternative can begin there
pub fails_neither : {n : ℕ} {x y : Rule} {old : List Lexeme} {d : Fault} → enters x old ≡ false → enters y old ≡ false → d ≡ f.Unexpected (length old) → Fails n (x or y) old d
fails_neither {old = old} e g i = record { stops = λ no. (unexpected old, neither e g, i) }

-- a part that may be left out is entered and fails
pub fails_part : {n : ℕ} {x : Rule} {old : List Lexeme} {d : Fault} → enters x old ≡ true → Fails n x old d → Fails n (maybe x) old d
fails_part e h = record { stops = λ no. let s = h.stops no in (s.0, in_part e s.1, s.2) }
