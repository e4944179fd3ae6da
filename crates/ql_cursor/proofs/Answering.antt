-- What a whole answers, where its last part is answered by a function.
use Rattle.std.proofs.Common.{◌≡◌, ℕ, Bool, true, false, List, refl, ◌∙◌}
use Rattle.std.specs.Prelude.{Result, Ok, Err}
use Rattle.ql_syntax.specs.Lexemes.{Lexeme, sees}
use Rattle.ql_syntax.specs.Rules.{Production, Rule, ◌then◌, ◌or◌, token, maybe, bracketed, the, rule_of, enters}
use Rattle.ql_syntax.specs.Readings.{Parse, pair, left, right, present, node, group, Reads, Stop, Stops, takes, both, first, second, entered, by_rule, other_token, neither}
use Rattle.ql_cursor.specs.Parses.{Gives, Fails, Answers, AnswersEnclosed, fault_of}
use Rattle.ql_cursor.specs.declared.fault.Fault.{Fault}
use Rattle.ql_cursor.proofs.Sequences.{fails_the, fails_second, fails_left, fails_right, fails_part}

-- the second of two parts
pub second_answers : {A B : Type 0} {n : ℕ} {x y : Rule} {old mid new : List Lexeme} {t : Parse → B} {v : B} (tree all : Parse → A) (r : Result A Fault)
    → (h : Gives n x t old v mid) → Answers n y tree mid r new → ((b : Parse) → Reads n y mid b new → tree b ≡ all (pair h.parse b)) → Answers n (x then y) all old r new
second_answers tree all (Ok value) h i same = record { parse = pair h.parse i.parse; reads = both h.reads i.reads; means = i.means ∙ same i.parse i.reads }
second_answers tree all (Err d) h i same = fails_second h i

-- the first alternative
pub left_answers : {A : Type 0} {n : ℕ} {x : Rule} (y : Rule) {old new : List Lexeme} (tree all : Parse → A) (r : Result A Fault)
    → enters x old ≡ true → Answers n x tree old r new → ((a : Parse) → Reads n x old a new → tree a ≡ all (left a)) → Answers n (x or y) all old r new
left_answers y tree all (Ok value) e h same = record { parse = left h.parse; reads = first e h.reads; means = h.means ∙ same h.parse h.reads }
left_answers y tree all (Err d) e h same = fails_left e h

-- the second alternative
pub right_answers : {A : Type 0} {n : ℕ} (x : Rule) {y : Rule} {old new : List Lexeme} (tree all : Parse → A) (r : Result A Fault)
    → enters x old ≡ false → enters y old ≡ true → Answers n y tree old r new → ((a : Parse) → Reads n y old a new → tree a ≡ all (right a)) → Answers n (x or y) all old r new
right_answers x tree all (Ok value) f e h same = record { parse = right h.parse; reads = second f e h.reads; means = h.means ∙ same h.parse h.reads }
right_answers x tree all (Err d) f e h same = fails_right f e h

-- a part that may be left out, where it is there
pub part_answers : {A : Type 0} {n : ℕ} {x : Rule} {old new : List Lexeme} (tree all : Parse → A) (r : Result A Fault)
    → enters x old ≡ true → Answers n x tree old r new → ((a : Parse) → Reads n x old a new → tree a ≡ all (present a)) → Answers n (maybe x) all old r new
part_answers tree all (Ok value) e h same = record { parse = present h.parse; reads = entered e h.reads; means = h.means ∙ same h.parse h.reads }
part_answers tree all (Err d) e h same = fails_part e h

-- a production
pub the_answers : {A : Type 0} {n : ℕ} (p : Production) {old new : List Lexeme} (tree all : Parse → A) (r : Result A Fault)
    → Answers n (rule_of p) tree old r new → ((a : Parse) → Reads n (rule_of p) old a new → tree a ≡ all (node p a)) → Answers n (the p) all old r new
the_answers p tree all (Ok value) h same = record { parse = node p h.parse; reads = by_rule h.reads; means = h.means ∙ same h.parse h.reads }
the_answers p tree all (Err d) h same = fails_the p h

-- brackets
pub group_answers : {A : Type 0} (n : ℕ) (x : Rule) (old new : List Lexeme) (tree all : Parse → A) (r : Result A Fault)
    → AnswersEnclosed n x tree old r new → ((a : Parse) → tree a ≡ all (group a)) → Answers n (bracketed x) all old r new
group_answers n x old new tree all (Ok value) h same = record { parse = group h.parse; reads = h.reads; means = h.means ∙ same h.parse }
group_answers n x old new tree all (Err d) h same = h

stops_last : {n : ℕ} {x : Rule} {test : Lexeme → Bool} {old : List Lexeme} {d : Fault} → enters x old ≡ false → (s : Stop) → Stops n (token test) old s → d ≡ fault_of s → (s : Stop) × Stops n (x or token test) old s × (d ≡ fault_of s)
stops_last f _ (other_token g) e = (_, neither f g, e)

-- a token is the last alternative, and fails
pub fails_last : {n : ℕ} {x : Rule} {test : Lexeme → Bool} {old : List Lexeme} {d : Fault} → enters x old ≡ false → Fails n (token test) old d → Fails n (x or token test) old d
fails_last f h = record { stops = λ no. let s = h.stops no in stops_last f s.0 s.1 s.2 }

-- a token that is read stands there
pub token_seen : {n : ℕ} {test : Lexeme → Bool} {old new : List Lexeme} {a : Parse} → Reads n (token test) old a new → sees test old ≡ true
token_seen (takes e) = e

-- equal pairs
pub same_pair : {A B : Type 0} {a b : A} {x y : B} → a ≡ b → x ≡ y → ◌≡◌ {A = A × B} (a, x) (b, y)
same_pair e d = rw (e, d) refl
