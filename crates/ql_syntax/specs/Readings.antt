-- What the tokens read as by a rule, and where they stop reading.
use Rattle.std.specs.Prelude.{◌≡◌, ℕ, zero, suc, Bool, true, false, List, [], ◌∷◌}
use Rattle.ql_syntax.specs.Lexemes.{Lexeme, is_open, is_close, is_comma, sees, sees_two}
use Rattle.ql_syntax.specs.Rules.{Production, Rule, token, before, nothing, ◌then◌, ◌or◌, maybe, many, bracketed, further, finish, the, rule_of, enters}

-- How tokens were read.
pub data Parse : Type 0 where
  -- by one token
  leaf : Lexeme → Parse
  -- by two rules in turn
  pair : Parse → Parse → Parse
  -- by the first of two alternatives, or by the second
  left right : Parse → Parse
  -- a part that may be left out: left out, or there
  absent : Parse
  present : Parse → Parse
  -- the end of a repetition, or one part and what comes behind it
  stop : Parse
  cell : Parse → Parse → Parse
  -- in brackets
  group : Parse → Parse
  -- by a production
  node : Production → Parse → Parse

-- `Reads n x ts a rest`: with room for `n` more open brackets, the front of the tokens `ts` reads by the rule `x` as `a`, and `rest`
-- stands behind it. A part that may be left out, a repetition, an alternative and a further member of a list are entered exactly where
-- they can begin.
pub data Reads : ℕ → Rule → List Lexeme → Parse → List Lexeme → Type 0 where
  takes : {n : ℕ} {test : Lexeme → Bool} {t : Lexeme} {ts : List Lexeme} →
      test t ≡ true → Reads n (token test) (t ∷ ts) (leaf t) ts
  takes_before : {n : ℕ} {test next : Lexeme → Bool} {t : Lexeme} {ts : List Lexeme} →
      test t ≡ true → sees next ts ≡ true → Reads n (before test next) (t ∷ ts) (leaf t) ts
  takes_nothing : {n : ℕ} {ts : List Lexeme} → Reads n nothing ts absent ts
  both : {n : ℕ} {x y : Rule} {ts mid rest : List Lexeme} {a b : Parse} →
      Reads n x ts a mid → Reads n y mid b rest → Reads n (x then y) ts (pair a b) rest
  first : {n : ℕ} {x y : Rule} {ts rest : List Lexeme} {a : Parse} →
      enters x ts ≡ true → Reads n x ts a rest → Reads n (x or y) ts (left a) rest
  second : {n : ℕ} {x y : Rule} {ts rest : List Lexeme} {a : Parse} →
      enters x ts ≡ false → enters y ts ≡ true → Reads n y ts a rest → Reads n (x or y) ts (right a) rest
  left_out : {n : ℕ} {x : Rule} {ts : List Lexeme} → enters x ts ≡ false → Reads n (maybe x) ts absent ts
  entered : {n : ℕ} {x : Rule} {ts rest : List Lexeme} {a : Parse} →
      enters x ts ≡ true → Reads n x ts a rest → Reads n (maybe x) ts (present a) rest
  ended : {n : ℕ} {x : Rule} {ts : List Lexeme} → enters x ts ≡ false → Reads n (many x) ts stop ts
  goes_on : {n : ℕ} {x : Rule} {ts mid rest : List Lexeme} {a b : Parse} →
      enters x ts ≡ true → Reads n x ts a mid → Reads n (many x) mid b rest → Reads n (many x) ts (cell a b) rest
  enclosed : {n : ℕ} {x : Rule} {bracket close : Lexeme} {ts rest : List Lexeme} {a : Parse} →
      is_open bracket ≡ true → Reads n x ts a (close ∷ rest) → is_close close ≡ true → Reads (suc n) (bracketed x) (bracket ∷ ts) (group a) rest
  no_comma : {n : ℕ} {x : Rule} {ts : List Lexeme} → sees is_comma ts ≡ false → Reads n (further x) ts stop ts
  trailing : {n : ℕ} {x : Rule} {comma : Lexeme} {ts : List Lexeme} →
      is_comma comma ≡ true → enters x ts ≡ false → Reads n (further x) (comma ∷ ts) stop ts
  member : {n : ℕ} {x : Rule} {comma : Lexeme} {ts mid rest : List Lexeme} {a b : Parse} →
      is_comma comma ≡ true → enters x ts ≡ true → Reads n x ts a mid → Reads n (further x) mid b rest → Reads n (further x) (comma ∷ ts) (cell a b) rest
  at_end : {n : ℕ} → Reads n finish [] absent []
  by_rule : {n : ℕ} {p : Production} {ts rest : List Lexeme} {a : Parse} →
      Reads n (rule_of p) ts a rest → Reads n (the p) ts (node p a) rest

-- Why reading stops. The tokens from there on tell the place: none of them is the end.
pub data Stop : Type 0 where
  -- the next token is unexpected, or the end comes too early
  unexpected : List Lexeme → Stop
  -- the next token opens a bracket, and no more may be opened
  too_nested : List Lexeme → Stop

-- `Stops n x ts s`: with room for `n` more open brackets, the tokens `ts` do not read by the rule `x`, since reading stops at `s`.
pub data Stops : ℕ → Rule → List Lexeme → Stop → Type 0 where
  other_token : {n : ℕ} {test : Lexeme → Bool} {ts : List Lexeme} →
      sees test ts ≡ false → Stops n (token test) ts (unexpected ts)
  not_before : {n : ℕ} {test next : Lexeme → Bool} {ts : List Lexeme} →
      sees_two test next ts ≡ false → Stops n (before test next) ts (unexpected ts)
  in_first : {n : ℕ} {x y : Rule} {ts : List Lexeme} {s : Stop} → Stops n x ts s → Stops n (x then y) ts s
  in_second : {n : ℕ} {x y : Rule} {ts mid : List Lexeme} {a : Parse} {s : Stop} →
      Reads n x ts a mid → Stops n y mid s → Stops n (x then y) ts s
  in_left : {n : ℕ} {x y : Rule} {ts : List Lexeme} {s : Stop} →
      enters x ts ≡ true → Stops n x ts s → Stops n (x or y) ts s
  in_right : {n : ℕ} {x y : Rule} {ts : List Lexeme} {s : Stop} →
      enters x ts ≡ false → enters y ts ≡ true → Stops n y ts s → Stops n (x or y) ts s
  neither : {n : ℕ} {x y : Rule} {ts : List Lexeme} →
      enters x ts ≡ false → enters y ts ≡ false → Stops n (x or y) ts (unexpected ts)
  in_part : {n : ℕ} {x : Rule} {ts : List Lexeme} {s : Stop} →
      enters x ts ≡ true → Stops n x ts s → Stops n (maybe x) ts s
  in_one : {n : ℕ} {x : Rule} {ts : List Lexeme} {s : Stop} →
      enters x ts ≡ true → Stops n x ts s → Stops n (many x) ts s
  in_later : {n : ℕ} {x : Rule} {ts mid : List Lexeme} {a : Parse} {s : Stop} →
      enters x ts ≡ true → Reads n x ts a mid → Stops n (many x) mid s → Stops n (many x) ts s
  not_open : {n : ℕ} {x : Rule} {ts : List Lexeme} →
      sees is_open ts ≡ false → Stops n (bracketed x) ts (unexpected ts)
  no_room : {x : Rule} {ts : List Lexeme} →
      sees is_open ts ≡ true → Stops zero (bracketed x) ts (too_nested ts)
  within : {n : ℕ} {x : Rule} {bracket : Lexeme} {ts : List Lexeme} {s : Stop} →
      is_open bracket ≡ true → Stops n x ts s → Stops (suc n) (bracketed x) (bracket ∷ ts) s
  not_closed : {n : ℕ} {x : Rule} {bracket : Lexeme} {ts rest : List Lexeme} {a : Parse} →
      is_open bracket ≡ true → Reads n x ts a rest → sees is_close rest ≡ false → Stops (suc n) (bracketed x) (bracket ∷ ts) (unexpected rest)
  in_member : {n : ℕ} {x : Rule} {comma : Lexeme} {ts : List Lexeme} {s : Stop} →
      is_comma comma ≡ true → enters x ts ≡ true → Stops n x ts s → Stops n (further x) (comma ∷ ts) s
  in_further : {n : ℕ} {x : Rule} {comma : Lexeme} {ts mid : List Lexeme} {a : Parse} {s : Stop} →
      is_comma comma ≡ true → enters x ts ≡ true → Reads n x ts a mid → Stops n (further x) mid s → Stops n (further x) (comma ∷ ts) s
  not_at_end : {n : ℕ} {t : Lexeme} {ts : List Lexeme} → Stops n finish (t ∷ ts) (unexpected (t ∷ ts))
  by_its_rule : {n : ℕ} {p : Production} {ts : List Lexeme} {s : Stop} → Stops n (rule_of p) ts s → Stops n (the p) ts s
