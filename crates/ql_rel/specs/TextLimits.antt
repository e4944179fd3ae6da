-- The limits of the printed text of a rule or a default.
use Rattle.std.specs.Prelude.{ℕ, ◌+◌, ◌-◌, max, Bool, ◌||◌, nat_lt, ◌==◌, if◌then◌else◌, List, [], ◌∷◌, length}
use Rattle.ql_value.specs.Print.{quote, backslash}

-- the printed text of a rule or a default has at most so many bytes
abbrev pub longest_text : ℕ
longest_text = 16384

-- so many of its brackets are open at once at most: one more is open around it in its CREATE TABLE
abbrev pub most_brackets : ℕ
most_brackets = 199

-- the bytes of a text outside of its strings; those from a place in a string on, and from behind a backslash in one on
abbrev mutual
  pub outside : List ℕ → List ℕ
  outside [] = []
  outside (b ∷ bytes) = if b == quote then inside bytes else b ∷ outside bytes

  pub inside : List ℕ → List ℕ
  inside [] = []
  inside (b ∷ bytes) = if b == quote then outside bytes else (if b == backslash then escaped bytes else inside bytes)

  pub escaped : List ℕ → List ℕ
  escaped [] = []
  escaped (b ∷ bytes) = inside bytes

-- how many brackets are open at once at most among bytes, where so many are open before them
abbrev pub most_open : ℕ → List ℕ → ℕ
most_open before [] = before
most_open before (b ∷ bytes) =
    if b == 40 then most_open (before + 1) bytes
    else (if b == 41 then max before (most_open (before - 1) bytes) else most_open before bytes)

-- how many brackets of a text are open at once at most, outside of its strings
abbrev pub open_brackets : List ℕ → ℕ
open_brackets text = most_open 0 (outside text)

-- the text is too long for a rule or a default, or has too many open brackets
unfoldable pub is_past_text : List ℕ → Bool
is_past_text text = nat_lt longest_text (length text) || nat_lt most_brackets (open_brackets text)
