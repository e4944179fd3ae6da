-- Bytes by what they may begin or go on with.
use Rattle.std.specs.Prelude.{ℕ, Bool, not, ◌&&◌, ◌||◌, ◌==◌, nat_le, List, [], ◌∷◌, if◌then◌else◌, drop}
use Rattle.std.specs.List.{prefix_len}
use Rattle.ql_lex.specs.declared.bytes.Start.{Start}
use Rattle.ql_lex.specs.declared.bytes.Start.TheVariants as s

-- space, tab, carriage return and newline
abbrev pub is_blank : ℕ → Bool
is_blank b = b == 32 || b == 9 || b == 13 || b == 10

-- an ASCII letter or `_`
abbrev pub is_letter : ℕ → Bool
is_letter b = (nat_le 97 b && nat_le b 122) || (nat_le 65 b && nat_le b 90) || b == 95

-- `0` to `9`
abbrev pub is_digit : ℕ → Bool
is_digit b = nat_le 48 b && nat_le b 57

-- what an identifier or a number goes on with: a letter, a digit or `_`
abbrev pub is_in_word : ℕ → Bool
is_in_word b = is_letter b || is_digit b

-- what a comment to the end of the line goes on with
abbrev pub is_in_line : ℕ → Bool
is_in_line b = not (b == 10)

-- what a raw string goes on with
abbrev pub is_in_raw : ℕ → Bool
is_in_raw b = not (b == 96)

-- what is left of a text behind the longest front of bytes that pass
abbrev pub after : (ℕ → Bool) → List ℕ → List ℕ
after p text = drop (prefix_len p text) text

-- what a byte and the text behind it begin, where the byte alone does not say: `--` and `//`, `/*`, or another thing
abbrev pub sign_start : ℕ → List ℕ → Start
sign_start b [] = s.Other
sign_start b (c ∷ text) =
    if (b == 45 && c == 45) || (b == 47 && c == 47) then s.LineComment else (if b == 47 && c == 42 then s.BlockComment else s.Other)

-- what a byte and the text behind it begin
abbrev pub start : ℕ → List ℕ → Start
start b text =
    if is_blank b then s.Blank else (if is_letter b then s.Word else (if is_digit b then s.Number
    else (if b == 96 then s.RawString else (if b == 34 then s.String else sign_start b text))))
