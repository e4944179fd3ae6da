-- Numbers in three bases.
use Rattle.std.specs.Prelude.{ℕ, ◌+◌, ◌*◌, ◌^◌, Bool, true, false, ◌&&◌, ◌||◌, ◌==◌, nat_lt, if◌then◌else◌, List, [], ◌∷◌, drop}
use Rattle.std.specs.Char.{is_digit, digit_value}
use Rattle.std.specs.List.{list_all}

-- the value of digits in a base that follow what has the value `so_far`
abbrev pub value_from : ℕ → ℕ → List ℕ → ℕ
value_from base so_far [] = so_far
value_from base so_far (d ∷ ds) = value_from base (so_far * base + digit_value d) ds

-- each byte is a digit in the base; small and capital letters are digits alike
abbrev pub are_digits : ℕ → List ℕ → Bool
are_digits base bytes = list_all (λ b. is_digit b base) bytes

-- `x` or `X`
abbrev pub is_x : List ℕ → Bool
is_x [] = false
is_x (b ∷ text) = b == 120 || b == 88

-- 16 behind `0x`, 8 behind another `0`, and else 10
abbrev pub base_of : List ℕ → ℕ
base_of [] = 10
base_of (b ∷ text) = if b == 48 then (if is_x text then 16 else 8) else 10

-- what stands behind `0x` or `0`, and else the whole
abbrev pub digits_of : List ℕ → List ℕ
digits_of [] = []
digits_of (b ∷ text) = if b == 48 then (if is_x text then drop 1 text else text) else b ∷ text

-- there is a digit; only `0` needs none behind it
abbrev pub has_digits : ℕ → List ℕ → Bool
has_digits base [] = base == 8
has_digits base (d ∷ ds) = true

-- what a spelling is worth as a number
abbrev pub number_value : List ℕ → ℕ
number_value spelling = value_from (base_of spelling) 0 (digits_of spelling)

-- A spelling is a number: decimal digits, the first of them not 0; or 0 and octal digits, none for 0 itself; or 0x or 0X and at
-- least one hexadecimal digit; and in each case at most 2^64 - 1.
abbrev pub is_number : List ℕ → Bool
is_number spelling =
    are_digits (base_of spelling) (digits_of spelling) && has_digits (base_of spelling) (digits_of spelling) && nat_lt (number_value spelling) (2 ^ 64)
