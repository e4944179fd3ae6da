-- Bits by number.
use Rattle.std.specs.Prelude.{ℕ, ◌/◌, ◌%◌, Bool, nat_eq, if◌then◌else◌, List, get_or}
use Rattle.std.specs.Int.{bit_at}

-- so many bits, eight in each byte, the lowest first
pub record Marks : Type 0 where
  pub count : ℕ
  pub bytes : List ℕ

-- whether a bit of a byte is set
abbrev pub bit_in : ℕ → ℕ → Bool
bit_in byte i = nat_eq (bit_at byte i) 1

-- whether the bit of a number is set
abbrev pub is_set : Marks → ℕ → Bool
is_set marks i = bit_in (get_or marks.bytes (i / 8) 0) (i % 8)

-- bits of which one is another
abbrev pub with_mark : (ℕ → Bool) → ℕ → Bool → ℕ → Bool
with_mark bits at value i = if nat_eq i at then value else bits i
