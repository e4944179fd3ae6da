-- Values as keys: bytes whose order is that of the values.
use Rattle.std.specs.Prelude.{ℕ, ◌+ℤ◌, ◌^◌, ℤ, pos, unsigned_abs, Bool, true, false, List, [], ◌∷◌, ◌++◌, ◌==◌, if◌then◌else◌}
use Rattle.std.specs.List.{flat_map}
use Rattle.std.specs.Int.{w64, cast_unsigned, to_be_bytes}
use Rattle.ql_value.specs.Kinds.{is_signed}
use Rattle.ql_value.specs.declared.value.Value.{Value}
use Rattle.ql_value.specs.declared.value.Value.TheVariants as v

-- a zero byte gets 255 behind it
abbrev pub escaped : ℕ → List ℕ
escaped byte = if byte == 0 then 0 ∷ 255 ∷ [] else byte ∷ []

-- the bytes of a string or a blob, and two zero bytes behind them, which no byte begins that is written so
abbrev pub string_key : List ℕ → List ℕ
string_key bytes = flat_map escaped bytes ++ 0 ∷ 0 ∷ []

-- a number with a sign, so that the least of 64 bits is 0
abbrev pub raised : ℤ → ℕ
raised z = unsigned_abs (z +ℤ pos (2 ^ 63))

-- a value: a tag, and behind it a truth, a number in eight bytes, or the bytes
abbrev pub key_bytes : Value → List ℕ
key_bytes v.Null = 0 ∷ []
key_bytes (v.Bool false) = 1 ∷ 0 ∷ []
key_bytes (v.Bool true) = 1 ∷ 1 ∷ []
key_bytes (v.Int kind z) = if is_signed kind then 2 ∷ to_be_bytes w64 (raised z) else 3 ∷ to_be_bytes w64 (cast_unsigned w64 z)
key_bytes (v.Text bytes) = 4 ∷ string_key bytes
key_bytes (v.Blob bytes) = 5 ∷ string_key bytes
