-- How many bytes rows and keys have.
use Rattle.std.specs.Prelude.{ℕ, ◌+◌, ◌-◌, ◌^◌, min, List, length, sum_by, count_by, ◌==◌}
use Rattle.ql_value.specs.declared.value.Value.{Value}
use Rattle.ql_value.specs.declared.value.Value.TheVariants as v

-- a value in a row: a tag, and after it 8 bytes of a number, or 4 bytes of a length and the bytes
abbrev pub value_length : Value → ℕ
value_length v.Null = 1
value_length (v.Bool _) = 1
value_length (v.Int _ _) = 1 + 8
value_length (v.Text bytes) = 1 + 4 + length bytes
value_length (v.Blob bytes) = 1 + 4 + length bytes

-- the length, or the largest number of 64 bits where it is more
abbrev pub capped : ℕ → ℕ
capped n = min n (2 ^ 64 - 1)

-- a row: 2 bytes of a count, and the values
abbrev pub length_of_row : List Value → ℕ
length_of_row values = capped (2 + sum_by value_length values)

-- bytes in a key: a zero byte takes two, and two bytes end them
abbrev pub key_bytes_length : List ℕ → ℕ
key_bytes_length bytes = length bytes + count_by (λ byte. byte == 0) bytes + 2

-- a key: a tag, and after it a byte of a truth, 8 bytes of a number, or the bytes
abbrev pub key_part_length : Value → ℕ
key_part_length v.Null = 1
key_part_length (v.Bool _) = 1 + 1
key_part_length (v.Int _ _) = 1 + 8
key_part_length (v.Text bytes) = 1 + key_bytes_length bytes
key_part_length (v.Blob bytes) = 1 + key_bytes_length bytes

-- the length of a value as a key
abbrev pub length_of_key : Value → ℕ
length_of_key value = capped (key_part_length value)
