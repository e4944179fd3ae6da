-- What a value prints.
use Rattle.std.specs.Prelude.{◌≡◌, ℕ, ◌+◌, ◌/◌, ◌%◌, Bool, true, false, ◌&&◌, ◌||◌, ◌==◌, nat_lt, nat_le, if◌then◌else◌, List, [], ◌∷◌, ◌++◌, codes, flat_map}
use Rattle.std.specs.Fmt.{signed_decimal}
use Rattle.ql_value.specs.declared.value.Value.{Value}
use Rattle.ql_value.specs.declared.value.Value.TheVariants as v

-- the marks that stand round a string and before an escape
abbrev pub quote : ℕ
quote = 34

abbrev pub backslash : ℕ
backslash = 92

-- a digit in base 16, in lower case
abbrev pub hex_digit : ℕ → ℕ
hex_digit d = if nat_lt d 10 then 48 + d else 87 + d

-- an escape by two digits in base 16: `\x0b`
abbrev pub hex_escape : ℕ → List ℕ
hex_escape b = backslash ∷ 120 ∷ hex_digit (b / 16) ∷ hex_digit (b % 16) ∷ []

-- the byte is shown by its number: below a space, 127, and in a blob also from 128 on
abbrev pub is_hidden : Bool → ℕ → Bool
is_hidden in_blob b = nat_lt b 32 || b == 127 || in_blob && nat_le 128 b

-- a byte that has no letter as its escape: an escape by number, or the byte itself
abbrev pub other_byte : Bool → ℕ → List ℕ
other_byte in_blob b = if is_hidden in_blob b then hex_escape b else b ∷ []

-- a byte between quotes: `\"`, `\\`, `\n`, `\r`, `\t`, or another
abbrev pub shown_byte : Bool → ℕ → List ℕ
shown_byte in_blob b = if b == quote then backslash ∷ quote ∷ [] else (if b == backslash then backslash ∷ backslash ∷ [] else (if b == 10 then backslash ∷ 110 ∷ [] else (if b == 13 then backslash ∷ 114 ∷ [] else (if b == 9 then backslash ∷ 116 ∷ [] else other_byte in_blob b))))

-- the bytes of a string or a blob, each as it is shown
abbrev pub shown_bytes : Bool → List ℕ → List ℕ
shown_bytes in_blob bytes = flat_map (shown_byte in_blob) bytes

-- the bytes between quotes
abbrev pub quoted : Bool → List ℕ → List ℕ
quoted in_blob bytes = quote ∷ [] ++ shown_bytes in_blob bytes ++ quote ∷ []

-- what a blob prints
abbrev pub blob_text : List ℕ → List ℕ
blob_text bytes = codes "blob(" ++ quoted true bytes ++ codes ")"

-- what a value prints
abbrev pub printed : Value → List ℕ
printed v.Null = codes "<nil>"
printed (v.Bool true) = codes "true"
printed (v.Bool false) = codes "false"
printed (v.Int _ n) = signed_decimal n
printed (v.Text bytes) = quoted false bytes
printed (v.Blob bytes) = blob_text bytes

-- a front of the whole text was added to the old bytes
pub record AddsFront (old new whole : List ℕ) : Type 0 where
  pub written : List ℕ
  pub missing : List ℕ
  pub added : new ≡ old ++ written
  pub front : whole ≡ written ++ missing
