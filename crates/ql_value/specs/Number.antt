-- The numbers of the integer kinds, and how an integer is brought into one.
use Rattle.std.specs.Prelude.{◌≡◌, ℕ, ◌^◌, ◌-◌, ℤ, IsTrue, pos, neg_ℤ, ◌-ℤ◌, ◌≤ℤ◌, Bool, ◌&&◌, int_le, unsigned_abs, if◌then◌else◌}
use Rattle.std.specs.Int.{int_rem_euclid}
use Rattle.ql_value.specs.Kinds.{is_integer}
use Rattle.ql_value.specs.declared.value.Kind.{Kind}
use Rattle.ql_value.specs.declared.value.Kind.TheVariants as k
use Rattle.ql_value.specs.declared.value.Value.{Value}
use Rattle.ql_value.specs.declared.value.Value.TheVariants as v

-- the kinds whose values are numbers
abbrev pub IsInteger : Kind → Type 0
IsInteger kind = IsTrue (is_integer kind)

-- how many bits a number of the kind has
abbrev pub width : Kind → ℕ
width k.Int8 = 8
width k.Int16 = 16
width k.Int32 = 32
width k.Int64 = 64
width k.Uint8 = 8
width k.Uint16 = 16
width k.Uint32 = 32
width k.Uint64 = 64
width _ = 0

-- the least number of the kind
abbrev pub least : Kind → ℤ
least k.Int8 = neg_ℤ (pos (2 ^ 7))
least k.Int16 = neg_ℤ (pos (2 ^ 15))
least k.Int32 = neg_ℤ (pos (2 ^ 31))
least k.Int64 = neg_ℤ (pos (2 ^ 63))
least _ = pos 0

-- the greatest number of the kind
abbrev pub greatest : Kind → ℤ
greatest k.Int8 = pos (2 ^ 7 - 1)
greatest k.Int16 = pos (2 ^ 15 - 1)
greatest k.Int32 = pos (2 ^ 31 - 1)
greatest k.Int64 = pos (2 ^ 63 - 1)
greatest k.Uint8 = pos (2 ^ 8 - 1)
greatest k.Uint16 = pos (2 ^ 16 - 1)
greatest k.Uint32 = pos (2 ^ 32 - 1)
greatest k.Uint64 = pos (2 ^ 64 - 1)
greatest _ = pos 0

-- the number is one of the kind
abbrev pub HasNumber : Kind → ℤ → Type 0
HasNumber kind z = (least kind ≤ℤ z) × (z ≤ℤ greatest kind)

-- the value is NULL, or one of the kind
abbrev pub HasKind : Kind → Value → Type 0
HasKind kind v.Null = Unit {0}
HasKind kind (v.Int own z) = (own ≡ kind) × IsInteger kind × HasNumber kind z
HasKind k.Bool (v.Bool _) = Unit {0}
HasKind k.Text (v.Text _) = Unit {0}
HasKind k.Blob (v.Blob _) = Unit {0}
HasKind _ _ = ⊥

-- the number of an integer is one of its kind
abbrev pub IsValue : Value → Type 0
IsValue (v.Int kind z) = IsInteger kind × HasNumber kind z
IsValue v.Null = Unit {0}
IsValue (v.Bool _) = Unit {0}
IsValue (v.Text _) = Unit {0}
IsValue (v.Blob _) = Unit {0}

-- the number is one of the kind, as a test
abbrev pub has_number : Kind → ℤ → Bool
has_number kind z = int_le (least kind) z && int_le z (greatest kind)

-- what is left of a number modulo 2 to the kind's width
abbrev pub residue : Kind → ℤ → ℕ
residue kind z = unsigned_abs (int_rem_euclid z (pos (2 ^ width kind)))

-- the number of the kind that has this residue, in two's complement where the kind is signed
abbrev pub with_residue : Kind → ℕ → ℤ
with_residue kind r = if int_le (pos r) (greatest kind) then pos r else pos r -ℤ pos (2 ^ width kind)

-- the number of the kind that is equal to this one modulo 2 to the kind's width
abbrev pub wrapped : Kind → ℤ → ℤ
wrapped kind z = with_residue kind (residue kind z)
