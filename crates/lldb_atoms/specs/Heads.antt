-- Heads and endings of blocks, byte by byte.
use Rattle.std.specs.Prelude.{◌≡◌, ℕ, ◌+◌, ◌-◌, ◌^◌, ◌≤◌, ◌<◌, Bool, ◌&&◌, nat_le, nat_lt, nat_eq, if◌then◌else◌, List, [], ◌∷◌, ◌++◌, length, take, drop, slice_index, Option, Some, None}
use Rattle.std.specs.List.{starts_with}
use Rattle.lldb_base.specs.Contents.{atoms_for}
use Rattle.lldb_atoms.specs.declared.block.Block.{Block}
use Rattle.lldb_atoms.specs.declared.block.Block.TheVariants as block
use Rattle.lldb_atoms.specs.Numbers.{as_bytes, number_in}

-- the bytes of a head
abbrev pub head_of : Block → List ℕ
head_of (block.Short length) = length ∷ []
head_of (block.Long length) = 252 ∷ as_bytes 2 (length - 252)
head_of (block.Relocated target) = 253 ∷ as_bytes 7 target ++ 0 ∷ 0 ∷ 0 ∷ 0 ∷ 0 ∷ 0 ∷ 0 ∷ 0 ∷ []
head_of (block.FreeOne prev next) = 254 ∷ as_bytes 7 prev ++ as_bytes 7 next ++ 254 ∷ []
head_of (block.Free atoms prev next) = 255 ∷ as_bytes 7 atoms ++ as_bytes 7 prev ++ as_bytes 7 next

-- the last bytes of a block
abbrev pub ending_of : Block → List ℕ
ending_of (block.Short length) = 0 ∷ []
ending_of (block.Long length) = 0 ∷ []
ending_of (block.Relocated target) = 0 ∷ []
ending_of (block.FreeOne prev next) = 254 ∷ []
ending_of (block.Free atoms prev next) = as_bytes 7 atoms ++ 255 ∷ []

-- how many atoms of 16 bytes a block takes
abbrev pub atoms_of : Block → ℕ
atoms_of (block.Short length) = atoms_for length
atoms_of (block.Long length) = atoms_for length
atoms_of (block.Relocated target) = 1
atoms_of (block.FreeOne prev next) = 1
atoms_of (block.Free atoms prev next) = atoms

-- the numbers of a block are such as its head has room for
abbrev pub IsValid : Block → Type 0
IsValid (block.Short length) = length ≤ 251
IsValid (block.Long length) = (252 ≤ length) × (length ≤ 65787)
IsValid (block.Relocated target) = target < 2 ^ 56
IsValid (block.FreeOne prev next) = (prev < 2 ^ 56) × (next < 2 ^ 56)
IsValid (block.Free atoms prev next) = (2 ≤ atoms) × (atoms < 2 ^ 56) × (prev < 2 ^ 56) × (next < 2 ^ 56)

-- whether they are
abbrev pub is_valid : Block → Bool
is_valid (block.Short length) = nat_le length 251
is_valid (block.Long length) = nat_le 252 length && nat_le length 65787
is_valid (block.Relocated target) = nat_lt target (2 ^ 56)
is_valid (block.FreeOne prev next) = nat_lt prev (2 ^ 56) && nat_lt next (2 ^ 56)
is_valid (block.Free atoms prev next) = nat_le 2 atoms && (nat_lt atoms (2 ^ 56) && (nat_lt prev (2 ^ 56) && nat_lt next (2 ^ 56)))

-- bytes begin with the head of a block
pub record HasHead (bytes : List ℕ) (block : Block) : Type 0 where
  pub valid : IsValid block
  pub written : take (length (head_of block)) bytes ≡ head_of block

-- the block that bytes speak of, by the first one: no other can be written there
abbrev pub spoken_by : ℕ → List ℕ → Block
spoken_by first bytes =
    if nat_le first 251 then block.Short first
    else if nat_eq first 252 then block.Long (252 + number_in 2 (drop 1 bytes))
    else if nat_eq first 253 then block.Relocated (number_in 7 (drop 1 bytes))
    else if nat_eq first 254 then block.FreeOne (number_in 7 (drop 1 bytes)) (number_in 7 (drop 8 bytes))
    else block.Free (number_in 7 (drop 1 bytes)) (number_in 7 (drop 8 bytes)) (number_in 7 (drop 15 bytes))

-- a block, where bytes begin with its head and it has at most so many atoms
abbrev pub checked : ℕ → List ℕ → Block → Option Block
checked left bytes block =
    if is_valid block && (nat_le (atoms_of block) left && starts_with nat_eq bytes (head_of block)) then Some block
    else None

-- the block of at most so many atoms whose head bytes begin with
unfoldable pub head_at : ℕ → List ℕ → Option Block
head_at left bytes = checked left bytes (spoken_by (slice_index bytes 0) bytes)
