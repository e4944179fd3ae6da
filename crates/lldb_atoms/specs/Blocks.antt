-- Blocks of a content: what stands on their atoms, and the bytes that spell it.
use Rattle.std.specs.Prelude.{◌≡◌, ℕ, ◌*◌, ◌/◌, ◌≤◌, ◌^◌, ◌<◌, Bool, true, false, nat_eq, nat_le, if◌then◌else◌, List, [], ◌∷◌, ◌++◌, length, take, drop, Option, Some, None, option_and_then}
use Rattle.std.specs.List.{ends_with}
use Rattle.lldb_base.specs.Contents.{atoms_for}
use Rattle.lldb_atoms.specs.declared.block.Block.{Block}
use Rattle.lldb_atoms.specs.declared.block.Block.TheVariants as block
use Rattle.lldb_atoms.specs.Numbers.{as_bytes}
use Rattle.lldb_atoms.specs.Heads.{head_of, ending_of, atoms_of, head_at}

-- what stands on some atoms; a hole stands only while a call has them in hand
pub data Extent : Type 0 where
  Used : List ℕ → Extent
  Compressed : List ℕ → Extent
  Moved : ℕ → Extent
  Free : ℕ → Extent
  Hole : ℕ → Extent

-- how many atoms it takes
abbrev pub size : Extent → ℕ
size (Used content) = atoms_for (length content)
size (Compressed content) = atoms_for (length content)
size (Moved target) = 1
size (Free atoms) = atoms
size (Hole atoms) = atoms

-- whether it is a free block
abbrev pub is_free : Extent → Bool
is_free (Used content) = false
is_free (Compressed content) = false
is_free (Moved target) = false
is_free (Free atoms) = true
is_free (Hole atoms) = false

-- a block with its links in its list, 0 and 0 where it is not free
pub record Tile : Type 0 where
  pub extent : Extent
  pub previous : ℕ
  pub next : ℕ

-- a block that is not free
abbrev pub unlinked : Extent → Tile
unlinked extent = record { extent = extent; previous = 0; next = 0 }

-- a block with its links, where it is free
abbrev pub tile_for : ℕ → ℕ → Extent → Tile
tile_for previous next (Used content) = unlinked (Used content)
tile_for previous next (Compressed content) = unlinked (Compressed content)
tile_for previous next (Moved target) = unlinked (Moved target)
tile_for previous next (Free atoms) = record { extent = Free atoms; previous = previous; next = next }
tile_for previous next (Hole atoms) = unlinked (Hole atoms)

-- the block with this head, where all of its bytes are these
abbrev pub tile_of : Block → List ℕ → Tile
tile_of (block.Short length) bytes = unlinked (Used (take length (drop 1 bytes)))
tile_of (block.Long length) bytes = unlinked (Used (take length (drop 3 bytes)))
tile_of (block.Relocated target) bytes = unlinked (Moved target)
tile_of (block.FreeOne prev next) bytes = record { extent = Free 1; previous = prev; next = next }
tile_of (block.Free atoms prev next) bytes = record { extent = Free atoms; previous = prev; next = next }

-- the same where the last byte is 1: a compressed block, or none
abbrev pub compressed_of : Block → List ℕ → Option Tile
compressed_of (block.Short length) bytes = Some (unlinked (Compressed (take length (drop 1 bytes))))
compressed_of (block.Long length) bytes = Some (unlinked (Compressed (take length (drop 3 bytes))))
compressed_of (block.Relocated target) bytes = None
compressed_of (block.FreeOne prev next) bytes = None
compressed_of (block.Free atoms prev next) bytes = None

-- what bytes with this head are, by how they end
abbrev pub tile_on : Block → List ℕ → Option Tile
tile_on block bytes =
    if ends_with nat_eq bytes (ending_of block) then Some (tile_of block bytes)
    else if ends_with nat_eq bytes (1 ∷ []) then compressed_of block bytes
    else None

-- the block at the front of bytes
unfoldable pub tile_at : List ℕ → Option Tile
tile_at bytes = option_and_then (λ block. tile_on block (take (16 * atoms_of block) bytes)) (head_at (length bytes / 16) bytes)

-- the head of a content: its length
abbrev pub used_head : ℕ → Block
used_head n = if nat_le n 251 then block.Short n else block.Long n

-- the head of a free block
abbrev pub free_head : ℕ → ℕ → ℕ → Block
free_head atoms previous next = if nat_eq atoms 1 then block.FreeOne previous next else block.Free atoms previous next

-- the head of a block
abbrev pub head_for : ℕ → ℕ → Extent → Block
head_for previous next (Used content) = used_head (length content)
head_for previous next (Compressed content) = used_head (length content)
head_for previous next (Moved target) = block.Relocated target
head_for previous next (Free atoms) = free_head atoms previous next
head_for previous next (Hole atoms) = free_head atoms previous next

-- the ending of a free block; that of one atom stands in its head
abbrev pub free_ending : ℕ → List ℕ
free_ending atoms = if nat_eq atoms 1 then [] else as_bytes 7 atoms ++ 255 ∷ []

-- the bytes of a block with these links, where those that may be any are `any`
abbrev pub spelling : ℕ → ℕ → List ℕ → Extent → List ℕ
spelling previous next any (Used content) = head_of (used_head (length content)) ++ content ++ any ++ 0 ∷ []
spelling previous next any (Compressed content) = head_of (used_head (length content)) ++ content ++ any ++ 1 ∷ []
spelling previous next any (Moved target) = head_of (block.Relocated target)
spelling previous next any (Free atoms) = head_of (free_head atoms previous next) ++ any ++ free_ending atoms
spelling previous next any (Hole atoms) = any

-- the numbers of a block are such as its bytes have room for
abbrev pub HasRoom : ℕ → ℕ → Extent → Type 0
HasRoom previous next (Used content) = length content ≤ 65787
HasRoom previous next (Compressed content) = length content ≤ 65787
HasRoom previous next (Moved target) = target < 2 ^ 56
HasRoom previous next (Free atoms) = (1 ≤ atoms) × (atoms < 2 ^ 56) × (previous < 2 ^ 56) × (next < 2 ^ 56)
HasRoom previous next (Hole atoms) = Unit {0}

-- bytes are exactly those of a block with these links
pub record IsBlock (previous next : ℕ) (extent : Extent) (bytes : List ℕ) : Type 0 where
  pub any : List ℕ
  pub spelled : bytes ≡ spelling previous next any extent
  pub whole : length bytes ≡ 16 * size extent
  pub room : HasRoom previous next extent
