-- The lists of free blocks.
use Rattle.std.specs.Prelude.{ℕ, zero, suc, ◌+◌, ◌*◌, ◌/◌, ◌^◌, ◌≤◌, ◌<◌, Bool, true, false, ◌&&◌, nat_eq, nat_lt, if◌then◌else◌, List, [], ◌∷◌, length, drop, map, Option, Some, None, option_and_then, option_map}
use Rattle.std.specs.List.{list_all}
use Rattle.lldb_atoms.specs.Numbers.{number_in}
use Rattle.lldb_atoms.specs.Blocks.{Extent, Used, Compressed, Moved, Free, Hole, Tile, size, is_free}
use Rattle.lldb_atoms.specs.Rows.{extent_at, contains, are_distinct}

-- how often a number can be halved before it is below 2, at most so many times
abbrev pub halvings : ℕ → ℕ → ℕ
halvings zero n = 0
halvings (suc most) n = if nat_lt n 2 then 0 else 1 + halvings most (n / 2)

-- the class of a free block of so many atoms
unfoldable pub class_of : ℕ → ℕ
class_of atoms = halvings 15 atoms

-- the free blocks of a class have 2 ^ class atoms or more, and fewer than twice as many, but for the last class
pub record IsClass (atoms class : ℕ) : Type 0 where
  pub most : class ≤ 15
  pub low : 2 ^ class ≤ atoms
  pub high : class < 15 → atoms < 2 * 2 ^ class

-- whether it is a free block of a class
abbrev pub in_class : ℕ → Option Extent → Bool
in_class class None = false
in_class class (Some (Used content)) = false
in_class class (Some (Compressed content)) = false
in_class class (Some (Moved target)) = false
in_class class (Some (Free atoms)) = nat_eq (class_of atoms) class
in_class class (Some (Hole atoms)) = false

-- the first atoms of the free blocks of a class, in a row from the atom `from` on
abbrev pub free_from : ℕ → ℕ → List Extent → List ℕ
free_from class from [] = []
free_from class from (e ∷ row) = if in_class class (Some e) then from ∷ free_from class (from + size e) row else free_from class (from + size e) row

-- the extents of blocks
abbrev pub row_of : List Tile → List Extent
row_of tiles = map (λ tile. tile.extent) tiles

-- the block that begins at an atom, where the first one begins at the atom `from`
abbrev pub tile_from : ℕ → List Tile → ℕ → Option Tile
tile_from from [] atom = None
tile_from from (tile ∷ tiles) atom = if nat_eq atom from then Some tile else tile_from (from + size tile.extent) tiles atom

-- the head of a list, in the table at the front of a content
unfoldable pub list_head : List ℕ → ℕ → ℕ
list_head content class = number_in 8 (drop (8 * class) content)

-- the atoms along the next links from an atom on, where each is that of a free block that names the one before it;
-- `most` is more than there can be
unfoldable pub chain : List Tile → ℕ → ℕ → ℕ → Option (List ℕ)
chain tiles most before zero = Some []
chain tiles zero before (suc atom) = None
chain tiles (suc most) before (suc atom) =
    option_and_then (λ tile.
    if is_free tile.extent && nat_eq tile.previous before then option_map (λ rest. suc atom ∷ rest) (chain tiles most (suc atom) tile.next)
    else None) (tile_from 8 tiles (suc atom))

-- a list of free blocks, where it ends
unfoldable pub list_of : List ℕ → List Tile → ℕ → Option (List ℕ)
list_of content tiles class = chain tiles (length content) 0 (list_head content class)

-- whether a list has each free block of its class once, and nothing else
abbrev pub has_class : List Extent → ℕ → Option (List ℕ) → Bool
has_class row class None = false
has_class row class (Some atoms) =
    are_distinct atoms && (list_all (λ atom. in_class class (extent_at 8 row atom)) atoms && list_all (contains atoms) (free_from class 8 row))

-- whether the first so many lists have
abbrev pub are_listed : List ℕ → List Tile → ℕ → Bool
are_listed content tiles zero = true
are_listed content tiles (suc class) = are_listed content tiles class && has_class (row_of tiles) class (list_of content tiles class)
