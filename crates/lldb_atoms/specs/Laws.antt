-- What holds of blocks, tilings and lists.
use Rattle.std.specs.Prelude.{◌≡◌, ℕ, ◌^◌, ◌<◌, Bool, true, false, List, [], ◌∷◌, ◌++◌, length, slice_index, flat_map, Some}
use Rattle.std.specs.Ordering.{nat_cmp}
use Rattle.std.specs.List.Sorted.{IsStrictlySortedBy}
use Rattle.std.specs.Map.{keys_of}
use Rattle.lldb_base.specs.Contents.{Contents}
use Rattle.lldb_atoms.specs.Numbers.{as_bytes}
use Rattle.lldb_atoms.specs.Blocks.{Extent, Used, Compressed, Moved, Free, Hole, Tile, tile_for, tile_at, IsBlock}
use Rattle.lldb_atoms.specs.Rows.{extent_at, contains, are_distinct}
use Rattle.lldb_atoms.specs.Lists.{row_of, list_head, list_of, class_of}
use Rattle.lldb_atoms.specs.Sound.{tiles_in, sound_tiling, heap_in}

-- whether it is no hole
abbrev pub is_block : Extent → Bool
is_block (Used content) = true
is_block (Compressed content) = true
is_block (Moved target) = true
is_block (Free atoms) = true
is_block (Hole atoms) = false

-- bytes are exactly those of a block
pub record IsTile (tile : Tile) (bytes : List ℕ) : Type 0 where
  pub spelled : IsBlock tile.previous tile.next tile.extent bytes
  pub stands : is_block tile.extent ≡ true
  pub linked : tile_for tile.previous tile.next tile.extent ≡ tile

-- bytes are those of blocks one behind the other
abbrev pub AreTiles : List Tile → List ℕ → Type 0
AreTiles [] bytes = bytes ≡ []
AreTiles (tile ∷ tiles) bytes = (here : List ℕ) × (rest : List ℕ) × (bytes ≡ here ++ rest) × IsTile tile here × AreTiles tiles rest

-- the bytes of a block are read as that block and no other, whatever stands behind them, so a head fixes the length
pub record BlockLaws : Type 0 where
  pub read : (tile : Tile) (bytes rest : List ℕ) → IsTile tile bytes → tile_at (bytes ++ rest) ≡ Some tile
  pub spelled : (tile : Tile) (bytes : List ℕ) → tile_at bytes ≡ Some tile → (here : List ℕ) × (rest : List ℕ) × (bytes ≡ here ++ rest) × IsTile tile here
  pub one_front : (tile other : Tile) (here there rest end : List ℕ) → here ++ rest ≡ there ++ end → IsTile tile here → IsTile other there → (tile ≡ other) × (here ≡ there)
  pub one_block : (tile other : Tile) (bytes : List ℕ) → IsTile tile bytes → IsTile other bytes → tile ≡ other

-- bytes are tiled in one way at most, which is the one that is found
pub record TilingLaws : Type 0 where
  pub tiled : (tiles : List Tile) (bytes : List ℕ) → AreTiles tiles bytes → tiles_in (length bytes) bytes ≡ Some tiles
  pub found : (tiles : List Tile) (bytes : List ℕ) → tiles_in (length bytes) bytes ≡ Some tiles → AreTiles tiles bytes
  pub one_tiling : (tiles others : List Tile) (bytes : List ℕ) → AreTiles tiles bytes → AreTiles others bytes → tiles ≡ others

-- the table that is written is the one that is read
pub record TableLaws : Type 0 where
  pub read : (heads rest : List ℕ) (class : ℕ) → ((i : ℕ) → slice_index heads i < 2 ^ 64) → class < length heads → list_head (flat_map (as_bytes 8) heads ++ rest) class ≡ slice_index heads class

-- an atom stands in the list of a class, once
pub record IsListed (content : List ℕ) (tiles : List Tile) (atom class : ℕ) : Type 0 where
  pub atoms : List ℕ
  pub list : list_of content tiles class ≡ Some atoms
  pub member : contains atoms atom ≡ true
  pub once : are_distinct atoms ≡ true

-- an empty content is the empty heap; handles rise, each once; and in a sound content each free block stands in the list of its class and in no other
pub record SoundLaws : Type 0 where
  pub empty : heap_in [] ≡ Some []
  pub rising : (content : List ℕ) (contents : Contents) → heap_in content ≡ Some contents → IsStrictlySortedBy nat_cmp (keys_of contents)
  pub listed : (content : List ℕ) (tiles : List Tile) (atom atoms : ℕ) → sound_tiling content ≡ Some tiles → extent_at 8 (row_of tiles) atom ≡ Some (Free atoms) → IsListed content tiles atom (class_of atoms)
  pub only : (content : List ℕ) (tiles : List Tile) (atom atoms class : ℕ) → sound_tiling content ≡ Some tiles → extent_at 8 (row_of tiles) atom ≡ Some (Free atoms) → class < 16 → IsListed content tiles atom class → class ≡ class_of atoms
