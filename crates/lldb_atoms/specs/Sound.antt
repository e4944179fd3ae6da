-- A content as a tiling of blocks, when it is sound, and the heap in it.
use Rattle.std.specs.Prelude.{ℕ, zero, suc, ◌*◌, Bool, false, not, ◌&&◌, nat_le, if◌then◌else◌, List, [], ◌∷◌, length, drop, Option, Some, None, option_and_then, option_map, is_some}
use Rattle.lldb_base.specs.Contents.{Contents}
use Rattle.lldb_atoms.specs.Blocks.{Tile, size, tile_at}
use Rattle.lldb_atoms.specs.Rows.{are_distinct, targets, are_used, are_spaced, ends_free, heap}
use Rattle.lldb_atoms.specs.Lists.{row_of, are_listed}

-- bytes as blocks one after the other; `most` is more than there can be
unfoldable pub tiles_in : ℕ → List ℕ → Option (List Tile)
tiles_in most [] = Some []
tiles_in zero (b ∷ bs) = None
tiles_in (suc most) (b ∷ bs) =
    option_and_then (λ tile. option_map (λ tiles. tile ∷ tiles) (tiles_in most (drop (16 * size tile.extent) (b ∷ bs)))) (tile_at (b ∷ bs))

-- the blocks of a content, which stand behind the 128 bytes of the table
unfoldable pub tiling : List ℕ → Option (List Tile)
tiling content = if nat_le 128 (length content) then tiles_in (length content) (drop 128 content) else None

-- whether these blocks make a content sound
abbrev pub is_sound_tiling : List ℕ → List Tile → Bool
is_sound_tiling content tiles =
    let row = row_of tiles in
    are_spaced false row && (not (ends_free false row) && (are_distinct (targets row) && (are_used row (targets row) && are_listed content tiles 16)))

-- the blocks of a content, where it is sound
unfoldable pub sound_tiling : List ℕ → Option (List Tile)
sound_tiling content = option_and_then (λ tiles. if is_sound_tiling content tiles then Some tiles else None) (tiling content)

-- whether a content is sound
abbrev pub is_sound : List ℕ → Bool
is_sound content = is_some (sound_tiling content)

-- the heap in a content: none of its own in an empty one, and nothing where it is neither empty nor sound
unfoldable pub heap_in : List ℕ → Option Contents
heap_in [] = Some []
heap_in (b ∷ bs) = option_map (λ tiles. heap (row_of tiles)) (sound_tiling (b ∷ bs))
