-- What is wrong with a content, in order.
use Rattle.std.specs.Prelude.{ℕ, zero, suc, ◌+◌, ◌*◌, ◌/◌, ◌%◌, Bool, true, false, not, ◌&&◌, ◌||◌, nat_eq, nat_le, if◌then◌else◌, List, [], ◌∷◌, ◌++◌, length, drop, Option, Some, None}
use Rattle.lldb_atoms.specs.Blocks.{Extent, Used, Compressed, Moved, Free, Hole, Tile, size, is_free, tile_at}
use Rattle.lldb_atoms.specs.Rows.{atoms_in, extent_at, contains, target_of}
use Rattle.lldb_atoms.specs.Lists.{in_class, row_of, tile_from, list_head}
use Rattle.lldb_verify.specs.declared.finding.Finding.{Finding}
use Rattle.lldb_verify.specs.declared.finding.Finding.TheVariants as finding

-- a finding, unless a test holds
abbrev pub unless : Bool → Finding → List Finding
unless test found = if test then [] else found ∷ []

-- a block with those behind it, where one stands
abbrev pub with_rest : (Tile → List Tile) → Option Tile → List Tile
with_rest rest None = []
with_rest rest (Some tile) = tile ∷ rest tile

-- bytes as blocks one after the other, up to where none stands; `most` is more than there can be
unfoldable pub blocks_in : ℕ → List ℕ → List Tile
blocks_in most [] = []
blocks_in zero (b ∷ bs) = []
blocks_in (suc most) (b ∷ bs) = with_rest (λ tile. blocks_in most (drop (16 * size tile.extent) (b ∷ bs))) (tile_at (b ∷ bs))

-- the blocks of a content behind the 128 bytes of the table, up to where none stands
abbrev pub blocks : List ℕ → List Tile
blocks content = blocks_in (length content) (drop 128 content)

-- a free block has a free one in front of it
abbrev pub beside : Option ℕ → ℕ → List Finding
beside None right = []
beside (Some left) right = finding.FreeNeighbours left right ∷ []

-- the last block is free
abbrev pub last_free : Option ℕ → List Finding
last_free None = []
last_free (Some atom) = finding.FreeAtEnd atom ∷ []

-- the blocks from the atom `from` on, as they stand one after the other, in a content of so many atoms; `before` is the free
-- block in front of them, where there is one
abbrev pub of_blocks : ℕ → Option ℕ → ℕ → List Extent → List Finding
of_blocks atoms before from [] = if nat_eq from atoms then last_free before else finding.BadBlock from ∷ []
of_blocks atoms before from (Used content ∷ row) = of_blocks atoms None (from + size (Used content)) row
of_blocks atoms before from (Compressed content ∷ row) = finding.Compressed from ∷ of_blocks atoms None (from + size (Compressed content)) row
of_blocks atoms before from (Moved target ∷ row) = of_blocks atoms None (from + 1) row
of_blocks atoms before from (Free count ∷ row) = beside before from ++ of_blocks atoms (Some from) (from + count) row
of_blocks atoms before from (Hole count ∷ row) = finding.BadBlock from ∷ []

-- whether it is a used block; a compressed one counts as used
abbrev pub is_used : Option Extent → Bool
is_used None = false
is_used (Some (Used content)) = true
is_used (Some (Compressed content)) = true
is_used (Some (Moved target)) = false
is_used (Some (Free count)) = false
is_used (Some (Hole count)) = false

-- a relocated block names a used block, which no other in front of it names; `named` is what these name
abbrev pub of_target : List Extent → List ℕ → ℕ → Extent → List Finding
of_target row named from (Used content) = []
of_target row named from (Compressed content) = []
of_target row named from (Moved target) = unless (is_used (extent_at 8 row target) && not (contains named target)) (finding.BadTarget from target)
of_target row named from (Free count) = []
of_target row named from (Hole count) = []

-- the relocated blocks among those from the atom `from` on
abbrev pub of_targets : List Extent → List ℕ → ℕ → List Extent → List Finding
of_targets row named from [] = []
of_targets row named from (e ∷ rest) = of_target row named from e ++ of_targets row (target_of e ++ named) (from + size e) rest

-- whether a block is free, of a class, and names the atom `before`
abbrev pub links_back : ℕ → ℕ → Option Tile → Bool
links_back class before None = false
links_back class before (Some tile) = in_class class (Some tile.extent) && nat_eq tile.previous before

-- whether the list of a class may go on from the atom `before` to another: a free block of the class begins there, it names
-- `before`, and no list has met it
abbrev pub goes_on : List Tile → ℕ → List ℕ → ℕ → ℕ → Bool
goes_on tiles class met before atom = links_back class before (tile_from 8 tiles atom) && not (contains met atom)

-- the next link of a block
abbrev pub next_of : Option Tile → ℕ
next_of None = 0
next_of (Some tile) = tile.next

-- what was met on the way, the last first, and what was found
pub record Walk : Type 0 where
  pub met : List ℕ
  pub found : List Finding

-- one list, along the next links from an atom on; `most` is more than there can be
unfoldable pub walk : List Tile → ℕ → ℕ → List ℕ → ℕ → ℕ → Walk
walk tiles class most met before zero = record { met = met; found = [] }
walk tiles class zero met before (suc atom) = record { met = met; found = finding.BadLink class (suc atom) ∷ [] }
walk tiles class (suc most) met before (suc atom) =
    if goes_on tiles class met before (suc atom) then walk tiles class most (suc atom ∷ met) (suc atom) (next_of (tile_from 8 tiles (suc atom)))
    else record { met = met; found = finding.BadLink class (suc atom) ∷ [] }

-- the first so many lists, one after the other
unfoldable pub of_lists : List ℕ → List Tile → ℕ → Walk
of_lists content tiles zero = record { met = []; found = [] }
of_lists content tiles (suc class) =
    let before = of_lists content tiles class in
    let here = walk tiles class (length content) before.met 0 (list_head content class) in
    record { met = here.met; found = before.found ++ here.found }

-- a block that is free was met
abbrev pub of_free : List ℕ → ℕ → Extent → List Finding
of_free met from e = unless (not (is_free e) || contains met from) (finding.Unlisted from)

-- the free blocks among those from the atom `from` on
abbrev pub of_unlisted : List ℕ → ℕ → List Extent → List Finding
of_unlisted met from [] = []
of_unlisted met from (e ∷ row) = of_free met from e ++ of_unlisted met (from + size e) row

-- a content of whole blocks: relocated blocks, then lists, then the free blocks that no list has
abbrev pub of_whole : List ℕ → List Tile → List Finding
of_whole content tiles =
    let lists = of_lists content tiles 16 in
    of_targets (row_of tiles) [] 8 (row_of tiles) ++ lists.found ++ of_unlisted lists.met 8 (row_of tiles)

-- a content of whole atoms: its blocks one after the other, and, where they are whole, what they name
abbrev pub of_content : List ℕ → List Tile → List Finding
of_content content tiles =
    let atoms = length content / 16 in
    of_blocks atoms None 8 (row_of tiles) ++ (if nat_eq (8 + atoms_in (row_of tiles)) atoms then of_whole content tiles else [])

-- whether a content is whole atoms, and has the table
abbrev pub has_length : List ℕ → Bool
has_length content = nat_le 128 (length content) && nat_eq (length content % 16) 0

-- what is wrong with a content
unfoldable pub findings : List ℕ → List Finding
findings [] = []
findings (b ∷ bs) =
    if has_length (b ∷ bs) then of_content (b ∷ bs) (blocks (b ∷ bs))
    else finding.BadLength (length (b ∷ bs)) ∷ []
