-- Contents as blocks up to where none stands, and as tilings.
use Rattle.std.proofs.Common.{◌≡◌, ℕ, zero, suc, ◌+◌, ◌*◌, ◌≤◌, List, [], ◌∷◌, length, drop, Option, Some, None, option_and_then, option_map, refl, ◌∙◌, ap, length-append, length-drop, arith}
use Rattle.std.proofs.lemmas.Option.{option_and_then_some}
use Rattle.lldb_atoms.specs.Blocks.{Tile, size, tile_at}
use Rattle.lldb_atoms.specs.Rows.{atoms_in}
use Rattle.lldb_atoms.specs.Lists.{row_of}
use Rattle.lldb_atoms.specs.Sound.{tiles_in}
use Rattle.lldb_atoms.specs.Laws.{AreTiles}
use Rattle.lldb_atoms.proofs.Says.{tile_says}
use Rattle.lldb_atoms.proofs.Tiled.{size_some}
use Rattle.lldb_blocks.specs.Laid.{Solid}
use Rattle.lldb_verify.specs.Findings.{with_rest, blocks_in}

-- how long a block is that is read at the front of bytes
pub record Measured (tile : Tile) (bytes : List ℕ) : Type 0 where
  pub some : 1 ≤ size tile.extent
  pub within : 16 * size tile.extent ≤ length bytes

pub measured : (tile : Tile) (bytes : List ℕ) → tile_at bytes ≡ Some tile → Measured tile bytes
measured tile bytes at =
    let f = tile_says tile bytes at in
    let block = f.tile_is.spelled in
    let whole = block.whole in
    let all = ap length f.is ∙ length-append f.here f.rest in
    record { some = size_some tile.previous tile.next tile.extent block.room f.tile_is.stands; within = omega (arith, all, whole) }

split_map : (tile : Tile) (o : Option (List Tile)) (tiles : List Tile) → option_map (λ rest. tile ∷ rest) o ≡ Some tiles → (rest : List Tile) × (o ≡ Some rest) × (tile ∷ rest ≡ tiles)
split_map tile (Some rest) tiles is = (rest, refl, cc)
split_map tile None tiles is = absurd (cc)

-- a tiling is the blocks up to where none stands
pub tiles_blocks : (most : ℕ) (bytes : List ℕ) (tiles : List Tile) → tiles_in most bytes ≡ Some tiles → blocks_in most bytes ≡ tiles
unfolding tiles_in blocks_in
tiles_blocks zero [] tiles is = cc
tiles_blocks (suc most) [] tiles is = cc
tiles_blocks zero (b ∷ bs) tiles is = absurd (cc)
tiles_blocks (suc most) (b ∷ bs) tiles is =
    option_and_then_some (λ tile. option_map (λ rest. tile ∷ rest) (tiles_in most (drop (16 * size tile.extent) (b ∷ bs)))) (tile_at (b ∷ bs)) tiles is
    (λ tile at others.
    let parts = split_map tile (tiles_in most (drop (16 * size tile.extent) (b ∷ bs))) tiles others in
    let rest = tiles_blocks most (drop (16 * size tile.extent) (b ∷ bs)) parts.0 parts.1 in
    ap (with_rest (λ t. blocks_in most (drop (16 * size t.extent) (b ∷ bs)))) at
    ∙ ap (λ (ts : List Tile). tile ∷ ts) rest ∙ parts.2)

-- the blocks behind a first one
abbrev behind : ℕ → List ℕ → Tile → List Tile
behind most z tile = blocks_in most (drop (16 * size tile.extent) z)

first_tiles : (most : ℕ) (z : List ℕ) (o : Option Tile) → tile_at z ≡ o → length z ≤ most + 1 → 1 ≤ length z
    → ((y : List ℕ) → length y ≤ most → 16 * atoms_in (row_of (blocks_in most y)) ≡ length y → tiles_in most y ≡ Some (blocks_in most y))
    → 16 * atoms_in (row_of (with_rest (behind most z) o)) ≡ length z
    → option_and_then (λ tile. option_map (λ rest. tile ∷ rest) (tiles_in most (drop (16 * size tile.extent) z))) o ≡ Some (with_rest (behind most z) o)
first_tiles most z None at enough long again whole = absurd (omega (arith, whole, long))
first_tiles most z (Some tile) at enough long again whole =
    let m = measured tile z at in
    let some = m.some in
    let within = m.within in
    let left = length-drop (16 * size tile.extent) z in
    ap (option_map (λ (rest : List Tile). tile ∷ rest)) (again (drop (16 * size tile.extent) z) (omega (arith, left, some, within, enough)) (omega (arith, left, within, whole)))

-- blocks that take all of the bytes are a tiling
pub blocks_tiles : (most : ℕ) (bytes : List ℕ) → length bytes ≤ most → 16 * atoms_in (row_of (blocks_in most bytes)) ≡ length bytes → tiles_in most bytes ≡ Some (blocks_in most bytes)
unfolding tiles_in blocks_in
blocks_tiles zero [] enough whole = refl
blocks_tiles (suc most) [] enough whole = refl
blocks_tiles zero (b ∷ bs) enough whole = absurd (omega (arith, enough))
blocks_tiles (suc most) (b ∷ bs) enough whole =
    first_tiles most (b ∷ bs) (tile_at (b ∷ bs)) refl (omega (arith, enough)) (omega arith) (λ y. blocks_tiles most y) whole

first_solid : (most : ℕ) (z : List ℕ) (o : Option Tile) → tile_at z ≡ o
    → ((y : List ℕ) → Solid (row_of (blocks_in most y)) × (16 * atoms_in (row_of (blocks_in most y)) ≤ length y))
    → Solid (row_of (with_rest (behind most z) o)) × (16 * atoms_in (row_of (with_rest (behind most z) o)) ≤ length z)
first_solid most z None at again = (tt, omega arith)
first_solid most z (Some tile) at again =
    let m = measured tile z at in
    let within = m.within in
    let left = length-drop (16 * size tile.extent) z in
    let rest = again (drop (16 * size tile.extent) z) in
    let more = rest.1 in
    ((m.some, rest.0), omega (arith, left, within, more))

-- blocks have atoms, and no more than the bytes have
pub blocks_solid : (most : ℕ) (bytes : List ℕ) → Solid (row_of (blocks_in most bytes)) × (16 * atoms_in (row_of (blocks_in most bytes)) ≤ length bytes)
unfolding blocks_in
blocks_solid zero [] = (tt, omega arith)
blocks_solid (suc most) [] = (tt, omega arith)
blocks_solid zero (b ∷ bs) = (tt, omega arith)
blocks_solid (suc most) (b ∷ bs) = first_solid most (b ∷ bs) (tile_at (b ∷ bs)) refl (λ y. blocks_solid most y)

-- a tiling takes all of the bytes
pub tiles_whole : (tiles : List Tile) (bytes : List ℕ) → AreTiles tiles bytes → length bytes ≡ 16 * atoms_in (row_of tiles)
tiles_whole [] bytes are = ap length are
tiles_whole (tile ∷ tiles) bytes are =
    let whole = are.3.spelled.whole in
    let all = ap length are.2 ∙ length-append are.0 are.1 in
    let rest = tiles_whole tiles are.1 are.4 in
    omega (arith, whole, all, rest)
