-- Bytes are tiled in one way at most.
use Rattle.std.proofs.Common.{◌≡◌, ℕ, zero, suc, ◌*◌, ◌≤◌, true, List, [], ◌∷◌, ◌++◌, length, drop, Option, Some, None, option_and_then, option_map, refl, sym, ap, ◌∙◌, subst, length-append, arith}
use Rattle.std.proofs.lemmas.List.{drop_at}
use Rattle.std.proofs.lemmas.Option.{option_and_then_some}
use Rattle.lldb_atoms.specs.Blocks.{Extent, Used, Compressed, Moved, Free, Hole, size, Tile, tile_at, HasRoom}
use Rattle.lldb_atoms.specs.Sound.{tiles_in}
use Rattle.lldb_atoms.specs.Laws.{is_block, IsTile, AreTiles}
use Rattle.lldb_atoms.proofs.Spells.{tile_reads}
use Rattle.lldb_atoms.proofs.Says.{atoms_some, tile_says}

-- a block takes an atom or more
pub size_some : (p n : ℕ) (e : Extent) → HasRoom p n e → is_block e ≡ true → 1 ≤ size e
size_some p n (Used content) room stands = atoms_some (length content)
size_some p n (Compressed content) room stands = atoms_some (length content)
size_some p n (Moved target) room stands = omega arith
size_some p n (Free atoms) room stands = room.0
size_some p n (Hole atoms) room stands = absurd (cc)

-- a list that was put together, and its first
split_map : (tile : Tile) (o : Option (List Tile)) (tiles : List Tile) → option_map (λ rest. tile ∷ rest) o ≡ Some tiles → (rest : List Tile) × (o ≡ Some rest) × (tile ∷ rest ≡ tiles)
split_map tile (Some rest) tiles is = (rest, refl, cc)
split_map tile None tiles is = absurd (cc)

pub found_tiles : (most : ℕ) (bytes : List ℕ) (tiles : List Tile) → tiles_in most bytes ≡ Some tiles → AreTiles tiles bytes
unfolding tiles_in
found_tiles zero [] tiles is = let none : [] ≡ tiles = cc in subst (λ ts. AreTiles ts []) none refl
found_tiles (suc most) [] tiles is = let none : [] ≡ tiles = cc in subst (λ ts. AreTiles ts []) none refl
found_tiles zero (b ∷ bs) tiles is = absurd (cc)
found_tiles (suc most) (b ∷ bs) tiles is =
    option_and_then_some (λ tile. option_map (λ rest. tile ∷ rest) (tiles_in most (drop (16 * size tile.extent) (b ∷ bs)))) (tile_at (b ∷ bs)) tiles is
    (λ tile at others.
    let front = tile_says tile (b ∷ bs) at in
    let parts = split_map tile (tiles_in most (drop (16 * size tile.extent) (b ∷ bs))) tiles others in
    let behind : drop (16 * size tile.extent) (b ∷ bs) ≡ front.rest =
    ap (drop (16 * size tile.extent)) front.is ∙ drop_at front.here front.rest (16 * size tile.extent) front.tile_is.spelled.whole in
    let inner : AreTiles parts.0 (drop (16 * size tile.extent) (b ∷ bs)) = found_tiles most (drop (16 * size tile.extent) (b ∷ bs)) parts.0 parts.1 in
    let tail : AreTiles parts.0 front.rest = subst (AreTiles parts.0) behind inner in
    subst (λ ts. AreTiles ts (b ∷ bs)) parts.2 (front.here, front.rest, front.is, front.tile_is, tail))

no_bytes : (most : ℕ) → tiles_in most [] ≡ Some []
unfolding tiles_in
no_bytes zero = refl
no_bytes (suc most) = refl

one_more : (most : ℕ) (tile : Tile) (tiles : List Tile) (here rest : List ℕ) → IsTile tile here → tiles_in most rest ≡ Some tiles → tiles_in (suc most) (here ++ rest) ≡ Some (tile ∷ tiles)
unfolding tiles_in
one_more most tile tiles [] rest is more =
    let some = size_some tile.previous tile.next tile.extent is.spelled.room is.stands in
    let whole = is.spelled.whole in
    absurd (omega arith)
one_more most tile tiles (b ∷ bs) rest is more =
    let at : tile_at ((b ∷ bs) ++ rest) ≡ Some tile = tile_reads tile (b ∷ bs) rest is in
    let behind : drop (16 * size tile.extent) ((b ∷ bs) ++ rest) ≡ rest = drop_at (b ∷ bs) rest (16 * size tile.extent) is.spelled.whole in
    ap (option_and_then (λ t. option_map (λ ts. t ∷ ts) (tiles_in most (drop (16 * size t.extent) ((b ∷ bs) ++ rest))))) at
    ∙ ap (λ z. option_map (λ ts. tile ∷ ts) (tiles_in most z)) behind
    ∙ ap (option_map (λ ts. tile ∷ ts)) more

pub tiles_found : (most : ℕ) (bytes : List ℕ) (tiles : List Tile) → AreTiles tiles bytes → length bytes ≤ most → tiles_in most bytes ≡ Some tiles
tiles_found most bytes [] are low = ap (tiles_in most) are ∙ no_bytes most
tiles_found zero bytes (tile ∷ tiles) are low =
    let here : List ℕ = are.0 in
    let rest : List ℕ = are.1 in
    let is = are.3 in
    let some = size_some tile.previous tile.next tile.extent is.spelled.room is.stands in
    let whole = is.spelled.whole in
    let total : length bytes ≡ length (here ++ rest) = ap length are.2 in
    let sum = length-append here rest in
    absurd (omega arith)
tiles_found (suc most) bytes (tile ∷ tiles) are low =
    let here : List ℕ = are.0 in
    let rest : List ℕ = are.1 in
    let is = are.3 in
    let some = size_some tile.previous tile.next tile.extent is.spelled.room is.stands in
    let whole = is.spelled.whole in
    let total : length bytes ≡ length (here ++ rest) = ap length are.2 in
    let sum = length-append here rest in
    let inner : tiles_in most rest ≡ Some tiles = tiles_found most rest tiles are.4 (omega arith) in
    ap (tiles_in (suc most)) are.2 ∙ one_more most tile tiles here rest is inner

some_tiles : (a b : List Tile) → Some a ≡ Some b → a ≡ b
some_tiles a b is = cc

pub one_tiling : (tiles others : List Tile) (bytes : List ℕ) → AreTiles tiles bytes → AreTiles others bytes → tiles ≡ others
one_tiling tiles others bytes first second =
    some_tiles tiles others (sym (tiles_found (length bytes) bytes tiles first (omega arith)) ∙ tiles_found (length bytes) bytes others second (omega arith))
