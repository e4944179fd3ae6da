-- The block at the front of bytes, with the bytes that it takes.
use Rattle.std.proofs.Common.{◌≡◌, ℕ, ◌*◌, ◌≤◌, true, List, ◌++◌, length, take, Some, sym, ◌∙◌, ap, subst, arith, length-append, take_at}
use Rattle.lldb_atoms.specs.Blocks.{Extent, size, Tile, tile_for, tile_at, IsBlock}
use Rattle.lldb_atoms.specs.Laws.{is_block}
use Rattle.lldb_atoms.proofs.Says as says
use Rattle.lldb_atoms.proofs.Spells as spells
use Rattle.lldb_atoms.proofs.Tiled.{size_some}

-- what a tile says of bytes
pub record Says (t : Tile) (here : List ℕ) : Type 0 where
  pub block : IsBlock t.previous t.next t.extent here
  pub links : t ≡ tile_for t.previous t.next t.extent
  pub known : is_block t.extent ≡ true
  pub some : 1 ≤ size t.extent

-- the block that is read at the front of bytes is spelled there
pub tile_says : (z : List ℕ) (t : Tile) → tile_at z ≡ Some t → Says t (take (16 * size t.extent) z) × (16 * size t.extent ≤ length z)
tile_says z t is =
    let f = says.tile_says t z is in
    let block = f.tile_is.spelled in
    let whole = block.whole in
    let all = ap length f.is ∙ length-append f.here f.rest in
    let here : take (16 * size t.extent) z ≡ f.here = ap (take (16 * size t.extent)) f.is ∙ take_at f.here f.rest (16 * size t.extent) whole in (
      record {
        block = subst (λ (u : List ℕ). IsBlock t.previous t.next t.extent u) (sym here) block;
        links = sym f.tile_is.linked;
        known = f.tile_is.stands;
        some = size_some t.previous t.next t.extent block.room f.tile_is.stands;
      },
      omega (arith, all, whole),
    )

-- a block that is spelled at the front of bytes is read there
pub tile_reads : (p n : ℕ) (e : Extent) (here rest : List ℕ) → is_block e ≡ true → IsBlock p n e here → tile_at (here ++ rest) ≡ Some (tile_for p n e)
tile_reads p n e here rest known block = spells.block_reads p n e here rest block known
