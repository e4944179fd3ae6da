-- The handles of a content rise, so each stands there once.
use Rattle.std.proofs.Common.{◌≡◌, ℕ, ◌+◌, ◌≤◌, ◌<◌, Bool, true, false, cond, List, [], ◌∷◌, length, drop, Option, Some, None, option_map, refl, subst, arith, nat_le}
use Rattle.std.specs.declared.cmp.Ordering.TheVariants.{Less}
use Rattle.std.specs.Ordering.{nat_cmp}
use Rattle.std.specs.List.{AllByRecursion}
use Rattle.std.specs.List.Sorted.{IsStrictlySortedBy}
use Rattle.std.specs.Map.{keys_of}
use Rattle.std.proofs.lemmas.Bool.{cond-true, lt-ltb}
use Rattle.std.proofs.lemmas.Option.{option_and_then_some}
use Rattle.lldb_base.specs.Contents.{Contents}
use Rattle.lldb_atoms.specs.Blocks.{Extent, Tile, size}
use Rattle.lldb_atoms.specs.Rows.{handle_content, with_first, handles_from, heap}
use Rattle.lldb_atoms.specs.Lists.{row_of}
use Rattle.lldb_atoms.specs.Sound.{tiles_in, tiling, sound_tiling, is_sound_tiling, heap_in}
use Rattle.lldb_atoms.specs.Laws.{AreTiles}
use Rattle.lldb_atoms.proofs.Tiled.{size_some, found_tiles}

abbrev Solid : List Extent → Type 0
Solid [] = Unit {0}
Solid (e ∷ row) = (1 ≤ size e) × Solid row

solid_tiles : (tiles : List Tile) (bytes : List ℕ) → AreTiles tiles bytes → Solid (row_of tiles)
solid_tiles [] bytes are = tt
solid_tiles (tile ∷ tiles) bytes are =
    let is = are.3 in
    (size_some tile.previous tile.next tile.extent is.spelled.room is.stands, solid_tiles tiles are.1 are.4)

weaker : (P Q : ℕ → Type 0) (ks : List ℕ) → ((k : ℕ) → P k → Q k) → AllByRecursion P ks → AllByRecursion Q ks
weaker P Q [] all each = tt
weaker P Q (k ∷ ks) all each = (all k each.0, weaker P Q ks all each.1)

record Rises (from : ℕ) (contents : Contents) : Type 0 where
  above : AllByRecursion (λ k. from ≤ k) (keys_of contents)
  sorted : IsStrictlySortedBy nat_cmp (keys_of contents)

less : (a b : ℕ) → a < b → nat_cmp a b ≡ Less
less a b below = cond-true _ _ _ (lt-ltb a b below)

put_first : (from next : ℕ) (o : Option (List ℕ)) (contents : Contents) → from < next → Rises next contents → Rises from (with_first from o contents)
unfolding IsStrictlySortedBy
put_first from next None contents below rest = record { above = weaker (λ k. next ≤ k) (λ k. from ≤ k) (keys_of contents) (λ k low. omega arith) rest.above; sorted = rest.sorted }
put_first from next (Some content) contents below rest = record {
  above = (omega arith, weaker (λ k. next ≤ k) (λ k. from ≤ k) (keys_of contents) (λ k low. omega arith) rest.above);
  sorted = (weaker (λ k. next ≤ k) (λ k. nat_cmp from k ≡ Less) (keys_of contents) (λ k low. less from k (omega arith)) rest.above, rest.sorted);
}

rises : (row : List Extent) (from : ℕ) (rest : List Extent) → Solid rest → Rises from (handles_from row from rest)
unfolding IsStrictlySortedBy
rises row from [] solid = record { above = tt; sorted = tt }
rises row from (e ∷ rest) solid =
    let some = solid.0 in
    put_first from (from + size e) (handle_content row from e) (handles_from row (from + size e) rest) (omega arith) (rises row (from + size e) rest solid.1)

chosen_tiles : (b : Bool) (o : Option (List Tile)) (tiles : List Tile) → cond b o None ≡ Some tiles → o ≡ Some tiles
chosen_tiles true o tiles is = is
chosen_tiles false o tiles is = absurd (cc)

solid_tiling : (content : List ℕ) (tiles : List Tile) → tiling content ≡ Some tiles → Solid (row_of tiles)
unfolding tiling
solid_tiling content tiles is =
    let found : tiles_in (length content) (drop 128 content) ≡ Some tiles = chosen_tiles (nat_le 128 (length content)) (tiles_in (length content) (drop 128 content)) tiles is in
    solid_tiles tiles (drop 128 content) (found_tiles (length content) (drop 128 content) tiles found)

kept_tiles : (b : Bool) (found tiles : List Tile) → cond b (Some found) None ≡ Some tiles → found ≡ tiles
kept_tiles true found tiles is = cc
kept_tiles false found tiles is = absurd (cc)

solid_sound : (content : List ℕ) (tiles : List Tile) → sound_tiling content ≡ Some tiles → Solid (row_of tiles)
unfolding sound_tiling
solid_sound content tiles sound =
    option_and_then_some (λ found. cond (is_sound_tiling content found) (Some found) None) (tiling content) tiles sound
    (λ found is kept. subst (λ ts. Solid (row_of ts)) (kept_tiles (is_sound_tiling content found) found tiles kept) (solid_tiling content found is))

mapped_rises : (o : Option (List Tile)) (contents : Contents) → ((tiles : List Tile) → o ≡ Some tiles → Solid (row_of tiles)) → option_map (λ tiles. heap (row_of tiles)) o ≡ Some contents → IsStrictlySortedBy nat_cmp (keys_of contents)
mapped_rises None contents solid is = absurd (cc)
mapped_rises (Some tiles) contents solid is =
    let same : heap (row_of tiles) ≡ contents = cc in
    subst (λ z. IsStrictlySortedBy nat_cmp (keys_of z)) same (rises (row_of tiles) 8 (row_of tiles) (solid tiles refl)).sorted

nothing_rises : (contents : Contents) → Some [] ≡ Some contents → IsStrictlySortedBy nat_cmp (keys_of contents)
unfolding IsStrictlySortedBy
nothing_rises [] is = tt
nothing_rises (e ∷ es) is = absurd (cc)

pub handles_rise : (content : List ℕ) (contents : Contents) → heap_in content ≡ Some contents → IsStrictlySortedBy nat_cmp (keys_of contents)
unfolding heap_in
handles_rise [] contents is = nothing_rises contents is
handles_rise (b ∷ bs) contents is = mapped_rises (sound_tiling (b ∷ bs)) contents (λ tiles sound. solid_sound (b ∷ bs) tiles sound) is
