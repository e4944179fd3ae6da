-- What the definitions give on a few contents.
use Rattle.std.proofs.Common.{◌≡◌, ℕ, true, false, List, [], ◌∷◌, ◌++◌, Some, None, refl}
use Rattle.std.specs.List.{repeat}
use Rattle.lldb_atoms.specs.Numbers.{as_bytes, number_in}
use Rattle.lldb_atoms.specs.Heads.{head_at}
use Rattle.lldb_atoms.specs.Blocks.{Used, Compressed, Free, unlinked, tile_for, tile_at}
use Rattle.lldb_atoms.specs.Lists.{class_of, chain, list_head, list_of}
use Rattle.lldb_atoms.specs.Sound.{tiles_in, tiling, sound_tiling, is_sound, heap_in}

-- so many bytes of zero
abbrev zeros : ℕ → List ℕ
zeros count = repeat count (0 ∷ [])

-- a table whose first list begins at atom 8, and whose other lists are empty
abbrev from_eight : List ℕ
from_eight = as_bytes 8 8 ++ zeros 120

-- a free atom with its links
abbrev free_one : ℕ → ℕ → List ℕ
free_one previous next = 254 ∷ as_bytes 7 previous ++ as_bytes 7 next ++ 254 ∷ []

-- two neighbours that are free, of which each names the other, and a used block without content
abbrev ring : ℕ → List ℕ
ring last = from_eight ++ free_one 0 9 ++ free_one 8 8 ++ zeros 15 ++ last ∷ []

pub ring_blocks : tiling (ring 0) ≡ Some (tile_for 0 9 (Free 1) ∷ tile_for 8 8 (Free 1) ∷ unlinked (Used []) ∷ [])
unfolding as_bytes number_in head_at tile_at tiles_in tiling
ring_blocks = refl

pub ring_unsound : is_sound (ring 0) ≡ false
unfolding as_bytes number_in head_at tile_at class_of chain list_head list_of tiles_in tiling sound_tiling
ring_unsound = refl

pub compressed_block : tiling (ring 1) ≡ Some (tile_for 0 9 (Free 1) ∷ tile_for 8 8 (Free 1) ∷ unlinked (Compressed []) ∷ [])
unfolding as_bytes number_in head_at tile_at tiles_in tiling
compressed_block = refl

pub other_ending : tiling (ring 2) ≡ None
unfolding as_bytes number_in head_at tile_at tiles_in tiling
other_ending = refl

-- 300 bytes and 20 bytes
abbrev three_hundred : List ℕ
three_hundred = repeat 100 (7 ∷ 8 ∷ 9 ∷ [])

abbrev twenty : List ℕ
twenty = repeat 5 (1 ∷ 2 ∷ 3 ∷ 4 ∷ [])

-- a relocated block, a used one of two atoms, and the block that the first one names
abbrev moved : List ℕ
moved = zeros 128 ++ 253 ∷ as_bytes 7 11 ++ zeros 8 ++ 20 ∷ twenty ++ zeros 11 ++ 252 ∷ as_bytes 2 48 ++ three_hundred ++ zeros 1

pub moved_sound : is_sound moved ≡ true
unfolding as_bytes number_in head_at tile_at class_of chain list_head list_of tiles_in tiling sound_tiling
moved_sound = refl

pub moved_heap : heap_in moved ≡ Some ((8, three_hundred) ∷ (9, twenty) ∷ [])
unfolding as_bytes number_in head_at tile_at class_of chain list_head list_of tiles_in tiling sound_tiling heap_in
moved_heap = refl

-- a free atom in front of a used block
abbrev free_first : List ℕ → List ℕ
free_first table = table ++ free_one 0 0 ++ 2 ∷ 5 ∷ 6 ∷ zeros 13

pub listed : heap_in (free_first from_eight) ≡ Some ((9, 5 ∷ 6 ∷ []) ∷ [])
unfolding as_bytes number_in head_at tile_at class_of chain list_head list_of tiles_in tiling sound_tiling heap_in
listed = refl

pub unlisted : heap_in (free_first (zeros 128)) ≡ None
unfolding as_bytes number_in head_at tile_at class_of chain list_head list_of tiles_in tiling sound_tiling heap_in
unlisted = refl

pub free_last : heap_in (from_eight ++ free_one 0 0) ≡ None
unfolding as_bytes number_in head_at tile_at class_of chain list_head list_of tiles_in tiling sound_tiling heap_in
free_last = refl

pub no_blocks : heap_in (zeros 128) ≡ Some []
unfolding as_bytes number_in head_at tile_at class_of chain list_head list_of tiles_in tiling sound_tiling heap_in
no_blocks = refl

pub too_short : heap_in (zeros 127) ≡ None
unfolding tiling sound_tiling heap_in
too_short = refl

pub empty : heap_in [] ≡ Some []
unfolding heap_in
empty = refl

-- a free block of two atoms stands in the second list, and its number of atoms at both ends
abbrev two_atoms : ℕ → List ℕ
two_atoms atoms = zeros 8 ++ as_bytes 8 8 ++ zeros 112 ++ 255 ∷ as_bytes 7 2 ++ zeros 16 ++ as_bytes 7 atoms ++ 255 ∷ zeros 16

pub two_free : heap_in (two_atoms 2) ≡ Some ((10, []) ∷ [])
unfolding as_bytes number_in head_at tile_at class_of chain list_head list_of tiles_in tiling sound_tiling heap_in
two_free = refl

pub another_end : tiling (two_atoms 3) ≡ None
unfolding as_bytes number_in head_at tile_at tiles_in tiling
another_end = refl
