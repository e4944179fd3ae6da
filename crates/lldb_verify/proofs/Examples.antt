-- What is found in a few contents.
use Rattle.std.proofs.Common.{◌≡◌, ℕ, List, [], ◌∷◌, ◌++◌, refl}
use Rattle.std.specs.List.{repeat}
use Rattle.lldb_atoms.specs.Numbers.{as_bytes, number_in}
use Rattle.lldb_atoms.specs.Heads.{head_at}
use Rattle.lldb_atoms.specs.Blocks.{tile_at}
use Rattle.lldb_atoms.specs.Lists.{class_of, list_head}
use Rattle.lldb_verify.specs.Findings.{blocks_in, walk, of_lists, findings}
use Rattle.lldb_verify.specs.declared.finding.Finding.TheVariants as finding

-- so many bytes of zero
abbrev zeros : ℕ → List ℕ
zeros count = repeat count (0 ∷ [])

-- a table whose lists 0 and 1 begin at these atoms, and whose other lists are empty
abbrev table : ℕ → ℕ → List ℕ
table first second = as_bytes 8 first ++ as_bytes 8 second ++ zeros 112

-- a free atom with its links
abbrev free_one : ℕ → ℕ → List ℕ
free_one previous next = 254 ∷ as_bytes 7 previous ++ as_bytes 7 next ++ 254 ∷ []

-- a used block of one atom without content, by its last byte
abbrev used_one : ℕ → List ℕ
used_one last = zeros 15 ++ last ∷ []

-- a relocated block
abbrev moved : ℕ → List ℕ
moved target = 253 ∷ as_bytes 7 target ++ zeros 8

-- two neighbours that are free, of which each names the other, and a used block
abbrev ring : ℕ → List ℕ
ring last = table 8 0 ++ free_one 0 9 ++ free_one 8 8 ++ used_one last

pub no_content : findings [] ≡ []
unfolding findings
no_content = refl

pub table_alone : findings (zeros 128) ≡ []
unfolding as_bytes number_in head_at tile_at class_of list_head blocks_in walk of_lists findings
table_alone = refl

pub too_short : findings (zeros 100) ≡ finding.BadLength 100 ∷ []
unfolding findings
too_short = refl

pub no_whole_atoms : findings (zeros 129) ≡ finding.BadLength 129 ∷ []
unfolding findings
no_whole_atoms = refl

pub ring_found : findings (ring 0) ≡ finding.FreeNeighbours 8 9 ∷ finding.BadLink 0 8 ∷ []
unfolding as_bytes number_in head_at tile_at class_of list_head blocks_in walk of_lists findings
ring_found = refl

pub compressed_found : findings (ring 1) ≡ finding.FreeNeighbours 8 9 ∷ finding.Compressed 10 ∷ finding.BadLink 0 8 ∷ []
unfolding as_bytes number_in head_at tile_at class_of list_head blocks_in walk of_lists findings
compressed_found = refl

pub other_ending : findings (ring 2) ≡ finding.FreeNeighbours 8 9 ∷ finding.BadBlock 10 ∷ []
unfolding as_bytes number_in head_at tile_at class_of list_head blocks_in walk of_lists findings
other_ending = refl

-- a free block at the end, which no list has
pub end_found : findings (table 0 0 ++ used_one 0 ++ free_one 0 0) ≡ finding.FreeAtEnd 9 ∷ finding.Unlisted 9 ∷ []
unfolding as_bytes number_in head_at tile_at class_of list_head blocks_in walk of_lists findings
end_found = refl

-- two that name one block, one that names the table, and one that names a block which names another
pub targets_found : findings (table 0 0 ++ moved 12 ++ moved 12 ++ moved 7 ++ moved 8 ++ used_one 0) ≡ finding.BadTarget 9 12 ∷ finding.BadTarget 10 7 ∷ finding.BadTarget 11 8 ∷ []
unfolding as_bytes number_in head_at tile_at class_of list_head blocks_in walk of_lists findings
targets_found = refl

-- the list of another class leads to a free block, after its own list has met it and before
pub links_found : findings (table 8 8 ++ free_one 0 0 ++ used_one 0) ≡ finding.BadLink 1 8 ∷ []
unfolding as_bytes number_in head_at tile_at class_of list_head blocks_in walk of_lists findings
links_found = refl

pub unlisted_found : findings (table 0 8 ++ free_one 0 0 ++ used_one 0 ++ free_one 9 0 ++ used_one 0) ≡ finding.BadLink 1 8 ∷ finding.Unlisted 8 ∷ finding.Unlisted 10 ∷ []
unfolding as_bytes number_in head_at tile_at class_of list_head blocks_in walk of_lists findings
unlisted_found = refl
