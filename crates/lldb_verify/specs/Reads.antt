-- What is read of a content.
use Rattle.std.specs.Prelude.{◌≡◌, ℕ, Bool, List, take, drop, Option, Some, None}
use Rattle.lldb_atoms.specs.declared.block.Block.{Block}
use Rattle.lldb_atoms.specs.declared.block.Block.TheVariants as block
use Rattle.lldb_atoms.specs.Heads.{atoms_of}
use Rattle.lldb_atoms.specs.Blocks.{Extent, Used, Compressed, Moved, Free, Hole, Tile, size}
use Rattle.lldb_verify.specs.declared.window.Window.{Window}
use Rattle.lldb_verify.specs.declared.seen.Seen.{Seen}
use Rattle.lldb_verify.specs.declared.seen.Seen.TheVariants as seen

-- a call only read a filer: these tell what it holds
pub record OnlyReads {S T L : Type 0} (content_of : S → Option (List ℕ)) (size_of : S → ℕ) (saved_of : S → List (Option (List ℕ))) (sizes_of : S → List ℕ) (limit_of : S → ℕ) (sound_of : S → Bool) (told_of : S → T) (left_of : S → L) (fixed_of : S → List ℕ) (before now : S) : Type 0 where
  pub content : content_of now ≡ content_of before
  pub size : size_of now ≡ size_of before
  pub saved : saved_of now ≡ saved_of before
  pub saved_sizes : sizes_of now ≡ sizes_of before
  pub limit : limit_of now ≡ limit_of before
  pub sound : sound_of now ≡ sound_of before
  pub told : told_of now ≡ told_of before
  pub left : left_of now ≡ left_of before
  pub fixed : fixed_of now ≡ fixed_of before

-- what a window holds are bytes of a content
abbrev pub Holds : Window → List ℕ → Type 0
Holds window c = take window.span.held window.bytes ≡ take window.span.held (drop window.span.start c)

-- how many atoms a block takes that was seen
abbrev pub seen_atoms : Seen → ℕ
seen_atoms (seen.Used atoms) = atoms
seen_atoms (seen.Compressed atoms) = atoms
seen_atoms (seen.Relocated target) = 1
seen_atoms (seen.Free atoms previous next) = atoms

-- the free block in front of the next one, behind a block at an atom
abbrev pub free_before : ℕ → Seen → Option ℕ
free_before atom (seen.Used atoms) = None
free_before atom (seen.Compressed atoms) = None
free_before atom (seen.Relocated target) = None
free_before atom (seen.Free atoms previous next) = Some atom

-- how many used blocks it is
abbrev pub one_used : Seen → ℕ
one_used (seen.Used atoms) = 1
one_used (seen.Compressed atoms) = 1
one_used (seen.Relocated target) = 0
one_used (seen.Free atoms previous next) = 0

-- how many relocated blocks it is
abbrev pub one_moved : Seen → ℕ
one_moved (seen.Used atoms) = 0
one_moved (seen.Compressed atoms) = 0
one_moved (seen.Relocated target) = 1
one_moved (seen.Free atoms previous next) = 0

-- how many free blocks it is
abbrev pub one_free : Seen → ℕ
one_free (seen.Used atoms) = 0
one_free (seen.Compressed atoms) = 0
one_free (seen.Relocated target) = 0
one_free (seen.Free atoms previous next) = 1

-- a block as it is seen, with its links
abbrev pub seen_as : ℕ → ℕ → Extent → Seen
seen_as previous next (Used content) = seen.Used (size (Used content))
seen_as previous next (Compressed content) = seen.Compressed (size (Compressed content))
seen_as previous next (Moved target) = seen.Relocated target
seen_as previous next (Free atoms) = seen.Free atoms previous next
seen_as previous next (Hole atoms) = seen.Free atoms previous next

-- the same of a block with its links
abbrev pub seen_of : Tile → Seen
seen_of tile = seen_as tile.previous tile.next tile.extent

-- a block that ends as its head wants
abbrev pub plain_of : Block → Seen
plain_of (block.Short length) = seen.Used (atoms_of (block.Short length))
plain_of (block.Long length) = seen.Used (atoms_of (block.Long length))
plain_of (block.Relocated target) = seen.Relocated target
plain_of (block.FreeOne prev next) = seen.Free 1 prev next
plain_of (block.Free atoms prev next) = seen.Free atoms prev next

-- a block that ends in a 1
abbrev pub compressed_as : Block → Option Seen
compressed_as (block.Short length) = Some (seen.Compressed (atoms_of (block.Short length)))
compressed_as (block.Long length) = Some (seen.Compressed (atoms_of (block.Long length)))
compressed_as (block.Relocated target) = None
compressed_as (block.FreeOne prev next) = None
compressed_as (block.Free atoms prev next) = None
