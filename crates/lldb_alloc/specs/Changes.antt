-- What single changes do where a row of blocks lies in a content.
use Rattle.std.specs.Prelude.{◌≡◌, ℕ, ◌+◌, ◌-◌, ◌*◌, ◌≤◌, nat_eq, if◌then◌else◌, List, [], ◌∷◌, ◌++◌, Option, IfSome, IsSomeAnd}
use Rattle.lldb_base.specs.Batch.{put}
use Rattle.lldb_atoms.specs.Blocks.{Extent, Used, Free, Hole, IsBlock}
use Rattle.lldb_atoms.specs.Rows.{atoms_in}
use Rattle.lldb_blocks.specs.Laid.{Spells, Lays}
use Rattle.lldb_alloc.specs.declared.links.FreeBlock.{FreeBlock}

-- what a change made of a content that is told; it stays told
abbrev pub Turns : Option (List ℕ) → Option (List ℕ) → (List ℕ → List ℕ → Type 0) → Type 0
Turns before after R = IfSome before (λ c. IsSomeAnd after (λ d. R c d))

-- a free block has so many atoms and these links
pub record IsFree (atoms previous next : ℕ) (free : FreeBlock) : Type 0 where
  pub atoms_are : free.atoms ≡ atoms
  pub previous_is : free.previous ≡ previous
  pub next_is : free.next ≡ next

-- the free block at an atom is this one, whatever the row
abbrev pub HasFree : ℕ → FreeBlock → List ℕ → Type 0
HasFree at free c = (h p n : ℕ → ℕ) (x y : List Extent) (s : ℕ) → at ≡ 8 + atoms_in x → Spells h p n c (x ++ Free s ∷ y) → IsFree s (p at) (n at) free

-- no free block begins at an atom, in no row
abbrev pub LacksFree : ℕ → List ℕ → Type 0
LacksFree at c = (h p n : ℕ → ℕ) (x y : List Extent) (s : ℕ) → at ≡ 8 + atoms_in x → Spells h p n c (x ++ Free s ∷ y) → ⊥

-- no free block that is listed begins at an atom
abbrev pub LacksListed : ℕ → List ℕ → Type 0
LacksListed at c = (x y : List Extent) (s : ℕ) → at ≡ 8 + atoms_in x → Lays c (x ++ Free s ∷ y) → ⊥

-- no hole of so many atoms begins at an atom
abbrev pub LacksHole : ℕ → ℕ → List ℕ → Type 0
LacksHole at atoms c = (x y : List Extent) → at ≡ 8 + atoms_in x → Lays c (x ++ Hole atoms ∷ y) → ⊥

-- no row lies in a content
abbrev pub LacksRow : List ℕ → Type 0
LacksRow c = (row : List Extent) → Lays c row → ⊥

-- what stays free of a block, a part of which was taken
abbrev pub left_over : ℕ → List Extent
left_over atoms = if nat_eq atoms 0 then [] else Free atoms ∷ []

-- the free block at an atom gives so many of its atoms as a hole; the rest stays free
abbrev pub TakesPart : ℕ → ℕ → List ℕ → List ℕ → Type 0
TakesPart at atoms c d = (x y : List Extent) (s : ℕ) → at ≡ 8 + atoms_in x → atoms ≤ s → Lays c (x ++ Free s ∷ y) → Lays d (x ++ Hole atoms ∷ (left_over (s - atoms) ++ y))

-- no free block that is listed and has so many atoms begins at an atom
abbrev pub LacksPart : ℕ → ℕ → List ℕ → Type 0
LacksPart at atoms c = (x y : List Extent) (s : ℕ) → at ≡ 8 + atoms_in x → atoms ≤ s → Lays c (x ++ Free s ∷ y) → ⊥

-- the bytes of a used block are written at an atom
abbrev pub WritesUsed : ℕ → List ℕ → List ℕ → List ℕ → Type 0
WritesUsed at content c d = (piece : List ℕ) × IsBlock 0 0 (Used content) piece × (d ≡ put (16 * at) piece c)

-- the content was empty, and is a table of empty lists with no block
abbrev pub NewTable : List ℕ → List ℕ → Type 0
NewTable c d = Lays d []
