-- What a write does to the row that lies in a content, whatever the row.
use Rattle.std.specs.Prelude.{◌≡◌, ℕ, ◌+◌, ◌≤◌, max, Bool, true, false, List, [], ◌∷◌, ◌++◌, nat_eq, if◌then◌else◌, MatchBool}
use Rattle.lldb_atoms.specs.Blocks.{Extent, Used, Compressed, Moved, Free, Hole, is_free}
use Rattle.lldb_atoms.specs.Numbers.{as_bytes}
use Rattle.lldb_atoms.specs.Rows.{atoms_in, extent_at, used_content, targets, are_spaced, ends_free, heap}
use Rattle.lldb_blocks.specs.Links.{at_one}
use Rattle.lldb_blocks.specs.Laid.{Spells, Lays, AtRest}

-- how many bytes of a free block of so many atoms stand before its links
abbrev pub links_from : ℕ → ℕ
links_from atoms = if nat_eq atoms 1 then 1 else 8

-- the head of a list is another
abbrev pub SetsHead : ℕ → ℕ → List ℕ → List ℕ → Type 0
SetsHead class value c d = (head previous next : ℕ → ℕ) (row : List Extent) → Spells head previous next c row → Spells (at_one head class value) previous next d row

-- the free block at a place has another link to the one before it
abbrev pub SetsPrevious : ℕ → ℕ → List ℕ → List ℕ → Type 0
SetsPrevious at value c d = (head previous next : ℕ → ℕ) (x y : List Extent) (atoms : ℕ) → at ≡ 8 + atoms_in x → Spells head previous next c (x ++ Free atoms ∷ y) → Spells head (at_one previous at value) next d (x ++ Free atoms ∷ y)

-- the same of the link to the one behind it
abbrev pub SetsNext : ℕ → ℕ → List ℕ → List ℕ → Type 0
SetsNext at value c d = (head previous next : ℕ → ℕ) (x y : List Extent) (atoms : ℕ) → at ≡ 8 + atoms_in x → Spells head previous next c (x ++ Free atoms ∷ y) → Spells head previous (at_one next at value) d (x ++ Free atoms ∷ y)

-- the hole of so many atoms at a place is a free block with these links
abbrev pub SetsFree : ℕ → ℕ → ℕ → ℕ → List ℕ → List ℕ → Type 0
SetsFree at atoms before behind c d = (head previous next : ℕ → ℕ) (x y : List Extent) → at ≡ 8 + atoms_in x → Spells head previous next c (x ++ Hole atoms ∷ y) → Spells head (at_one previous at before) (at_one next at behind) d (x ++ Free atoms ∷ y)

-- the free block at a place has so many atoms
abbrev pub HasAtoms : ℕ → ℕ → List ℕ → Type 0
HasAtoms at count c = (head previous next : ℕ → ℕ) (x y : List Extent) (atoms : ℕ) → at ≡ 8 + atoms_in x → Spells head previous next c (x ++ Free atoms ∷ y) → atoms ≡ count

-- the free block at a place has these links
abbrev pub HasLinks : ℕ → ℕ → ℕ → List ℕ → Type 0
HasLinks at before behind c = (head previous next : ℕ → ℕ) (x y : List Extent) (atoms : ℕ) → at ≡ 8 + atoms_in x → Spells head previous next c (x ++ Free atoms ∷ y) → (previous at ≡ before) × (next at ≡ behind)

-- what stood before an atom that is taken out names what stood behind it: the block before, or the head of the list
abbrev pub Forward : ℕ → ℕ → ℕ → List ℕ → List ℕ → Type 0
Forward class before behind c d = MatchBool (nat_eq before 0) (SetsHead class behind c d) (SetsNext before behind c d)

-- the block behind, where there is one, names the one before
abbrev pub Backward : ℕ → ℕ → List ℕ → List ℕ → Type 0
Backward before behind c d = MatchBool (nat_eq behind 0) (d ≡ c) (SetsPrevious behind before c d)

-- the free block at a place is taken out of its list: it has so many atoms, and is a hole
abbrev pub Takes : ℕ → ℕ → List ℕ → List ℕ → Type 0
Takes at count c d = (x y : List Extent) (atoms : ℕ) → at ≡ 8 + atoms_in x → Lays c (x ++ Free atoms ∷ y) → (count ≡ atoms) × Lays d (x ++ Hole atoms ∷ y)

-- the hole of so many atoms at a place comes into a list
abbrev pub Puts : ℕ → ℕ → List ℕ → List ℕ → Type 0
Puts at atoms c d = (x y : List Extent) → at ≡ 8 + atoms_in x → Lays c (x ++ Hole atoms ∷ y) → Lays d (x ++ Free atoms ∷ y)

-- whether a row begins with a free block
abbrev pub begins_free : List Extent → Bool
begins_free [] = false
begins_free (e ∷ row) = is_free e

-- a hole takes in the free block behind it, where there is one, and has so many atoms then; no other hole stands behind it
pub record TakesBehind (at atoms total : ℕ) (c d : List ℕ) : Type 0 where
  pub free : (x y : List Extent) (more : ℕ) → at ≡ 8 + atoms_in x → Lays c (x ++ Hole atoms ∷ Free more ∷ y) → (total ≡ atoms + more) × Lays d (x ++ Hole total ∷ y)
  pub other : (x y : List Extent) → at ≡ 8 + atoms_in x → begins_free y ≡ false → are_spaced false y ≡ true → Lays c (x ++ Hole atoms ∷ y) → (total ≡ atoms) × Lays d (x ++ Hole total ∷ y)

-- a hole takes in the free block before it, where there is one, and then begins at `from` and has so many atoms; no other hole
-- stands before it
pub record TakesBefore (at atoms from total : ℕ) (c d : List ℕ) : Type 0 where
  pub free : (x y : List Extent) (more : ℕ) → at ≡ 8 + atoms_in (x ++ Free more ∷ []) → Lays c ((x ++ Free more ∷ []) ++ Hole atoms ∷ y) → (from ≡ 8 + atoms_in x) × (total ≡ more + atoms) × Lays d (x ++ Hole total ∷ y)
  pub other : (x y : List Extent) → at ≡ 8 + atoms_in x → ends_free false x ≡ false → are_spaced false x ≡ true → Lays c (x ++ Hole atoms ∷ y) → (from ≡ at) × (total ≡ atoms) × Lays d (x ++ Hole total ∷ y)

-- a hole is cut off where it is the last, and else comes into a list
pub record GivesUp (at atoms : ℕ) (c d : List ℕ) : Type 0 where
  pub end : (x : List Extent) → at ≡ 8 + atoms_in x → Lays c (x ++ Hole atoms ∷ []) → Lays d x
  pub within : (x : List Extent) (e : Extent) (y : List Extent) → at ≡ 8 + atoms_in x → Lays c (x ++ Hole atoms ∷ e ∷ y) → Lays d (x ++ Free atoms ∷ e ∷ y)

-- a content is that of a row at rest with the heap of another row, its used blocks and what its relocated ones name, and with no
-- more atoms
pub record Settled (content : List ℕ) (old : List Extent) : Type 0 where
  pub row : List Extent
  pub lays : Lays content row
  pub rest : AtRest row
  pub heap_is : heap row ≡ heap old
  pub used_are : (atom : ℕ) → used_content (extent_at 8 row atom) ≡ used_content (extent_at 8 old atom)
  pub targets_are : targets row ≡ targets old
  pub atoms_are : atoms_in row ≤ atoms_in old

-- the most atoms of a free block, 0 where there is none
abbrev pub largest : List Extent → ℕ
largest [] = 0
largest (Used content ∷ row) = largest row
largest (Compressed content ∷ row) = largest row
largest (Moved target ∷ row) = largest row
largest (Free atoms ∷ row) = max atoms (largest row)
largest (Hole atoms ∷ row) = largest row

-- how a block ends
abbrev pub ending_for : Extent → List ℕ
ending_for (Used content) = 0 ∷ []
ending_for (Compressed content) = 1 ∷ []
ending_for (Moved target) = 0 ∷ []
ending_for (Free atoms) = if nat_eq atoms 1 then 254 ∷ [] else as_bytes 7 atoms ++ 255 ∷ []
ending_for (Hole atoms) = []
