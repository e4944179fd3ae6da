-- A content goes to another place, or stays in its own.
use Rattle.std.specs.Prelude.{◌≡◌, ℕ, ◌+◌, ◌<◌, false, nat_eq, if◌then◌else◌, List, [], ◌∷◌, ◌++◌, length, Option, Some, None, IfSome, MatchBool}
use Rattle.lldb_base.specs.Contents.{Contents, content_of, with_content, atoms_for}
use Rattle.lldb_atoms.specs.Blocks.{Extent, Used, Moved, Hole}
use Rattle.lldb_atoms.specs.Rows.{atoms_in, extent_at, contains, targets, heap}
use Rattle.lldb_atoms.specs.Sound.{heap_in}
use Rattle.lldb_blocks.specs.Laid.{Lays, AtRest}
use Rattle.lldb_alloc.specs.Releases.{Releases}

-- a content stands at an atom where none stood, and used and relocated blocks stand where they stood
pub record Placed (d : List ℕ) (row : List Extent) (at : ℕ) (content : List ℕ) : Type 0 where
  pub now : List Extent
  pub lays : Lays d now
  pub rest : AtRest now
  pub here : extent_at 8 now at ≡ Some (Used content)
  pub used_stay : (q : ℕ) (u : List ℕ) → extent_at 8 row q ≡ Some (Used u) → extent_at 8 now q ≡ Some (Used u)
  pub moved_stay : (q t : ℕ) → extent_at 8 row q ≡ Some (Moved t) → extent_at 8 now q ≡ Some (Moved t)
  pub fresh : content_of at (heap row) ≡ None
  pub first : heap row ≡ [] → at ≡ 8
  pub heap_is : heap now ≡ with_content at content (heap row)

-- the same of each row at rest that lies in a content
abbrev pub Places : ℕ → List ℕ → List ℕ → List ℕ → Type 0
Places at content c d = (row : List Extent) → Lays c row → AtRest row → Placed d row at content

-- the hole of one atom at a place is a relocated block that names another
abbrev pub Points : ℕ → ℕ → List ℕ → List ℕ → Type 0
Points at target c d = (x y : List Extent) → at ≡ 8 + atoms_in x → Lays c (x ++ Hole 1 ∷ y) → Lays d (x ++ Moved target ∷ y)

-- a hole of so many atoms is given up, where there are any
abbrev pub Trims : ℕ → ℕ → List ℕ → List ℕ → Type 0
Trims at atoms c d = MatchBool (nat_eq atoms 0) (d ≡ c) (Releases at atoms c d)

-- the holes that so many atoms are
abbrev pub holes_of : ℕ → List Extent
holes_of atoms = if nat_eq atoms 0 then [] else Hole atoms ∷ []

-- the used block at an atom of a row has another content: that of its own handle, or of the one that names it
pub record Rewritten (d : List ℕ) (row : List Extent) (at : ℕ) (content : List ℕ) : Type 0 where
  pub own : contains (targets row) at ≡ false → heap_in d ≡ Some (with_content at content (heap row))
  pub named : (home : ℕ) → extent_at 8 row home ≡ Some (Moved at) → heap_in d ≡ Some (with_content home content (heap row))

-- the same of each row at rest that lies in a content, with a used block of so many atoms there
abbrev pub Rewrites : ℕ → ℕ → List ℕ → List ℕ → List ℕ → Type 0
Rewrites at atoms content c d = (row : List Extent) (u : List ℕ) → Lays c row → AtRest row → extent_at 8 row at ≡ Some (Used u) → atoms ≡ atoms_for (length u) → Rewritten d row at content

-- no used block of so many atoms begins at an atom of a row at rest
abbrev pub LacksUsedAtoms : ℕ → ℕ → List ℕ → Type 0
LacksUsedAtoms at atoms c = (row : List Extent) (u : List ℕ) → Lays c row → AtRest row → extent_at 8 row at ≡ Some (Used u) → atoms ≡ atoms_for (length u) → ⊥

-- a live handle has another content, and the others are as they were
abbrev pub Replaces : ℕ → List ℕ → Option Contents → Option Contents → Type 0
Replaces handle content before after = IfSome before (λ map. IfSome (content_of handle map) (λ _. after ≡ Some (with_content handle content map)))

-- the same of each row at rest that lies in a content
abbrev pub ReplacesIn : ℕ → List ℕ → List ℕ → List ℕ → Type 0
ReplacesIn handle content c d = (row : List Extent) (u : List ℕ) → Lays c row → AtRest row → content_of handle (heap row) ≡ Some u → heap_in d ≡ Some (with_content handle content (heap row))

-- the content of a handle takes fewer atoms, in each row at rest that lies in a content
abbrev pub HasFewer : ℕ → ℕ → List ℕ → Type 0
HasFewer handle atoms c = (row : List Extent) (u : List ℕ) → Lays c row → AtRest row → content_of handle (heap row) ≡ Some u → atoms_for (length u) < atoms
