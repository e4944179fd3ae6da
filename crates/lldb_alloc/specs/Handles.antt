-- A content by its handle: where it stands, and what its removal makes of the contents.
use Rattle.std.specs.Prelude.{◌≡◌, ℕ, ◌+◌, ◌*◌, ◌≤◌, false, List, length, Option, Some, IfSome}
use Rattle.lldb_base.specs.Contents.{Contents, content_of, without, atoms_for}
use Rattle.lldb_atoms.specs.Blocks.{Extent, Used, Moved}
use Rattle.lldb_atoms.specs.Rows.{extent_at, contains, targets, heap}
use Rattle.lldb_atoms.specs.Sound.{heap_in}
use Rattle.lldb_blocks.specs.Laid.{Lays, AtRest}
use Rattle.lldb_alloc.specs.declared.site.Site.{Site}
use Rattle.lldb_alloc.specs.declared.site.Site.TheVariants as site

-- a used block of so many atoms begins at an atom, where one begins there
abbrev pub HasUsedAtoms : ℕ → ℕ → List ℕ → Type 0
HasUsedAtoms at atoms c = (row : List Extent) (u : List ℕ) → Lays c row → extent_at 8 row at ≡ Some (Used u) → atoms ≡ atoms_for (length u)

-- no used block begins at an atom, in no row
abbrev pub LacksUsed : ℕ → List ℕ → Type 0
LacksUsed at c = (row : List Extent) (u : List ℕ) → Lays c row → extent_at 8 row at ≡ Some (Used u) → ⊥

-- the content of a handle stands in a row: in the handle's own block, which no other names, or in the one that it names
abbrev pub IsSite : List Extent → ℕ → List ℕ → Site → Type 0
IsSite row handle u (site.Own atoms) = (extent_at 8 row handle ≡ Some (Used u)) × (contains (targets row) handle ≡ false) × (atoms ≡ atoms_for (length u))
IsSite row handle u (site.Away at atoms) = (extent_at 8 row handle ≡ Some (Moved at)) × (extent_at 8 row at ≡ Some (Used u)) × (atoms ≡ atoms_for (length u))

-- the same of each row at rest that lies in a content and in which the handle is live
abbrev pub HasSite : ℕ → Site → List ℕ → Type 0
HasSite handle site c = (row : List Extent) (u : List ℕ) → Lays c row → AtRest row → content_of handle (heap row) ≡ Some u → IsSite row handle u site

-- a handle is live in no row at rest that lies in a content
abbrev pub LacksHandle : ℕ → List ℕ → Type 0
LacksHandle handle c = (row : List Extent) (u : List ℕ) → Lays c row → AtRest row → content_of handle (heap row) ≡ Some u → ⊥

-- the blocks of a handle's content end within so many bytes
abbrev pub IsWithin : ℕ → ℕ → Site → Type 0
IsWithin size handle (site.Own atoms) = (1 ≤ atoms) × (16 * (handle + atoms) ≤ size)
IsWithin size handle (site.Away at atoms) = (1 ≤ atoms) × (16 * (at + atoms) ≤ size) × (16 * (handle + 1) ≤ size)

-- a handle that was live is so no longer, and the others are as they were
abbrev pub Removes : ℕ → Option Contents → Option Contents → Type 0
Removes handle before after = IfSome before (λ map. IfSome (content_of handle map) (λ _. after ≡ Some (without handle map)))

-- the same of each row at rest that lies in a content
abbrev pub RemovesIn : ℕ → List ℕ → List ℕ → Type 0
RemovesIn handle c d = (row : List Extent) (u : List ℕ) → Lays c row → AtRest row → content_of handle (heap row) ≡ Some u → heap_in d ≡ Some (without handle (heap row))
