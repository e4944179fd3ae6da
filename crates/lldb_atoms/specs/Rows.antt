-- Rows of blocks, and the heap that they hold.
use Rattle.std.specs.Prelude.{ℕ, ◌+◌, Bool, true, false, not, ◌&&◌, nat_eq, if◌then◌else◌, List, [], ◌∷◌, ◌++◌, Option, Some, None, is_some}
use Rattle.std.specs.List.{list_any, list_all}
use Rattle.lldb_base.specs.Contents.{Contents}
use Rattle.lldb_atoms.specs.Blocks.{Extent, Used, Compressed, Moved, Free, Hole, size, is_free}

-- how many atoms a row takes
abbrev pub atoms_in : List Extent → ℕ
atoms_in [] = 0
atoms_in (e ∷ row) = size e + atoms_in row

-- what begins at an atom, where the row begins at the atom `from`
abbrev pub extent_at : ℕ → List Extent → ℕ → Option Extent
extent_at from [] atom = None
extent_at from (e ∷ row) atom = if nat_eq atom from then Some e else extent_at (from + size e) row atom

-- whether a number is one of these
abbrev pub contains : List ℕ → ℕ → Bool
contains ns n = list_any (nat_eq n) ns

-- whether no number stands twice
abbrev pub are_distinct : List ℕ → Bool
are_distinct [] = true
are_distinct (n ∷ ns) = not (contains ns n) && are_distinct ns

-- what a relocated block names
abbrev pub target_of : Extent → List ℕ
target_of (Used content) = []
target_of (Compressed content) = []
target_of (Moved target) = target ∷ []
target_of (Free atoms) = []
target_of (Hole atoms) = []

-- what the relocated blocks name
abbrev pub targets : List Extent → List ℕ
targets [] = []
targets (e ∷ row) = target_of e ++ targets row

-- the content of a used block
abbrev pub used_content : Option Extent → Option (List ℕ)
used_content None = None
used_content (Some (Used content)) = Some content
used_content (Some (Compressed content)) = None
used_content (Some (Moved target)) = None
used_content (Some (Free atoms)) = None
used_content (Some (Hole atoms)) = None

-- the content of a block that is a handle: its own where no other names it, or that of the block which it names
abbrev pub handle_content : List Extent → ℕ → Extent → Option (List ℕ)
handle_content row atom (Used content) = if contains (targets row) atom then None else Some content
handle_content row atom (Compressed content) = None
handle_content row atom (Moved target) = used_content (extent_at 8 row target)
handle_content row atom (Free atoms) = None
handle_content row atom (Hole atoms) = None

-- contents with one in front, where it is there
abbrev pub with_first : ℕ → Option (List ℕ) → Contents → Contents
with_first atom None contents = contents
with_first atom (Some content) contents = (atom, content) ∷ contents

-- the handles of the rest of a row, from the atom `from` on
abbrev pub handles_from : List Extent → ℕ → List Extent → Contents
handles_from row from [] = []
handles_from row from (e ∷ rest) = with_first from (handle_content row from e) (handles_from row (from + size e) rest)

-- the contents by handle that a row holds
abbrev pub heap : List Extent → Contents
heap row = handles_from row 8 row

-- whether each is used, relocated or free, and no two neighbours are free; `before`: whether a free one stands in front
abbrev pub are_spaced : Bool → List Extent → Bool
are_spaced before [] = true
are_spaced before (Used content ∷ row) = are_spaced false row
are_spaced before (Compressed content ∷ row) = false
are_spaced before (Moved target ∷ row) = are_spaced false row
are_spaced before (Free atoms ∷ row) = not before && are_spaced true row
are_spaced before (Hole atoms ∷ row) = false

-- whether the last one is free; `before`: what holds of the one in front
abbrev pub ends_free : Bool → List Extent → Bool
ends_free before [] = before
ends_free before (e ∷ row) = ends_free (is_free e) row

-- whether each of these atoms is the first of a used block
abbrev pub are_used : List Extent → List ℕ → Bool
are_used row atoms = list_all (λ atom. is_some (used_content (extent_at 8 row atom))) atoms
