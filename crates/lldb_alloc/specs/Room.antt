-- Where free blocks of enough atoms stand.
use Rattle.std.specs.Prelude.{◌≡◌, ℕ, ◌<◌, ◌≤◌, true, List, ◌++◌, length, Option, Some, None}
use Rattle.lldb_atoms.specs.Blocks.{Extent, Free}
use Rattle.lldb_atoms.specs.Rows.{extent_at, contains}
use Rattle.lldb_atoms.specs.Lists.{class_of, list_head, row_of}
use Rattle.lldb_atoms.specs.Blocks.{Tile}
use Rattle.lldb_atoms.specs.Sound.{sound_tiling}
use Rattle.lldb_blocks.specs.Links.{first}
use Rattle.lldb_blocks.specs.Laid.{Lays}
use Rattle.lldb_blocks.specs.Steps.{largest}

-- a free block of a row with so many atoms begins at an atom; or none of a class has them
abbrev pub FitsAt : ℕ → ℕ → List Extent → Option ℕ → Type 0
FitsAt class wanted row None = (q s : ℕ) → extent_at 8 row q ≡ Some (Free s) → class_of s ≡ class → s < wanted
FitsAt class wanted row (Some at) = (s : ℕ) × (extent_at 8 row at ≡ Some (Free s)) × (wanted ≤ s)

-- the same of each row that lies in a content
abbrev pub FindsIn : ℕ → ℕ → Option ℕ → List ℕ → Type 0
FindsIn class wanted found c = (row : List Extent) → Lays c row → FitsAt class wanted row found

-- of a list so many blocks were passed, each of which is too small, and the next one begins at an atom
pub record Passed (row : List Extent) (chain : List ℕ) (wanted count here : ℕ) : Type 0 where
  pub passed : List ℕ
  pub ahead : List ℕ
  pub chain_is : chain ≡ passed ++ ahead
  pub here_is : here ≡ first ahead
  pub count_is : length passed ≡ count
  pub small : (q s : ℕ) → contains passed q ≡ true → extent_at 8 row q ≡ Some (Free s) → s < wanted

-- the same of each row that lies in a content
abbrev pub Walks : ℕ → ℕ → ℕ → ℕ → List ℕ → Type 0
Walks class wanted count here c = (row : List Extent) (l : Lays c row) → Passed row (l.chains class) wanted count here

-- from a class on, the first list that is not empty begins at an atom; or all are empty
abbrev pub FirstFrom : ℕ → Option ℕ → List ℕ → Type 0
FirstFrom from None c = (class : ℕ) → from ≤ class → class < 16 → list_head c class ≡ 0
FirstFrom from (Some at) c = (class : ℕ) × (from ≤ class) × (class < 16) × (list_head c class ≡ at) × (at ≡ 0 → ⊥)

-- a free block of a row with so many atoms begins at an atom; or the row has none
abbrev pub HasRoom : ℕ → List Extent → Option ℕ → Type 0
HasRoom wanted row None = largest row < wanted
HasRoom wanted row (Some at) = (s : ℕ) × (extent_at 8 row at ≡ Some (Free s)) × (wanted ≤ s)

-- the same of each row that lies in a content
abbrev pub FindsRoom : ℕ → Option ℕ → List ℕ → Type 0
FindsRoom wanted found c = (row : List Extent) → Lays c row → HasRoom wanted row found

-- the most atoms of a free block of these blocks, where they are known
abbrev pub most_in : Option (List Tile) → ℕ
most_in None = 0
most_in (Some tiles) = largest (row_of tiles)

-- the most atoms of a free block, where the content is told and is sound; else 0
abbrev pub most_free_told : Option (List ℕ) → ℕ
most_free_told None = 0
most_free_told (Some c) = most_in (sound_tiling c)
