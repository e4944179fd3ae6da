-- A row of blocks as it lies in a content.
use Rattle.std.specs.Prelude.{◌≡◌, ℕ, ◌+◌, ◌<◌, ◌≤◌, true, false, List, [], ◌∷◌, ◌++◌, length}
use Rattle.lldb_atoms.specs.Blocks.{Extent, size, IsBlock}
use Rattle.lldb_atoms.specs.Rows.{targets, are_distinct, are_used, are_spaced, ends_free}
use Rattle.lldb_atoms.specs.Lists.{list_head}
use Rattle.lldb_blocks.specs.Links.{Listed}

-- nothing in the row is without atoms
abbrev pub Solid : List Extent → Type 0
Solid [] = Unit {0}
Solid (e ∷ row) = (1 ≤ size e) × Solid row

-- bytes are the blocks of a row, one after the other, from an atom on
abbrev pub Tiles : (ℕ → ℕ) → (ℕ → ℕ) → ℕ → List Extent → List ℕ → Type 0
Tiles previous next from [] bytes = bytes ≡ []
Tiles previous next from (e ∷ row) bytes = (here : List ℕ) × (rest : List ℕ) × (bytes ≡ here ++ rest) × IsBlock (previous from) (next from) e here × Tiles previous next (from + size e) row rest

-- 128 bytes are the table of these heads
pub record IsTable (head : ℕ → ℕ) (bytes : List ℕ) : Type 0 where
  pub whole : length bytes ≡ 128
  pub heads : (class : ℕ) → class < 16 → list_head bytes class ≡ head class

-- a content is a table and a row with these links
pub record Spells (head previous next : ℕ → ℕ) (content : List ℕ) (row : List Extent) : Type 0 where
  pub table : List ℕ
  pub body : List ℕ
  pub content_is : content ≡ table ++ body
  pub is_table : IsTable head table
  pub tiles : Tiles previous next 8 row body
  pub solid : Solid row

-- a content is a row with its lists
pub record Lays (content : List ℕ) (row : List Extent) : Type 0 where
  pub head : ℕ → ℕ
  pub previous : ℕ → ℕ
  pub next : ℕ → ℕ
  pub chains : ℕ → List ℕ
  pub spells : Spells head previous next content row
  pub listed : Listed head previous next row chains

-- a row as it stands between two calls
pub record AtRest (row : List Extent) : Type 0 where
  pub spread : are_spaced false row ≡ true
  pub closed : ends_free false row ≡ false
  pub once : are_distinct (targets row) ≡ true
  pub used : are_used row (targets row) ≡ true

-- what relocated blocks name are used blocks, each named once
pub record Named (row : List Extent) : Type 0 where
  pub once : are_distinct (targets row) ≡ true
  pub used : are_used row (targets row) ≡ true
