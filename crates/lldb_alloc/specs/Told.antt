-- The heap in a content that is told.
use Rattle.std.specs.Prelude.{◌≡◌, ℕ, List, [], Option, Some, None, IfSome, option_and_then}
use Rattle.lldb_base.specs.Contents.{Contents, content_of, with_content}
use Rattle.lldb_atoms.specs.Blocks.{Extent}
use Rattle.lldb_atoms.specs.Rows.{heap}
use Rattle.lldb_atoms.specs.Sound.{heap_in}
use Rattle.lldb_blocks.specs.Laid.{Lays, AtRest}

-- the contents by handle, where the content is told and is empty or sound
abbrev pub heap_told : Option (List ℕ) → Option Contents
heap_told told = option_and_then heap_in told

-- a content has a handle that was not live, 8 where none was
abbrev pub Creates : ℕ → List ℕ → Option Contents → Option Contents → Type 0
Creates handle content before after = IfSome before (λ map. (content_of handle map ≡ None) × (map ≡ [] → handle ≡ 8) × (after ≡ Some (with_content handle content map)))

-- a row at rest with these contents by handle lies in a content
pub record Rested (c : List ℕ) (m : Contents) : Type 0 where
  pub row : List Extent
  pub lays : Lays c row
  pub rest : AtRest row
  pub heap_is : heap row ≡ m
