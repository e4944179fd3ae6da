-- Sets of handles, by counting, and what an edit of a part of a heap leaves.
use Rattle.std.specs.Prelude.{◌≡◌, ℕ, zero, suc, ◌+◌, ◌≤◌, ◌==◌, List, [], ◌∷◌, Option, None, if◌then◌else◌}
use Rattle.lldb_base.specs.Contents.{Contents, content_of}

-- how often a handle stands in a footprint
abbrev pub times : ℕ → List ℕ → ℕ
times n [] = 0
times n (x ∷ xs) = (if n == x then 1 else 0) + times n xs

-- nothing, where a count is not 0
abbrev pub unless : {A : Type 0} → ℕ → Option A → Option A
unless zero content = content
unless (suc n) content = None

-- what a map has at a handle beside a footprint
abbrev pub beside : List ℕ → Contents → ℕ → Option (List ℕ)
beside footprint map n = unless (times n footprint) (content_of n map)

-- from one map and footprint to another: beside the footprints the maps are the same, and no handle stands twice
pub record Edits (old new : Contents) (before after : List ℕ) : Type 0 where
  pub rest : (n : ℕ) → beside after new n ≡ beside before old n
  pub once : (n : ℕ) → times n after ≤ 1
