-- A tree in a heap: sorted pairs under a handle, spread over nodes.
use Rattle.std.specs.Prelude.{◌≡◌, ℕ, zero, suc, ◌+◌, ◌^◌, ◌<◌, ◌≤◌, List, [], ◌∷◌, length, map, Option, Some}
use Rattle.std.specs.List.{AllByRecursion, flat_map}
use Rattle.lldb_base.specs.Contents.{Contents, content_of}
use Rattle.lldb_btree.specs.declared.node.Child.{Child}
use Rattle.lldb_btree.specs.declared.node.Node.{Node}
use Rattle.lldb_btree.specs.declared.node.Node.TheVariants.{Leaf, Inner}
use Rattle.lldb_btree.specs.declared.node.Pair.{Pair}
use Rattle.lldb_btree.specs.Pairs.{IsSorted}
use Rattle.lldb_btree.specs.Nodes.{spelling, count}
use Rattle.lldb_btree.specs.Footprints.{times, Edits}

-- what stands under a handle: its pairs, and the handles that it takes
pub record Part : Type 0 where
  pub handle : ℕ
  pub pairs : List Pair
  pub footprint : List ℕ

-- the last key, which is the greatest where keys rise
abbrev pub greatest : List Pair → List ℕ
greatest [] = []
greatest (p ∷ []) = p.key
greatest (p ∷ q ∷ ps) = greatest (q ∷ ps)

-- a part as a child of an inner node
abbrev pub child_of : Part → Child
child_of p = record { key = greatest p.pairs; handle = p.handle }

abbrev pub pairs_of : List Part → List Pair
pairs_of parts = flat_map (λ p. p.pairs) parts

abbrev pub footprint_of : List Part → List ℕ
footprint_of parts = flat_map (λ p. p.footprint) parts

-- a node with at least so many pairs or children stands at its handle, over what it names
pub record IsNode (Over : Node → List Pair → List ℕ → Type 0) (m : Contents) (least : ℕ) (p : Part) : Type 0 where
  pub node : Node
  pub under : List ℕ
  pub held : content_of p.handle m ≡ Some (spelling node)
  pub handle : p.handle < 2 ^ 64
  pub enough : least ≤ count node
  pub few : count node ≤ 32
  pub over : Over node p.pairs under
  pub footprint : p.footprint ≡ p.handle ∷ under

-- an inner node names the parts below it
pub record Names (Below : Part → Type 0) (node : Node) (pairs : List Pair) (under : List ℕ) : Type 0 where
  pub parts : List Part
  pub each : AllByRecursion Below parts
  pub named : node ≡ Inner (map child_of parts)
  pub all : pairs ≡ pairs_of parts
  pub takes : under ≡ footprint_of parts

-- what a node has below it, so many levels above the leaves: a leaf has its pairs, an inner node parts of at least 16
abbrev pub IsOver : Contents → ℕ → Node → List Pair → List ℕ → Type 0
IsOver m zero node pairs under = (node ≡ Leaf pairs) × (under ≡ [])
IsOver m (suc d) node pairs under = Names (IsNode (IsOver m d) m 16) node pairs under

-- the least count of a root: none for a leaf, two children for an inner node
abbrev pub least_of : ℕ → ℕ
least_of zero = 0
least_of (suc d) = 2

-- the tree at a handle of a map: its levels, its pairs, and the handles that it takes
pub record IsTree (m : Contents) (handle levels : ℕ) (pairs : List Pair) (footprint : List ℕ) : Type 0 where
  pub d : ℕ
  pub top : IsNode (IsOver m d) m (least_of d) (record { handle = handle; pairs = pairs; footprint = footprint })
  pub depth : levels ≡ d + 1
  pub sorted : IsSorted pairs
  pub once : (n : ℕ) → times n footprint ≤ 1

-- the tree at a handle of a map that is told
pub record IsTold (told : Option Contents) (handle levels : ℕ) (pairs : List Pair) (footprint : List ℕ) : Type 0 where
  pub map : Contents
  pub is : told ≡ Some map
  pub tree : IsTree map handle levels pairs footprint

-- no tree stands at a handle, or nobody tells
abbrev pub MayBeNoTree : ℕ → Option Contents → Type 0
MayBeNoTree handle told = (levels : ℕ) (pairs : List Pair) (footprint : List ℕ) → IsTold told handle levels pairs footprint → ⊥

-- a node from which a look-up can go down: what stands there, within the levels that are left
pub record CanWalk (told : Option Contents) (m : Contents) (d least : ℕ) (p : Part) (handle room : ℕ) : Type 0 where
  pub is : told ≡ Some m
  pub stands : IsNode (IsOver m d) m least p
  pub here : p.handle ≡ handle
  pub within : d < room
  pub some : 0 < d → 0 < least
  pub sorted : IsSorted p.pairs

-- a tree at a handle in place of what a footprint held, and the rest of the heap as it was
pub record HoldsTree (now : Option Contents) (old : Contents) (handle levels : ℕ) (footprint : List ℕ) (pairs : List Pair) : Type 0 where
  pub new : Contents
  pub told : now ≡ Some new
  pub levels_now : ℕ
  pub footprint_now : List ℕ
  pub tree : IsTree new handle levels_now pairs footprint_now
  pub edits : Edits old new footprint footprint_now
  pub higher : levels_now ≤ levels + 1
  pub grows : length footprint_now ≤ length footprint + levels + 1

-- the handles of a footprint are no longer live, and the rest of the heap is as it was
pub record IsCleared (now : Option Contents) (old : Contents) (footprint : List ℕ) : Type 0 where
  pub new : Contents
  pub told : now ≡ Some new
  pub edits : Edits old new footprint []
