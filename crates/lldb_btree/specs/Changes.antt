-- What a change below a node of a tree leaves.
use Rattle.std.specs.Prelude.{◌≡◌, ℕ, ◌+◌, ◌^◌, ◌<◌, ◌≤◌, List, ◌∷◌, length, map, Option, Some}
use Rattle.std.specs.List.{AllByRecursion}
use Rattle.lldb_base.specs.Contents.{Contents, content_of}
use Rattle.lldb_btree.specs.declared.node.Child.{Child}
use Rattle.lldb_btree.specs.declared.node.Node.{Node}
use Rattle.lldb_btree.specs.declared.node.Pair.{Pair}
use Rattle.lldb_btree.specs.Footprints.{times, Edits}
use Rattle.lldb_btree.specs.Nodes.{spelling, count, body, child_entry}
use Rattle.lldb_btree.specs.Pairs.{FitsPair, IsSorted}
use Rattle.lldb_btree.specs.Trees.{Part, child_of, pairs_of, footprint_of, IsNode, IsOver, CanWalk, least_of}

-- some handles have become these children, which have the pairs, with so many handles more at most
pub record Becomes (old new : Contents) (d more : ℕ) (before : List ℕ) (children : List Child) (pairs : List Pair) : Type 0 where
  pub parts : List Part
  pub each : AllByRecursion (IsNode (IsOver new d) new 16) parts
  pub named : children ≡ map child_of parts
  pub all : pairs ≡ pairs_of parts
  pub edits : Edits old new before (footprint_of parts)
  pub grows : length (footprint_of parts) ≤ length before + more

-- a node in memory has the pairs, and all below it stands; its own handle still has the old content
pub record Lifts (old new : Contents) (d more handle : ℕ) (before : List ℕ) (node : Node) (pairs : List Pair) : Type 0 where
  pub under : List ℕ
  pub over : IsOver new d node pairs under
  pub edits : Edits old new before (handle ∷ under)
  pub stays : content_of handle new ≡ content_of handle old
  pub grows : length under + 1 ≤ length before + more

-- a node below which a tree can be changed: one from which a look-up can go down, with no handle twice
pub record CanEdit (told : Option Contents) (m : Contents) (d least : ℕ) (p : Part) (handle room : ℕ) : Type 0 where
  pub walk : CanWalk told m d least p handle room
  pub once : (n : ℕ) → times n p.footprint ≤ 1

-- what stands under a handle has become a node in memory with these pairs, of at most 33 entries, whose bytes these are
pub record IsEdited (now : Option Contents) (m : Contents) (d least : ℕ) (p : Part) (pairs : List Pair) (bytes : List ℕ) : Type 0 where
  pub new : Contents
  pub told : now ≡ Some new
  pub node : Node
  pub spelled : bytes ≡ spelling node
  pub lifts : Lifts m new d d p.handle p.footprint node pairs
  pub enough : least ≤ count node
  pub few : count node ≤ 33

-- the bytes are those of a node in memory that can be stored as one or as two: all below it stands, and its own handle is live
pub record CanStore (told : Option Contents) (m : Contents) (d handle : ℕ) (bytes : List ℕ) (pairs : List Pair) (under : List ℕ) : Type 0 where
  pub is : told ≡ Some m
  pub node : Node
  pub spelled : bytes ≡ spelling node
  pub over : IsOver m d node pairs under
  pub once : (n : ℕ) → times n (handle ∷ under) ≤ 1
  pub live : (content : List ℕ) × (content_of handle m ≡ Some content)
  pub low : handle < 2 ^ 64
  pub enough : 16 ≤ count node
  pub few : count node ≤ 64
  pub fits : AllByRecursion FitsPair pairs

-- handles have become children that stand, with so many handles more at most; so many children, with these bytes as entries
pub record IsStored (now : Option Contents) (m : Contents) (d more : ℕ) (before : List ℕ) (pairs : List Pair) (many : ℕ) (bytes : List ℕ) : Type 0 where
  pub new : Contents
  pub told : now ≡ Some new
  pub children : List Child
  pub becomes : Becomes m new d more before children pairs
  pub counted : many ≡ length children
  pub spelled : bytes ≡ body (map child_entry children)

-- the bytes are those of a node that can become a root in place of what a footprint held before, which is still there
pub record CanRoot (told : Option Contents) (old m : Contents) (d handle : ℕ) (before : List ℕ) (bytes : List ℕ) (pairs : List Pair) : Type 0 where
  pub is : told ≡ Some m
  pub node : Node
  pub spelled : bytes ≡ spelling node
  pub lifts : Lifts old m d d handle before node pairs
  pub live : (content : List ℕ) × (content_of handle m ≡ Some content)
  pub low : handle < 2 ^ 64
  pub enough : least_of d ≤ count node
  pub few : count node ≤ 33
  pub sorted : IsSorted pairs

-- these bytes are the entries of so many children that stand, within the levels that are left, with no handle twice
pub record CanClear (told : Option Contents) (m : Contents) (d : ℕ) (parts : List Part) (bytes : List ℕ) (many room : ℕ) : Type 0 where
  pub is : told ≡ Some m
  pub each : AllByRecursion (IsNode (IsOver m d) m 16) parts
  pub counted : length parts ≡ many
  pub spelled : bytes ≡ body (map child_entry (map child_of parts))
  pub within : d < room
  pub sorted : IsSorted (pairs_of parts)
  pub once : (n : ℕ) → times n (footprint_of parts) ≤ 1
