-- What the removal of a key below a node of a tree leaves.
use Rattle.std.specs.Prelude.{◌≡◌, ℕ, suc, ◌+◌, ◌^◌, ◌<◌, ◌≤◌, Bool, true, false, List, [], ◌∷◌, ◌++◌, length, map, Option, Some, None}
use Rattle.std.specs.List.{AllByRecursion}
use Rattle.lldb_base.specs.Contents.{Contents, content_of}
use Rattle.lldb_btree.specs.declared.node.Child.{Child}
use Rattle.lldb_btree.specs.declared.node.Node.{Node}
use Rattle.lldb_btree.specs.declared.node.Node.TheVariants.{Leaf, Inner}
use Rattle.lldb_btree.specs.declared.node.Pair.{Pair}
use Rattle.lldb_btree.specs.Changes.{Becomes, Lifts, CanEdit}
use Rattle.lldb_btree.specs.Footprints.{times, Edits}
use Rattle.lldb_btree.specs.Nodes.{spelling, body, count, child_entry}
use Rattle.lldb_btree.specs.Pairs.{FitsPair, IsSorted, find, delete}
use Rattle.lldb_btree.specs.Trees.{Part, child_of, pairs_of, footprint_of, IsNode, IsOver, IsTree, least_of}

-- some pair has a key
abbrev pub Has : List ℕ → List Pair → Type 0
Has key pairs = (value : List ℕ) × (find key pairs ≡ Some value)

-- where there is nothing, this holds
abbrev pub WhereNone : {X : Type 0} → Option X → Type 0 → Type 0
WhereNone None P = P
WhereNone (Some x) P = Unit {0}

-- a node below which a key can be removed: an inner node has two children at least
pub record CanTake (told : Option Contents) (m : Contents) (d least : ℕ) (p : Part) (handle room : ℕ) : Type 0 where
  pub edit : CanEdit told m d least p handle room
  pub wide : least_of d ≤ least

-- what stands under a handle has become a node in memory with these pairs, which may have one entry too few, whose bytes
-- these are; no handle is new
pub record IsReduced (now : Option Contents) (m : Contents) (d least : ℕ) (p : Part) (pairs : List Pair) (bytes : List ℕ) : Type 0 where
  pub new : Contents
  pub told : now ≡ Some new
  pub node : Node
  pub spelled : bytes ≡ spelling node
  pub lifts : Lifts m new d 0 p.handle p.footprint node pairs
  pub enough : least ≤ count node + 1
  pub few : count node ≤ 32

-- no pair in a leaf has a key, or the bytes are those of the leaf without it
abbrev pub IsTakenHere : List ℕ → List Pair → Option (List ℕ) → Type 0
IsTakenHere key pairs None = find key pairs ≡ None
IsTakenHere key pairs (Some bytes) = Has key pairs × (bytes ≡ spelling (Leaf (delete key pairs)))

-- no pair under a handle has a key, or a node comes of it without that pair
abbrev pub IsTaken : Option Contents → Contents → ℕ → ℕ → Part → List ℕ → Option (List ℕ) → Type 0
IsTaken now m d least p key None = find key p.pairs ≡ None
IsTaken now m d least p key (Some bytes) = Has key p.pairs × IsReduced now m d least p (delete key p.pairs) bytes

-- the bytes are those of a node in memory that can be written at a live handle: all below it stands
pub record IsLoose (m : Contents) (d handle : ℕ) (bytes : List ℕ) (pairs : List Pair) (under : List ℕ) : Type 0 where
  pub node : Node
  pub spelled : bytes ≡ spelling node
  pub over : IsOver m d node pairs under
  pub live : (content : List ℕ) × (content_of handle m ≡ Some content)
  pub low : handle < 2 ^ 64
  pub few : count node ≤ 32
  pub fits : AllByRecursion FitsPair pairs

-- two neighbours in memory that can be put together: they have entries enough for one node, and no handle stands twice
pub record CanMend (told : Option Contents) (m : Contents) (d left right : ℕ) (first second : List ℕ) (ps qs : List Pair) (us ts : List ℕ) : Type 0 where
  pub is : told ≡ Some m
  pub one : IsLoose m d left first ps us
  pub two : IsLoose m d right second qs ts
  pub once : (n : ℕ) → times n ((left ∷ us) ++ (right ∷ ts)) ≤ 1
  pub enough : 16 ≤ count one.node + count two.node

-- one list and then the other, or the other way round
abbrev pub either_way : {X : Type 0} → Bool → List X → List X → List X
either_way true xs ys = xs ++ ys
either_way false xs ys = ys ++ xs

-- the same of a child and the neighbour behind it or before it
abbrev pub CanMendWith : Bool → Option Contents → Contents → ℕ → ℕ → ℕ → List ℕ → List ℕ → List Pair → List Pair → List ℕ → List ℕ → Type 0
CanMendWith true told m d child other node next ps qs us ts = CanMend told m d child other node next ps qs us ts
CanMendWith false told m d child other node next ps qs us ts = CanMend told m d other child next node qs ps ts us

-- the neighbour of a child: the next one where there is one, else the last one before it, with the entries beside both
abbrev pub IsBeside : List Part → List Part → List ℕ → ℕ → List ℕ → Bool → Type 0
IsBeside l r front other back true = (q : Part) × (qs : List Part) × (r ≡ q ∷ qs) × (other ≡ q.handle) × (front ≡ body (map child_entry (map child_of l))) × (back ≡ body (map child_entry (map child_of qs)))
IsBeside l r front other back false = (q : Part) × (qs : List Part) × (l ≡ qs ++ (q ∷ [])) × (other ≡ q.handle) × (front ≡ body (map child_entry (map child_of qs))) × (r ≡ []) × (back ≡ [])

-- the bytes of a node that comes in place of a child, and those of the entries beside it in its parent, which has so many:
-- the node may have one entry too few; these pairs and handles are under all of the children
pub record CanPut (told : Option Contents) (m : Contents) (d many child : ℕ) (front node back : List ℕ) (before : List ℕ) (pairs : List Pair) : Type 0 where
  pub is : told ≡ Some m
  pub l : List Part
  pub r : List Part
  pub middle : List Pair
  pub under : List ℕ
  pub each_l : AllByRecursion (IsNode (IsOver m d) m 16) l
  pub each_r : AllByRecursion (IsNode (IsOver m d) m 16) r
  pub loose : IsLoose m d child node middle under
  pub enough : 15 ≤ count loose.node
  pub front_is : front ≡ body (map child_entry (map child_of l))
  pub back_is : back ≡ body (map child_entry (map child_of r))
  pub counted : many ≡ length l + suc (length r)
  pub before_is : before ≡ footprint_of l ++ ((child ∷ under) ++ footprint_of r)
  pub pairs_are : pairs ≡ pairs_of l ++ (middle ++ pairs_of r)
  pub once : (n : ℕ) → times n before ≤ 1
  pub fits : AllByRecursion FitsPair pairs

-- the bytes are those of an inner node of so many children or one less, all of which stand; no handle is new
pub record IsPut (now : Option Contents) (m : Contents) (d many : ℕ) (before : List ℕ) (pairs : List Pair) (bytes : List ℕ) : Type 0 where
  pub new : Contents
  pub told : now ≡ Some new
  pub children : List Child
  pub becomes : Becomes m new d 0 before children pairs
  pub spelled : bytes ≡ spelling (Inner children)
  pub low : many ≤ length children + 1
  pub high : length children ≤ many

-- the bytes are those of a node that can become a root, also where it has one entry too few
pub record CanLower (told : Option Contents) (old m : Contents) (d handle : ℕ) (before : List ℕ) (bytes : List ℕ) (pairs : List Pair) : Type 0 where
  pub is : told ≡ Some m
  pub node : Node
  pub spelled : bytes ≡ spelling node
  pub lifts : Lifts old m d 0 handle before node pairs
  pub live : (content : List ℕ) × (content_of handle m ≡ Some content)
  pub low : handle < 2 ^ 64
  pub enough : least_of d ≤ count node + 1
  pub few : count node ≤ 32
  pub sorted : IsSorted pairs

-- a tree at a handle in place of what a footprint held, of no more levels and handles, and the rest of the heap as it was
pub record HoldsLess (now : Option Contents) (old : Contents) (handle levels : ℕ) (footprint : List ℕ) (pairs : List Pair) : Type 0 where
  pub new : Contents
  pub told : now ≡ Some new
  pub levels_now : ℕ
  pub footprint_now : List ℕ
  pub tree : IsTree new handle levels_now pairs footprint_now
  pub edits : Edits old new footprint footprint_now
  pub lower : levels_now ≤ levels
  pub fewer : length footprint_now ≤ length footprint

-- an answer of yes says that a pair had a key and that the tree is without it, one of no that no pair had it
abbrev pub IsRemoved : Bool → Option Contents → Contents → ℕ → ℕ → List ℕ → List Pair → List ℕ → Type 0
IsRemoved true now old handle levels footprint pairs key = Has key pairs × HoldsLess now old handle levels footprint (delete key pairs)
IsRemoved false now old handle levels footprint pairs key = find key pairs ≡ None
