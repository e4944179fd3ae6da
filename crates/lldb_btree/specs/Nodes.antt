-- A node of a tree as bytes.
use Rattle.std.specs.Prelude.{◌≡◌, ℕ, ◌^◌, ◌<◌, ◌≤◌, Bool, true, false, List, ◌∷◌, ◌++◌, length, map}
use Rattle.std.specs.List.{AllByRecursion, flat_map}
use Rattle.std.specs.Int.{w16, w64, to_be_bytes}
use Rattle.lldb_btree.specs.declared.node.Child.{Child}
use Rattle.lldb_btree.specs.declared.node.Node.{Node}
use Rattle.lldb_btree.specs.declared.node.Node.TheVariants.{Leaf, Inner}
use Rattle.lldb_btree.specs.declared.node.Pair.{Pair}
use Rattle.lldb_btree.specs.Pairs.{FitsPair, Rises}

-- an entry of a node: a key, and the bytes that stand behind it
pub record Entry : Type 0 where
  pub key : List ℕ
  pub tail : List ℕ

-- a pair as an entry: behind the key stand the value's length (1 byte) and the value
abbrev pub pair_entry : Pair → Entry
pair_entry p = record { key = p.key; tail = length p.value ∷ p.value }

-- a child as an entry: behind the greatest key under it stands its handle (8 bytes)
abbrev pub child_entry : Child → Entry
child_entry c = record { key = c.key; tail = to_be_bytes w64 c.handle }

-- an entry as bytes: the key's length (2 bytes), the key, and what stands behind it
unfoldable pub entry_bytes : Entry → List ℕ
entry_bytes e = to_be_bytes w16 (length e.key) ++ (e.key ++ e.tail)

-- entries as bytes
abbrev pub body : List Entry → List ℕ
body es = flat_map entry_bytes es

abbrev pub is_leaf : Node → Bool
is_leaf (Leaf pairs) = true
is_leaf (Inner children) = false

abbrev pub entries : Node → List Entry
entries (Leaf pairs) = map pair_entry pairs
entries (Inner children) = map child_entry children

-- how many pairs or children a node has
abbrev pub count : Node → ℕ
count (Leaf pairs) = length pairs
count (Inner children) = length children

-- a node as bytes: 0 for a leaf and 1 for an inner node, the count (1 byte), and the entries
abbrev pub spelling : Node → List ℕ
spelling (Leaf pairs) = 0 ∷ length pairs ∷ body (map pair_entry pairs)
spelling (Inner children) = 1 ∷ length children ∷ body (map child_entry children)

-- a child as a node holds it: a key of at most 1,100 bytes, and a handle of 64 bits
abbrev pub FitsChild : Child → Type 0
FitsChild c = (length c.key ≤ 1100) × (c.handle < 2 ^ 64)

-- each pair or child of a node fits
abbrev pub Fits : Node → Type 0
Fits (Leaf pairs) = AllByRecursion FitsPair pairs
Fits (Inner children) = AllByRecursion FitsChild children

-- what stands behind a key: in a leaf a value of at most 16 bytes behind its length, else the 8 bytes of a handle
abbrev pub IsTail : Bool → List ℕ → Type 0
IsTail true tail = (value : List ℕ) × (length value ≤ 16) × (tail ≡ length value ∷ value)
IsTail false tail = length tail ≡ 8

-- an entry of a leaf, or of an inner node
pub record IsEntry (leaf : Bool) (e : Entry) : Type 0 where
  pub key : length e.key ≤ 1100
  pub tail : IsTail leaf e.tail

-- a node that bytes can spell: at most 32 pairs or children that fit, their keys rising
pub record IsProper (node : Node) : Type 0 where
  pub few : count node ≤ 32
  pub fits : Fits node
  pub rises : Rises (map (λ e. e.key) (entries node))
