-- What is read so far of a node's pairs or children, and what may follow.
use Rattle.std.specs.Prelude.{◌≡◌, ℕ, ◌≤◌, List, ◌∷◌, ◌++◌, length, map, Option, Some, None, Result, Ok, Err}
use Rattle.std.specs.List.{AllByRecursion}
use Rattle.std.specs.declared.cmp.Ordering.TheVariants.{Less}
use Rattle.lldb_btree.specs.declared.node.Child.{Child}
use Rattle.lldb_btree.specs.declared.node.NodeFault.{NodeFault}
use Rattle.lldb_btree.specs.declared.node.NodeFault.TheVariants as fault
use Rattle.lldb_btree.specs.declared.node.Pair.{Pair}
use Rattle.lldb_btree.specs.Nodes.{body, pair_entry, child_entry, FitsChild}
use Rattle.lldb_btree.specs.Pairs.{order, Rises, keys_of, FitsPair}

-- the keys of children
abbrev pub child_keys : List Child → List (List ℕ)
child_keys children = map (λ c. c.key) children

-- keys rise, the first from a key on that comes before them
abbrev pub RisesFrom : Option (List ℕ) → List (List ℕ) → Type 0
RisesFrom None keys = Rises keys
RisesFrom (Some above) keys = Rises (above ∷ keys)

-- bytes are those of so many pairs, whose keys go on behind a key
pub record ArePairs (above : Option (List ℕ)) (left : ℕ) (bytes : List ℕ) (pairs : List Pair) : Type 0 where
  pub many : length pairs ≡ left
  pub fits : AllByRecursion FitsPair pairs
  pub rises : RisesFrom above (keys_of pairs)
  pub spelled : bytes ≡ body (map pair_entry pairs)

-- bytes are those of so many children, whose keys go on behind a key
pub record AreChildren (above : Option (List ℕ)) (left : ℕ) (bytes : List ℕ) (children : List Child) : Type 0 where
  pub many : length children ≡ left
  pub fits : AllByRecursion FitsChild children
  pub rises : RisesFrom above (child_keys children)
  pub spelled : bytes ≡ body (map child_entry children)

-- items with this property were added behind those before
pub record Adds {X : Type 0} (P : List X → Type 0) (before now : List X) : Type 0 where
  pub more : List X
  pub now_is : now ≡ before ++ more
  pub are : P more

-- the answer that bytes spell no node comes only where nothing has the property
abbrev pub BadOnly : {X T : Type 0} → (X → Type 0) → Result T NodeFault → Type 0
BadOnly P (Ok x) = Unit {0}
BadOnly {X = X} P (Err fault.BadNode) = (x : X) → P x → ⊥
BadOnly P (Err fault.NoMemory) = Unit {0}

-- a key of at most 1,100 bytes, behind a key where one is given
abbrev pub MayFollow : Option (List ℕ) → List ℕ → Type 0
MayFollow None key = length key ≤ 1100
MayFollow (Some above) key = (order above key ≡ Less) × (length key ≤ 1100)
