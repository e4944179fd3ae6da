-- Laws of trees in a heap.
use Rattle.std.specs.Prelude.{◌≡◌, ℕ, ◌-◌, ◌^◌, ◌≤◌, max, List, length}
use Rattle.lldb_base.specs.Contents.{Contents}
use Rattle.lldb_btree.specs.declared.node.Node.{Node}
use Rattle.lldb_btree.specs.declared.node.Pair.{Pair}
use Rattle.lldb_btree.specs.Nodes.{spelling, Fits}
use Rattle.lldb_btree.specs.Trees.{IsTree}

-- two nodes that fit and have the same bytes are the same
abbrev pub OneSpelling : Type 0
OneSpelling = (a b : Node) → Fits a → Fits b → spelling a ≡ spelling b → a ≡ b

-- what trees at one handle of one map have in common: there is one at most, it has as many pairs as its levels want, and
-- never more than 17 levels
pub record TreeLaws : Type 0 where
  pub one : (m : Contents) (h l k : ℕ) (ps qs : List Pair) (us ts : List ℕ) → IsTree m h l ps us → IsTree m h k qs ts → (l ≡ k) × (ps ≡ qs) × (us ≡ ts)
  pub filled : (m : Contents) (h levels : ℕ) (pairs : List Pair) (us : List ℕ) → IsTree m h levels pairs us → 16 ^ (levels - 1) ≤ max 1 (length pairs)
  pub low : (m : Contents) (h levels : ℕ) (pairs : List Pair) (us : List ℕ) → IsTree m h levels pairs us → levels ≤ 17
