-- Runs of a node's entries.
use Rattle.std.specs.Prelude.{◌≡◌, ℕ, ◌+◌, ◌*◌, ◌^◌, ◌<◌, ◌≤◌, List, [], ◌∷◌, ◌++◌, length, map, Bool, false, Option, Some}
use Rattle.std.specs.Int.{w64, to_be_bytes}
use Rattle.std.specs.List.{AllByRecursion}
use Rattle.std.specs.Ordering.{match_ordering}
use Rattle.lldb_btree.specs.declared.node.Child.{Child}
use Rattle.lldb_btree.specs.Bounds.{from_first}
use Rattle.lldb_btree.specs.Nodes.{Entry, IsEntry, body, child_entry}
use Rattle.lldb_btree.specs.Pairs.{order}
use Rattle.lldb_btree.specs.Reading.{mark}

-- the bytes are those of a node with these entries
pub record AreNode (leaf : Bool) (es : List Entry) (bytes : List ℕ) : Type 0 where
  pub fits : AllByRecursion (IsEntry leaf) es
  pub is : bytes ≡ mark leaf ∷ length es ∷ body es

-- the bytes are those of no node
abbrev pub AreNoNode : List ℕ → Type 0
AreNoNode bytes = (leaf : Bool) (es : List Entry) → AreNode leaf es bytes → 0 < length es → ⊥

-- the key of the last entry
abbrev pub key_at_end : List Entry → List ℕ
key_at_end [] = []
key_at_end (e ∷ []) = e.key
key_at_end (e ∷ f ∷ es) = key_at_end (f ∷ es)

-- the entry by which a node stands below another: its last key, and its handle
abbrev pub entry_of : List Entry → ℕ → Entry
entry_of es handle = record { key = key_at_end es; tail = to_be_bytes w64 handle }

-- entries without the first one, where that has a key
abbrev pub past_key : List ℕ → List Entry → List Entry
past_key key [] = []
past_key key (e ∷ es) = match_ordering (order key e.key) (e ∷ es) es (e ∷ es)

-- the child of an inner node where a search goes on, with the bytes before its entry and behind it
pub record IsWay (test : List ℕ → Bool) (children : List Child) (front : List ℕ) (handle : ℕ) (back : List ℕ) : Type 0 where
  pub before : List Entry
  pub child : Child
  pub rest : List Entry
  pub whole : map child_entry children ≡ before ++ (child_entry child ∷ rest)
  pub sought : from_first false test (map child_entry children) ≡ child_entry child ∷ rest
  pub front_is : front ≡ body before
  pub back_is : back ≡ body rest
  pub handle_is : handle ≡ child.handle
  pub low : child.handle < 2 ^ 64

-- a node was refused by a heap that is full: it asks for the bytes of one node and of a beginning at most
pub record IsFullFor (limit : Option ℕ) (size need most : ℕ) : Type 0 where
  pub limit_is : limit ≡ Some most
  pub over_size : size < need
  pub over_limit : most < need
  pub needed : need ≤ size + 35952

-- a heap has grown by the bytes of so many nodes and of a beginning with each, at most
abbrev pub AddsNodes : ℕ → ℕ → ℕ → Type 0
AddsNodes many size_old size_new = size_new ≤ size_old + many * 35952
