-- What a search among the entries of a node finds.
use Rattle.std.specs.Prelude.{◌≡◌, ℕ, ◌^◌, ◌<◌, Bool, true, false, List, ◌∷◌, length, map, Result, Ok, Err}
use Rattle.lldb_base.specs.declared.trouble.Trouble.{Trouble}
use Rattle.lldb_base.specs.declared.trouble.Trouble.TheVariants as trouble
use Rattle.lldb_btree.specs.declared.look.Found.{Found}
use Rattle.lldb_btree.specs.declared.look.Found.TheVariants.{Down, Here}
use Rattle.lldb_btree.specs.declared.node.Child.{Child}
use Rattle.lldb_btree.specs.declared.node.NodeFault.{NodeFault}
use Rattle.lldb_btree.specs.declared.node.NodeFault.TheVariants as fault
use Rattle.lldb_btree.specs.Bounds.{from_first}
use Rattle.lldb_btree.specs.Nodes.{Entry, body, child_entry}

-- the byte that a node begins with
abbrev pub mark : Bool → ℕ
mark true = 0
mark false = 1

-- bytes and a count are those of the entries from the first one on whose key passes a test
abbrev pub IsSought : Bool → (List ℕ → Bool) → List Entry → List ℕ → ℕ → Type 0
IsSought leaf test es bytes left = (bytes ≡ body (from_first leaf test es)) × (left ≡ length (from_first leaf test es))

-- a search leads to the first child whose key passes a test, or to the last one
abbrev pub LeadsTo : (List ℕ → Bool) → List Child → Found → Type 0
LeadsTo test children (Down handle) = (child : Child) × (rest : List Entry) × (from_first false test (map child_entry children) ≡ child_entry child ∷ rest) × (child.handle < 2 ^ 64) × (handle ≡ child.handle)
LeadsTo test children (Here answer) = ⊥

-- an answer has a property, or memory ran out: the bytes are a node's
abbrev pub Reads : {T : Type 0} → (T → Type 0) → Result T NodeFault → Type 0
Reads P (Ok x) = P x
Reads P (Err fault.BadNode) = ⊥
Reads P (Err fault.NoMemory) = Unit {0}

-- what a fault of a node is to whoever reads a tree
abbrev pub trouble_of : NodeFault → Trouble
trouble_of fault.BadNode = trouble.Damaged
trouble_of fault.NoMemory = trouble.NoMemory
