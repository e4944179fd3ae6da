-- What a heap that is full says of a node.
use Rattle.std.proofs.Common.{◌≡◌, ℕ, ◌+◌, ◌*◌, ◌/◌, ◌≤◌, Bool, true, false, nat_le, nat_eq, if◌then◌else◌, Option, ◌∙◌, arith}
use Rattle.lldb_base.specs.Contents.{atoms_for}
use Rattle.lldb_base.specs.Heaps.{IsFull, most_added}
use Rattle.lldb_btree.specs.Splicing.{IsFullFor, AddsNodes}

atoms_step : (len : ℕ) → len ≤ 35810 → (b : Bool) → 16 * (if b then (len + 1) / 16 + 1 else (len + 3) / 16 + 1) ≤ 35824
atoms_step len low true = omega (arith, low)
atoms_step len low false = omega (arith, low)

begun : (b : Bool) → (if b then 128 else 0) ≤ 128
begun true = omega arith
begun false = omega arith

pub full_for : (len free size_old size_new : ℕ) (limit : Option ℕ) (need most : ℕ) → len ≤ 35810 → IsFull (atoms_for len) free size_old size_new limit need most → IsFullFor limit size_new need most
full_for len free size_old size_new limit need most low f =
    let atoms : 16 * atoms_for len ≤ 35824 = atoms_step len low (nat_le len 251) in
    record {
      limit_is = f.limit_is;
      over_size = f.over_size;
      over_limit = f.over_limit;
      needed = omega (arith, f.needed, atoms, begun (nat_eq size_old 0));
    }

-- a heap that is full in one state is full in one of the same limit
pub full_kept : (a b : Option ℕ) (size : ℕ) → b ≡ a → (need most : ℕ) → IsFullFor a size need most → IsFullFor b size need most
full_kept a b size same need most f = record { limit_is = same ∙ f.limit_is; over_size = f.over_size; over_limit = f.over_limit; needed = f.needed }

-- a node that is stored adds the bytes of one node
pub node_adds : (len size_old size_new : ℕ) → len ≤ 35810 → size_new ≤ size_old + most_added (atoms_for len) size_old → AddsNodes 1 size_old size_new
node_adds len size_old size_new low grows =
    let atoms : 16 * atoms_for len ≤ 35824 = atoms_step len low (nat_le len 251) in
    omega (arith, grows, atoms, begun (nat_eq size_old 0))
