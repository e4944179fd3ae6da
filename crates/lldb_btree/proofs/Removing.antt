-- A removal from the root of a tree.
use Rattle.std.proofs.Common.{◌≡◌, ℕ, ◌+◌, ◌*◌, ◌≤◌, true, List, Option, Some, None, ◌∙◌, arith}
use Rattle.lldb_base.specs.Contents.{Contents}
use Rattle.lldb_btree.specs.declared.node.Pair.{Pair}
use Rattle.lldb_btree.specs.Nodes.{spelling}
use Rattle.lldb_btree.specs.Pairs.{find, delete}
use Rattle.lldb_btree.specs.Removal.{CanTake, IsReduced, IsTaken, CanLower, HoldsLess, IsRemoved}
use Rattle.lldb_btree.specs.Splicing.{AddsNodes}
use Rattle.lldb_btree.specs.Trees.{Part, IsTold, IsTree, MayBeNoTree, least_of}
use Rattle.lldb_btree.proofs.Deletes.{delete_sorted}
use Rattle.lldb_btree.proofs.FromRoot.{root_edit}
use Rattle.lldb_btree.proofs.Roots.{root_part}
use Rattle.lldb_btree.proofs.Taking.{NoTake}

root_take : (told : Option Contents) (handle levels : ℕ) (pairs : List Pair) (footprint : List ℕ) (t : IsTold told handle levels pairs footprint) → CanTake told t.map t.tree.d (least_of t.tree.d) (root_part handle pairs footprint) handle 17
root_take told handle levels pairs footprint t = record { edit = root_edit told handle levels pairs footprint t; wide = omega arith }

-- the tree below which nothing can be removed is none
pub no_root_take : (told : Option Contents) (handle : ℕ) → NoTake told handle 17 → MayBeNoTree handle told
no_root_take told handle none levels pairs footprint t = none t.map t.tree.d (least_of t.tree.d) (root_part handle pairs footprint) (root_take told handle levels pairs footprint t)

-- what a removal below a root answered
abbrev pub RootTaken : Option Contents → Option Contents → ℕ → List ℕ → Option (List ℕ) → Type 0
RootTaken told now handle k r = (m : Contents) (d least : ℕ) (p : Part) → CanTake told m d least p handle 17 → IsTaken now m d least p k r

lower_ready : (told now : Option Contents) (handle levels : ℕ) (pairs : List Pair) (footprint k bytes : List ℕ) (t : IsTold told handle levels pairs footprint) → (e : IsReduced now t.map t.tree.d (least_of t.tree.d) (root_part handle pairs footprint) (delete k pairs) bytes) → CanLower now t.map e.new t.tree.d handle footprint bytes (delete k pairs)
lower_ready told now handle levels pairs footprint k bytes t e = record {
  is = e.told;
  node = e.node;
  spelled = e.spelled;
  lifts = e.lifts;
  live = (spelling t.tree.top.node, e.lifts.stays ∙ t.tree.top.held);
  low = t.tree.top.handle;
  enough = e.enough;
  few = e.few;
  sorted = delete_sorted k pairs t.tree.sorted;
}

-- no root can be written
abbrev pub NoLower : Option Contents → ℕ → List ℕ → Type 0
NoLower now handle bytes = (old m : Contents) (d : ℕ) (before : List ℕ) (pairs : List Pair) → CanLower now old m d handle before bytes pairs → ⊥

pub lower_refused : (told now : Option Contents) (handle : ℕ) (k bytes : List ℕ) (r : Option (List ℕ)) → RootTaken told now handle k r → r ≡ Some bytes → NoLower now handle bytes → MayBeNoTree handle told
lower_refused told now handle k bytes r taken some none levels pairs footprint t =
    let h : IsTaken now t.map t.tree.d (least_of t.tree.d) (root_part handle pairs footprint) k (Some bytes) = rw some at taken t.map t.tree.d (least_of t.tree.d) (root_part handle pairs footprint) (root_take told handle levels pairs footprint t) in
    none t.map h.1.new t.tree.d footprint (delete k pairs) (lower_ready told now handle levels pairs footprint k bytes t h.1)

less_levels : (now : Option Contents) (old : Contents) (handle levels d : ℕ) (footprint : List ℕ) (pairs : List Pair) → levels ≡ d + 1 → HoldsLess now old handle (d + 1) footprint pairs → HoldsLess now old handle levels footprint pairs
less_levels now old handle levels d footprint pairs e h = rw e h

pub root_removed : (told mid now : Option Contents) (handle : ℕ) (k bytes : List ℕ) (r : Option (List ℕ)) → RootTaken told mid handle k r → r ≡ Some bytes → ((old m : Contents) (d : ℕ) (before : List ℕ) (pairs : List Pair) → CanLower mid old m d handle before bytes pairs → HoldsLess now old handle (d + 1) before pairs) → (map : Contents) (levels : ℕ) (pairs : List Pair) (footprint : List ℕ) → told ≡ Some map → IsTree map handle levels pairs footprint → IsRemoved true now map handle levels footprint pairs k
root_removed told mid now handle k bytes r taken some lowered map levels pairs footprint is tree =
    let t : IsTold told handle levels pairs footprint = record { map = map; is = is; tree = tree } in
    let h : IsTaken mid map tree.d (least_of tree.d) (root_part handle pairs footprint) k (Some bytes) = rw some at taken map tree.d (least_of tree.d) (root_part handle pairs footprint) (root_take told handle levels pairs footprint t) in
    (h.0, less_levels now map handle levels tree.d footprint (delete k pairs) tree.depth (lowered map h.1.new tree.d footprint (delete k pairs) (lower_ready told mid handle levels pairs footprint k bytes t h.1)))

pub root_lacks : (told now : Option Contents) (handle : ℕ) (k : List ℕ) (r : Option (List ℕ)) → RootTaken told now handle k r → r ≡ None → (map : Contents) (levels : ℕ) (pairs : List Pair) (footprint : List ℕ) → told ≡ Some map → IsTree map handle levels pairs footprint → find k pairs ≡ None
root_lacks told now handle k r taken none map levels pairs footprint is tree =
    let t : IsTold told handle levels pairs footprint = record { map = map; is = is; tree = tree } in
    let h : IsTaken now map tree.d (least_of tree.d) (root_part handle pairs footprint) k None = rw none at taken map tree.d (least_of tree.d) (root_part handle pairs footprint) (root_take told handle levels pairs footprint t) in
    h

pub take_reads : (told : Option Contents) (handle before mid after : ℕ) → after ≤ mid + 1 → ((m : Contents) (d least : ℕ) (p : Part) → CanTake told m d least p handle 17 → mid ≤ before + (2 * d + 1)) → (levels : ℕ) (pairs : List Pair) (footprint : List ℕ) → IsTold told handle levels pairs footprint → after ≤ before + 2 * levels
take_reads told handle before mid after last next levels pairs footprint t =
    let most : mid ≤ before + (2 * t.tree.d + 1) = next t.map t.tree.d (least_of t.tree.d) (root_part handle pairs footprint) (root_take told handle levels pairs footprint t) in
    omega (arith, most, last, t.tree.depth)

pub take_grows : (told : Option Contents) (handle before mid after : ℕ) → after ≤ mid + 1 * 35952 → ((m : Contents) (d least : ℕ) (p : Part) → CanTake told m d least p handle 17 → AddsNodes (2 * d) before mid) → (levels : ℕ) (pairs : List Pair) (footprint : List ℕ) → IsTold told handle levels pairs footprint → AddsNodes (2 * levels) before after
take_grows told handle before mid after last next levels pairs footprint t =
    let most : mid ≤ before + 2 * t.tree.d * 35952 = next t.map t.tree.d (least_of t.tree.d) (root_part handle pairs footprint) (root_take told handle levels pairs footprint t) in
    omega (arith, most, last, t.tree.depth)
