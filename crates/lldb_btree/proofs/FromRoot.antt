-- A set from the root of a tree.
use Rattle.std.proofs.Common.{◌≡◌, ℕ, ◌+◌, ◌*◌, ◌≤◌, List, length, Option, Some, Result, OnOk, ◌∙◌, arith}
use Rattle.lldb_base.specs.Contents.{Contents}
use Rattle.lldb_base.specs.declared.trouble.Trouble.{Trouble}
use Rattle.lldb_btree.specs.declared.node.Pair.{Pair}
use Rattle.lldb_btree.specs.Changes.{CanEdit, IsEdited, CanRoot}
use Rattle.lldb_btree.specs.Nodes.{spelling}
use Rattle.lldb_btree.specs.Pairs.{insert}
use Rattle.lldb_btree.specs.Splicing.{AddsNodes}
use Rattle.lldb_btree.specs.Trees.{Part, IsTold, IsTree, MayBeNoTree, HoldsTree, IsCleared, least_of}
use Rattle.lldb_btree.proofs.Below.{NoEdit}
use Rattle.lldb_btree.proofs.Inserts.{insert_sorted}
use Rattle.lldb_btree.proofs.Roots.{root_part}
use Rattle.lldb_btree.proofs.Walking.{from_root}

-- below the root of a tree one can set
pub root_edit : (told : Option Contents) (handle levels : ℕ) (pairs : List Pair) (footprint : List ℕ) (t : IsTold told handle levels pairs footprint) → CanEdit told t.map t.tree.d (least_of t.tree.d) (root_part handle pairs footprint) handle 17
root_edit told handle levels pairs footprint t = record { walk = from_root told handle levels pairs footprint t; once = t.tree.once }

-- the tree below which nothing can be set is none
pub no_tree : (told : Option Contents) (handle : ℕ) → NoEdit told handle 17 → MayBeNoTree handle told
no_tree told handle none levels pairs footprint t = none t.map t.tree.d (least_of t.tree.d) (root_part handle pairs footprint) (root_edit told handle levels pairs footprint t)

-- what a set below a root gives
abbrev pub RootSet : Option Contents → Option Contents → ℕ → List ℕ → List ℕ → List ℕ → Type 0
RootSet told now handle k v bytes = (m : Contents) (d least : ℕ) (p : Part) → CanEdit told m d least p handle 17 → IsEdited now m d least p (insert k v p.pairs) bytes

root_ready : (told now : Option Contents) (handle levels : ℕ) (pairs : List Pair) (footprint k v bytes : List ℕ) (t : IsTold told handle levels pairs footprint) → length k ≤ 1100 → length v ≤ 16 → (e : IsEdited now t.map t.tree.d (least_of t.tree.d) (root_part handle pairs footprint) (insert k v pairs) bytes) → CanRoot now t.map e.new t.tree.d handle footprint bytes (insert k v pairs)
root_ready told now handle levels pairs footprint k v bytes t key value e = record {
  is = e.told;
  node = e.node;
  spelled = e.spelled;
  lifts = e.lifts;
  live = (spelling t.tree.top.node, e.lifts.stays ∙ t.tree.top.held);
  low = t.tree.top.handle;
  enough = e.enough;
  few = e.few;
  sorted = insert_sorted k v pairs key value t.tree.sorted;
}

-- nothing can become the root of a tree
abbrev pub NoRoot : Option Contents → ℕ → List ℕ → Type 0
NoRoot now handle bytes = (old m : Contents) (d : ℕ) (before : List ℕ) (pairs : List Pair) → CanRoot now old m d handle before bytes pairs → ⊥

pub root_refused : (told now : Option Contents) (handle : ℕ) (k v bytes : List ℕ) → length k ≤ 1100 → length v ≤ 16 → RootSet told now handle k v bytes → NoRoot now handle bytes → MayBeNoTree handle told
root_refused told now handle k v bytes key value set none levels pairs footprint t =
    let e = set t.map t.tree.d (least_of t.tree.d) (root_part handle pairs footprint) (root_edit told handle levels pairs footprint t) in
    none t.map e.new t.tree.d footprint (insert k v pairs) (root_ready told now handle levels pairs footprint k v bytes t key value e)

levels_are : (now : Option Contents) (old : Contents) (handle levels d : ℕ) (footprint : List ℕ) (pairs : List Pair) (r : Result (Unit {0}) Trouble) → levels ≡ d + 1 → OnOk r (HoldsTree now old handle (d + 1) footprint pairs) → OnOk r (HoldsTree now old handle levels footprint pairs)
levels_are now old handle levels d footprint pairs r e h = rw e h

pub root_set : (told mid now : Option Contents) (handle : ℕ) (k v bytes : List ℕ) (r : Result (Unit {0}) Trouble) → length k ≤ 1100 → length v ≤ 16 → RootSet told mid handle k v bytes → ((old m : Contents) (d : ℕ) (before : List ℕ) (pairs : List Pair) → CanRoot mid old m d handle before bytes pairs → OnOk r (HoldsTree now old handle (d + 1) before pairs)) → (map : Contents) (levels : ℕ) (pairs : List Pair) (footprint : List ℕ) → told ≡ Some map → IsTree map handle levels pairs footprint → OnOk r (HoldsTree now map handle levels footprint (insert k v pairs))
root_set told mid now handle k v bytes r key value set save map levels pairs footprint is tree =
    let t : IsTold told handle levels pairs footprint = record { map = map; is = is; tree = tree } in
    let e = set t.map t.tree.d (least_of t.tree.d) (root_part handle pairs footprint) (root_edit told handle levels pairs footprint t) in
    levels_are now map handle levels t.tree.d footprint (insert k v pairs) r t.tree.depth (save t.map e.new t.tree.d footprint (insert k v pairs) (root_ready told mid handle levels pairs footprint k v bytes t key value e))

pub root_reads : (told : Option Contents) (handle before after : ℕ) → ((m : Contents) (d least : ℕ) (p : Part) → CanEdit told m d least p handle 17 → after ≤ before + (d + 1)) → (levels : ℕ) (pairs : List Pair) (footprint : List ℕ) → IsTold told handle levels pairs footprint → after ≤ before + levels
root_reads told handle before after next levels pairs footprint t =
    let most : after ≤ before + (t.tree.d + 1) = next t.map t.tree.d (least_of t.tree.d) (root_part handle pairs footprint) (root_edit told handle levels pairs footprint t) in
    omega (arith, most, t.tree.depth)

pub root_grows : (told : Option Contents) (handle before mid after : ℕ) → after ≤ mid + 3 * 35952 → ((m : Contents) (d least : ℕ) (p : Part) → CanEdit told m d least p handle 17 → AddsNodes (2 * d) before mid) → (levels : ℕ) (pairs : List Pair) (footprint : List ℕ) → IsTold told handle levels pairs footprint → AddsNodes (2 * levels + 1) before after
root_grows told handle before mid after last next levels pairs footprint t =
    let most : mid ≤ before + 2 * t.tree.d * 35952 = next t.map t.tree.d (least_of t.tree.d) (root_part handle pairs footprint) (root_edit told handle levels pairs footprint t) in
    omega (arith, most, last, t.tree.depth)

pub root_cleared : (told now : Option Contents) (handle : ℕ) (r : Result (Unit {0}) Trouble) → ((m : Contents) (d least : ℕ) (p : Part) → CanEdit told m d least p handle 17 → OnOk r (IsCleared now m p.footprint)) → (map : Contents) (levels : ℕ) (pairs : List Pair) (footprint : List ℕ) → told ≡ Some map → IsTree map handle levels pairs footprint → OnOk r (IsCleared now map footprint)
root_cleared told now handle r gone map levels pairs footprint is tree =
    let t : IsTold told handle levels pairs footprint = record { map = map; is = is; tree = tree } in
    gone t.map t.tree.d (least_of t.tree.d) (root_part handle pairs footprint) (root_edit told handle levels pairs footprint t)

pub all_reads : (told : Option Contents) (handle before after : ℕ) → ((m : Contents) (d least : ℕ) (p : Part) → CanEdit told m d least p handle 17 → after ≤ before + length p.footprint) → (levels : ℕ) (pairs : List Pair) (footprint : List ℕ) → IsTold told handle levels pairs footprint → after ≤ before + length footprint
all_reads told handle before after next levels pairs footprint t = next t.map t.tree.d (least_of t.tree.d) (root_part handle pairs footprint) (root_edit told handle levels pairs footprint t)
