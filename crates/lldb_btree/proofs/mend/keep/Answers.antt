use Rattle.std.proofs.Common.{◌≡◌, ◌≤◌, ℕ, false, true, List, Option, refl}
use Rattle.lldb_base.specs.Contents.{Contents}
use Rattle.lldb_btree.specs.declared.node.Pair.{Pair}
use Rattle.lldb_btree.specs.declared.store.Stored.{Stored}
use Rattle.lldb_btree.specs.Changes.{CanStore}
use Rattle.lldb_btree.specs.Nodes.{count}
use Rattle.lldb_btree.specs.Removal.{CanPut}
use Rattle.lldb_btree.specs.Splicing.{IsFullFor}
use Rattle.lldb_btree.proofs.Putting.{put_store, kept_put}
use Rattle.lldb_btree.proofs.Splices.{refuses_then}
use Rattle.lldb_btree.proofs.mend.keep.Goals as goal

-- nothing that can be stored as one
abbrev NoStore : Option Contents → ℕ → List ℕ → Type 0
NoStore told h bytes = (m : Contents) (d : ℕ) (pairs : List Pair) (under : List ℕ) (s : CanStore told m d h bytes pairs under) → count s.node ≤ 32 → ⊥

-- nothing that can be put back as it is
abbrev No : Option Contents → ℕ → ℕ → List ℕ → List ℕ → List ℕ → Type 0
No told many child front node back = (m : Contents) (d : ℕ) (before : List ℕ) (pairs : List Pair) (c : CanPut told m d many child front node back before pairs) → 16 ≤ count c.loose.node → ⊥

pub returns-in_err-stored-clause-refuses : goal.returns-in_err-stored-clause-refuses
returns-in_err-stored-clause-refuses g c =
    refuses_then Stored (List ℕ) (IsFullFor (g.H.Heap.limit_of c.args.heap.now) (g.H.Heap.size_of c.store_one.new.heap)) (IsFullFor (g.H.Heap.limit_of c.args.heap.now) (g.H.Heap.size_of c.store_one.new.heap))
    (NoStore (g.H.Heap.map_of c.args.heap.now) c.args.child c.args.node.now) (No (g.H.Heap.map_of c.args.heap.now) c.args.many c.args.child c.args.front.now c.args.node.now c.args.back.now)
    c.from_residual.result c.in_err-stored.field-0.0 c.from_residual.ensures.1 (λ need most f. f)
    (λ none m d before pairs can enough. none m d can.middle can.under (put_store (g.H.Heap.map_of c.args.heap.now) m d c.args.many c.args.child c.args.front.now c.args.node.now c.args.back.now before pairs can enough) can.loose.few)
    c.in_err-stored.ensures.refuses

pub returns-clause-put : goal.returns-clause-put
returns-clause-put g c = λ m d before pairs can enough.
    let stored = c.in_ok-stored.ensures.stored m d can.middle can.under (put_store (g.H.Heap.map_of c.args.heap.now) m d c.args.many c.args.child c.args.front.now c.args.node.now c.args.back.now before pairs can enough) can.loose.few (λ on. let off : false ≡ true = on in absurd (cc (off))) in
    kept_put (g.H.Heap.map_of c.args.heap.now) (g.H.Heap.map_of c.store_one.new.heap) m d c.args.many c.args.child c.args.front.now c.args.node.now c.args.back.now before pairs c.in_ok-stored.stored.count c.args.many c.in_ok-stored.stored.entries c.in_ok-all.all can c.in_ok-stored.ensures.one refl stored (rw c.as_slice.ensures at c.in_ok-all.ensures)
