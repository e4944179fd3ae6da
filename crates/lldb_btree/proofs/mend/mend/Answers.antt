use Rattle.std.proofs.Common.{◌≤◌, ◌+◌, ℕ, Bool, false, true, List, length, Option, ◌≡◌, sym}
use Rattle.lldb_base.specs.Contents.{Contents}
use Rattle.lldb_btree.specs.declared.node.Pair.{Pair}
use Rattle.lldb_btree.specs.declared.store.Stored.{Stored}
use Rattle.lldb_btree.specs.Changes.{CanStore}
use Rattle.lldb_btree.specs.Nodes.{Entry}
use Rattle.lldb_btree.specs.Removal.{CanMend}
use Rattle.lldb_btree.specs.Splicing.{IsFullFor, AreNode}
use Rattle.lldb_btree.proofs.Full.{full_kept}
use Rattle.lldb_btree.proofs.Mending.{BothRead, mend_unread, mended, mend_unstored}
use Rattle.lldb_btree.proofs.Splices.{refuses_then, refuses_last, never}
use Rattle.lldb_btree.proofs.mend.mend.Goals as goal

-- nothing that can be put together
abbrev NoBoth : List ℕ → List ℕ → Type 0
NoBoth first second = (leaf : Bool) (es fs : List Entry) → AreNode leaf es first → AreNode leaf fs second → length es + length fs ≤ 64 → ⊥

-- nothing that can be mended
abbrev No : Option Contents → ℕ → ℕ → List ℕ → List ℕ → Type 0
No told left right first second = (m : Contents) (d : ℕ) (ps qs : List Pair) (us ts : List ℕ) → CanMend told m d left right first second ps qs us ts → ⊥

-- nothing that can be stored
abbrev NoStore : Option Contents → ℕ → List ℕ → Type 0
NoStore told h bytes = (m : Contents) (d : ℕ) (pairs : List Pair) (under : List ℕ) → CanStore told m d h bytes pairs under → ⊥

pub returns-in_err-all-clause-refuses : goal.returns-in_err-all-clause-refuses
returns-in_err-all-clause-refuses g c =
    refuses_then (List ℕ) Stored (λ _ _. ⊥) (IsFullFor (g.H.Heap.limit_of c.args.heap.now) (g.H.Heap.size_of c.args.heap.now))
    (NoBoth c.args.first.now c.args.second.now) (No (g.H.Heap.map_of c.args.heap.now) c.args.left c.args.right c.args.first.now c.args.second.now)
    c.from_residual.result c.in_err-all.field-0.0 c.from_residual.ensures.1 (never (IsFullFor (g.H.Heap.limit_of c.args.heap.now) (g.H.Heap.size_of c.args.heap.now)))
    (λ none m d ps qs us ts s. mend_unread (g.H.Heap.map_of c.args.heap.now) m d c.args.left c.args.right c.args.first.now c.args.second.now ps qs us ts s none)
    c.in_err-all.ensures.refuses

pub returns-clause-mended : goal.returns-clause-mended
returns-clause-mended g c = λ m d ps qs us ts s.
    let both : BothRead c.args.first.now c.args.second.now c.as_slice.result.now = λ leaf es fs a b few. rw c.as_slice.ensures (c.in_ok-all.ensures.both leaf es fs a b few) in
    mended (g.H.Heap.map_of c.args.heap.now) (g.H.Heap.map_of c.remove.new.self) (g.H.Heap.map_of c.store.new.heap) m d c.args.left c.args.right c.args.first.now c.args.second.now c.as_slice.result.now ps qs us ts c.store.result s both (g.met.H.Heap.contents c.args.heap.now c.requires.ready) c.in_ok-remove.ensures.removed
    (λ n e pairs under can. c.store.ensures.stored n e pairs under can (λ on. let off : false ≡ true = on in absurd (cc (off))))

pub returns-clause-refuses : goal.returns-clause-refuses
returns-clause-refuses g c =
    let both : BothRead c.args.first.now c.args.second.now c.as_slice.result.now = λ leaf es fs a b few. rw c.as_slice.ensures (c.in_ok-all.ensures.both leaf es fs a b few) in
    refuses_last (IsFullFor (g.H.Heap.limit_of c.remove.new.self) (g.H.Heap.size_of c.store.new.heap)) (IsFullFor (g.H.Heap.limit_of c.args.heap.now) (g.H.Heap.size_of c.store.new.heap))
    (NoStore (g.H.Heap.map_of c.remove.new.self) c.args.left c.as_slice.result.now) (No (g.H.Heap.map_of c.args.heap.now) c.args.left c.args.right c.args.first.now c.args.second.now) c.store.result
    (full_kept (g.H.Heap.limit_of c.remove.new.self) (g.H.Heap.limit_of c.args.heap.now) (g.H.Heap.size_of c.store.new.heap) (sym c.remove.ensures.limit))
    (λ none m d ps qs us ts s. mend_unstored (g.H.Heap.map_of c.args.heap.now) (g.H.Heap.map_of c.remove.new.self) m d c.args.left c.args.right c.args.first.now c.args.second.now c.as_slice.result.now ps qs us ts s both (g.met.H.Heap.contents c.args.heap.now c.requires.ready) c.in_ok-remove.ensures.removed none)
    c.store.ensures.refuses
