use Rattle.std.proofs.Common.{◌≡◌, ◌≤◌, ℕ, List, length, Option, None, sym, refl, ◌∙◌}
use Rattle.lldb_base.specs.Contents.{Contents}
use Rattle.lldb_base.specs.Heaps.{MayBeDead}
use Rattle.lldb_btree.specs.declared.node.Pair.{Pair}
use Rattle.lldb_btree.specs.declared.splice.Halves.{Halves}
use Rattle.lldb_btree.specs.declared.store.Stored.{Stored}
use Rattle.lldb_btree.specs.Changes.{CanStore}
use Rattle.lldb_btree.specs.Nodes.{count}
use Rattle.lldb_btree.specs.Splicing.{IsFullFor, AreNoNode}
use Rattle.lldb_btree.proofs.Full.{full_kept}
use Rattle.lldb_btree.proofs.Rooted.{FrontHalf, BackHalf, NoTwo, store_halved, two_stored, two_unsaved, two_unmade, two_unread, one_unread}
use Rattle.lldb_btree.proofs.Splices.{refuses_then, caused_then, never}
use Rattle.lldb_btree.proofs.store.store_two.Goals as goal

-- nothing that is to be stored as two
abbrev No : Option Contents → ℕ → List ℕ → Type 0
No told h bytes = (m : Contents) (d : ℕ) (pairs : List Pair) (under : List ℕ) (s : CanStore told m d h bytes pairs under) → 33 ≤ count s.node → ⊥

pub returns-in_err-cut-clause-refuses : goal.returns-in_err-cut-clause-refuses
returns-in_err-cut-clause-refuses g c =
    refuses_then Halves Stored (λ _ _. ⊥) (IsFullFor (g.H.Heap.limit_of c.args.heap.now) (g.H.Heap.size_of c.args.heap.now))
    (AreNoNode c.args.node.now) (No (g.H.Heap.map_of c.args.heap.now) c.args.handle c.args.node.now)
    c.from_residual.result c.in_err-cut.field-0.0 c.from_residual.ensures.1 (never (IsFullFor (g.H.Heap.limit_of c.args.heap.now) (g.H.Heap.size_of c.args.heap.now)))
    (λ none m d pairs under s low. one_unread (g.H.Heap.map_of c.args.heap.now) m d c.args.handle c.args.node.now pairs under s none)
    c.in_err-cut.ensures.refuses

pub returns-in_err-save-clause-refuses : goal.returns-in_err-save-clause-refuses
returns-in_err-save-clause-refuses g c =
    let fh : FrontHalf c.args.node.now c.as_slice-front.result.now = λ leaf es a. rw c.as_slice-front.ensures (c.in_ok-cut.ensures.front leaf es a) in
    let bh : BackHalf c.args.node.now c.as_slice-back.result.now = λ leaf es a. rw c.as_slice-back.ensures (c.in_ok-cut.ensures.back leaf es a) in
    refuses_then (Unit {0}) Stored (IsFullFor (g.H.Heap.limit_of c.args.heap.now) (g.H.Heap.size_of c.save.new.heap)) (IsFullFor (g.H.Heap.limit_of c.args.heap.now) (g.H.Heap.size_of c.save.new.heap))
    (length c.as_slice-front.result.now ≤ 35810 → MayBeDead c.args.handle (g.H.Heap.map_of c.args.heap.now))
    (No (g.H.Heap.map_of c.args.heap.now) c.args.handle c.args.node.now)
    c.from_residual-in_err-save.result c.in_err-save.field-0.0 c.from_residual-in_err-save.ensures.1 (λ need most f. f)
    (λ dead m d pairs under s low. two_unsaved (g.H.Heap.map_of c.args.heap.now) m d c.args.handle c.args.node.now c.as_slice-front.result.now c.as_slice-back.result.now pairs under s low fh bh dead)
    c.in_err-save.ensures.refuses

pub returns-in_err-more-clause-refuses : goal.returns-in_err-more-clause-refuses
returns-in_err-more-clause-refuses g c =
    let fh : FrontHalf c.args.node.now c.as_slice-front.result.now = λ leaf es a. rw c.as_slice-front.ensures (c.in_ok-cut.ensures.front leaf es a) in
    let bh : BackHalf c.args.node.now c.as_slice-back.result.now = λ leaf es a. rw c.as_slice-back.ensures (c.in_ok-cut.ensures.back leaf es a) in
    refuses_then ℕ Stored (IsFullFor (g.H.Heap.limit_of c.save.new.heap) (g.H.Heap.size_of c.make.new.heap)) (IsFullFor (g.H.Heap.limit_of c.args.heap.now) (g.H.Heap.size_of c.make.new.heap))
    (length c.as_slice-back.result.now ≤ 35810 → g.H.Heap.map_of c.save.new.heap ≡ None)
    (No (g.H.Heap.map_of c.args.heap.now) c.args.handle c.args.node.now)
    c.from_residual-in_err-more.result c.in_err-more.field-0.0 c.from_residual-in_err-more.ensures.1
    (full_kept (g.H.Heap.limit_of c.save.new.heap) (g.H.Heap.limit_of c.args.heap.now) (g.H.Heap.size_of c.make.new.heap) (sym c.save.ensures.frame.limit))
    (λ none m d pairs under s low. two_unmade (g.H.Heap.map_of c.args.heap.now) (g.H.Heap.map_of c.save.new.heap) m d c.args.handle c.args.node.now c.as_slice-front.result.now c.as_slice-back.result.now pairs under s low fh bh c.in_ok-save.ensures.put none)
    c.in_err-more.ensures.refuses

pub returns-in_err-entries-clause-refuses : goal.returns-in_err-entries-clause-refuses
returns-in_err-entries-clause-refuses g c =
    let fh : FrontHalf c.args.node.now c.as_slice-front.result.now = λ leaf es a. rw c.as_slice-front.ensures (c.in_ok-cut.ensures.front leaf es a) in
    let bh : BackHalf c.args.node.now c.as_slice-back.result.now = λ leaf es a. rw c.as_slice-back.ensures (c.in_ok-cut.ensures.back leaf es a) in
    refuses_then (List ℕ) Stored (λ _ _. ⊥) (IsFullFor (g.H.Heap.limit_of c.args.heap.now) (g.H.Heap.size_of c.make.new.heap))
    (NoTwo c.as_slice-front.result.now c.as_slice-back.result.now)
    (No (g.H.Heap.map_of c.args.heap.now) c.args.handle c.args.node.now)
    c.from_residual-in_err-entries.result c.in_err-entries.field-0.0 c.from_residual-in_err-entries.ensures.1 (never (IsFullFor (g.H.Heap.limit_of c.args.heap.now) (g.H.Heap.size_of c.make.new.heap)))
    (λ none m d pairs under s low. two_unread m d s.node pairs under c.as_slice-front.result.now c.as_slice-back.result.now (store_halved (g.H.Heap.map_of c.args.heap.now) m d c.args.handle c.args.node.now c.as_slice-front.result.now c.as_slice-back.result.now pairs under s low fh bh) none)
    c.in_err-entries.ensures.refuses

pub returns-clause-stored : goal.returns-clause-stored
returns-clause-stored g c = λ m d pairs under s low.
    let fh : FrontHalf c.args.node.now c.as_slice-front.result.now = λ leaf es a. rw c.as_slice-front.ensures (c.in_ok-cut.ensures.front leaf es a) in
    let bh : BackHalf c.args.node.now c.as_slice-back.result.now = λ leaf es a. rw c.as_slice-back.ensures (c.in_ok-cut.ensures.back leaf es a) in
    two_stored (g.H.Heap.map_of c.args.heap.now) (g.H.Heap.map_of c.save.new.heap) (g.H.Heap.map_of c.make.new.heap) m d c.args.handle c.in_ok-more.more c.args.node.now c.as_slice-front.result.now c.as_slice-back.result.now pairs under c.in_ok-entries.entries s low fh bh
    c.in_ok-save.ensures.put c.in_ok-more.ensures.range c.in_ok-more.ensures.fresh c.in_ok-more.ensures.created c.in_ok-entries.ensures.two

pub returns-in_err-cut-clause-cause : goal.returns-in_err-cut-clause-cause
returns-in_err-cut-clause-cause g c = caused_then Halves Stored c.from_residual.result c.in_err-cut.field-0.0 c.from_residual.ensures.1 c.in_err-cut.ensures.cause refl

pub returns-in_err-entries-clause-cause : goal.returns-in_err-entries-clause-cause
returns-in_err-entries-clause-cause g c = caused_then (List ℕ) Stored c.from_residual-in_err-entries.result c.in_err-entries.field-0.0 c.from_residual-in_err-entries.ensures.1 c.in_err-entries.ensures.cause (c.in_ok-more.ensures.cause ∙ c.in_ok-save.ensures.cause)
