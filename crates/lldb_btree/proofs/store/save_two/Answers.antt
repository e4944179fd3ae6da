use Rattle.std.proofs.Common.{◌≡◌, ◌≤◌, ℕ, List, ◌∷◌, Option, None, length, refl, sym, ◌∙◌, ap}
use Rattle.lldb_base.specs.Contents.{Contents}
use Rattle.lldb_base.specs.Heaps.{MayBeDead}
use Rattle.lldb_btree.specs.declared.node.Pair.{Pair}
use Rattle.lldb_btree.specs.declared.splice.Halves.{Halves}
use Rattle.lldb_btree.specs.Changes.{CanRoot}
use Rattle.lldb_btree.specs.Nodes.{count}
use Rattle.lldb_btree.specs.Splicing.{IsFullFor, AreNoNode}
use Rattle.lldb_btree.proofs.Decodes.{on_ok}
use Rattle.lldb_btree.proofs.Full.{full_kept}
use Rattle.lldb_btree.proofs.Rooted.{FrontHalf, BackHalf, NoTwo, root_halved, root_unread, root_unmade, root_unmade_two, root_unput, root_two, two_unread}
use Rattle.lldb_btree.proofs.Splices.{refuses_then, refuses_last, caused_then, never}
use Rattle.lldb_btree.proofs.store.save_two.Goals as goal

-- nothing that can become a root that is cut
abbrev No : Option Contents → ℕ → List ℕ → Type 0
No told h bytes = (old m : Contents) (d : ℕ) (before : List ℕ) (pairs : List Pair) (r : CanRoot told old m d h before bytes pairs) → 33 ≤ count r.node → ⊥

pub returns-in_err-cut-clause-refuses : goal.returns-in_err-cut-clause-refuses
returns-in_err-cut-clause-refuses g c =
    refuses_then Halves (Unit {0}) (λ _ _. ⊥) (IsFullFor (g.H.Heap.limit_of c.args.heap.now) (g.H.Heap.size_of c.args.heap.now)) (AreNoNode c.args.node.now) (No (g.H.Heap.map_of c.args.heap.now) c.args.handle c.args.node.now)
    c.from_residual.result c.in_err-cut.field-0.0 c.from_residual.ensures.1 (never (IsFullFor (g.H.Heap.limit_of c.args.heap.now) (g.H.Heap.size_of c.args.heap.now)))
    (λ none old m d before pairs r low. root_unread (g.H.Heap.map_of c.args.heap.now) old m d c.args.handle before c.args.node.now pairs r low none)
    c.in_err-cut.ensures.refuses

pub returns-in_err-first-clause-refuses : goal.returns-in_err-first-clause-refuses
returns-in_err-first-clause-refuses g c =
    let fh : FrontHalf c.args.node.now c.as_slice-front.result.now = λ leaf es a. rw c.as_slice-front.ensures (c.in_ok-cut.ensures.front leaf es a) in
    let bh : BackHalf c.args.node.now c.as_slice-back.result.now = λ leaf es a. rw c.as_slice-back.ensures (c.in_ok-cut.ensures.back leaf es a) in
    refuses_then ℕ (Unit {0}) (IsFullFor (g.H.Heap.limit_of c.args.heap.now) (g.H.Heap.size_of c.make.new.heap)) (IsFullFor (g.H.Heap.limit_of c.args.heap.now) (g.H.Heap.size_of c.make.new.heap)) (length c.as_slice-front.result.now ≤ 35810 → g.H.Heap.map_of c.args.heap.now ≡ None) (No (g.H.Heap.map_of c.args.heap.now) c.args.handle c.args.node.now)
    c.from_residual-in_err-first.result c.in_err-first.field-0.0 c.from_residual-in_err-first.ensures.1 (λ need most f. f)
    (λ none old m d before pairs r low. root_unmade (g.H.Heap.map_of c.args.heap.now) old m d c.args.handle before c.args.node.now c.as_slice-front.result.now c.as_slice-back.result.now pairs r low fh bh none)
    c.in_err-first.ensures.refuses

pub returns-in_err-second-clause-refuses : goal.returns-in_err-second-clause-refuses
returns-in_err-second-clause-refuses g c =
    let fh : FrontHalf c.args.node.now c.as_slice-front.result.now = λ leaf es a. rw c.as_slice-front.ensures (c.in_ok-cut.ensures.front leaf es a) in
    let bh : BackHalf c.args.node.now c.as_slice-back.result.now = λ leaf es a. rw c.as_slice-back.ensures (c.in_ok-cut.ensures.back leaf es a) in
    refuses_then ℕ (Unit {0}) (IsFullFor (g.H.Heap.limit_of c.make.new.heap) (g.H.Heap.size_of c.make-2.new.heap)) (IsFullFor (g.H.Heap.limit_of c.args.heap.now) (g.H.Heap.size_of c.make-2.new.heap)) (length c.as_slice-back.result.now ≤ 35810 → g.H.Heap.map_of c.make.new.heap ≡ None) (No (g.H.Heap.map_of c.args.heap.now) c.args.handle c.args.node.now)
    c.from_residual-in_err-second.result c.in_err-second.field-0.0 c.from_residual-in_err-second.ensures.1
    (full_kept (g.H.Heap.limit_of c.make.new.heap) (g.H.Heap.limit_of c.args.heap.now) (g.H.Heap.size_of c.make-2.new.heap) (sym c.make.ensures.frame.limit))
    (λ none old m d before pairs r low. root_unmade_two (g.H.Heap.map_of c.args.heap.now) (g.H.Heap.map_of c.make.new.heap) old m d c.args.handle c.in_ok-first.first before c.args.node.now c.as_slice-front.result.now c.as_slice-back.result.now pairs r low fh bh c.in_ok-first.ensures.created none)
    c.in_err-second.ensures.refuses

pub returns-in_err-children-clause-refuses : goal.returns-in_err-children-clause-refuses
returns-in_err-children-clause-refuses g c =
    let fh : FrontHalf c.args.node.now c.as_slice-front.result.now = λ leaf es a. rw c.as_slice-front.ensures (c.in_ok-cut.ensures.front leaf es a) in
    let bh : BackHalf c.args.node.now c.as_slice-back.result.now = λ leaf es a. rw c.as_slice-back.ensures (c.in_ok-cut.ensures.back leaf es a) in
    refuses_then (List ℕ) (Unit {0}) (λ _ _. ⊥) (IsFullFor (g.H.Heap.limit_of c.args.heap.now) (g.H.Heap.size_of c.make-2.new.heap)) (NoTwo c.as_slice-front.result.now c.as_slice-back.result.now) (No (g.H.Heap.map_of c.args.heap.now) c.args.handle c.args.node.now)
    c.from_residual-in_err-children.result c.in_err-children.field-0.0 c.from_residual-in_err-children.ensures.1 (never (IsFullFor (g.H.Heap.limit_of c.args.heap.now) (g.H.Heap.size_of c.make-2.new.heap)))
    (λ none old m d before pairs r low. two_unread m d r.node pairs r.lifts.under c.as_slice-front.result.now c.as_slice-back.result.now (root_halved (g.H.Heap.map_of c.args.heap.now) old m d c.args.handle before c.args.node.now c.as_slice-front.result.now c.as_slice-back.result.now pairs r low fh bh) none)
    c.in_err-children.ensures.refuses

pub returns-clause-rooted : goal.returns-clause-rooted
returns-clause-rooted g c = λ old m d before pairs r low.
    let fh : FrontHalf c.args.node.now c.as_slice-front.result.now = λ leaf es a. rw c.as_slice-front.ensures (c.in_ok-cut.ensures.front leaf es a) in
    let bh : BackHalf c.args.node.now c.as_slice-back.result.now = λ leaf es a. rw c.as_slice-back.ensures (c.in_ok-cut.ensures.back leaf es a) in
    on_ok c.save.result
    (λ put. root_two (g.H.Heap.map_of c.args.heap.now) (g.H.Heap.map_of c.make.new.heap) (g.H.Heap.map_of c.make-2.new.heap) (g.H.Heap.map_of c.save.new.heap) old m d c.args.handle c.in_ok-first.first c.in_ok-second.second before c.args.node.now c.as_slice-front.result.now c.as_slice-back.result.now c.in_ok-children.children c.as_slice-2.result.now pairs r low fh bh
    c.in_ok-first.ensures.range c.in_ok-first.ensures.fresh c.in_ok-first.ensures.created c.in_ok-second.ensures.range c.in_ok-second.ensures.fresh c.in_ok-second.ensures.created c.in_ok-children.ensures.two
    (c.as_slice-2.ensures ∙ c.in_ok-root.ensures ∙ ap (λ (x : List ℕ). 1 ∷ 2 ∷ x) c.as_slice.ensures) put)
    c.save.ensures.put

pub returns-clause-refuses : goal.returns-clause-refuses
returns-clause-refuses g c =
    let fh : FrontHalf c.args.node.now c.as_slice-front.result.now = λ leaf es a. rw c.as_slice-front.ensures (c.in_ok-cut.ensures.front leaf es a) in
    let bh : BackHalf c.args.node.now c.as_slice-back.result.now = λ leaf es a. rw c.as_slice-back.ensures (c.in_ok-cut.ensures.back leaf es a) in
    refuses_last (IsFullFor (g.H.Heap.limit_of c.make-2.new.heap) (g.H.Heap.size_of c.save.new.heap)) (IsFullFor (g.H.Heap.limit_of c.args.heap.now) (g.H.Heap.size_of c.save.new.heap)) (length c.as_slice-2.result.now ≤ 35810 → MayBeDead c.args.handle (g.H.Heap.map_of c.make-2.new.heap)) (No (g.H.Heap.map_of c.args.heap.now) c.args.handle c.args.node.now) c.save.result
    (full_kept (g.H.Heap.limit_of c.make-2.new.heap) (g.H.Heap.limit_of c.args.heap.now) (g.H.Heap.size_of c.save.new.heap) (sym (c.make-2.ensures.frame.limit ∙ c.make.ensures.frame.limit)))
    (λ dead old m d before pairs r low. root_unput (g.H.Heap.map_of c.args.heap.now) (g.H.Heap.map_of c.make.new.heap) (g.H.Heap.map_of c.make-2.new.heap) old m d c.args.handle c.in_ok-first.first c.in_ok-second.second before c.args.node.now c.as_slice-front.result.now c.as_slice-back.result.now c.in_ok-children.children c.as_slice-2.result.now pairs r low fh bh
    c.in_ok-first.ensures.fresh c.in_ok-first.ensures.created c.in_ok-second.ensures.fresh c.in_ok-second.ensures.created c.in_ok-children.ensures.two
    (c.as_slice-2.ensures ∙ c.in_ok-root.ensures ∙ ap (λ (x : List ℕ). 1 ∷ 2 ∷ x) c.as_slice.ensures) dead)
    c.save.ensures.refuses

pub returns-in_err-cut-clause-cause : goal.returns-in_err-cut-clause-cause
returns-in_err-cut-clause-cause g c = caused_then Halves (Unit {0}) c.from_residual.result c.in_err-cut.field-0.0 c.from_residual.ensures.1 c.in_err-cut.ensures.cause refl

pub returns-in_err-children-clause-cause : goal.returns-in_err-children-clause-cause
returns-in_err-children-clause-cause g c = caused_then (List ℕ) (Unit {0}) c.from_residual-in_err-children.result c.in_err-children.field-0.0 c.from_residual-in_err-children.ensures.1 c.in_err-children.ensures.cause (c.in_ok-second.ensures.cause ∙ c.in_ok-first.ensures.cause)
