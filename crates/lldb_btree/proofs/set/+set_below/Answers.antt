use Rattle.std.proofs.Common.{◌+◌, ◌-◌, ℕ, List, Option, sym, ◌∙◌, arith}
use Rattle.lldb_btree.specs.declared.set.Changed.{Changed}
use Rattle.lldb_btree.specs.declared.store.Stored.{Stored}
use Rattle.lldb_btree.specs.Changes.{CanStore}
use Rattle.lldb_btree.specs.Splicing.{IsFullFor}
use Rattle.lldb_btree.proofs.Below.{NoEdit, WayRead, AllGo, BelowSet, leaf_ended, inner_ended, headless, too_many, leaf_edited, leaf_refused, wayless, goes, below_refused, below_reads, below_grows, store_refused, inner_edited}
use Rattle.lldb_btree.proofs.Full.{full_kept}
use Rattle.lldb_btree.proofs.Splices.{refuses_then, refuses_last, caused_last, never}
use Rattle.lldb_btree.proofs.Steps.{Got}
use Rattle.lldb_btree.proofs.set.+set_below.Goals as goal
use Rattle.lldb_base.specs.Contents.{Contents}
use Rattle.lldb_btree.specs.declared.node.Pair.{Pair}

-- nothing that can be stored
abbrev NoStore : Option Contents → ℕ → List ℕ → Type 0
NoStore told h bytes = (m : Contents) (d : ℕ) (pairs : List Pair) (under : List ℕ) → CanStore told m d h bytes pairs under → ⊥

pub returns-in_default-clause-refuses : goal.returns-in_default-clause-refuses
returns-in_default-clause-refuses g t c =
    let got : Got (g.H.Heap.map_of c.args.heap.now) c.args.handle c.as_slice.result.now = rw c.as_slice.ensures c.in_ok-read.ensures.read in
    headless (g.H.Heap.map_of c.args.heap.now) c.args.handle c.args.room c.as_slice.result.now got c.in_default.ensures.whole

pub returns-then-count-gt-NODE_LIMIT-clause-refuses : goal.returns-then-count-gt-NODE_LIMIT-clause-refuses
returns-then-count-gt-NODE_LIMIT-clause-refuses g t c =
    let got : Got (g.H.Heap.map_of c.args.heap.now) c.args.handle c.as_slice.result.now = rw c.as_slice.ensures c.in_ok-read.ensures.read in
    too_many (g.H.Heap.map_of c.args.heap.now) c.args.handle c.args.room c.as_slice.result.now c.in-Some.bytes.now c.in-Some.leaf c.in-Some.count got c.in-Some.ensures.whole (omega (arith, c.if-count-gt-NODE_LIMIT.true))

pub returns-then-leaf-clause-set : goal.returns-then-leaf-clause-set
returns-then-leaf-clause-set g t c =
    let got : Got (g.H.Heap.map_of c.args.heap.now) c.args.handle c.as_slice.result.now = rw c.as_slice.ensures c.in_ok-read.ensures.read in
    leaf_edited (g.H.Heap.map_of c.args.heap.now) (g.H.Heap.map_of c.read.new.self) c.args.handle c.args.room c.as_slice.result.now c.in-Some.bytes.now c.in-Some.leaf c.in-Some.count c.args.put.now.key c.args.put.now.value c.set_in_leaf.result got c.in-Some.ensures.whole c.if-leaf.true c.read.ensures.map c.set_in_leaf.ensures.set

pub returns-then-leaf-clause-refuses : goal.returns-then-leaf-clause-refuses
returns-then-leaf-clause-refuses g t c =
    let got : Got (g.H.Heap.map_of c.args.heap.now) c.args.handle c.as_slice.result.now = rw c.as_slice.ensures c.in_ok-read.ensures.read in
    refuses_last (λ _ _. ⊥) (IsFullFor (g.H.Heap.limit_of c.args.heap.now) (g.H.Heap.size_of c.read.new.self)) _ (NoEdit (g.H.Heap.map_of c.args.heap.now) c.args.handle c.args.room) c.set_in_leaf.result
    (never (IsFullFor (g.H.Heap.limit_of c.args.heap.now) (g.H.Heap.size_of c.read.new.self)))
    (leaf_refused (g.H.Heap.map_of c.args.heap.now) c.args.handle c.args.room c.as_slice.result.now c.in-Some.bytes.now c.in-Some.leaf c.in-Some.count got c.in-Some.ensures.whole c.if-leaf.true)
    c.set_in_leaf.ensures.refuses

pub returns-in_default-way-clause-refuses : goal.returns-in_default-way-clause-refuses
returns-in_default-way-clause-refuses g t c =
    let got : Got (g.H.Heap.map_of c.args.heap.now) c.args.handle c.as_slice.result.now = rw c.as_slice.ensures c.in_ok-read.ensures.read in
    wayless (g.H.Heap.map_of c.args.heap.now) c.args.handle c.args.room c.as_slice.result.now c.in-Some.bytes.now c.in-Some.leaf c.in-Some.count got c.in-Some.ensures.whole c.if-leaf.false c.in_default-way.ensures

pub returns-in_err-below-clause-refuses : goal.returns-in_err-below-clause-refuses
returns-in_err-below-clause-refuses g t c =
    let got : Got (g.H.Heap.map_of c.args.heap.now) c.args.handle c.as_slice.result.now = rw c.as_slice.ensures c.in_ok-read.ensures.read in
    let on : WayRead c.args.put.now.key c.in-Some.bytes.now c.in-Some.count c.in-Some-way.front.now c.in-Some-way.child c.in-Some-way.back.now = rw (sym c.args.put.now.from_is) c.in-Some-way.ensures in
    let go : AllGo (g.H.Heap.map_of c.args.heap.now) (g.H.Heap.map_of c.read.new.self) c.args.handle c.args.room c.in-Some.count c.args.put.now.key c.in-Some-way.front.now c.in-Some-way.back.now c.in-Some-way.child = goes (g.H.Heap.map_of c.args.heap.now) (g.H.Heap.map_of c.read.new.self) c.args.handle c.args.room c.as_slice.result.now c.in-Some.bytes.now c.in-Some.leaf c.in-Some.count c.args.put.now.key c.in-Some-way.front.now c.in-Some-way.back.now c.in-Some-way.child got c.in-Some.ensures.whole c.if-leaf.false on c.read.ensures.map in
    refuses_then Changed Changed (IsFullFor (g.H.Heap.limit_of c.read.new.self) (g.H.Heap.size_of c.set_below.new.heap)) (IsFullFor (g.H.Heap.limit_of c.args.heap.now) (g.H.Heap.size_of c.set_below.new.heap))
    (NoEdit (g.H.Heap.map_of c.read.new.self) c.in-Some-way.child (c.args.room - 1)) (NoEdit (g.H.Heap.map_of c.args.heap.now) c.args.handle c.args.room)
    c.from_residual-in_err-below.result c.in_err-below.field-0.0 c.from_residual-in_err-below.ensures.1
    (full_kept (g.H.Heap.limit_of c.read.new.self) (g.H.Heap.limit_of c.args.heap.now) (g.H.Heap.size_of c.set_below.new.heap) (sym c.read.ensures.limit))
    (below_refused (g.H.Heap.map_of c.args.heap.now) (g.H.Heap.map_of c.read.new.self) c.args.handle c.args.room c.in-Some.count c.args.put.now.key c.in-Some-way.front.now c.in-Some-way.back.now c.in-Some-way.child go)
    c.in_err-below.ensures.refuses

pub returns-clause-set : goal.returns-clause-set
returns-clause-set g t c =
    let got : Got (g.H.Heap.map_of c.args.heap.now) c.args.handle c.as_slice.result.now = rw c.as_slice.ensures c.in_ok-read.ensures.read in
    let on : WayRead c.args.put.now.key c.in-Some.bytes.now c.in-Some.count c.in-Some-way.front.now c.in-Some-way.child c.in-Some-way.back.now = rw (sym c.args.put.now.from_is) c.in-Some-way.ensures in
    let go : AllGo (g.H.Heap.map_of c.args.heap.now) (g.H.Heap.map_of c.read.new.self) c.args.handle c.args.room c.in-Some.count c.args.put.now.key c.in-Some-way.front.now c.in-Some-way.back.now c.in-Some-way.child = goes (g.H.Heap.map_of c.args.heap.now) (g.H.Heap.map_of c.read.new.self) c.args.handle c.args.room c.as_slice.result.now c.in-Some.bytes.now c.in-Some.leaf c.in-Some.count c.args.put.now.key c.in-Some-way.front.now c.in-Some-way.back.now c.in-Some-way.child got c.in-Some.ensures.whole c.if-leaf.false on c.read.ensures.map in
    let below : BelowSet (g.H.Heap.map_of c.read.new.self) (g.H.Heap.map_of c.set_below.new.heap) c.in-Some-way.child (c.args.room - 1) c.args.put.now.key c.args.put.now.value c.as_slice-2.result.now = rw c.as_slice-2.ensures c.in_ok-below.ensures.set in
    inner_edited (g.H.Heap.map_of c.args.heap.now) (g.H.Heap.map_of c.read.new.self) (g.H.Heap.map_of c.set_below.new.heap) (g.H.Heap.map_of c.store.new.heap) c.args.handle c.args.room c.in-Some.count c.args.put.now.key c.args.put.now.value c.in-Some-way.front.now c.in-Some-way.back.now c.as_slice-2.result.now c.in_ok-stored.stored.entries c.in_ok-node.node c.in-Some-way.child c.in_ok-stored.stored.count (c.in-Some.count + c.in_ok-stored.stored.count - 1) c.in_ok-below.below.ends c.args.put.now.key_fits c.args.put.now.value_fits go below c.in_ok-below.ensures.ends (rw c.as_slice-3.ensures at c.in_ok-stored.ensures.stored) c.in_ok-stored.ensures.few (omega (arith, c.in_ok-stored.ensures.few.0)) (rw c.as_slice-4.ensures at c.in_ok-node.ensures)

pub returns-in_err-below-clause-reads : goal.returns-in_err-below-clause-reads
returns-in_err-below-clause-reads g t c =
    let got : Got (g.H.Heap.map_of c.args.heap.now) c.args.handle c.as_slice.result.now = rw c.as_slice.ensures c.in_ok-read.ensures.read in
    let on : WayRead c.args.put.now.key c.in-Some.bytes.now c.in-Some.count c.in-Some-way.front.now c.in-Some-way.child c.in-Some-way.back.now = rw (sym c.args.put.now.from_is) c.in-Some-way.ensures in
    let go : AllGo (g.H.Heap.map_of c.args.heap.now) (g.H.Heap.map_of c.read.new.self) c.args.handle c.args.room c.in-Some.count c.args.put.now.key c.in-Some-way.front.now c.in-Some-way.back.now c.in-Some-way.child = goes (g.H.Heap.map_of c.args.heap.now) (g.H.Heap.map_of c.read.new.self) c.args.handle c.args.room c.as_slice.result.now c.in-Some.bytes.now c.in-Some.leaf c.in-Some.count c.args.put.now.key c.in-Some-way.front.now c.in-Some-way.back.now c.in-Some-way.child got c.in-Some.ensures.whole c.if-leaf.false on c.read.ensures.map in
    below_reads (g.H.Heap.map_of c.args.heap.now) (g.H.Heap.map_of c.read.new.self) c.args.handle c.args.room c.in-Some.count c.args.put.now.key c.in-Some-way.front.now c.in-Some-way.back.now c.in-Some-way.child go (g.H.Heap.reads_of c.args.heap.now) (g.H.Heap.reads_of c.read.new.self) (g.H.Heap.reads_of c.set_below.new.heap) (omega (arith, c.in_ok-read.ensures.reads)) c.set_below.ensures.reads

pub returns-in_err-stored-clause-reads : goal.returns-in_err-stored-clause-reads
returns-in_err-stored-clause-reads g t c =
    let got : Got (g.H.Heap.map_of c.args.heap.now) c.args.handle c.as_slice.result.now = rw c.as_slice.ensures c.in_ok-read.ensures.read in
    let on : WayRead c.args.put.now.key c.in-Some.bytes.now c.in-Some.count c.in-Some-way.front.now c.in-Some-way.child c.in-Some-way.back.now = rw (sym c.args.put.now.from_is) c.in-Some-way.ensures in
    let go : AllGo (g.H.Heap.map_of c.args.heap.now) (g.H.Heap.map_of c.read.new.self) c.args.handle c.args.room c.in-Some.count c.args.put.now.key c.in-Some-way.front.now c.in-Some-way.back.now c.in-Some-way.child = goes (g.H.Heap.map_of c.args.heap.now) (g.H.Heap.map_of c.read.new.self) c.args.handle c.args.room c.as_slice.result.now c.in-Some.bytes.now c.in-Some.leaf c.in-Some.count c.args.put.now.key c.in-Some-way.front.now c.in-Some-way.back.now c.in-Some-way.child got c.in-Some.ensures.whole c.if-leaf.false on c.read.ensures.map in
    rw c.store.ensures.reads (below_reads (g.H.Heap.map_of c.args.heap.now) (g.H.Heap.map_of c.read.new.self) c.args.handle c.args.room c.in-Some.count c.args.put.now.key c.in-Some-way.front.now c.in-Some-way.back.now c.in-Some-way.child go (g.H.Heap.reads_of c.args.heap.now) (g.H.Heap.reads_of c.read.new.self) (g.H.Heap.reads_of c.set_below.new.heap) (omega (arith, c.in_ok-read.ensures.reads)) c.set_below.ensures.reads)

pub returns-in_err-node-clause-reads : goal.returns-in_err-node-clause-reads
returns-in_err-node-clause-reads g t c =
    let got : Got (g.H.Heap.map_of c.args.heap.now) c.args.handle c.as_slice.result.now = rw c.as_slice.ensures c.in_ok-read.ensures.read in
    let on : WayRead c.args.put.now.key c.in-Some.bytes.now c.in-Some.count c.in-Some-way.front.now c.in-Some-way.child c.in-Some-way.back.now = rw (sym c.args.put.now.from_is) c.in-Some-way.ensures in
    let go : AllGo (g.H.Heap.map_of c.args.heap.now) (g.H.Heap.map_of c.read.new.self) c.args.handle c.args.room c.in-Some.count c.args.put.now.key c.in-Some-way.front.now c.in-Some-way.back.now c.in-Some-way.child = goes (g.H.Heap.map_of c.args.heap.now) (g.H.Heap.map_of c.read.new.self) c.args.handle c.args.room c.as_slice.result.now c.in-Some.bytes.now c.in-Some.leaf c.in-Some.count c.args.put.now.key c.in-Some-way.front.now c.in-Some-way.back.now c.in-Some-way.child got c.in-Some.ensures.whole c.if-leaf.false on c.read.ensures.map in
    rw c.store.ensures.reads (below_reads (g.H.Heap.map_of c.args.heap.now) (g.H.Heap.map_of c.read.new.self) c.args.handle c.args.room c.in-Some.count c.args.put.now.key c.in-Some-way.front.now c.in-Some-way.back.now c.in-Some-way.child go (g.H.Heap.reads_of c.args.heap.now) (g.H.Heap.reads_of c.read.new.self) (g.H.Heap.reads_of c.set_below.new.heap) (omega (arith, c.in_ok-read.ensures.reads)) c.set_below.ensures.reads)

pub returns-clause-reads : goal.returns-clause-reads
returns-clause-reads g t c =
    let got : Got (g.H.Heap.map_of c.args.heap.now) c.args.handle c.as_slice.result.now = rw c.as_slice.ensures c.in_ok-read.ensures.read in
    let on : WayRead c.args.put.now.key c.in-Some.bytes.now c.in-Some.count c.in-Some-way.front.now c.in-Some-way.child c.in-Some-way.back.now = rw (sym c.args.put.now.from_is) c.in-Some-way.ensures in
    let go : AllGo (g.H.Heap.map_of c.args.heap.now) (g.H.Heap.map_of c.read.new.self) c.args.handle c.args.room c.in-Some.count c.args.put.now.key c.in-Some-way.front.now c.in-Some-way.back.now c.in-Some-way.child = goes (g.H.Heap.map_of c.args.heap.now) (g.H.Heap.map_of c.read.new.self) c.args.handle c.args.room c.as_slice.result.now c.in-Some.bytes.now c.in-Some.leaf c.in-Some.count c.args.put.now.key c.in-Some-way.front.now c.in-Some-way.back.now c.in-Some-way.child got c.in-Some.ensures.whole c.if-leaf.false on c.read.ensures.map in
    rw c.store.ensures.reads (below_reads (g.H.Heap.map_of c.args.heap.now) (g.H.Heap.map_of c.read.new.self) c.args.handle c.args.room c.in-Some.count c.args.put.now.key c.in-Some-way.front.now c.in-Some-way.back.now c.in-Some-way.child go (g.H.Heap.reads_of c.args.heap.now) (g.H.Heap.reads_of c.read.new.self) (g.H.Heap.reads_of c.set_below.new.heap) (omega (arith, c.in_ok-read.ensures.reads)) c.set_below.ensures.reads)

pub returns-in_err-stored-clause-refuses : goal.returns-in_err-stored-clause-refuses
returns-in_err-stored-clause-refuses g t c =
    let got : Got (g.H.Heap.map_of c.args.heap.now) c.args.handle c.as_slice.result.now = rw c.as_slice.ensures c.in_ok-read.ensures.read in
    let on : WayRead c.args.put.now.key c.in-Some.bytes.now c.in-Some.count c.in-Some-way.front.now c.in-Some-way.child c.in-Some-way.back.now = rw (sym c.args.put.now.from_is) c.in-Some-way.ensures in
    let go : AllGo (g.H.Heap.map_of c.args.heap.now) (g.H.Heap.map_of c.read.new.self) c.args.handle c.args.room c.in-Some.count c.args.put.now.key c.in-Some-way.front.now c.in-Some-way.back.now c.in-Some-way.child = goes (g.H.Heap.map_of c.args.heap.now) (g.H.Heap.map_of c.read.new.self) c.args.handle c.args.room c.as_slice.result.now c.in-Some.bytes.now c.in-Some.leaf c.in-Some.count c.args.put.now.key c.in-Some-way.front.now c.in-Some-way.back.now c.in-Some-way.child got c.in-Some.ensures.whole c.if-leaf.false on c.read.ensures.map in
    let below : BelowSet (g.H.Heap.map_of c.read.new.self) (g.H.Heap.map_of c.set_below.new.heap) c.in-Some-way.child (c.args.room - 1) c.args.put.now.key c.args.put.now.value c.as_slice-2.result.now = rw c.as_slice-2.ensures c.in_ok-below.ensures.set in
    refuses_then Stored Changed (IsFullFor (g.H.Heap.limit_of c.set_below.new.heap) (g.H.Heap.size_of c.store.new.heap)) (IsFullFor (g.H.Heap.limit_of c.args.heap.now) (g.H.Heap.size_of c.store.new.heap))
    (NoStore (g.H.Heap.map_of c.set_below.new.heap) c.in-Some-way.child c.as_slice-2.result.now) (NoEdit (g.H.Heap.map_of c.args.heap.now) c.args.handle c.args.room)
    c.from_residual-in_err-stored.result c.in_err-stored.field-0.0 c.from_residual-in_err-stored.ensures.1
    (full_kept (g.H.Heap.limit_of c.set_below.new.heap) (g.H.Heap.limit_of c.args.heap.now) (g.H.Heap.size_of c.store.new.heap) (sym (c.set_below.ensures.frame.limit ∙ c.read.ensures.limit)))
    (store_refused (g.H.Heap.map_of c.args.heap.now) (g.H.Heap.map_of c.read.new.self) (g.H.Heap.map_of c.set_below.new.heap) c.args.handle c.args.room c.in-Some.count c.args.put.now.key c.args.put.now.value c.in-Some-way.front.now c.in-Some-way.back.now c.as_slice-2.result.now c.in-Some-way.child c.args.put.now.key_fits c.args.put.now.value_fits go below)
    c.in_err-stored.ensures.refuses

pub returns-then-leaf-clause-cause : goal.returns-then-leaf-clause-cause
returns-then-leaf-clause-cause g t c = caused_last Changed c.set_in_leaf.result c.set_in_leaf.ensures.cause c.in_ok-read.ensures.cause

pub returns-then-leaf-clause-ends : goal.returns-then-leaf-clause-ends
returns-then-leaf-clause-ends g t c =
    let got : Got (g.H.Heap.map_of c.args.heap.now) c.args.handle c.as_slice.result.now = rw c.as_slice.ensures c.in_ok-read.ensures.read in
    leaf_ended (g.H.Heap.map_of c.args.heap.now) c.args.handle c.args.room c.as_slice.result.now c.in-Some.bytes.now c.in-Some.leaf c.in-Some.count c.args.put.now.key c.args.put.now.value c.set_in_leaf.result got c.in-Some.ensures.whole c.if-leaf.true c.set_in_leaf.ensures.ends

pub returns-clause-ends : goal.returns-clause-ends
returns-clause-ends g t c =
    let got : Got (g.H.Heap.map_of c.args.heap.now) c.args.handle c.as_slice.result.now = rw c.as_slice.ensures c.in_ok-read.ensures.read in
    let on : WayRead c.args.put.now.key c.in-Some.bytes.now c.in-Some.count c.in-Some-way.front.now c.in-Some-way.child c.in-Some-way.back.now = rw (sym c.args.put.now.from_is) c.in-Some-way.ensures in
    let go : AllGo (g.H.Heap.map_of c.args.heap.now) (g.H.Heap.map_of c.read.new.self) c.args.handle c.args.room c.in-Some.count c.args.put.now.key c.in-Some-way.front.now c.in-Some-way.back.now c.in-Some-way.child = goes (g.H.Heap.map_of c.args.heap.now) (g.H.Heap.map_of c.read.new.self) c.args.handle c.args.room c.as_slice.result.now c.in-Some.bytes.now c.in-Some.leaf c.in-Some.count c.args.put.now.key c.in-Some-way.front.now c.in-Some-way.back.now c.in-Some-way.child got c.in-Some.ensures.whole c.if-leaf.false on c.read.ensures.map in
    inner_ended (g.H.Heap.map_of c.args.heap.now) (g.H.Heap.map_of c.read.new.self) c.args.handle c.args.room c.in-Some.count c.args.put.now.key c.args.put.now.value c.in-Some-way.front.now c.in-Some-way.back.now c.in-Some-way.child c.in_ok-below.below.ends c.is_last-ends.result go c.in_ok-below.ensures.ends c.is_last-ends.ensures

pub returns-in_err-below-clause-grows : goal.returns-in_err-below-clause-grows
returns-in_err-below-clause-grows g t c =
    let got : Got (g.H.Heap.map_of c.args.heap.now) c.args.handle c.as_slice.result.now = rw c.as_slice.ensures c.in_ok-read.ensures.read in
    let on : WayRead c.args.put.now.key c.in-Some.bytes.now c.in-Some.count c.in-Some-way.front.now c.in-Some-way.child c.in-Some-way.back.now = rw (sym c.args.put.now.from_is) c.in-Some-way.ensures in
    let go : AllGo (g.H.Heap.map_of c.args.heap.now) (g.H.Heap.map_of c.read.new.self) c.args.handle c.args.room c.in-Some.count c.args.put.now.key c.in-Some-way.front.now c.in-Some-way.back.now c.in-Some-way.child = goes (g.H.Heap.map_of c.args.heap.now) (g.H.Heap.map_of c.read.new.self) c.args.handle c.args.room c.as_slice.result.now c.in-Some.bytes.now c.in-Some.leaf c.in-Some.count c.args.put.now.key c.in-Some-way.front.now c.in-Some-way.back.now c.in-Some-way.child got c.in-Some.ensures.whole c.if-leaf.false on c.read.ensures.map in
    below_grows (g.H.Heap.map_of c.args.heap.now) (g.H.Heap.map_of c.read.new.self) c.args.handle c.args.room c.in-Some.count c.args.put.now.key c.in-Some-way.front.now c.in-Some-way.back.now c.in-Some-way.child go (g.H.Heap.size_of c.args.heap.now) (g.H.Heap.size_of c.read.new.self) (g.H.Heap.size_of c.set_below.new.heap) (g.H.Heap.size_of c.set_below.new.heap) c.read.ensures.size (omega arith) c.set_below.ensures.grows

pub returns-in_err-stored-clause-grows : goal.returns-in_err-stored-clause-grows
returns-in_err-stored-clause-grows g t c =
    let got : Got (g.H.Heap.map_of c.args.heap.now) c.args.handle c.as_slice.result.now = rw c.as_slice.ensures c.in_ok-read.ensures.read in
    let on : WayRead c.args.put.now.key c.in-Some.bytes.now c.in-Some.count c.in-Some-way.front.now c.in-Some-way.child c.in-Some-way.back.now = rw (sym c.args.put.now.from_is) c.in-Some-way.ensures in
    let go : AllGo (g.H.Heap.map_of c.args.heap.now) (g.H.Heap.map_of c.read.new.self) c.args.handle c.args.room c.in-Some.count c.args.put.now.key c.in-Some-way.front.now c.in-Some-way.back.now c.in-Some-way.child = goes (g.H.Heap.map_of c.args.heap.now) (g.H.Heap.map_of c.read.new.self) c.args.handle c.args.room c.as_slice.result.now c.in-Some.bytes.now c.in-Some.leaf c.in-Some.count c.args.put.now.key c.in-Some-way.front.now c.in-Some-way.back.now c.in-Some-way.child got c.in-Some.ensures.whole c.if-leaf.false on c.read.ensures.map in
    below_grows (g.H.Heap.map_of c.args.heap.now) (g.H.Heap.map_of c.read.new.self) c.args.handle c.args.room c.in-Some.count c.args.put.now.key c.in-Some-way.front.now c.in-Some-way.back.now c.in-Some-way.child go (g.H.Heap.size_of c.args.heap.now) (g.H.Heap.size_of c.read.new.self) (g.H.Heap.size_of c.set_below.new.heap) (g.H.Heap.size_of c.store.new.heap) c.read.ensures.size (c.store.ensures.grows) c.set_below.ensures.grows

pub returns-in_err-node-clause-grows : goal.returns-in_err-node-clause-grows
returns-in_err-node-clause-grows g t c =
    let got : Got (g.H.Heap.map_of c.args.heap.now) c.args.handle c.as_slice.result.now = rw c.as_slice.ensures c.in_ok-read.ensures.read in
    let on : WayRead c.args.put.now.key c.in-Some.bytes.now c.in-Some.count c.in-Some-way.front.now c.in-Some-way.child c.in-Some-way.back.now = rw (sym c.args.put.now.from_is) c.in-Some-way.ensures in
    let go : AllGo (g.H.Heap.map_of c.args.heap.now) (g.H.Heap.map_of c.read.new.self) c.args.handle c.args.room c.in-Some.count c.args.put.now.key c.in-Some-way.front.now c.in-Some-way.back.now c.in-Some-way.child = goes (g.H.Heap.map_of c.args.heap.now) (g.H.Heap.map_of c.read.new.self) c.args.handle c.args.room c.as_slice.result.now c.in-Some.bytes.now c.in-Some.leaf c.in-Some.count c.args.put.now.key c.in-Some-way.front.now c.in-Some-way.back.now c.in-Some-way.child got c.in-Some.ensures.whole c.if-leaf.false on c.read.ensures.map in
    below_grows (g.H.Heap.map_of c.args.heap.now) (g.H.Heap.map_of c.read.new.self) c.args.handle c.args.room c.in-Some.count c.args.put.now.key c.in-Some-way.front.now c.in-Some-way.back.now c.in-Some-way.child go (g.H.Heap.size_of c.args.heap.now) (g.H.Heap.size_of c.read.new.self) (g.H.Heap.size_of c.set_below.new.heap) (g.H.Heap.size_of c.store.new.heap) c.read.ensures.size (c.store.ensures.grows) c.set_below.ensures.grows

pub returns-clause-grows : goal.returns-clause-grows
returns-clause-grows g t c =
    let got : Got (g.H.Heap.map_of c.args.heap.now) c.args.handle c.as_slice.result.now = rw c.as_slice.ensures c.in_ok-read.ensures.read in
    let on : WayRead c.args.put.now.key c.in-Some.bytes.now c.in-Some.count c.in-Some-way.front.now c.in-Some-way.child c.in-Some-way.back.now = rw (sym c.args.put.now.from_is) c.in-Some-way.ensures in
    let go : AllGo (g.H.Heap.map_of c.args.heap.now) (g.H.Heap.map_of c.read.new.self) c.args.handle c.args.room c.in-Some.count c.args.put.now.key c.in-Some-way.front.now c.in-Some-way.back.now c.in-Some-way.child = goes (g.H.Heap.map_of c.args.heap.now) (g.H.Heap.map_of c.read.new.self) c.args.handle c.args.room c.as_slice.result.now c.in-Some.bytes.now c.in-Some.leaf c.in-Some.count c.args.put.now.key c.in-Some-way.front.now c.in-Some-way.back.now c.in-Some-way.child got c.in-Some.ensures.whole c.if-leaf.false on c.read.ensures.map in
    below_grows (g.H.Heap.map_of c.args.heap.now) (g.H.Heap.map_of c.read.new.self) c.args.handle c.args.room c.in-Some.count c.args.put.now.key c.in-Some-way.front.now c.in-Some-way.back.now c.in-Some-way.child go (g.H.Heap.size_of c.args.heap.now) (g.H.Heap.size_of c.read.new.self) (g.H.Heap.size_of c.set_below.new.heap) (g.H.Heap.size_of c.store.new.heap) c.read.ensures.size (c.store.ensures.grows) c.set_below.ensures.grows
