use Rattle.std.proofs.Common.{◌-◌, ℕ, List, Option, Some, sym, ap, ◌∙◌, arith}
use Rattle.lldb_btree.specs.Splicing.{IsFullFor}
use Rattle.lldb_btree.proofs.Below.{WayRead, headless, wayless}
use Rattle.lldb_btree.proofs.Full.{full_kept}
use Rattle.lldb_btree.proofs.Splices.{refuses_then}
use Rattle.lldb_btree.proofs.Steps.{Got}
use Rattle.lldb_btree.proofs.Taking.{NoTake, NoPut, AllTake, no_take, leaf_taken, takes, below_untaken, below_none, below_reads, below_grows, put_refused, put_taken}
use Rattle.lldb_btree.proofs.remove.+remove_below.Goals as goal

pub returns-in_default-clause-refuses : goal.returns-in_default-clause-refuses
returns-in_default-clause-refuses g t c =
    let got : Got (g.H.Heap.map_of c.args.heap.now) c.args.handle c.as_slice.result.now = rw c.as_slice.ensures c.in_ok-read.ensures.read in
    no_take (g.H.Heap.map_of c.args.heap.now) c.args.handle c.args.room (headless (g.H.Heap.map_of c.args.heap.now) c.args.handle c.args.room c.as_slice.result.now got c.in_default.ensures.whole)

pub returns-then-leaf-clause-taken : goal.returns-then-leaf-clause-taken
returns-then-leaf-clause-taken g t c =
    let got : Got (g.H.Heap.map_of c.args.heap.now) c.args.handle c.as_slice.result.now = rw c.as_slice.ensures c.in_ok-read.ensures.read in
    leaf_taken (g.H.Heap.map_of c.args.heap.now) (g.H.Heap.map_of c.read.new.self) c.args.handle c.args.room c.as_slice.result.now c.in-Some.bytes.now c.in-Some.leaf c.in-Some.count c.args.wanted.now.key c.remove_in_leaf.result got c.in-Some.ensures.whole c.if-leaf.true c.read.ensures.map c.remove_in_leaf.ensures.taken

pub returns-in_default-way-clause-refuses : goal.returns-in_default-way-clause-refuses
returns-in_default-way-clause-refuses g t c =
    let got : Got (g.H.Heap.map_of c.args.heap.now) c.args.handle c.as_slice.result.now = rw c.as_slice.ensures c.in_ok-read.ensures.read in
    no_take (g.H.Heap.map_of c.args.heap.now) c.args.handle c.args.room (wayless (g.H.Heap.map_of c.args.heap.now) c.args.handle c.args.room c.as_slice.result.now c.in-Some.bytes.now c.in-Some.leaf c.in-Some.count got c.in-Some.ensures.whole c.if-leaf.false c.in_default-way.ensures)

pub returns-in_err-below-clause-refuses : goal.returns-in_err-below-clause-refuses
returns-in_err-below-clause-refuses g t c =
    let got : Got (g.H.Heap.map_of c.args.heap.now) c.args.handle c.as_slice.result.now = rw c.as_slice.ensures c.in_ok-read.ensures.read in
    let on : WayRead c.args.wanted.now.key c.in-Some.bytes.now c.in-Some.count c.in-Some-way.front.now c.in-Some-way.child c.in-Some-way.back.now = rw (sym c.args.wanted.now.from_is) c.in-Some-way.ensures in
    let go : AllTake (g.H.Heap.map_of c.args.heap.now) (g.H.Heap.map_of c.read.new.self) c.args.handle c.args.room c.in-Some.count c.args.wanted.now.key c.in-Some-way.front.now c.in-Some-way.back.now c.in-Some-way.child = takes (g.H.Heap.map_of c.args.heap.now) (g.H.Heap.map_of c.read.new.self) c.args.handle c.args.room c.as_slice.result.now c.in-Some.bytes.now c.in-Some.leaf c.in-Some.count c.args.wanted.now.key c.in-Some-way.front.now c.in-Some-way.back.now c.in-Some-way.child got c.in-Some.ensures.whole c.if-leaf.false on c.read.ensures.map in
    refuses_then (Option (List ℕ)) (Option (List ℕ)) (IsFullFor (g.H.Heap.limit_of c.read.new.self) (g.H.Heap.size_of c.remove_below.new.heap)) (IsFullFor (g.H.Heap.limit_of c.args.heap.now) (g.H.Heap.size_of c.remove_below.new.heap))
    (NoTake (g.H.Heap.map_of c.read.new.self) c.in-Some-way.child (c.args.room - 1)) (NoTake (g.H.Heap.map_of c.args.heap.now) c.args.handle c.args.room)
    c.from_residual-in_err-below.result c.in_err-below.field-0.0 c.from_residual-in_err-below.ensures.1
    (full_kept (g.H.Heap.limit_of c.read.new.self) (g.H.Heap.limit_of c.args.heap.now) (g.H.Heap.size_of c.remove_below.new.heap) (sym c.read.ensures.limit))
    (below_untaken (g.H.Heap.map_of c.args.heap.now) (g.H.Heap.map_of c.read.new.self) c.args.handle c.args.room c.in-Some.count c.args.wanted.now.key c.in-Some-way.front.now c.in-Some-way.back.now c.in-Some-way.child go)
    c.in_err-below.ensures.refuses

pub returns-in_err-below-clause-reads : goal.returns-in_err-below-clause-reads
returns-in_err-below-clause-reads g t c =
    let got : Got (g.H.Heap.map_of c.args.heap.now) c.args.handle c.as_slice.result.now = rw c.as_slice.ensures c.in_ok-read.ensures.read in
    let on : WayRead c.args.wanted.now.key c.in-Some.bytes.now c.in-Some.count c.in-Some-way.front.now c.in-Some-way.child c.in-Some-way.back.now = rw (sym c.args.wanted.now.from_is) c.in-Some-way.ensures in
    let go : AllTake (g.H.Heap.map_of c.args.heap.now) (g.H.Heap.map_of c.read.new.self) c.args.handle c.args.room c.in-Some.count c.args.wanted.now.key c.in-Some-way.front.now c.in-Some-way.back.now c.in-Some-way.child = takes (g.H.Heap.map_of c.args.heap.now) (g.H.Heap.map_of c.read.new.self) c.args.handle c.args.room c.as_slice.result.now c.in-Some.bytes.now c.in-Some.leaf c.in-Some.count c.args.wanted.now.key c.in-Some-way.front.now c.in-Some-way.back.now c.in-Some-way.child got c.in-Some.ensures.whole c.if-leaf.false on c.read.ensures.map in
    below_reads (g.H.Heap.map_of c.args.heap.now) (g.H.Heap.map_of c.read.new.self) c.args.handle c.args.room c.in-Some.count c.args.wanted.now.key c.in-Some-way.front.now c.in-Some-way.back.now c.in-Some-way.child go (g.H.Heap.reads_of c.args.heap.now) (g.H.Heap.reads_of c.read.new.self) (g.H.Heap.reads_of c.remove_below.new.heap) (g.H.Heap.reads_of c.remove_below.new.heap) (omega (arith, c.in_ok-read.ensures.reads)) (omega arith) c.remove_below.ensures.reads

pub returns-in_err-below-clause-grows : goal.returns-in_err-below-clause-grows
returns-in_err-below-clause-grows g t c =
    let got : Got (g.H.Heap.map_of c.args.heap.now) c.args.handle c.as_slice.result.now = rw c.as_slice.ensures c.in_ok-read.ensures.read in
    let on : WayRead c.args.wanted.now.key c.in-Some.bytes.now c.in-Some.count c.in-Some-way.front.now c.in-Some-way.child c.in-Some-way.back.now = rw (sym c.args.wanted.now.from_is) c.in-Some-way.ensures in
    let go : AllTake (g.H.Heap.map_of c.args.heap.now) (g.H.Heap.map_of c.read.new.self) c.args.handle c.args.room c.in-Some.count c.args.wanted.now.key c.in-Some-way.front.now c.in-Some-way.back.now c.in-Some-way.child = takes (g.H.Heap.map_of c.args.heap.now) (g.H.Heap.map_of c.read.new.self) c.args.handle c.args.room c.as_slice.result.now c.in-Some.bytes.now c.in-Some.leaf c.in-Some.count c.args.wanted.now.key c.in-Some-way.front.now c.in-Some-way.back.now c.in-Some-way.child got c.in-Some.ensures.whole c.if-leaf.false on c.read.ensures.map in
    below_grows (g.H.Heap.map_of c.args.heap.now) (g.H.Heap.map_of c.read.new.self) c.args.handle c.args.room c.in-Some.count c.args.wanted.now.key c.in-Some-way.front.now c.in-Some-way.back.now c.in-Some-way.child go (g.H.Heap.size_of c.args.heap.now) (g.H.Heap.size_of c.read.new.self) (g.H.Heap.size_of c.remove_below.new.heap) (g.H.Heap.size_of c.remove_below.new.heap) c.read.ensures.size (omega arith) c.remove_below.ensures.grows

pub returns-in_default-below-clause-reads : goal.returns-in_default-below-clause-reads
returns-in_default-below-clause-reads g t c =
    let got : Got (g.H.Heap.map_of c.args.heap.now) c.args.handle c.as_slice.result.now = rw c.as_slice.ensures c.in_ok-read.ensures.read in
    let on : WayRead c.args.wanted.now.key c.in-Some.bytes.now c.in-Some.count c.in-Some-way.front.now c.in-Some-way.child c.in-Some-way.back.now = rw (sym c.args.wanted.now.from_is) c.in-Some-way.ensures in
    let go : AllTake (g.H.Heap.map_of c.args.heap.now) (g.H.Heap.map_of c.read.new.self) c.args.handle c.args.room c.in-Some.count c.args.wanted.now.key c.in-Some-way.front.now c.in-Some-way.back.now c.in-Some-way.child = takes (g.H.Heap.map_of c.args.heap.now) (g.H.Heap.map_of c.read.new.self) c.args.handle c.args.room c.as_slice.result.now c.in-Some.bytes.now c.in-Some.leaf c.in-Some.count c.args.wanted.now.key c.in-Some-way.front.now c.in-Some-way.back.now c.in-Some-way.child got c.in-Some.ensures.whole c.if-leaf.false on c.read.ensures.map in
    below_reads (g.H.Heap.map_of c.args.heap.now) (g.H.Heap.map_of c.read.new.self) c.args.handle c.args.room c.in-Some.count c.args.wanted.now.key c.in-Some-way.front.now c.in-Some-way.back.now c.in-Some-way.child go (g.H.Heap.reads_of c.args.heap.now) (g.H.Heap.reads_of c.read.new.self) (g.H.Heap.reads_of c.remove_below.new.heap) (g.H.Heap.reads_of c.remove_below.new.heap) (omega (arith, c.in_ok-read.ensures.reads)) (omega arith) c.remove_below.ensures.reads

pub returns-in_err-node-clause-reads : goal.returns-in_err-node-clause-reads
returns-in_err-node-clause-reads g t c =
    let got : Got (g.H.Heap.map_of c.args.heap.now) c.args.handle c.as_slice.result.now = rw c.as_slice.ensures c.in_ok-read.ensures.read in
    let on : WayRead c.args.wanted.now.key c.in-Some.bytes.now c.in-Some.count c.in-Some-way.front.now c.in-Some-way.child c.in-Some-way.back.now = rw (sym c.args.wanted.now.from_is) c.in-Some-way.ensures in
    let go : AllTake (g.H.Heap.map_of c.args.heap.now) (g.H.Heap.map_of c.read.new.self) c.args.handle c.args.room c.in-Some.count c.args.wanted.now.key c.in-Some-way.front.now c.in-Some-way.back.now c.in-Some-way.child = takes (g.H.Heap.map_of c.args.heap.now) (g.H.Heap.map_of c.read.new.self) c.args.handle c.args.room c.as_slice.result.now c.in-Some.bytes.now c.in-Some.leaf c.in-Some.count c.args.wanted.now.key c.in-Some-way.front.now c.in-Some-way.back.now c.in-Some-way.child got c.in-Some.ensures.whole c.if-leaf.false on c.read.ensures.map in
    below_reads (g.H.Heap.map_of c.args.heap.now) (g.H.Heap.map_of c.read.new.self) c.args.handle c.args.room c.in-Some.count c.args.wanted.now.key c.in-Some-way.front.now c.in-Some-way.back.now c.in-Some-way.child go (g.H.Heap.reads_of c.args.heap.now) (g.H.Heap.reads_of c.read.new.self) (g.H.Heap.reads_of c.remove_below.new.heap) (g.H.Heap.reads_of c.put_back.new.heap) (omega (arith, c.in_ok-read.ensures.reads)) c.put_back.ensures.reads c.remove_below.ensures.reads

pub returns-in_err-node-clause-grows : goal.returns-in_err-node-clause-grows
returns-in_err-node-clause-grows g t c =
    let got : Got (g.H.Heap.map_of c.args.heap.now) c.args.handle c.as_slice.result.now = rw c.as_slice.ensures c.in_ok-read.ensures.read in
    let on : WayRead c.args.wanted.now.key c.in-Some.bytes.now c.in-Some.count c.in-Some-way.front.now c.in-Some-way.child c.in-Some-way.back.now = rw (sym c.args.wanted.now.from_is) c.in-Some-way.ensures in
    let go : AllTake (g.H.Heap.map_of c.args.heap.now) (g.H.Heap.map_of c.read.new.self) c.args.handle c.args.room c.in-Some.count c.args.wanted.now.key c.in-Some-way.front.now c.in-Some-way.back.now c.in-Some-way.child = takes (g.H.Heap.map_of c.args.heap.now) (g.H.Heap.map_of c.read.new.self) c.args.handle c.args.room c.as_slice.result.now c.in-Some.bytes.now c.in-Some.leaf c.in-Some.count c.args.wanted.now.key c.in-Some-way.front.now c.in-Some-way.back.now c.in-Some-way.child got c.in-Some.ensures.whole c.if-leaf.false on c.read.ensures.map in
    below_grows (g.H.Heap.map_of c.args.heap.now) (g.H.Heap.map_of c.read.new.self) c.args.handle c.args.room c.in-Some.count c.args.wanted.now.key c.in-Some-way.front.now c.in-Some-way.back.now c.in-Some-way.child go (g.H.Heap.size_of c.args.heap.now) (g.H.Heap.size_of c.read.new.self) (g.H.Heap.size_of c.remove_below.new.heap) (g.H.Heap.size_of c.put_back.new.heap) c.read.ensures.size c.put_back.ensures.grows c.remove_below.ensures.grows

pub returns-clause-reads : goal.returns-clause-reads
returns-clause-reads g t c =
    let got : Got (g.H.Heap.map_of c.args.heap.now) c.args.handle c.as_slice.result.now = rw c.as_slice.ensures c.in_ok-read.ensures.read in
    let on : WayRead c.args.wanted.now.key c.in-Some.bytes.now c.in-Some.count c.in-Some-way.front.now c.in-Some-way.child c.in-Some-way.back.now = rw (sym c.args.wanted.now.from_is) c.in-Some-way.ensures in
    let go : AllTake (g.H.Heap.map_of c.args.heap.now) (g.H.Heap.map_of c.read.new.self) c.args.handle c.args.room c.in-Some.count c.args.wanted.now.key c.in-Some-way.front.now c.in-Some-way.back.now c.in-Some-way.child = takes (g.H.Heap.map_of c.args.heap.now) (g.H.Heap.map_of c.read.new.self) c.args.handle c.args.room c.as_slice.result.now c.in-Some.bytes.now c.in-Some.leaf c.in-Some.count c.args.wanted.now.key c.in-Some-way.front.now c.in-Some-way.back.now c.in-Some-way.child got c.in-Some.ensures.whole c.if-leaf.false on c.read.ensures.map in
    below_reads (g.H.Heap.map_of c.args.heap.now) (g.H.Heap.map_of c.read.new.self) c.args.handle c.args.room c.in-Some.count c.args.wanted.now.key c.in-Some-way.front.now c.in-Some-way.back.now c.in-Some-way.child go (g.H.Heap.reads_of c.args.heap.now) (g.H.Heap.reads_of c.read.new.self) (g.H.Heap.reads_of c.remove_below.new.heap) (g.H.Heap.reads_of c.put_back.new.heap) (omega (arith, c.in_ok-read.ensures.reads)) c.put_back.ensures.reads c.remove_below.ensures.reads

pub returns-clause-grows : goal.returns-clause-grows
returns-clause-grows g t c =
    let got : Got (g.H.Heap.map_of c.args.heap.now) c.args.handle c.as_slice.result.now = rw c.as_slice.ensures c.in_ok-read.ensures.read in
    let on : WayRead c.args.wanted.now.key c.in-Some.bytes.now c.in-Some.count c.in-Some-way.front.now c.in-Some-way.child c.in-Some-way.back.now = rw (sym c.args.wanted.now.from_is) c.in-Some-way.ensures in
    let go : AllTake (g.H.Heap.map_of c.args.heap.now) (g.H.Heap.map_of c.read.new.self) c.args.handle c.args.room c.in-Some.count c.args.wanted.now.key c.in-Some-way.front.now c.in-Some-way.back.now c.in-Some-way.child = takes (g.H.Heap.map_of c.args.heap.now) (g.H.Heap.map_of c.read.new.self) c.args.handle c.args.room c.as_slice.result.now c.in-Some.bytes.now c.in-Some.leaf c.in-Some.count c.args.wanted.now.key c.in-Some-way.front.now c.in-Some-way.back.now c.in-Some-way.child got c.in-Some.ensures.whole c.if-leaf.false on c.read.ensures.map in
    below_grows (g.H.Heap.map_of c.args.heap.now) (g.H.Heap.map_of c.read.new.self) c.args.handle c.args.room c.in-Some.count c.args.wanted.now.key c.in-Some-way.front.now c.in-Some-way.back.now c.in-Some-way.child go (g.H.Heap.size_of c.args.heap.now) (g.H.Heap.size_of c.read.new.self) (g.H.Heap.size_of c.remove_below.new.heap) (g.H.Heap.size_of c.put_back.new.heap) c.read.ensures.size c.put_back.ensures.grows c.remove_below.ensures.grows

pub returns-in_default-below-clause-taken : goal.returns-in_default-below-clause-taken
returns-in_default-below-clause-taken g t c =
    let got : Got (g.H.Heap.map_of c.args.heap.now) c.args.handle c.as_slice.result.now = rw c.as_slice.ensures c.in_ok-read.ensures.read in
    let on : WayRead c.args.wanted.now.key c.in-Some.bytes.now c.in-Some.count c.in-Some-way.front.now c.in-Some-way.child c.in-Some-way.back.now = rw (sym c.args.wanted.now.from_is) c.in-Some-way.ensures in
    let go : AllTake (g.H.Heap.map_of c.args.heap.now) (g.H.Heap.map_of c.read.new.self) c.args.handle c.args.room c.in-Some.count c.args.wanted.now.key c.in-Some-way.front.now c.in-Some-way.back.now c.in-Some-way.child = takes (g.H.Heap.map_of c.args.heap.now) (g.H.Heap.map_of c.read.new.self) c.args.handle c.args.room c.as_slice.result.now c.in-Some.bytes.now c.in-Some.leaf c.in-Some.count c.args.wanted.now.key c.in-Some-way.front.now c.in-Some-way.back.now c.in-Some-way.child got c.in-Some.ensures.whole c.if-leaf.false on c.read.ensures.map in
    below_none (g.H.Heap.map_of c.args.heap.now) (g.H.Heap.map_of c.read.new.self) (g.H.Heap.map_of c.remove_below.new.heap) (g.H.Heap.map_of c.remove_below.new.heap) c.args.handle c.args.room c.in-Some.count c.args.wanted.now.key c.in-Some-way.front.now c.in-Some-way.back.now c.in-Some-way.child c.in_ok-below.below go c.in_ok-below.ensures.taken c.in_default-below.is

pub returns-in_err-node-clause-refuses : goal.returns-in_err-node-clause-refuses
returns-in_err-node-clause-refuses g t c =
    let got : Got (g.H.Heap.map_of c.args.heap.now) c.args.handle c.as_slice.result.now = rw c.as_slice.ensures c.in_ok-read.ensures.read in
    let on : WayRead c.args.wanted.now.key c.in-Some.bytes.now c.in-Some.count c.in-Some-way.front.now c.in-Some-way.child c.in-Some-way.back.now = rw (sym c.args.wanted.now.from_is) c.in-Some-way.ensures in
    let go : AllTake (g.H.Heap.map_of c.args.heap.now) (g.H.Heap.map_of c.read.new.self) c.args.handle c.args.room c.in-Some.count c.args.wanted.now.key c.in-Some-way.front.now c.in-Some-way.back.now c.in-Some-way.child = takes (g.H.Heap.map_of c.args.heap.now) (g.H.Heap.map_of c.read.new.self) c.args.handle c.args.room c.as_slice.result.now c.in-Some.bytes.now c.in-Some.leaf c.in-Some.count c.args.wanted.now.key c.in-Some-way.front.now c.in-Some-way.back.now c.in-Some-way.child got c.in-Some.ensures.whole c.if-leaf.false on c.read.ensures.map in
    refuses_then (List ℕ) (Option (List ℕ)) (IsFullFor (g.H.Heap.limit_of c.remove_below.new.heap) (g.H.Heap.size_of c.put_back.new.heap)) (IsFullFor (g.H.Heap.limit_of c.args.heap.now) (g.H.Heap.size_of c.put_back.new.heap))
    (NoPut (g.H.Heap.map_of c.remove_below.new.heap) c.in-Some.count c.in-Some-way.child c.in-Some-way.front.now c.as_slice-2.result.now c.in-Some-way.back.now) (NoTake (g.H.Heap.map_of c.args.heap.now) c.args.handle c.args.room)
    c.from_residual-in_err-node.result c.in_err-node.field-0.0 c.from_residual-in_err-node.ensures.1
    (full_kept (g.H.Heap.limit_of c.remove_below.new.heap) (g.H.Heap.limit_of c.args.heap.now) (g.H.Heap.size_of c.put_back.new.heap) (sym (c.remove_below.ensures.frame.limit ∙ c.read.ensures.limit)))
    (put_refused (g.H.Heap.map_of c.args.heap.now) (g.H.Heap.map_of c.read.new.self) (g.H.Heap.map_of c.remove_below.new.heap) c.args.handle c.args.room c.in-Some.count c.args.wanted.now.key c.in-Some-way.front.now c.in-Some-way.back.now c.as_slice-2.result.now c.in-Some-way.child c.in_ok-below.below go c.in_ok-below.ensures.taken (c.in-Some-below.is ∙ ap (λ (x : List ℕ). Some x) (sym c.as_slice-2.ensures)))
    c.in_err-node.ensures.refuses

pub returns-clause-taken : goal.returns-clause-taken
returns-clause-taken g t c =
    let got : Got (g.H.Heap.map_of c.args.heap.now) c.args.handle c.as_slice.result.now = rw c.as_slice.ensures c.in_ok-read.ensures.read in
    let on : WayRead c.args.wanted.now.key c.in-Some.bytes.now c.in-Some.count c.in-Some-way.front.now c.in-Some-way.child c.in-Some-way.back.now = rw (sym c.args.wanted.now.from_is) c.in-Some-way.ensures in
    let go : AllTake (g.H.Heap.map_of c.args.heap.now) (g.H.Heap.map_of c.read.new.self) c.args.handle c.args.room c.in-Some.count c.args.wanted.now.key c.in-Some-way.front.now c.in-Some-way.back.now c.in-Some-way.child = takes (g.H.Heap.map_of c.args.heap.now) (g.H.Heap.map_of c.read.new.self) c.args.handle c.args.room c.as_slice.result.now c.in-Some.bytes.now c.in-Some.leaf c.in-Some.count c.args.wanted.now.key c.in-Some-way.front.now c.in-Some-way.back.now c.in-Some-way.child got c.in-Some.ensures.whole c.if-leaf.false on c.read.ensures.map in
    put_taken (g.H.Heap.map_of c.args.heap.now) (g.H.Heap.map_of c.read.new.self) (g.H.Heap.map_of c.remove_below.new.heap) (g.H.Heap.map_of c.put_back.new.heap) c.args.handle c.args.room c.in-Some.count c.args.wanted.now.key c.in-Some-way.front.now c.in-Some-way.back.now c.as_slice-2.result.now c.in_ok-node.node c.in-Some-way.child c.in_ok-below.below go c.in_ok-below.ensures.taken (c.in-Some-below.is ∙ ap (λ (x : List ℕ). Some x) (sym c.as_slice-2.ensures)) c.in_ok-node.ensures.put
