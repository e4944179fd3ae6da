use Rattle.std.proofs.Common.{◌-◌, ◌∙◌, arith}
use Rattle.lldb_base.specs.Heaps.{MayBeDead}
use Rattle.lldb_btree.proofs.Below.{NoEdit, headless}
use Rattle.lldb_btree.proofs.Clearing.{NoClear, leaf_cleared, inner_cleared, inner_dead, inner_refused, inner_reads, firstless, first_refused, others_refused, children_cleared, first_reads, children_reads}
use Rattle.lldb_btree.proofs.Steps.{Got, refuses_exit, refuses_also}
use Rattle.lldb_btree.proofs.destroy.+clear.Goals as goal

pub clear_node-returns-in_default-clause-refuses : goal.clear_node-returns-in_default-clause-refuses
clear_node-returns-in_default-clause-refuses g t c =
    let got : Got (g.H.Heap.map_of c.args.heap.now) c.args.handle c.as_slice.result.now = rw c.as_slice.ensures c.in_ok-read.ensures.read in
    headless (g.H.Heap.map_of c.args.heap.now) c.args.handle c.args.room c.as_slice.result.now got c.in_default.ensures.whole

pub clear_node-returns-then-leaf-clause-cleared : goal.clear_node-returns-then-leaf-clause-cleared
clear_node-returns-then-leaf-clause-cleared g t c =
    let got : Got (g.H.Heap.map_of c.args.heap.now) c.args.handle c.as_slice.result.now = rw c.as_slice.ensures c.in_ok-read.ensures.read in
    leaf_cleared (g.H.Heap.map_of c.args.heap.now) (g.H.Heap.map_of c.read.new.self) (g.H.Heap.map_of c.remove.new.self) c.args.handle c.args.room c.as_slice.result.now c.in-Some.bytes.now c.in-Some.leaf c.in-Some.count c.remove.result got c.in-Some.ensures.whole c.if-leaf.true c.read.ensures.map (g.met.H.Heap.contents c.read.new.self (c.read.ensures.ready ∙ c.requires.ready)) c.remove.ensures.removed

pub clear_node-returns-in_err-clear_children-clause-refuses : goal.clear_node-returns-in_err-clear_children-clause-refuses
clear_node-returns-in_err-clear_children-clause-refuses g t c =
    let got : Got (g.H.Heap.map_of c.args.heap.now) c.args.handle c.as_slice.result.now = rw c.as_slice.ensures c.in_ok-read.ensures.read in
    refuses_exit (Unit {0}) (Unit {0}) (NoClear (g.H.Heap.map_of c.read.new.self) c.in-Some.bytes.now c.in-Some.count (c.args.room - 1)) (NoEdit (g.H.Heap.map_of c.args.heap.now) c.args.handle c.args.room) c.from_residual-in_err-clear_children.result c.in_err-clear_children.field-0.0 c.from_residual-in_err-clear_children.ensures.1 (inner_refused (g.H.Heap.map_of c.args.heap.now) (g.H.Heap.map_of c.read.new.self) c.args.handle c.args.room c.as_slice.result.now c.in-Some.bytes.now c.in-Some.leaf c.in-Some.count got c.in-Some.ensures.whole c.if-leaf.false c.read.ensures.map) c.in_err-clear_children.ensures.refuses

pub clear_node-returns-clause-cleared : goal.clear_node-returns-clause-cleared
clear_node-returns-clause-cleared g t c =
    let got : Got (g.H.Heap.map_of c.args.heap.now) c.args.handle c.as_slice.result.now = rw c.as_slice.ensures c.in_ok-read.ensures.read in
    inner_cleared (g.H.Heap.map_of c.args.heap.now) (g.H.Heap.map_of c.read.new.self) (g.H.Heap.map_of c.clear_children.new.heap) (g.H.Heap.map_of c.remove-2.new.self) c.args.handle c.args.room c.as_slice.result.now c.in-Some.bytes.now c.in-Some.leaf c.in-Some.count c.remove-2.result got c.in-Some.ensures.whole c.if-leaf.false c.read.ensures.map c.in_ok-clear_children.ensures.cleared (g.met.H.Heap.contents c.clear_children.new.heap c.in_ok-clear_children.ensures.ready) c.remove-2.ensures.removed

pub clear_node-returns-clause-refuses : goal.clear_node-returns-clause-refuses
clear_node-returns-clause-refuses g t c =
    let got : Got (g.H.Heap.map_of c.args.heap.now) c.args.handle c.as_slice.result.now = rw c.as_slice.ensures c.in_ok-read.ensures.read in
    refuses_also (MayBeDead c.args.handle (g.H.Heap.map_of c.clear_children.new.heap)) (NoEdit (g.H.Heap.map_of c.args.heap.now) c.args.handle c.args.room) c.remove-2.result (inner_dead (g.H.Heap.map_of c.args.heap.now) (g.H.Heap.map_of c.read.new.self) (g.H.Heap.map_of c.clear_children.new.heap) c.args.handle c.args.room c.as_slice.result.now c.in-Some.bytes.now c.in-Some.leaf c.in-Some.count got c.in-Some.ensures.whole c.if-leaf.false c.read.ensures.map c.in_ok-clear_children.ensures.cleared) c.remove-2.ensures.refuses

pub clear_node-returns-in_err-clear_children-clause-reads : goal.clear_node-returns-in_err-clear_children-clause-reads
clear_node-returns-in_err-clear_children-clause-reads g t c =
    let got : Got (g.H.Heap.map_of c.args.heap.now) c.args.handle c.as_slice.result.now = rw c.as_slice.ensures c.in_ok-read.ensures.read in
    inner_reads (g.H.Heap.map_of c.args.heap.now) (g.H.Heap.map_of c.read.new.self) c.args.handle c.args.room c.as_slice.result.now c.in-Some.bytes.now c.in-Some.leaf c.in-Some.count (g.H.Heap.reads_of c.args.heap.now) (g.H.Heap.reads_of c.read.new.self) (g.H.Heap.reads_of c.clear_children.new.heap) got c.in-Some.ensures.whole c.if-leaf.false c.read.ensures.map (omega (arith, c.in_ok-read.ensures.reads)) c.clear_children.ensures.reads

pub clear_node-returns-clause-reads : goal.clear_node-returns-clause-reads
clear_node-returns-clause-reads g t c =
    let got : Got (g.H.Heap.map_of c.args.heap.now) c.args.handle c.as_slice.result.now = rw c.as_slice.ensures c.in_ok-read.ensures.read in
    rw c.remove-2.ensures.reads (inner_reads (g.H.Heap.map_of c.args.heap.now) (g.H.Heap.map_of c.read.new.self) c.args.handle c.args.room c.as_slice.result.now c.in-Some.bytes.now c.in-Some.leaf c.in-Some.count (g.H.Heap.reads_of c.args.heap.now) (g.H.Heap.reads_of c.read.new.self) (g.H.Heap.reads_of c.clear_children.new.heap) got c.in-Some.ensures.whole c.if-leaf.false c.read.ensures.map (omega (arith, c.in_ok-read.ensures.reads)) c.clear_children.ensures.reads)

pub clear_children-returns-in_default-clause-refuses : goal.clear_children-returns-in_default-clause-refuses
clear_children-returns-in_default-clause-refuses g t c =
    firstless (g.H.Heap.map_of c.args.heap.now) c.args.count c.args.room c.args.bytes.now (λ z. absurd (omega (arith, z, c.if-count-eq0.false))) c.in_default.ensures

pub clear_children-returns-in_err-clear_node-clause-refuses : goal.clear_children-returns-in_err-clear_node-clause-refuses
clear_children-returns-in_err-clear_node-clause-refuses g t c =
    refuses_exit (Unit {0}) (Unit {0}) (NoEdit (g.H.Heap.map_of c.args.heap.now) c.in-Some.handle c.args.room) (NoClear (g.H.Heap.map_of c.args.heap.now) c.args.bytes.now c.args.count c.args.room) c.from_residual.result c.in_err-clear_node.field-0.0 c.from_residual.ensures.1 (first_refused (g.H.Heap.map_of c.args.heap.now) c.args.count c.args.room c.in-Some.handle c.args.bytes.now c.in-Some.rest.now (λ z. absurd (omega (arith, z, c.if-count-eq0.false))) c.in-Some.ensures) c.in_err-clear_node.ensures.refuses

pub clear_children-returns-in_err-clear_node-clause-reads : goal.clear_children-returns-in_err-clear_node-clause-reads
clear_children-returns-in_err-clear_node-clause-reads g t c =
    first_reads (g.H.Heap.map_of c.args.heap.now) c.args.count c.args.room c.in-Some.handle c.args.bytes.now c.in-Some.rest.now (g.H.Heap.reads_of c.args.heap.now) (g.H.Heap.reads_of c.clear_node.new.heap) (λ z. absurd (omega (arith, z, c.if-count-eq0.false))) c.in-Some.ensures c.clear_node.ensures.reads

pub clear_children-returns-clause-cleared : goal.clear_children-returns-clause-cleared
clear_children-returns-clause-cleared g t c =
    children_cleared (g.H.Heap.map_of c.args.heap.now) (g.H.Heap.map_of c.clear_node.new.heap) (g.H.Heap.map_of c.clear_children.new.heap) c.args.count c.args.room c.in-Some.handle c.args.bytes.now c.in-Some.rest.now c.clear_children.result (λ z. absurd (omega (arith, z, c.if-count-eq0.false))) c.in-Some.ensures c.in_ok-clear_node.ensures.cleared c.clear_children.ensures.cleared

pub clear_children-returns-clause-refuses : goal.clear_children-returns-clause-refuses
clear_children-returns-clause-refuses g t c =
    refuses_also (NoClear (g.H.Heap.map_of c.clear_node.new.heap) c.in-Some.rest.now (c.args.count - 1) c.args.room) (NoClear (g.H.Heap.map_of c.args.heap.now) c.args.bytes.now c.args.count c.args.room) c.clear_children.result (others_refused (g.H.Heap.map_of c.args.heap.now) (g.H.Heap.map_of c.clear_node.new.heap) c.args.count c.args.room c.in-Some.handle c.args.bytes.now c.in-Some.rest.now (λ z. absurd (omega (arith, z, c.if-count-eq0.false))) c.in-Some.ensures c.in_ok-clear_node.ensures.cleared) c.clear_children.ensures.refuses

pub clear_children-returns-clause-reads : goal.clear_children-returns-clause-reads
clear_children-returns-clause-reads g t c =
    children_reads (g.H.Heap.map_of c.args.heap.now) (g.H.Heap.map_of c.clear_node.new.heap) c.args.count c.args.room c.in-Some.handle c.args.bytes.now c.in-Some.rest.now (g.H.Heap.reads_of c.args.heap.now) (g.H.Heap.reads_of c.clear_node.new.heap) (g.H.Heap.reads_of c.clear_children.new.heap) (λ z. absurd (omega (arith, z, c.if-count-eq0.false))) c.in-Some.ensures c.in_ok-clear_node.ensures.cleared c.clear_node.ensures.reads c.clear_children.ensures.reads
