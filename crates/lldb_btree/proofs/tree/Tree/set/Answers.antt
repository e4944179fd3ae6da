use Rattle.std.proofs.Common.{sym, arith}
use Rattle.lldb_btree.specs.declared.set.Changed.{Changed}
use Rattle.lldb_btree.specs.Splicing.{IsFullFor}
use Rattle.lldb_btree.specs.Trees.{MayBeNoTree}
use Rattle.lldb_btree.proofs.Below.{NoEdit}
use Rattle.lldb_btree.proofs.FromRoot.{NoRoot, RootSet, no_tree, root_refused, root_set, root_reads, root_grows}
use Rattle.lldb_btree.proofs.Full.{full_kept}
use Rattle.lldb_btree.proofs.Splices.{refuses_then, refuses_last}
use Rattle.lldb_btree.proofs.tree.Tree.set.Goals as goal

pub returns-in_err-root-clause-refuses : goal.returns-in_err-root-clause-refuses
returns-in_err-root-clause-refuses g c =
    refuses_then Changed (Unit {0}) (IsFullFor (g.H.Heap.limit_of c.args.heap.now) (g.H.Heap.size_of c.set_below.new.heap)) (IsFullFor (g.H.Heap.limit_of c.args.heap.now) (g.H.Heap.size_of c.set_below.new.heap))
    (NoEdit (g.H.Heap.map_of c.args.heap.now) c.args.self.now.handle 17) (MayBeNoTree c.args.self.now.handle (g.H.Heap.map_of c.args.heap.now))
    c.from_residual-in_err-root.result c.in_err-root.field-0.0 c.from_residual-in_err-root.ensures.1 (λ need most f. f)
    (no_tree (g.H.Heap.map_of c.args.heap.now) c.args.self.now.handle)
    c.in_err-root.ensures.refuses

pub returns-in_err-root-clause-reads : goal.returns-in_err-root-clause-reads
returns-in_err-root-clause-reads g c = root_reads (g.H.Heap.map_of c.args.heap.now) c.args.self.now.handle (g.H.Heap.reads_of c.args.heap.now) (g.H.Heap.reads_of c.set_below.new.heap) c.set_below.ensures.reads

pub returns-clause-reads : goal.returns-clause-reads
returns-clause-reads g c = rw c.save_root.ensures.reads (root_reads (g.H.Heap.map_of c.args.heap.now) c.args.self.now.handle (g.H.Heap.reads_of c.args.heap.now) (g.H.Heap.reads_of c.set_below.new.heap) c.set_below.ensures.reads)

pub returns-clause-set : goal.returns-clause-set
returns-clause-set g c =
    let set : RootSet (g.H.Heap.map_of c.args.heap.now) (g.H.Heap.map_of c.set_below.new.heap) c.args.self.now.handle c.args.key.now c.args.value.now c.as_slice.result.now = rw (c.as_slice.ensures, sym c.in_ok-put.ensures.key, sym c.in_ok-put.ensures.value) c.in_ok-root.ensures.set in
    root_set (g.H.Heap.map_of c.args.heap.now) (g.H.Heap.map_of c.set_below.new.heap) (g.H.Heap.map_of c.save_root.new.heap) c.args.self.now.handle c.args.key.now c.args.value.now c.as_slice.result.now c.save_root.result c.requires.key c.requires.value set c.save_root.ensures.rooted

pub returns-clause-refuses : goal.returns-clause-refuses
returns-clause-refuses g c =
    let set : RootSet (g.H.Heap.map_of c.args.heap.now) (g.H.Heap.map_of c.set_below.new.heap) c.args.self.now.handle c.args.key.now c.args.value.now c.as_slice.result.now = rw (c.as_slice.ensures, sym c.in_ok-put.ensures.key, sym c.in_ok-put.ensures.value) c.in_ok-root.ensures.set in
    refuses_last (IsFullFor (g.H.Heap.limit_of c.set_below.new.heap) (g.H.Heap.size_of c.save_root.new.heap)) (IsFullFor (g.H.Heap.limit_of c.args.heap.now) (g.H.Heap.size_of c.save_root.new.heap))
    (NoRoot (g.H.Heap.map_of c.set_below.new.heap) c.args.self.now.handle c.as_slice.result.now) (MayBeNoTree c.args.self.now.handle (g.H.Heap.map_of c.args.heap.now)) c.save_root.result
    (full_kept (g.H.Heap.limit_of c.set_below.new.heap) (g.H.Heap.limit_of c.args.heap.now) (g.H.Heap.size_of c.save_root.new.heap) (sym c.set_below.ensures.frame.limit))
    (root_refused (g.H.Heap.map_of c.args.heap.now) (g.H.Heap.map_of c.set_below.new.heap) c.args.self.now.handle c.args.key.now c.args.value.now c.as_slice.result.now c.requires.key c.requires.value set)
    c.save_root.ensures.refuses

pub returns-in_err-root-clause-grows : goal.returns-in_err-root-clause-grows
returns-in_err-root-clause-grows g c = root_grows (g.H.Heap.map_of c.args.heap.now) c.args.self.now.handle (g.H.Heap.size_of c.args.heap.now) (g.H.Heap.size_of c.set_below.new.heap) (g.H.Heap.size_of c.set_below.new.heap) (omega arith) c.set_below.ensures.grows

pub returns-clause-grows : goal.returns-clause-grows
returns-clause-grows g c = root_grows (g.H.Heap.map_of c.args.heap.now) c.args.self.now.handle (g.H.Heap.size_of c.args.heap.now) (g.H.Heap.size_of c.set_below.new.heap) (g.H.Heap.size_of c.save_root.new.heap) (c.save_root.ensures.grows) c.set_below.ensures.grows
