use Rattle.std.proofs.Common.{ℕ, Bool, List, Option, Some, sym, ap, ◌∙◌, arith}
use Rattle.lldb_btree.specs.Splicing.{IsFullFor}
use Rattle.lldb_btree.specs.Trees.{MayBeNoTree}
use Rattle.lldb_btree.proofs.Full.{full_kept}
use Rattle.lldb_btree.proofs.Removing.{RootTaken, NoLower, no_root_take, lower_refused, root_removed, root_lacks, take_reads, take_grows}
use Rattle.lldb_btree.proofs.Splices.{refuses_then}
use Rattle.lldb_btree.proofs.Taking.{NoTake}
use Rattle.lldb_btree.proofs.tree.Tree.remove.Goals as goal

pub returns-in_err-root-clause-refuses : goal.returns-in_err-root-clause-refuses
returns-in_err-root-clause-refuses g c =
    refuses_then (Option (List ℕ)) Bool (IsFullFor (g.H.Heap.limit_of c.args.heap.now) (g.H.Heap.size_of c.remove_below.new.heap)) (IsFullFor (g.H.Heap.limit_of c.args.heap.now) (g.H.Heap.size_of c.remove_below.new.heap))
    (NoTake (g.H.Heap.map_of c.args.heap.now) c.args.self.now.handle 17) (MayBeNoTree c.args.self.now.handle (g.H.Heap.map_of c.args.heap.now))
    c.from_residual-in_err-root.result c.in_err-root.field-0.0 c.from_residual-in_err-root.ensures.1 (λ need most f. f)
    (no_root_take (g.H.Heap.map_of c.args.heap.now) c.args.self.now.handle)
    c.in_err-root.ensures.refuses

pub returns-in_err-root-clause-reads : goal.returns-in_err-root-clause-reads
returns-in_err-root-clause-reads g c =
    take_reads (g.H.Heap.map_of c.args.heap.now) c.args.self.now.handle (g.H.Heap.reads_of c.args.heap.now) (g.H.Heap.reads_of c.remove_below.new.heap) (g.H.Heap.reads_of c.remove_below.new.heap) (omega arith) c.remove_below.ensures.reads

pub returns-in_err-root-clause-grows : goal.returns-in_err-root-clause-grows
returns-in_err-root-clause-grows g c =
    take_grows (g.H.Heap.map_of c.args.heap.now) c.args.self.now.handle (g.H.Heap.size_of c.args.heap.now) (g.H.Heap.size_of c.remove_below.new.heap) (g.H.Heap.size_of c.remove_below.new.heap) (omega arith) c.remove_below.ensures.grows

pub returns-in_default-clause-reads : goal.returns-in_default-clause-reads
returns-in_default-clause-reads g c =
    take_reads (g.H.Heap.map_of c.args.heap.now) c.args.self.now.handle (g.H.Heap.reads_of c.args.heap.now) (g.H.Heap.reads_of c.remove_below.new.heap) (g.H.Heap.reads_of c.remove_below.new.heap) (omega arith) c.remove_below.ensures.reads

pub returns-in_default-clause-grows : goal.returns-in_default-clause-grows
returns-in_default-clause-grows g c =
    take_grows (g.H.Heap.map_of c.args.heap.now) c.args.self.now.handle (g.H.Heap.size_of c.args.heap.now) (g.H.Heap.size_of c.remove_below.new.heap) (g.H.Heap.size_of c.remove_below.new.heap) (omega arith) c.remove_below.ensures.grows

pub returns-in_err-lower_root-clause-reads : goal.returns-in_err-lower_root-clause-reads
returns-in_err-lower_root-clause-reads g c =
    take_reads (g.H.Heap.map_of c.args.heap.now) c.args.self.now.handle (g.H.Heap.reads_of c.args.heap.now) (g.H.Heap.reads_of c.remove_below.new.heap) (g.H.Heap.reads_of c.lower_root.new.heap) c.lower_root.ensures.reads c.remove_below.ensures.reads

pub returns-in_err-lower_root-clause-grows : goal.returns-in_err-lower_root-clause-grows
returns-in_err-lower_root-clause-grows g c =
    take_grows (g.H.Heap.map_of c.args.heap.now) c.args.self.now.handle (g.H.Heap.size_of c.args.heap.now) (g.H.Heap.size_of c.remove_below.new.heap) (g.H.Heap.size_of c.lower_root.new.heap) c.lower_root.ensures.grows c.remove_below.ensures.grows

pub returns-clause-reads : goal.returns-clause-reads
returns-clause-reads g c =
    take_reads (g.H.Heap.map_of c.args.heap.now) c.args.self.now.handle (g.H.Heap.reads_of c.args.heap.now) (g.H.Heap.reads_of c.remove_below.new.heap) (g.H.Heap.reads_of c.lower_root.new.heap) c.lower_root.ensures.reads c.remove_below.ensures.reads

pub returns-clause-grows : goal.returns-clause-grows
returns-clause-grows g c =
    take_grows (g.H.Heap.map_of c.args.heap.now) c.args.self.now.handle (g.H.Heap.size_of c.args.heap.now) (g.H.Heap.size_of c.remove_below.new.heap) (g.H.Heap.size_of c.lower_root.new.heap) c.lower_root.ensures.grows c.remove_below.ensures.grows

pub returns-in_default-clause-removed : goal.returns-in_default-clause-removed
returns-in_default-clause-removed g c =
    let taken : RootTaken (g.H.Heap.map_of c.args.heap.now) (g.H.Heap.map_of c.remove_below.new.heap) c.args.self.now.handle c.args.key.now c.in_ok-root.root = rw (sym c.in_ok-wanted.ensures) c.in_ok-root.ensures.taken in
    root_lacks (g.H.Heap.map_of c.args.heap.now) (g.H.Heap.map_of c.remove_below.new.heap) c.args.self.now.handle c.args.key.now c.in_ok-root.root taken c.in_default.is

pub returns-in_err-lower_root-clause-refuses : goal.returns-in_err-lower_root-clause-refuses
returns-in_err-lower_root-clause-refuses g c =
    let taken : RootTaken (g.H.Heap.map_of c.args.heap.now) (g.H.Heap.map_of c.remove_below.new.heap) c.args.self.now.handle c.args.key.now c.in_ok-root.root = rw (sym c.in_ok-wanted.ensures) c.in_ok-root.ensures.taken in
    refuses_then (Unit {0}) Bool (IsFullFor (g.H.Heap.limit_of c.remove_below.new.heap) (g.H.Heap.size_of c.lower_root.new.heap)) (IsFullFor (g.H.Heap.limit_of c.args.heap.now) (g.H.Heap.size_of c.lower_root.new.heap))
    (NoLower (g.H.Heap.map_of c.remove_below.new.heap) c.args.self.now.handle c.as_slice.result.now) (MayBeNoTree c.args.self.now.handle (g.H.Heap.map_of c.args.heap.now))
    c.from_residual-in_err-lower_root.result c.in_err-lower_root.field-0.0 c.from_residual-in_err-lower_root.ensures.1
    (full_kept (g.H.Heap.limit_of c.remove_below.new.heap) (g.H.Heap.limit_of c.args.heap.now) (g.H.Heap.size_of c.lower_root.new.heap) (sym c.remove_below.ensures.frame.limit))
    (lower_refused (g.H.Heap.map_of c.args.heap.now) (g.H.Heap.map_of c.remove_below.new.heap) c.args.self.now.handle c.args.key.now c.as_slice.result.now c.in_ok-root.root taken (c.in-Some.is ∙ ap (λ (x : List ℕ). Some x) (sym c.as_slice.ensures)))
    c.in_err-lower_root.ensures.refuses

pub returns-clause-removed : goal.returns-clause-removed
returns-clause-removed g c =
    let taken : RootTaken (g.H.Heap.map_of c.args.heap.now) (g.H.Heap.map_of c.remove_below.new.heap) c.args.self.now.handle c.args.key.now c.in_ok-root.root = rw (sym c.in_ok-wanted.ensures) c.in_ok-root.ensures.taken in
    root_removed (g.H.Heap.map_of c.args.heap.now) (g.H.Heap.map_of c.remove_below.new.heap) (g.H.Heap.map_of c.lower_root.new.heap) c.args.self.now.handle c.args.key.now c.as_slice.result.now c.in_ok-root.root taken (c.in-Some.is ∙ ap (λ (x : List ℕ). Some x) (sym c.as_slice.ensures)) c.in_ok-lower_root.ensures.lowered
