use Rattle.std.proofs.Common.{◌≡◌, ℕ, ◌≤◌, None, length, arith}
use Rattle.lldb_base.specs.Contents.{atoms_for}
use Rattle.lldb_base.specs.Heaps.{IsFull}
use Rattle.lldb_btree.specs.Splicing.{IsFullFor}
use Rattle.lldb_btree.proofs.Full.{full_for, node_adds}
use Rattle.lldb_btree.proofs.Splices.{refuses_last}
use Rattle.lldb_btree.proofs.store.make.Goals as goal

pub returns-clause-refuses : goal.returns-clause-refuses
returns-clause-refuses g c =
    refuses_last (λ (need most : ℕ). IsFull (atoms_for (length c.args.node.now)) (g.H.Heap.most_free c.args.heap.now) (g.H.Heap.size_of c.args.heap.now) (g.H.Heap.size_of c.create.new.self) (g.H.Heap.limit_of c.args.heap.now) need most)
    (IsFullFor (g.H.Heap.limit_of c.args.heap.now) (g.H.Heap.size_of c.create.new.self))
    (g.H.Heap.map_of c.args.heap.now ≡ None)
    (length c.args.node.now ≤ 35810 → g.H.Heap.map_of c.args.heap.now ≡ None)
    c.create.result
    (λ need most f. full_for (length c.args.node.now) (g.H.Heap.most_free c.args.heap.now) (g.H.Heap.size_of c.args.heap.now) (g.H.Heap.size_of c.create.new.self) (g.H.Heap.limit_of c.args.heap.now) need most (omega (arith, c.if-len-gt-NODE_BYTES.false)) f)
    (λ dead low. dead)
    c.create.ensures.refuses

pub returns-clause-grows : goal.returns-clause-grows
returns-clause-grows g c = node_adds (length c.args.node.now) (g.H.Heap.size_of c.args.heap.now) (g.H.Heap.size_of c.create.new.self) (omega (arith, c.if-len-gt-NODE_BYTES.false)) c.create.ensures.grows
