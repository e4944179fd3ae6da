use Rattle.std.proofs.Common.{ℕ, ◌≤◌, length, arith}
use Rattle.lldb_base.specs.Contents.{atoms_for}
use Rattle.lldb_base.specs.Heaps.{IsGrown, IsFull, MayBeDead}
use Rattle.lldb_btree.specs.Splicing.{IsFullFor}
use Rattle.lldb_btree.proofs.Full.{full_for, node_adds}
use Rattle.lldb_btree.proofs.Splices.{refuses_last}
use Rattle.lldb_btree.proofs.store.save.Goals as goal

pub returns-clause-refuses : goal.returns-clause-refuses
returns-clause-refuses g c =
    refuses_last (λ (need most : ℕ). IsGrown c.args.handle (atoms_for (length c.args.node.now)) (g.H.Heap.map_of c.args.heap.now) × IsFull (atoms_for (length c.args.node.now)) (g.H.Heap.most_free c.args.heap.now) (g.H.Heap.size_of c.args.heap.now) (g.H.Heap.size_of c.replace.new.self) (g.H.Heap.limit_of c.args.heap.now) need most)
    (IsFullFor (g.H.Heap.limit_of c.args.heap.now) (g.H.Heap.size_of c.replace.new.self))
    (MayBeDead c.args.handle (g.H.Heap.map_of c.args.heap.now))
    (length c.args.node.now ≤ 35810 → MayBeDead c.args.handle (g.H.Heap.map_of c.args.heap.now))
    c.replace.result
    (λ need most f. full_for (length c.args.node.now) (g.H.Heap.most_free c.args.heap.now) (g.H.Heap.size_of c.args.heap.now) (g.H.Heap.size_of c.replace.new.self) (g.H.Heap.limit_of c.args.heap.now) need most (omega (arith, c.if-len-gt-NODE_BYTES.false)) f.1)
    (λ dead low. dead)
    c.replace.ensures.refuses

pub returns-clause-grows : goal.returns-clause-grows
returns-clause-grows g c = node_adds (length c.args.node.now) (g.H.Heap.size_of c.args.heap.now) (g.H.Heap.size_of c.replace.new.self) (omega (arith, c.if-len-gt-NODE_BYTES.false)) c.replace.ensures.grows
