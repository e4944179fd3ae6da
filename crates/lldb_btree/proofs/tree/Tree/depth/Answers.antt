use Rattle.lldb_btree.specs.Trees.{MayBeNoTree}
use Rattle.lldb_btree.proofs.Roots.{no_root, reads_root, levels_root}
use Rattle.lldb_btree.proofs.Steps.{NoWalk, refuses_also}
use Rattle.lldb_btree.proofs.tree.Tree.depth.Goals as goal

pub returns-clause-depth : goal.returns-clause-depth
returns-clause-depth g c = levels_root (g.H.Heap.map_of c.args.heap.now) c.args.self.now.handle c.levels_under.result c.levels_under.ensures.levels

pub returns-clause-refuses : goal.returns-clause-refuses
returns-clause-refuses g c = refuses_also (NoWalk (g.H.Heap.map_of c.args.heap.now) c.args.self.now.handle 17) (MayBeNoTree c.args.self.now.handle (g.H.Heap.map_of c.args.heap.now)) c.levels_under.result (no_root (g.H.Heap.map_of c.args.heap.now) c.args.self.now.handle) c.levels_under.ensures.refuses

pub returns-clause-reads : goal.returns-clause-reads
returns-clause-reads g c = reads_root (g.H.Heap.map_of c.args.heap.now) c.args.self.now.handle (g.H.Heap.reads_of c.args.heap.now) (g.H.Heap.reads_of c.levels_under.new.heap) c.levels_under.ensures.reads
