use Rattle.lldb_btree.specs.Trees.{MayBeNoTree, least_of}
use Rattle.lldb_btree.proofs.Roots.{root_part, no_root, reads_root}
use Rattle.lldb_btree.proofs.Steps.{NoWalk, refuses_also}
use Rattle.lldb_btree.proofs.Walking.{from_root}
use Rattle.lldb_btree.proofs.walk.first_of_tree.Goals as goal

pub returns-clause-found : goal.returns-clause-found
returns-clause-found g c = λ levels pairs footprint t. c.first_pair.ensures.found t.map t.tree.d (least_of t.tree.d) (root_part c.args.handle pairs footprint) (from_root (g.H.Heap.map_of c.args.heap.now) c.args.handle levels pairs footprint t)

pub returns-clause-refuses : goal.returns-clause-refuses
returns-clause-refuses g c = refuses_also (NoWalk (g.H.Heap.map_of c.args.heap.now) c.args.handle 17) (MayBeNoTree c.args.handle (g.H.Heap.map_of c.args.heap.now)) c.first_pair.result (no_root (g.H.Heap.map_of c.args.heap.now) c.args.handle) c.first_pair.ensures.refuses

pub returns-clause-reads : goal.returns-clause-reads
returns-clause-reads g c = reads_root (g.H.Heap.map_of c.args.heap.now) c.args.handle (g.H.Heap.reads_of c.args.heap.now) (g.H.Heap.reads_of c.first_pair.new.heap) c.first_pair.ensures.reads
