use Rattle.lldb_btree.specs.Trees.{MayBeNoTree}
use Rattle.lldb_btree.proofs.Below.{NoEdit}
use Rattle.lldb_btree.proofs.FromRoot.{no_tree, root_cleared, all_reads}
use Rattle.lldb_btree.proofs.Steps.{refuses_also}
use Rattle.lldb_btree.proofs.tree.Tree.destroy.Goals as goal

pub returns-clause-destroyed : goal.returns-clause-destroyed
returns-clause-destroyed g c = root_cleared (g.H.Heap.map_of c.args.heap.now) (g.H.Heap.map_of c.clear_node.new.heap) c.args.self.handle c.clear_node.result c.clear_node.ensures.cleared

pub returns-clause-refuses : goal.returns-clause-refuses
returns-clause-refuses g c = refuses_also (NoEdit (g.H.Heap.map_of c.args.heap.now) c.args.self.handle 17) (MayBeNoTree c.args.self.handle (g.H.Heap.map_of c.args.heap.now)) c.clear_node.result (no_tree (g.H.Heap.map_of c.args.heap.now) c.args.self.handle) c.clear_node.ensures.refuses

pub returns-clause-reads : goal.returns-clause-reads
returns-clause-reads g c = all_reads (g.H.Heap.map_of c.args.heap.now) c.args.self.handle (g.H.Heap.reads_of c.args.heap.now) (g.H.Heap.reads_of c.clear_node.new.heap) c.clear_node.ensures.reads
