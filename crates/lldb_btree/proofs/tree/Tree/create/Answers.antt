use Rattle.lldb_btree.proofs.Made.{tree_made}
use Rattle.lldb_btree.proofs.tree.Tree.create.Goals as goal

pub returns-clause-created : goal.returns-clause-created
returns-clause-created g c = λ map told. tree_made (g.H.Heap.map_of c.args.heap.now) (g.H.Heap.map_of c.create.new.self) c.in_ok-handle.handle map told c.in_ok-handle.ensures.range.1 c.in_ok-handle.ensures.fresh c.in_ok-handle.ensures.created
