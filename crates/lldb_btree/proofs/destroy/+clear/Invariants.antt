use Rattle.std.proofs.Common.{◌+◌, ◌*◌}
use Rattle.lldb_btree.proofs.destroy.+clear.Given as goal

abbrev pub decreases-clear_node : goal.decreases-clear_node
decreases-clear_node g l = l.room * 256

abbrev pub decreases-clear_children : goal.decreases-clear_children
decreases-clear_children g l = l.room * 256 + l.count
