use Rattle.lldb_btree.proofs.OneTree.{one_tree}
use Rattle.lldb_btree.proofs.Levels.{tree_size, tree_low}
use Rattle.lldb_btree.proofs.laws.tree_laws.Goals as goal

pub returns : goal.returns
returns c = record { one = one_tree; filled = tree_size; low = tree_low }
