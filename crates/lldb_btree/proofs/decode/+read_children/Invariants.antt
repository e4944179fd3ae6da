use Rattle.lldb_btree.proofs.decode.+read_children.Given as goal

abbrev pub decreases-read_children : goal.decreases-read_children
decreases-read_children l = l.left
