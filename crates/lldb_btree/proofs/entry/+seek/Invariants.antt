use Rattle.lldb_btree.proofs.entry.+seek.Given as goal

abbrev pub decreases-seek : goal.decreases-seek
decreases-seek l = l.left
