use Rattle.lldb_btree.proofs.set.+set_below.Given as goal

abbrev pub decreases-set_below : goal.decreases-set_below
decreases-set_below g l = l.room
