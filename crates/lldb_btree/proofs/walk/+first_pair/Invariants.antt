use Rattle.lldb_btree.proofs.walk.+first_pair.Given as goal

abbrev pub decreases-first_pair : goal.decreases-first_pair
decreases-first_pair g l = l.room
