use Rattle.lldb_btree.proofs.walk.+levels_under.Given as goal

abbrev pub decreases-levels_under : goal.decreases-levels_under
decreases-levels_under g l = l.room
