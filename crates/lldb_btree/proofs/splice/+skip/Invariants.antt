use Rattle.lldb_btree.proofs.splice.+skip.Given as goal

abbrev pub decreases-skip : goal.decreases-skip
decreases-skip l = l.count
