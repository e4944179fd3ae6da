use Rattle.std.proofs.Common.{◌≡◌, take}
use Rattle.ql_mem_rel.proofs.plain_copy.copy_all.Given as goal

abbrev pub invariant-loop-list : goal.invariant-loop-list
invariant-loop-list l = l.copy.items ≡ take l.list-index l.rows
