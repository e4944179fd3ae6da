use Rattle.std.proofs.Common.{◌≡◌, ◌++◌, take}
use Rattle.ql_mem_rel.proofs.row_copy.add_values.Given as goal

abbrev pub invariant-loop-value : goal.invariant-loop-value
invariant-loop-value l = l.copy ≡ l.initial.copy ++ take l.value-index l.values
