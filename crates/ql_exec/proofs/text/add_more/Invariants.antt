use Rattle.std.proofs.Common.{◌≡◌, ◌++◌, take}
use Rattle.ql_rel.specs.Rows as spec
use Rattle.ql_exec.proofs.text.add_more.Given as goal

-- the values before were added
abbrev pub invariant-loop-value : goal.invariant-loop-value
invariant-loop-value l = l.out ≡ l.fn.out ++ spec.more_values (take l.value-index l.row)
