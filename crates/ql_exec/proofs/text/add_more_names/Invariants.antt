use Rattle.std.proofs.Common.{◌≡◌, ◌++◌, map, take}
use Rattle.ql_value.specs.declared.value.Value.TheVariants as v
use Rattle.ql_rel.specs.Rows as spec
use Rattle.ql_exec.proofs.text.add_more_names.Given as goal

-- the names before were added
abbrev pub invariant-loop-name : goal.invariant-loop-name
invariant-loop-name l = l.out ≡ l.fn.out ++ spec.more_values (map v.Text (take l.name-index l.names))
