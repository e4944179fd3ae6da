use Rattle.std.proofs.Common.{◌≡◌, ◌++◌, drop}
use Rattle.std.specs.Vec.Iter.{into_iter_items}
use Rattle.ql_exec.proofs.change.without_id.Given as goal

-- the values so far, and those that are left, without the id
abbrev pub invariant-values : goal.invariant-values
invariant-values l = l.values ++ into_iter_items l.value-iterator ≡ drop 1 l.fn.row.items
