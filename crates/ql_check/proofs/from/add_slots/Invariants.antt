use Rattle.std.proofs.Common.{◌≡◌, ◌++◌, drop}
use Rattle.ql_rel.specs.Plans as spec
use Rattle.ql_check.proofs.from.add_slots.Given as goal

-- the slots so far, and those of the columns that are left
abbrev pub invariant-columns : goal.invariant-columns
invariant-columns l = l.slots ++ spec.column_slots l.set (drop l.column-index l.columns) ≡ l.fn.before ++ spec.set_slots l.set l.columns
