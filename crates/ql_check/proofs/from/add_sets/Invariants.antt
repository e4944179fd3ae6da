use Rattle.std.proofs.Common.{◌≡◌, [], drop}
use Rattle.ql_rel.specs.Plans as spec
use Rattle.ql_check.proofs.from.add_sets.Given as goal

-- the sets that are left, behind the slots so far, give what all of them give
abbrev pub invariant-sets : goal.invariant-sets
invariant-sets l = spec.add_sets l.schema l.slots (drop l.set-index l.sets) ≡ spec.add_sets l.schema [] l.sets
