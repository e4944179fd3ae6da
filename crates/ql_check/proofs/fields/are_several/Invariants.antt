use Rattle.std.proofs.Common.{◌≡◌, ◌+◌, nat_lt, if◌then◌else◌, drop}
use Rattle.ql_rel.specs.Plans as spec
use Rattle.ql_check.proofs.fields.are_several.Given as goal

-- with the one before, if there was one, the sets that are left are several exactly where all are
abbrev pub invariant-slots : goal.invariant-slots
invariant-slots l = nat_lt 1 ((if l.one then 1 else 0) + spec.named_sets (drop l.slot-index l.slots)) ≡ spec.are_several l.slots
