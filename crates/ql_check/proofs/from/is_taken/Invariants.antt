use Rattle.std.proofs.Common.{◌≡◌, drop}
use Rattle.ql_rel.specs.Plans as spec
use Rattle.ql_check.proofs.from.is_taken.Given as goal

-- none of the slots before has the name
abbrev pub invariant-slots : goal.invariant-slots
invariant-slots l = spec.is_taken l.name (drop l.slot-index l.slots) ≡ spec.is_taken l.name l.slots
