use Rattle.std.proofs.Common.{◌≡◌, ◌++◌, drop}
use Rattle.ql_rel.specs.Plans as spec
use Rattle.ql_check.proofs.fields.star_fields.Given as goal

-- the fields so far, and those of the slots that are left
abbrev pub invariant-slots : goal.invariant-slots
invariant-slots l = l.list ++ spec.star_fields l.several l.at (drop l.at l.slots) ≡ spec.star_fields l.several 0 l.slots
