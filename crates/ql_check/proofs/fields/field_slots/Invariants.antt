use Rattle.std.proofs.Common.{◌≡◌, ◌++◌, drop}
use Rattle.ql_rel.specs.Plans as spec
use Rattle.ql_rel.specs.Targets.{kinds_of}
use Rattle.ql_check.proofs.fields.field_slots.Given as goal

-- the slots so far, and those of the fields that are left
abbrev pub invariant-fields : goal.invariant-fields
invariant-fields l = l.slots ++ spec.field_slots (kinds_of (drop l.at l.targets)) (drop l.at l.fields) ≡ spec.field_slots (kinds_of l.targets) l.fields
