use Rattle.std.proofs.Common.{◌≡◌, drop}
use Rattle.ql_rel.specs.Plans as spec
use Rattle.ql_check.proofs.fields.any_aggregate.Given as goal

-- none stands in the fields before
abbrev pub invariant-fields : goal.invariant-fields
invariant-fields l = spec.any_field_aggregate (drop l.field-index l.fields) ≡ spec.any_field_aggregate l.fields
