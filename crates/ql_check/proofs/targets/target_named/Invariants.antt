use Rattle.std.proofs.Common.{◌≡◌, drop}
use Rattle.ql_rel.specs.Targets as spec
use Rattle.ql_check.proofs.targets.target_named.Given as goal

-- none of the columns before has the name
abbrev pub invariant-columns : goal.invariant-columns
invariant-columns l = spec.target_named l.name l.at (drop l.at l.columns) ≡ spec.target_named l.name 0 l.columns
