use Rattle.std.proofs.Common.{◌≡◌, ◌++◌, drop}
use Rattle.ql_rel.specs.Targets as spec
use Rattle.ql_check.proofs.targets.all_targets.Given as goal

-- the columns so far, and those that are left
abbrev pub invariant-columns : goal.invariant-columns
invariant-columns l = l.targets ++ spec.all_targets l.at (drop l.at l.columns) ≡ spec.all_targets 0 l.columns
