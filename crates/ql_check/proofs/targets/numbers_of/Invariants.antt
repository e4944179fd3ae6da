use Rattle.std.proofs.Common.{◌≡◌, ◌++◌, drop}
use Rattle.ql_rel.specs.Targets as spec
use Rattle.ql_check.proofs.targets.numbers_of.Given as goal

-- the numbers so far, and those of the columns that are left
abbrev pub invariant-targets : goal.invariant-targets
invariant-targets l = l.numbers ++ spec.numbers_of (drop l.target-index l.targets) ≡ spec.numbers_of l.targets
