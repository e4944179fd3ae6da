use Rattle.std.proofs.Common.{◌≡◌, length}
use Rattle.ql_syntax.specs.Values as spec
use Rattle.ql_eval.proofs.prefix.apply_prefixes.Given as goal

-- the operators that are left, on the value so far, come to what all of them come to
abbrev pub invariant-ops : goal.invariant-ops
invariant-ops l = spec.prefixed l.left l.value ≡ spec.prefixed l.fn.ops l.fn.value

abbrev pub decreases-ops : goal.decreases-ops
decreases-ops l = length l.left
