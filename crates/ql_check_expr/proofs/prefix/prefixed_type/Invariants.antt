use Rattle.std.proofs.Common.{◌≡◌, length}
use Rattle.ql_syntax.specs.Typing as types
use Rattle.ql_check_expr.proofs.prefix.prefixed_type.Given as goal

-- the operators that are left, on the type so far, give what all of them give
abbrev pub invariant-ops : goal.invariant-ops
invariant-ops l = types.prefixed_type l.left l.typing ≡ types.prefixed_type l.fn.ops l.fn.typing

abbrev pub decreases-ops : goal.decreases-ops
decreases-ops l = length l.left
