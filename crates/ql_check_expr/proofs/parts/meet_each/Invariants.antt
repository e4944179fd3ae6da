use Rattle.std.proofs.Common.{◌≡◌}
use Rattle.std.specs.Vec.Iter.{into_iter_items}
use Rattle.ql_syntax.specs.Operands as spec
use Rattle.ql_check_expr.proofs.Turns.{behind}
use Rattle.ql_check_expr.proofs.parts.meet_each.Given as goal

-- what was met so far, and the parts that are left
abbrev pub invariant-parts : goal.invariant-parts
invariant-parts l = behind l.met (spec.meet_each l.fn.typing (into_iter_items l.part-iterator)) ≡ spec.meet_each l.fn.typing l.fn.parts
