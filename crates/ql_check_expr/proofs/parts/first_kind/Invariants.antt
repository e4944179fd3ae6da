use Rattle.std.proofs.Common.{◌≡◌, drop}
use Rattle.ql_syntax.specs.Operands as spec
use Rattle.ql_check_expr.proofs.parts.first_kind.Given as goal

-- the parts before have no kind
abbrev pub invariant-parts : goal.invariant-parts
invariant-parts l = spec.first_kind (drop l.part-index l.parts) ≡ spec.first_kind l.parts
