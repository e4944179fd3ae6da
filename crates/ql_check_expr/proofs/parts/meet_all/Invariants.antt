use Rattle.std.proofs.Common.{◌≡◌, drop}
use Rattle.ql_syntax.specs.Typing as types
use Rattle.ql_syntax.specs.Operands as spec
use Rattle.ql_check_expr.proofs.parts.meet_all.Given as goal

-- the parts that are left have with the type so far the type of all
abbrev pub invariant-parts : goal.invariant-parts
invariant-parts l = types.meet_all l.typing (spec.types (drop l.part-index l.parts)) ≡ types.meet_all l.fn.first (spec.types l.parts)
