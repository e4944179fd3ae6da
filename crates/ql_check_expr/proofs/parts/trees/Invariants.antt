use Rattle.std.proofs.Common.{◌≡◌, ◌++◌}
use Rattle.std.specs.Vec.Iter.{into_iter_items}
use Rattle.ql_syntax.specs.Operands as spec
use Rattle.ql_check_expr.proofs.parts.trees.Given as goal

-- the trees so far, and those of the parts that are left
abbrev pub invariant-parts : goal.invariant-parts
invariant-parts l = l.trees ++ spec.trees (into_iter_items l.part-iterator) ≡ spec.trees l.fn.parts
