use Rattle.std.proofs.Common.{◌≡◌, ◌++◌}
use Rattle.std.specs.Vec.Iter.{into_iter_items}
use Rattle.ql_check.specs.Outputs.{trees}
use Rattle.ql_check.proofs.plan.trees_of.Given as goal

-- the trees so far, and those of the expressions that are left
abbrev pub invariant-parts : goal.invariant-parts
invariant-parts l = l.list ++ trees (into_iter_items l.part-iterator) ≡ trees l.fn.parts
