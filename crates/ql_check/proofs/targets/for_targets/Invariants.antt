use Rattle.std.proofs.Common.{◌≡◌, ◌+◌, length, drop}
use Rattle.std.specs.Vec.Iter.{into_iter_items}
use Rattle.ql_rel.specs.Targets.{for_targets}
use Rattle.ql_check_expr.proofs.Turns.{behind}
use Rattle.ql_check.proofs.targets.for_targets.Given as goal

-- the values so far, and those for the columns that are left
abbrev pub invariant-parts : goal.invariant-parts
invariant-parts l = record {
  values : behind l.trees (for_targets (drop l.at l.targets) (into_iter_items l.part-iterator)) ≡ for_targets l.targets l.fn.parts;
  left : l.at + length (into_iter_items l.part-iterator) ≡ length l.targets;
}
