use Rattle.std.proofs.Common.{◌≡◌, ◌++◌, map}
use Rattle.std.specs.Vec.Iter.{into_iter_items}
use Rattle.ql_check.proofs.change.parts_of.Given as goal

-- the parts so far, and those of the assignments that are left
abbrev pub invariant-changes : goal.invariant-changes
invariant-changes l = record {
  targets : l.targets ++ map (λ x. x.at) (into_iter_items l.change-iterator) ≡ map (λ x. x.at) l.fn.changes;
  fields : l.fields ++ map (λ x. x.value) (into_iter_items l.change-iterator) ≡ map (λ x. x.value) l.fn.changes;
}
