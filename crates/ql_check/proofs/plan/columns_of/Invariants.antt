use Rattle.std.proofs.Common.{◌≡◌, ◌++◌, map}
use Rattle.std.specs.Vec.Iter.{into_iter_items}
use Rattle.ql_check.proofs.plan.columns_of.Given as goal

-- the columns so far, and those of the fields that are left
abbrev pub invariant-results : goal.invariant-results
invariant-results l = record {
  parts : l.parts ++ map (λ f. f.expr) (into_iter_items l.field-iterator) ≡ map (λ f. f.expr) l.fn.results;
  names : l.names ++ map (λ f. f.name) (into_iter_items l.field-iterator) ≡ map (λ f. f.name) l.fn.results;
}
