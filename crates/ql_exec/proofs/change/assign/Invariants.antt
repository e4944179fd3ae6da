use Rattle.std.proofs.Common.{◌≡◌, ◌+◌, drop, length}
use Rattle.std.specs.Vec.Iter.{into_iter_items}
use Rattle.ql_rel.specs.ChangeEffects as spec
use Rattle.ql_exec.proofs.change.assign.Given as goal

-- the values that are left go to the places that are left
abbrev pub invariant-new : goal.invariant-new
invariant-new l = record {
  size : length l.row.items ≡ length l.fn.row.items;
  each : l.place + length (into_iter_items l.value-iterator) ≡ length l.targets;
  row : spec.with_new (drop l.place l.targets) (into_iter_items l.value-iterator) (drop 1 l.row.items) ≡ spec.with_new l.targets l.fn.new (drop 1 l.fn.row.items);
}
