use Rattle.std.proofs.Common.{◌≡◌, ◌++◌}
use Rattle.std.specs.List.{AllByRecursion}
use Rattle.std.specs.Vec.Iter.{into_iter_items}
use Rattle.ql_rel.specs.InsertEffects.{rows_from}
use Rattle.ql_exec.specs.Selections.{AreFor}
use Rattle.ql_exec.proofs.insert.place_rows.Given as goal

-- the rows so far, and those that are left
abbrev pub invariant-rows : goal.invariant-rows
invariant-rows l = record {
  placed : l.placed ++ rows_from l.targets l.columns (into_iter_items l.values-iterator) ≡ rows_from l.targets l.columns l.fn.rows;
  each : AllByRecursion (AreFor l.columns l.targets) (into_iter_items l.values-iterator);
}
