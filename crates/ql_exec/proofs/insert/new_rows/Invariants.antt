use Rattle.std.proofs.Common.{◌≡◌, [], drop}
use Rattle.std.specs.List.{AllByRecursion}
use Rattle.ql_syntax.specs.Typing.{type_of}
use Rattle.ql_rel.specs.InsertEffects as effect
use Rattle.ql_rel.specs.PlanTypes.{AreValuesFor}
use Rattle.ql_rel.proofs.Gathered.{behind}
use Rattle.ql_exec.proofs.insert.new_rows.Given as goal

-- the rows so far, and those that are left
abbrev pub invariant-rows : goal.invariant-rows
invariant-rows l = record {
  values : behind l.values (effect.new_rows l.targets l.columns (drop l.row-index l.rows)) ≡ effect.new_rows l.targets l.columns l.rows;
  typed : AllByRecursion (AreValuesFor (type_of []) l.columns l.targets) (drop l.row-index l.rows);
}
