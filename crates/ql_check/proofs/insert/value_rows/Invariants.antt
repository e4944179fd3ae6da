use Rattle.std.proofs.Common.{◌≡◌, map, drop}
use Rattle.ql_syntax.specs.Answers.{all_of}
use Rattle.ql_rel.specs.InsertPlans.{value_row}
use Rattle.ql_check_expr.proofs.Turns.{behind}
use Rattle.ql_check.proofs.insert.value_rows.Given as goal

-- the rows so far, and those that are left
abbrev pub invariant-rows : goal.invariant-rows
invariant-rows l = behind l.list (all_of (map (value_row l.targets) (drop l.exprs-index l.rows))) ≡ all_of (map (value_row l.targets) l.rows)
