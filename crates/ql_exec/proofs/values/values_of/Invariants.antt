use Rattle.std.proofs.Common.{◌≡◌, drop}
use Rattle.ql_rel.specs.Rows as spec
use Rattle.ql_rel.proofs.Gathered.{behind}
use Rattle.ql_exec.specs.Answers.{AreTypedAt}
use Rattle.ql_exec.proofs.values.values_of.Given as goal

-- the values so far, and the expressions that are left
abbrev pub invariant-exprs : goal.invariant-exprs
invariant-exprs l = record {
  values : behind l.values (spec.values_of l.row (drop l.expr-index l.exprs)) ≡ spec.values_of l.row l.exprs;
  typed : AreTypedAt l.row (drop l.expr-index l.exprs);
}
