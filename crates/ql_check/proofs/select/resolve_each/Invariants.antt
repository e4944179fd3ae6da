use Rattle.std.proofs.Common.{◌≡◌, drop}
use Rattle.ql_rel.specs.Plans as spec
use Rattle.ql_check_expr.proofs.Turns.{behind}
use Rattle.ql_check.proofs.select.resolve_each.Given as goal

-- the expressions so far, and those that are left
abbrev pub invariant-exprs : goal.invariant-exprs
invariant-exprs l = behind l.trees (spec.resolve_each l.scope (drop l.expr-index l.exprs)) ≡ spec.resolve_each l.scope l.exprs
