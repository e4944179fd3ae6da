use Rattle.std.proofs.Common.{◌≡◌, map, drop}
use Rattle.ql_syntax.specs.Operands as operands
use Rattle.ql_syntax.specs.Resolving as spec
use Rattle.ql_check_expr.proofs.Turns.{behind}
use Rattle.ql_check_expr.proofs.expression.+check.Given as goal

-- the links that are left, behind what stands before them, give what all of them give
abbrev pub invariant-check_links-links : goal.invariant-check_links-links
invariant-check_links-links l = operands.add_steps l.before (spec.steps l.aggregates (map (spec.judge_link l.scope) (drop l.link-index l.links))) ≡ operands.add_steps l.fn.first (spec.steps l.aggregates (map (spec.judge_link l.scope) l.links))

-- the expressions so far, and those that are left
abbrev pub invariant-check_exprs-exprs : goal.invariant-check_exprs-exprs
invariant-check_exprs-exprs l = behind l.list (spec.answers l.aggregates (map (spec.judge l.scope) (drop l.expr-index l.exprs))) ≡ spec.answers l.aggregates (map (spec.judge l.scope) l.exprs)
