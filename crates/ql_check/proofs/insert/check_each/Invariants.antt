use Rattle.std.proofs.Common.{◌≡◌, false, map, drop}
use Rattle.ql_syntax.specs.Answers.{all_of}
use Rattle.ql_syntax.specs.Resolving.{check_expr}
use Rattle.ql_check_expr.proofs.Turns.{behind}
use Rattle.ql_check.proofs.insert.check_each.Given as goal

-- the expressions so far, and those that are left
abbrev pub invariant-exprs : goal.invariant-exprs
invariant-exprs l = behind l.parts (all_of (map (check_expr l.scope false) (drop l.expr-index l.exprs))) ≡ all_of (map (check_expr l.scope false) l.exprs)
