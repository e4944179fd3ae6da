-- What a fold that looks into no SELECT says of an expression, from what it says of its parts.
use Rattle.std.proofs.Common.{◌≡◌}
use Rattle.ql_syntax.specs.declared.syntax.Expr.{Expr, roll-Expr}
use Rattle.ql_syntax.specs.declared.syntax.Expr.TheOpen.{Expr-F, Link-F}
use Rattle.ql_syntax.specs.declared.syntax.Expr.TheFolds.{fold-roll-Expr, fold-roll-Link}
use Rattle.ql_syntax.specs.declared.syntax.Field.{Field}
use Rattle.ql_syntax.specs.declared.syntax.FromSet.{FromSet}
use Rattle.ql_syntax.specs.declared.syntax.Join.{Join}
use Rattle.ql_syntax.specs.declared.syntax.Link.{Link, roll-Link}
use Rattle.ql_syntax.specs.declared.syntax.Select.{Select}
use Rattle.ql_syntax.specs.declared.syntax.SetSource.{SetSource}
use Rattle.ql_syntax.specs.PartFolds.{Parts, LinkParts, fold_parts, fold_link_parts, fold_each}

module _ (A L : Type 0) (step : Parts A L → A) (link : LinkParts A L → L) where
  pub by_parts : (z : Expr-F Expr SetSource Field FromSet Join Link Select) → fold_parts A L step link (roll-Expr z) ≡ step (fold_each A L (fold_parts A L step link) (fold_link_parts A L step link) z)
  by_parts z = fold-roll-Expr A (Unit {0}) (Unit {0}) (Unit {0}) (Unit {0}) L (Unit {0}) step (λ _. tt) (λ _. tt) (λ _. tt) (λ _. tt) link (λ _. tt) z

  pub by_link_part : (z : Link-F Expr SetSource Field FromSet Join Link Select) → fold_link_parts A L step link (roll-Link z) ≡ link (record { op = z.op; part = fold_parts A L step link z.part })
  by_link_part z = fold-roll-Link A (Unit {0}) (Unit {0}) (Unit {0}) (Unit {0}) L (Unit {0}) step (λ _. tt) (λ _. tt) (λ _. tt) (λ _. tt) link (λ _. tt) z
