-- Folds over an expression that look into no SELECT.
use Rattle.ql_syntax.specs.declared.syntax.Expr.{Expr, map-Expr}
use Rattle.ql_syntax.specs.declared.syntax.Expr.TheOpen.{Expr-F, Link-F}
use Rattle.ql_syntax.specs.declared.syntax.Expr.TheFolds.{fold-Expr, fold-Link}
use Rattle.ql_syntax.specs.declared.syntax.Field.{Field}
use Rattle.ql_syntax.specs.declared.syntax.FromSet.{FromSet}
use Rattle.ql_syntax.specs.declared.syntax.Join.{Join}
use Rattle.ql_syntax.specs.declared.syntax.Link.{Link}
use Rattle.ql_syntax.specs.declared.syntax.Select.{Select}
use Rattle.ql_syntax.specs.declared.syntax.SetSource.{SetSource}

-- an expression of one layer, with what is said of its parts and of its links; nothing is said of a SELECT
abbrev pub Parts : Type 0 → Type 0 → Type 0
Parts A L = Expr-F A (Unit {0}) (Unit {0}) (Unit {0}) (Unit {0}) L (Unit {0})

-- a link of a chain, with what is said of its part
abbrev pub LinkParts : Type 0 → Type 0 → Type 0
LinkParts A L = Link-F A (Unit {0}) (Unit {0}) (Unit {0}) (Unit {0}) L (Unit {0})

-- what is said of an expression, from what is said of its parts
abbrev pub fold_parts : (A L : Type 0) → (Parts A L → A) → (LinkParts A L → L) → Expr → A
fold_parts A L step link = fold-Expr A (Unit {0}) (Unit {0}) (Unit {0}) (Unit {0}) L (Unit {0}) step (λ _. tt) (λ _. tt) (λ _. tt) (λ _. tt) link (λ _. tt)

-- the same of a link of a chain
abbrev pub fold_link_parts : (A L : Type 0) → (Parts A L → A) → (LinkParts A L → L) → Link → L
fold_link_parts A L step link = fold-Link A (Unit {0}) (Unit {0}) (Unit {0}) (Unit {0}) L (Unit {0}) step (λ _. tt) (λ _. tt) (λ _. tt) (λ _. tt) link (λ _. tt)

-- an expression of one layer, with what a fold says of its parts
abbrev pub fold_each : (A L : Type 0) → (Expr → A) → (Link → L) → Expr-F Expr SetSource Field FromSet Join Link Select → Parts A L
fold_each A L of_part of_link = map-Expr Expr SetSource Field FromSet Join Link Select A (Unit {0}) (Unit {0}) (Unit {0}) (Unit {0}) L (Unit {0}) of_part (λ _. tt) (λ _. tt) (λ _. tt) (λ _. tt) of_link (λ _. tt)
