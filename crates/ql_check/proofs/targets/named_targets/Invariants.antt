use Rattle.std.proofs.Common.{◌≡◌, ℕ, List, [], map, take, drop}
use Rattle.ql_rel.specs.Targets as spec
use Rattle.ql_check_expr.proofs.Turns.{behind}
use Rattle.ql_check.specs.NameSets.{HoldsNames}
use Rattle.ql_check.proofs.targets.named_targets.Given as goal

-- the names are those of the columns before; these, and what the ones that are left come to behind them, are what all come to
abbrev pub invariant-named : goal.invariant-named
invariant-named l = record {
  names : HoldsNames l.names (map (λ (n : List ℕ). n) (take l.name-index l.named));
  targets : behind l.targets (spec.named_targets l.columns (map (λ (n : List ℕ). n) (take l.name-index l.named)) (drop l.name-index l.named)) ≡ spec.named_targets l.columns [] l.named;
}
