-- Laws by which a reader checks the order of values.
use Rattle.std.specs.Prelude.{◌≡◌, ◌≢◌}
use Rattle.std.specs.Cmp.{IsTotalOrder}
use Rattle.std.specs.declared.cmp.Ordering.TheVariants.{Equal, Greater}
use Rattle.ql_value.specs.declared.value.Kind.{Kind}
use Rattle.ql_value.specs.declared.value.Value.{Value}
use Rattle.ql_value.specs.declared.value.Value.TheVariants as v
use Rattle.ql_value.specs.Number.{HasKind}
use Rattle.ql_value.specs.Order.{compared}

-- the order is total, tells two values of one kind apart, and puts NULL before all others
pub record OrderLaws : Type 0 where
  pub total : IsTotalOrder compared
  pub same : (kind : Kind) (x y : Value) → HasKind kind x → HasKind kind y → compared x y ≡ Equal → x ≡ y
  pub null_first : (x : Value) → compared v.Null x ≢ Greater
