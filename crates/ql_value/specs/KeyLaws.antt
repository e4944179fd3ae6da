-- Laws by which a reader checks the spelling of keys.
use Rattle.std.specs.Prelude.{◌≡◌, ℕ, List, ◌++◌, length}
use Rattle.std.specs.Cmp.Lexicographic.{slice_cmp}
use Rattle.std.specs.Ordering.{nat_cmp, ordering_then}
use Rattle.ql_value.specs.Keys.{key_bytes}
use Rattle.ql_value.specs.Length.{key_part_length}
use Rattle.ql_value.specs.Number.{HasKind}
use Rattle.ql_value.specs.Order.{compared}
use Rattle.ql_value.specs.declared.value.Kind.{Kind}
use Rattle.ql_value.specs.declared.value.Value.{Value}

-- On values of one kind the order of keys is that of the values, and what stands behind equal keys decides; so equal keys
-- mean equal values. A key has as many bytes as its length says.
pub record KeyLaws : Type 0 where
  pub order : (kind : Kind) (x y : Value) (a b : List ℕ) → HasKind kind x → HasKind kind y → slice_cmp nat_cmp (key_bytes x ++ a) (key_bytes y ++ b) ≡ ordering_then (compared x y) (slice_cmp nat_cmp a b)
  pub same : (kind : Kind) (x y : Value) → HasKind kind x → HasKind kind y → key_bytes x ≡ key_bytes y → x ≡ y
  pub count : (x : Value) → length (key_bytes x) ≡ key_part_length x
