-- Laws by which a reader checks the spelling of rows.
use Rattle.std.specs.Prelude.{◌≡◌, ℕ, ◌+◌, List, length, sum_by}
use Rattle.ql_value.specs.Length.{value_length}
use Rattle.ql_value.specs.Rows.{Spells, row_bytes}
use Rattle.ql_value.specs.declared.value.Kind.{Kind}
use Rattle.ql_value.specs.declared.value.Value.{Value}

-- bytes spell one row of some kinds at most, and a row has as many bytes as its length says
pub record RowLaws : Type 0 where
  pub one : (kinds : List Kind) (x y : List Value) (bytes : List ℕ) → Spells kinds x bytes → Spells kinds y bytes → x ≡ y
  pub count : (values : List Value) → length (row_bytes values) ≡ 2 + sum_by value_length values
