-- Laws that operations on values of a kind give values of that kind.
use Rattle.std.specs.Prelude.{ℤ, IfOk}
use Rattle.ql_value.specs.declared.value.Kind.{Kind}
use Rattle.ql_value.specs.declared.value.Value.{Value}
use Rattle.ql_value.specs.declared.operator.BinOp.{BinOp}
use Rattle.ql_value.specs.Number.{HasKind, IsInteger}
use Rattle.ql_value.specs.Arith.{arith_of}
use Rattle.ql_value.specs.Convert.{IsConvertible, converted, fitted}

-- arithmetic gives a value of the left side's kind, a conversion and a fit one of the kind that is asked
pub record KindLaws : Type 0 where
  pub arithmetic : (o : BinOp) (kind own : Kind) (x y : Value) → HasKind kind x → HasKind own y → IfOk (arith_of o x y) (HasKind kind)
  pub conversion : (kind : Kind) (x : Value) → IsConvertible kind x → HasKind kind (converted kind x)
  pub fit : (kind : Kind) (z : ℤ) → IsInteger kind → IfOk (fitted kind z) (HasKind kind)
