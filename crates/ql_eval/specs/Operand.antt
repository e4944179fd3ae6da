-- What the value of a part is, wherever it stands.
use Rattle.std.specs.Prelude.{Result}
use Rattle.ql_edge.specs.Answers as edge
use Rattle.ql_value.specs.declared.value.Value.{Value}
use Rattle.ql_syntax.specs.Values.{Outcome, gives}
use Rattle.ql_eval.specs.declared.fault.EvalFault.{EvalFault}
use Rattle.ql_eval.specs.declared.operand.Operand.{Operand}
use Rattle.ql_eval.specs.declared.operand.Operand.TheVariants as operand
use Rattle.ql_eval.specs.Gives.{stands_for}

-- the value
abbrev pub value_of : Operand → Value
value_of (operand.Borrowed value) = value.now
value_of (operand.Owned value) = value

-- the answer is this outcome, or memory ran out
abbrev pub GivesOperand : Outcome → Result Operand EvalFault → Type 0
GivesOperand = edge.Gives (λ o. gives (value_of o)) stands_for
