-- How the answer of an evaluation stands to what the expression comes to.
use Rattle.std.specs.Prelude.{Option, None, Some, Result}
use Rattle.ql_edge.specs.Answers as edge
use Rattle.ql_value.specs.declared.fault.ValueFault.{ValueFault}
use Rattle.ql_value.specs.declared.fault.ValueFault.TheVariants as from
use Rattle.ql_value.specs.declared.value.Value.{Value}
use Rattle.ql_syntax.specs.Values.{Outcome, gives, refuses, divide, range, negative_count}
use Rattle.ql_eval.specs.declared.fault.EvalFault.{EvalFault}
use Rattle.ql_eval.specs.declared.fault.EvalFault.TheVariants as fault

-- the outcome that a fault stands for, and none for want of memory
abbrev pub stands_for : EvalFault → Option Outcome
stands_for fault.Divide = Some (refuses divide)
stands_for fault.Range = Some (refuses range)
stands_for fault.NegativeCount = Some (refuses negative_count)
stands_for fault.NoMemory = None

-- the answer is this outcome, or memory ran out
abbrev pub Gives : Outcome → Result Value EvalFault → Type 0
Gives = edge.Gives gives stands_for

-- the fault of an operation on values as one of an evaluation
abbrev pub fault_of : ValueFault → EvalFault
fault_of from.Divide = fault.Divide
fault_of from.Range = fault.Range
fault_of from.NegativeCount = fault.NegativeCount
fault_of from.NoMemory = fault.NoMemory
