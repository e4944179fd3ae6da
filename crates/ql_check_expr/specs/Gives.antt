-- How the answer of the checker stands to what is defined.
use Rattle.std.specs.Prelude.{Option, None, Some, Result, Ok, Err}
use Rattle.ql_edge.specs.Answers as edge
use Rattle.ql_syntax.specs.Answers.{Answer}
use Rattle.ql_check_expr.specs.declared.fault.CheckFault.{CheckFault}
use Rattle.ql_check_expr.specs.declared.fault.CheckFault.TheVariants as fault

-- the answer that a fault stands for, and none for want of memory
abbrev pub stands_for : {A : Type 0} → CheckFault → Option (Answer A)
stands_for (fault.Refused r) = Some (Err r)
stands_for fault.NoMemory = None

-- the answer is this outcome, or memory ran out
abbrev pub Gives : {A : Type 0} → Answer A → Result A CheckFault → Type 0
Gives = edge.Gives Ok stands_for
