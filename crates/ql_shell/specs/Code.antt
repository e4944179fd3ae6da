-- The exit status for each way in which a run may end.
use Rattle.std.specs.Prelude.{ℕ}
use Rattle.ql_shell.specs.declared.status.Status.{Status}
use Rattle.ql_shell.specs.declared.status.Status.TheVariants.{Done, Script, Refused, Usage, Fault, NoMemory}

abbrev pub code_of : Status → ℕ
code_of Done = 0
code_of (Script _) = 1
code_of (Refused _ _) = 1
code_of (Usage _) = 2
code_of Fault = 3
code_of NoMemory = 5
