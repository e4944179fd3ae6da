-- How the fault of a statement ends a run.
use Rattle.std.specs.Prelude.{◌≡◌, ℕ}
use Rattle.lldb_base.specs.declared.trouble.Trouble.{Trouble}
use Rattle.lldb_base.specs.declared.trouble.Trouble.TheVariants as trouble
use Rattle.ql_shell.specs.declared.fault.StepFault.{StepFault}
use Rattle.ql_shell.specs.declared.fault.StepFault.TheVariants as step
use Rattle.ql_shell.specs.declared.status.Status.{Status}
use Rattle.ql_shell.specs.declared.status.Status.TheVariants as status

-- a trouble that may end a run
abbrev pub MayEnd : Trouble → Type 0
MayEnd trouble.Failed = Unit {0}
MayEnd trouble.NoMemory = Unit {0}
MayEnd (trouble.Full _ _) = ⊥
MayEnd trouble.Damaged = ⊥

-- the same of the fault of a statement
abbrev pub MayStop : StepFault → Type 0
MayStop (step.Refused _) = Unit {0}
MayStop (step.Trouble t) = MayEnd t

-- the status of a run that a trouble ends
abbrev pub EndsBy : Trouble → Status → Type 0
EndsBy trouble.Failed s = s ≡ status.Fault
EndsBy trouble.NoMemory s = s ≡ status.NoMemory
EndsBy (trouble.Full _ _) s = ⊥
EndsBy trouble.Damaged s = ⊥

-- the status of a run that the statement of a number stops
abbrev pub StopsBy : ℕ → StepFault → Status → Type 0
StopsBy number (step.Refused refusal) s = s ≡ status.Refused number refusal
StopsBy number (step.Trouble t) s = EndsBy t s
