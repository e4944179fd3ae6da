-- The status of a run that a statement stops.
use Rattle.std.proofs.Common.{◌≡◌, ℕ, Option, Some, None, Err, subst, sym, ◌∙◌}
use Rattle.ql_edge.specs.Cause.{Rose}
use Rattle.lldb_base.specs.declared.trouble.Trouble.TheVariants as trouble
use Rattle.ql_rel.specs.declared.db.Db.{Db}
use Rattle.ql_shell.specs.Cause.{IsCausedStatus}
use Rattle.ql_shell.specs.Goings.{IsCausedStep}
use Rattle.ql_shell.specs.Run.{EndsStatements}
use Rattle.ql_shell.specs.Stops.{MayStop, StopsBy}
use Rattle.ql_shell.specs.declared.fault.StepFault.{StepFault}
use Rattle.ql_shell.specs.declared.fault.StepFault.TheVariants as step
use Rattle.ql_shell.specs.declared.status.Status.{Status}

-- tables that are told and have no limit have no trouble but a device's failure and want of memory
pub may_stop : (f : StepFault) (limit : Option ℕ) (told : Option Db) (d : Db) (before now : ℕ) → limit ≡ None → told ≡ Some d → IsCausedStep {T = Unit {0}} limit told (Err f) before now → MayStop f
may_stop (step.Refused r) limit told d before now l t h = tt
may_stop (step.Trouble trouble.Failed) limit told d before now l t h = tt
may_stop (step.Trouble trouble.NoMemory) limit told d before now l t h = tt
may_stop (step.Trouble (trouble.Full need most)) limit told d before now l t h = absurd (let no : None ≡ Some most = sym l ∙ h.1 in cc)
may_stop (step.Trouble trouble.Damaged) limit told d before now l t h = absurd (let no : Some d ≡ None = sym t ∙ h.1 in cc)

pub stop_caused : (number : ℕ) (f : StepFault) (result : Status) (limit : Option ℕ) (told : Option Db) (before mid now : ℕ) → mid ≡ before → IsCausedStep {T = Unit {0}} limit told (Err f) mid now → StopsBy number f result → IsCausedStatus result before now
stop_caused number (step.Refused r) result limit told before mid now e h i = rw i (h ∙ e)
stop_caused number (step.Trouble trouble.Failed) result limit told before mid now e h i = rw i (subst (λ (z : ℕ). Rose z now) e h)
stop_caused number (step.Trouble trouble.NoMemory) result limit told before mid now e h i = rw i (h ∙ e)
stop_caused number (step.Trouble (trouble.Full _ _)) result limit told before mid now e h i = absurd i
stop_caused number (step.Trouble trouble.Damaged) result limit told before mid now e h i = absurd i

pub stop_ends : (number : ℕ) (f : StepFault) (result : Status) → StopsBy number f result → EndsStatements result
stop_ends number (step.Refused r) result i = rw i tt
stop_ends number (step.Trouble trouble.Failed) result i = rw i tt
stop_ends number (step.Trouble trouble.NoMemory) result i = rw i tt
stop_ends number (step.Trouble (trouble.Full _ _)) result i = absurd i
stop_ends number (step.Trouble trouble.Damaged) result i = absurd i
