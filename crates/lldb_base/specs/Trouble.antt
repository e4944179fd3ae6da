-- Which answers a call may give, and when it may say that a device failed.
use Rattle.std.specs.Prelude.{◌≡◌, ℕ, ◌+◌, ◌-◌, ◌^◌, ◌<◌, ◌≤◌, min, Bool, true, false, Result, Ok, Err}
use Rattle.ql_edge.specs.Cause.{Rose}
use Rattle.ql_edge.specs.declared.fault.DeviceFault.{DeviceFault}
use Rattle.ql_edge.specs.declared.fault.DeviceFault.TheVariants as device
use Rattle.lldb_base.specs.declared.trouble.Trouble.{Trouble}
use Rattle.lldb_base.specs.declared.trouble.Trouble.TheVariants as trouble

-- `Failed` comes only where the count of faults rose in the call, and every other answer leaves the count
abbrev pub IsCausedTrouble : {T : Type 0} → Result T Trouble → ℕ → ℕ → Type 0
IsCausedTrouble (Ok _) before now = now ≡ before
IsCausedTrouble (Err trouble.Failed) before now = Rose before now
IsCausedTrouble (Err trouble.NoMemory) before now = now ≡ before
IsCausedTrouble (Err (trouble.Full _ _)) before now = now ≡ before
IsCausedTrouble (Err trouble.Damaged) before now = now ≡ before

-- `Full` comes only where its numbers are allowed, and `Damaged` only where that is
abbrev pub Refuses : {T : Type 0} → (ℕ → ℕ → Type 0) → Type 0 → Result T Trouble → Type 0
Refuses full damaged (Ok _) = Unit {0}
Refuses full damaged (Err trouble.Failed) = Unit {0}
Refuses full damaged (Err trouble.NoMemory) = Unit {0}
Refuses full damaged (Err (trouble.Full need limit)) = full need limit
Refuses full damaged (Err trouble.Damaged) = damaged

-- a size is asked for that is over the present one and over the limit, and `Full` names it and the limit
abbrev pub IsOver : (size limit asked : ℕ) → ℕ → ℕ → Type 0
IsOver size limit asked need most = (need ≡ asked) × (most ≡ limit) × (size < need) × (limit < need)

-- whether a filer is sound after a call that writes: a device that failed leaves it unsound, one that had no memory may
abbrev pub SoundAfter : {T : Type 0} → Result T Trouble → Bool → Type 0
SoundAfter (Ok _) now = now ≡ true
SoundAfter (Err trouble.Failed) now = now ≡ false
SoundAfter (Err trouble.NoMemory) now = Unit {0}
SoundAfter (Err (trouble.Full _ _)) now = now ≡ true
SoundAfter (Err trouble.Damaged) now = ⊥

-- a count of work: it rises by n, and by at most n in a call that is refused, and stands still at the end of its type
abbrev pub Counts : {T E : Type 0} → Result T E → ℕ → ℕ → ℕ → Type 0
Counts (Ok _) n before now = now ≡ min (before + n) (2 ^ 64 - 1)
Counts (Err _) n before now = (before ≤ now) × (now ≤ before + n)

-- what a device's refusal becomes
abbrev pub trouble_of : DeviceFault → Trouble
trouble_of device.Failed = trouble.Failed
trouble_of device.NoMemory = trouble.NoMemory
