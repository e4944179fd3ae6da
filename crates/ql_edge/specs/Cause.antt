-- When a call may say that its device failed: a count of faults tells.
use Rattle.std.specs.Prelude.{◌≡◌, ℕ, ◌+◌, ◌-◌, ◌^◌, ◌≤◌, min, Result, Ok, Err}
use Rattle.ql_edge.specs.declared.fault.DeviceFault.{DeviceFault}
use Rattle.ql_edge.specs.declared.fault.DeviceFault.TheVariants as fault

-- the count rose, or stands at the end of its type
abbrev pub Rose : ℕ → ℕ → Type 0
Rose before now = min (before + 1) (2 ^ 64 - 1) ≤ now

-- `Failed` comes only where the count rose in the call, and every other answer leaves the count
abbrev pub IsCaused : {T : Type 0} → Result T DeviceFault → ℕ → ℕ → Type 0
IsCaused (Ok _) before now = now ≡ before
IsCaused (Err fault.Failed) before now = Rose before now
IsCaused (Err fault.NoMemory) before now = now ≡ before
