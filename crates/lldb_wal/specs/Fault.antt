-- Why two files are not opened, and when that may be said.
use Rattle.std.specs.Prelude.{◌≡◌, ℕ, List, is_some, true, Option, Result, Ok, Err, IfSome}
use Rattle.ql_edge.specs.Cause.{Rose}
use Rattle.ql_edge.specs.Disk.{Files}
use Rattle.ql_edge.specs.declared.fault.DeviceFault.{DeviceFault}
use Rattle.ql_edge.specs.declared.fault.DeviceFault.TheVariants as device
use Rattle.lldb_wal.specs.Kept.{kept}
use Rattle.lldb_wal.specs.Opening.{opening}
use Rattle.lldb_wal.specs.declared.fault.WalFault.{WalFault}
use Rattle.lldb_wal.specs.declared.fault.WalFault.TheVariants as fault
use Rattle.lldb_wal.specs.declared.state.Opening.TheVariants.{NotDatabase, BadLog}

-- what a device's refusal becomes
abbrev pub fault_of : DeviceFault → WalFault
fault_of device.Failed = fault.Failed
fault_of device.NoMemory = fault.NoMemory

-- `Failed` comes only where the count of faults rose in the call, and every other answer leaves the count
abbrev pub IsCausedBy : WalFault → ℕ → ℕ → Type 0
IsCausedBy fault.NotDatabase before now = now ≡ before
IsCausedBy (fault.BadLog _) before now = now ≡ before
IsCausedBy fault.Failed before now = Rose before now
IsCausedBy fault.NoMemory before now = now ≡ before

abbrev pub IsCausedFault : {T : Type 0} → Result T WalFault → ℕ → ℕ → Type 0
IsCausedFault (Ok _) before now = now ≡ before
IsCausedFault (Err x) before now = IsCausedBy x before now

-- what is no database is refused as that, and a faulty log with its place
abbrev pub Refutes : List ℕ → Option Files → WalFault → Type 0
Refutes magic files fault.NotDatabase = IfSome files (λ f. opening magic f.0 f.1 ≡ NotDatabase)
Refutes magic files (fault.BadLog at) = IfSome files (λ f. opening magic f.0 f.1 ≡ BadLog at)
Refutes magic files fault.Failed = Unit {0}
Refutes magic files fault.NoMemory = Unit {0}

-- and files are opened only where they keep something
abbrev pub Judges : {T : Type 0} → List ℕ → Option Files → Result T WalFault → Type 0
Judges magic files (Ok _) = IfSome files (λ f. is_some (kept magic f) ≡ true)
Judges magic files (Err x) = Refutes magic files x

-- where files are refused as no database or with a faulty log, nothing was written
abbrev pub IsUnwritten : WalFault → Type 0 → Type 0
IsUnwritten fault.NotDatabase same = same
IsUnwritten (fault.BadLog _) same = same
IsUnwritten fault.Failed same = Unit {0}
IsUnwritten fault.NoMemory same = Unit {0}

abbrev pub Unwritten : {T : Type 0} → Result T WalFault → Type 0 → Type 0
Unwritten (Ok _) same = Unit {0}
Unwritten (Err x) same = IsUnwritten x same
