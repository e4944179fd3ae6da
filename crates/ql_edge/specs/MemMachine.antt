-- What a machine in memory shows beside its meanings as a device.
use Rattle.std.specs.Prelude.{◌≡◌, ℕ, ◌+◌, ◌-◌, ◌≤◌, min, List, length, Contains, Option, Some, None, Result, Ok, Err}
use Rattle.ql_edge.specs.Cause.{Rose}
use Rattle.ql_edge.specs.Disk.{Files}
use Rattle.ql_edge.specs.Events.{AreImages, AreImagesSince}
use Rattle.ql_edge.specs.MemDisk.{disk_files, disk_first, disk_events}
use Rattle.ql_edge.specs.Stops.{IsSameBut}
use Rattle.ql_edge.specs.declared.event.Event.{Event}
use Rattle.ql_edge.specs.declared.fault.DeviceFault.{DeviceFault}
use Rattle.ql_edge.specs.declared.fault.DeviceFault.TheVariants as fault
use Rattle.ql_edge.specs.declared.memory.MemMachine.{MemMachine}
use Rattle.ql_edge.specs.declared.memory.MemPlan.{MemPlan}

-- its two files as a read gives them
abbrev pub files_of : MemMachine → Files
files_of m = disk_files m.disk

-- the two files that it began with
abbrev pub first_of : MemMachine → Files
first_of m = disk_first m.disk

-- the device calls that it has had
abbrev pub events_of : MemMachine → List Event
events_of m = disk_events m.disk

-- how many these are
abbrev pub calls_of : MemMachine → ℕ
calls_of m = length (events_of m)

-- what it was told to refuse
abbrev pub plan_of : MemMachine → MemPlan
plan_of m = m.plan

-- what it has shown and warned
abbrev pub texts_of : MemMachine → List ℕ × List ℕ
texts_of m = (m.shown, m.warned)

-- the plan refuses the next call
abbrev pub IsRefused : MemMachine → Type 0
IsRefused m = Contains (plan_of m).fails (calls_of m)

-- how many bytes of a piece there is room for, where so many bytes may be shown in all
abbrev pub room_under : Option ℕ → ℕ → ℕ → ℕ
room_under None shown piece = piece
room_under (Some total) shown piece = min piece (total - shown)

-- how many bytes of a piece of a length the plan lets be shown
abbrev pub room_of : MemMachine → ℕ → ℕ
room_of m piece = room_under (plan_of m).show_total (length m.shown) piece

-- how many calls there were after a fault: one that is want of memory is not counted
abbrev pub calls_after_fault : DeviceFault → ℕ → ℕ
calls_after_fault fault.Failed before = before + 1
calls_after_fault fault.NoMemory before = before

-- how many there were after a call
abbrev pub calls_after : {T : Type 0} → Result T DeviceFault → ℕ → ℕ
calls_after (Ok _) before = before + 1
calls_after (Err f) before = calls_after_fault f before

-- a call was counted by what it answers, and the plan stays as it is
pub record CountsCall {T : Type 0} (result : Result T DeviceFault) (before now : MemMachine) : Type 0 where
  pub calls : calls_of now ≡ calls_after result (calls_of before)
  pub plan : plan_of now ≡ plan_of before

-- the same machine, where more may have been shown and warned in calls that did nothing to the files
pub record IsReshown (before now : MemMachine) : Type 0 where
  pub name : now.name ≡ before.name
  pub rises : length before.shown ≤ length now.shown
  pub volume : IsSameBut (Some (files_of before)) (Some (files_of now)) (AreImages (first_of before) (events_of before)) (AreImages (first_of now) (events_of now)) (calls_of before) (calls_of now) (AreImagesSince (first_of before) (events_of before)) (AreImagesSince (first_of now) (events_of now)) (Some (texts_of before)) (Some (texts_of now))

-- the same machine but for its record of calls and its count of faults
pub record IsAlike (before now : MemMachine) : Type 0 where
  pub name : now.name ≡ before.name
  pub files : files_of now ≡ files_of before
  pub first : first_of now ≡ first_of before
  pub texts : texts_of now ≡ texts_of before
  pub script : now.script ≡ before.script
  pub taken : now.taken ≡ before.taken
  pub plan : plan_of now ≡ plan_of before

-- whether the count of faults rose
abbrev pub IsCausedFault : DeviceFault → ℕ → ℕ → Type 0
IsCausedFault fault.Failed before now = Rose before now
IsCausedFault fault.NoMemory before now = now ≡ before
