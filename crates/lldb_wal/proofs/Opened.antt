-- What files are once they are opened, by what they were found to be.
use Rattle.std.proofs.Common.{◌≡◌, ℕ, true, List, [], Option, Some, None, option_map, is_some, sym, ap, subst, ◌∙◌}
use Rattle.std.specs.Prelude.{IfSome, Result, Ok, Err}
use Rattle.std.specs.Option.{unwrap_or}
use Rattle.ql_edge.specs.Disk.{Files}
use Rattle.ql_edge.specs.declared.fault.DeviceFault.{DeviceFault}
use Rattle.ql_edge.specs.declared.fault.DeviceFault.TheVariants as device
use Rattle.lldb_base.specs.Batch.{Edits}
use Rattle.lldb_wal.specs.Fault.{fault_of, Refutes, IsUnwritten, Unwritten}
use Rattle.lldb_wal.specs.declared.fault.WalFault.{WalFault}
use Rattle.lldb_wal.specs.declared.fault.WalFault.TheVariants as fault
use Rattle.lldb_wal.specs.Kept.{kept, Beside}
use Rattle.lldb_wal.specs.Opened.{IsSameKept, created, settled}
use Rattle.lldb_wal.specs.Opening.{opening, opened}
use Rattle.lldb_wal.specs.Spelling.{log_header}
use Rattle.lldb_wal.specs.declared.state.Opening.{Opening}
use Rattle.lldb_wal.specs.declared.state.Opening.TheVariants.{New, Closed, Open}

pub new_settled : (magic : List ℕ) (before now : Option Files) → IfSome before (λ f. opening magic f.0 f.1 ≡ New) → now ≡ option_map (created magic) before → now ≡ option_map (settled magic) before
new_settled magic None now found is = is
new_settled magic (Some f) now found is = is ∙ ap (λ (o : Option (List ℕ)). Some (unwrap_or o [], log_header 0)) (sym (ap (opened magic f.0) found))

pub found_as : (magic : List ℕ) (found what : Opening) (files : Option Files) → IfSome files (λ f. found ≡ opening magic f.0 f.1) → found ≡ what → IfSome files (λ f. opening magic f.0 f.1 ≡ what)
found_as magic found what None is same = tt
found_as magic found what (Some f) is same = sym is ∙ same

pub opens_new : (magic : List ℕ) (files : Option Files) → IfSome files (λ f. opening magic f.0 f.1 ≡ New) → IfSome files (λ f. is_some (kept magic f) ≡ true)
opens_new magic None found = tt
opens_new magic (Some f) found = ap (λ (o : Opening). is_some (opened magic f.0 o)) found

pub opens_closed : (magic : List ℕ) (files : Option Files) → IfSome files (λ f. opening magic f.0 f.1 ≡ Closed) → IfSome files (λ f. is_some (kept magic f) ≡ true)
opens_closed magic None found = tt
opens_closed magic (Some f) found = ap (λ (o : Opening). is_some (opened magic f.0 o)) found

pub opens_open : (magic : List ℕ) (batch : Edits) (files : Option Files) → IfSome files (λ f. opening magic f.0 f.1 ≡ Open batch) → IfSome files (λ f. is_some (kept magic f) ≡ true)
opens_open magic batch None found = tt
opens_open magic batch (Some f) found = ap (λ (o : Opening). is_some (opened magic f.0 o)) found

pub judges_device : (magic : List ℕ) (files : Option Files) (x : DeviceFault) → Refutes magic files (fault_of x)
judges_device magic files device.Failed = tt
judges_device magic files device.NoMemory = tt

pub unwritten_device : (same : Type 0) (x : DeviceFault) → IsUnwritten (fault_of x) same
unwritten_device same device.Failed = tt
unwritten_device same device.NoMemory = tt

pub same_before : (magic : List ℕ) (old now : Option Files) (c : Files) → now ≡ old → Beside now (IsSameKept magic) c → Beside old (IsSameKept magic) c
same_before magic old now c same fact = subst (λ (o : Option Files). Beside o (IsSameKept magic) c) same fact

by_fault : (x : WalFault) (A B : Type 0) → IsUnwritten x A → (A → B) → IsUnwritten x B
by_fault fault.NotDatabase A B fact more = more fact
by_fault (fault.BadLog at) A B fact more = more fact
by_fault fault.Failed A B fact more = tt
by_fault fault.NoMemory A B fact more = tt

pub unwritten_then : {T : Type 0} (result : Result T WalFault) (A B : Type 0) → Unwritten result A → (A → B) → Unwritten result B
unwritten_then (Ok x) A B fact more = tt
unwritten_then (Err x) A B fact more = by_fault x A B fact more
