-- Two files that are brought to rest: what they keep stays.
use Rattle.std.proofs.Common.{◌≡◌, ℕ, ◌≤◌, inl, inr, List, [], length, Option, Some, None, option_map, sym, ap, subst, ◌∙◌}
use Rattle.std.specs.Prelude.{IfSome}
use Rattle.std.specs.Option.{unwrap_or}
use Rattle.std.proofs.lemmas.Bool.{cases_lt}
use Rattle.ql_edge.specs.Disk.{Files}
use Rattle.lldb_base.specs.Batch.{Edits, CanTake, applied}
use Rattle.lldb_wal.specs.Fields.{longest}
use Rattle.lldb_wal.specs.Kept.{kept, Beside, IsDurable, IsOpenWith, IsNew, with_log, stored}
use Rattle.lldb_wal.specs.Laws.{IsOurs}
use Rattle.lldb_wal.specs.Log.{IsLog}
use Rattle.lldb_wal.specs.Opened.{IsClosedLog, IsTidied, IsSameKept, settled}
use Rattle.lldb_wal.specs.Opening.{opening, opened}
use Rattle.lldb_wal.specs.Spelling.{log_header}
use Rattle.lldb_wal.specs.declared.state.LogState.TheVariants as log
use Rattle.lldb_wal.specs.declared.state.Opening.TheVariants.{Closed, Open}
use Rattle.lldb_wal.proofs.Found.{open_found, closed_found, opens_read, closed_log}
use Rattle.lldb_wal.proofs.Held.{by_log}
use Rattle.lldb_wal.proofs.OldOrNew.{kept_open}
use Rattle.lldb_wal.proofs.Reread.{can_take}

closed_is : (size : ℕ) (l : List ℕ) → IsClosedLog l → IsLog size l log.Closed
closed_is size l (inl short) = IsLog.too_short short
closed_is size l (inr shut) = elim (cases_lt (length l) 32) [
  | inl short ↦ IsLog.too_short short
  | inr long ↦ IsLog.shut long shut.magic shut.gate
]

pub kept_closed : (magic : List ℕ) (f : Files) → IsOurs magic f.0 → IsClosedLog f.1 → kept magic f ≡ Some f.0
kept_closed magic f ours closed = ap (opened magic f.0) (by_log magic f.0 f.1 log.Closed ours (closed_is (length f.0) f.1 closed))

-- where nothing was done yet, what is kept is the same
pub same_self : (magic : List ℕ) (before : Option Files) (leave : Files → Type 0) (c : Files) → IsDurable before leave → leave c → Beside before (IsSameKept magic) c
same_self magic None leave c durable left = tt
same_self magic (Some f) leave c durable left = ap (kept magic) (durable c left)

pub tidied_kept : (magic : List ℕ) (before : Option Files) (c : Files) → length magic ≡ 16 → IfSome before (λ f. opening magic f.0 f.1 ≡ Closed) → Beside before IsTidied c → Beside before (IsSameKept magic) c
tidied_kept magic None c sixteen found tidied = tt
tidied_kept magic (Some f) c sixteen found tidied =
    let facts = closed_found magic f sixteen found in
    kept_closed magic c (subst (λ (bs : List ℕ). IsOurs magic bs) (sym tidied.0) facts.0) tidied.1 ∙ ap Some tidied.0 ∙ sym (kept_closed magic f facts.0 (closed_log (length f.0) f.1 facts.1))

pub found_closed : (magic : List ℕ) (before : Option Files) → length magic ≡ 16 → IfSome before (λ f. opening magic f.0 f.1 ≡ Closed) → IfSome before (λ f. IsClosedLog f.1)
found_closed magic None sixteen found = tt
found_closed magic (Some f) sixteen found = closed_log (length f.0) f.1 (closed_found magic f sixteen found).1

pub closed_settled : (magic : List ℕ) (before now : Option Files) → length magic ≡ 16 → IfSome before (λ f. opening magic f.0 f.1 ≡ Closed) → now ≡ option_map (with_log (log_header 0)) before → now ≡ option_map (settled magic) before
closed_settled magic None now sixteen found is = is
closed_settled magic (Some f) now sixteen found is =
    let facts = closed_found magic f sixteen found in
    let k : kept magic f ≡ Some f.0 = kept_closed magic f facts.0 (closed_log (length f.0) f.1 facts.1) in
    is ∙ ap (λ (o : Option (List ℕ)). Some (unwrap_or o [], log_header 0)) (sym k)

-- an open log that was read
pub record IsFound (magic : List ℕ) (batch : Edits) (f : Files) : Type 0 where
  pub ours : IsOurs magic f.0
  pub takes : CanTake 16 0 (length f.0) batch
  pub opens : IsOpenWith 0 batch f.1

is_found : (magic : List ℕ) (batch : Edits) (f : Files) → length magic ≡ 16 → opening magic f.0 f.1 ≡ Open batch → IsFound magic batch f
is_found magic batch f sixteen found =
    let facts = open_found magic f batch sixteen found in
    record { ours = facts.0; takes = can_take (length f.0) f.1 batch facts.1; opens = opens_read (length f.0) f.1 batch facts.1 }

kept_found : (magic : List ℕ) (batch : Edits) (f : Files) → IsFound magic batch f → kept magic f ≡ Some (applied 0 batch f.0)
kept_found magic batch f r = kept_open magic f 0 batch r.ours r.takes r.opens

pub found_takes : (magic : List ℕ) (batch : Edits) (before : Option Files) → length magic ≡ 16 → IfSome before (λ f. opening magic f.0 f.1 ≡ Open batch) → IfSome before (λ f. CanTake 16 0 (length f.0) batch)
found_takes magic batch None sixteen found = tt
found_takes magic batch (Some f) sixteen found = (is_found magic batch f sixteen found).takes

pub found_long : (magic : List ℕ) (batch : Edits) (before : Option Files) → length magic ≡ 16 → IfSome before (λ f. opening magic f.0 f.1 ≡ Open batch) → IfSome before (λ f. 16 ≤ length f.0)
found_long magic batch None sixteen found = tt
found_long magic batch (Some f) sixteen found = (is_found magic batch f sixteen found).ours.long

pub found_within : (magic : List ℕ) (batch : Edits) (before : Option Files) → length magic ≡ 16 → IfSome before (λ f. opening magic f.0 f.1 ≡ Open batch) → IfSome before (λ f. length f.0 ≤ longest)
found_within magic batch None sixteen found = tt
found_within magic batch (Some f) sixteen found = (is_found magic batch f sixteen found).ours.within

pub found_open : (magic : List ℕ) (batch : Edits) (before : Option Files) → length magic ≡ 16 → IfSome before (λ f. opening magic f.0 f.1 ≡ Open batch) → IfSome before (λ f. IsOpenWith 0 batch f.1)
found_open magic batch None sixteen found = tt
found_open magic batch (Some f) sixteen found = (is_found magic batch f sixteen found).opens

pub new_kept : (magic : List ℕ) (batch : Edits) (before : Option Files) (c : Files) → length magic ≡ 16 → IfSome before (λ f. opening magic f.0 f.1 ≡ Open batch) → Beside before (IsNew 0 batch) c → Beside before (IsSameKept magic) c
new_kept magic batch None c sixteen found new = tt
new_kept magic batch (Some f) c sixteen found new =
    let r = is_found magic batch f sixteen found in
    subst (λ (m : List ℕ). kept m c ≡ Some (applied 0 batch f.0)) r.ours.begins new ∙ sym (kept_found magic batch f r)

pub open_settled : (magic : List ℕ) (batch : Edits) (before now : Option Files) → length magic ≡ 16 → IfSome before (λ f. opening magic f.0 f.1 ≡ Open batch) → now ≡ option_map (stored 0 batch) before → now ≡ option_map (settled magic) before
open_settled magic batch None now sixteen found is = is
open_settled magic batch (Some f) now sixteen found is =
    is ∙ ap (λ (o : Option (List ℕ)). Some (unwrap_or o [], log_header 0)) (sym (kept_found magic batch f (is_found magic batch f sixteen found)))
