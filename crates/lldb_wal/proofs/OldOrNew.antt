-- What two files hold at each moment of a commit: the old data file, or the one after the batch.
use Rattle.std.proofs.Common.{◌≡◌, ℕ, ◌+◌, ◌^◌, ◌≤◌, inl, inr, List, [], ◌∷◌, ◌++◌, length, take, get_or, Option, Some, None, option_map, refl, sym, ap, subst, ◌∙◌, arith, length-append}
use Rattle.std.specs.Prelude.{IfSome}
use Rattle.std.specs.Int.{w64, to_be_bytes}
use Rattle.std.proofs.lemmas.Bool.{cases_lt}
use Rattle.ql_edge.specs.Disk.{Files}
use Rattle.lldb_base.specs.Batch.{Edits, IsBatch, CanTake, applied, cost}
use Rattle.lldb_base.specs.declared.batch.Piece.{Piece}
use Rattle.lldb_wal.specs.Fields.{longest}
use Rattle.lldb_wal.specs.Kept.{kept, IsShut, Absorbs, Beside, IsLogged, IsCompleted, IsOpenWith, IsNew, IsOldOrNew, with_batch, with_log, stored}
use Rattle.lldb_wal.specs.Laws.{IsOurs}
use Rattle.lldb_wal.specs.Log.{log_magic, IsLog}
use Rattle.lldb_wal.specs.Opening.{opened, beside}
use Rattle.lldb_wal.specs.Spelling.{log_header, log_bytes, batch_bytes, pieces_bytes, piece_bytes, moved}
use Rattle.lldb_wal.specs.declared.state.LogState.TheVariants.{Closed, Open}
use Rattle.lldb_wal.proofs.Completed.{absorbs_applied, absorbed, same_front}
use Rattle.lldb_wal.proofs.Held.{by_log, by_state}
use Rattle.lldb_wal.proofs.OneState.{one_state}
use Rattle.lldb_wal.proofs.Spelled.{reads_back, same_effect}

shut_closed : (size : ℕ) (log : List ℕ) → IsShut log → IsLog size log Closed
shut_closed size log shut = elim (cases_lt (length log) 32) [
  | inl short ↦ IsLog.too_short short
  | inr long ↦ IsLog.shut long shut.magic shut.gate
]

pub kept_shut : (magic : List ℕ) (f : Files) → IsOurs magic f.0 → IsShut f.1 → kept magic f ≡ Some f.0
kept_shut magic f ours shut = ap (opened magic f.0) (by_log magic f.0 f.1 Closed ours (shut_closed (length f.0) f.1 shut))

pub kept_open : (magic : List ℕ) (f : Files) (shift : ℕ) (batch : Edits) → IsOurs magic f.0 → CanTake 16 shift (length f.0) batch → IsOpenWith shift batch f.1 → kept magic f ≡ Some (applied shift batch f.0)
kept_open magic f shift batch ours can opens =
    ap (opened magic f.0) (by_state magic f.0 f.1 ours ∙ ap beside (opens.reads (length f.0) can)) ∙ ap Some (same_effect shift batch f.0)

-- a data file that can take a batch
pub record CanHold (shift : ℕ) (batch : Edits) (bytes : List ℕ) : Type 0 where
  pub made : IsBatch batch
  pub end : shift + batch.size ≤ longest
  pub takes : CanTake 16 shift (length bytes) batch
  pub long : 16 ≤ length bytes
  pub within : length bytes ≤ longest

ours_self : (shift : ℕ) (batch : Edits) (bytes : List ℕ) → CanHold shift batch bytes → IsOurs (take 16 bytes) bytes
ours_self shift batch bytes h = record { begins = refl; long = h.long; within = h.within }

ours_absorbed : (shift : ℕ) (batch : Edits) (old new : List ℕ) → CanHold shift batch old → Absorbs shift batch old new → IsOurs (take 16 old) new
ours_absorbed shift batch old new h a = record { begins = same_front shift batch old new h.long a; long = a.long; within = a.within }

-- beside the open log, what is absorbed is the new one
pub absorbed_new : (shift : ℕ) (batch : Edits) (old : List ℕ) (c : Files) → CanHold shift batch old → IsOpenWith shift batch c.1 → Absorbs shift batch old c.0 → kept (take 16 old) c ≡ Some (applied shift batch old)
absorbed_new shift batch old c h opens a =
    kept_open (take 16 old) c shift batch (ours_absorbed shift batch old c.0 h a) a.takes opens ∙ ap Some (absorbed shift batch old c.0 h.made h.takes a)

-- beside a log that is shut, too, once it is carried out
pub stored_new : (shift : ℕ) (batch : Edits) (old : List ℕ) (c : Files) → CanHold shift batch old → IsShut c.1 → c.0 ≡ applied shift batch old → kept (take 16 old) c ≡ Some (applied shift batch old)
stored_new shift batch old c h shut is =
    let a : Absorbs shift batch old c.0 = subst (λ (bs : List ℕ). Absorbs shift batch old bs) (sym is) (absorbs_applied shift batch old h.made h.takes h.end) in
    kept_shut (take 16 old) c (ours_absorbed shift batch old c.0 h a) shut ∙ ap Some is

pub old_shut : (shift : ℕ) (batch : Edits) (old : List ℕ) (c : Files) → CanHold shift batch old → IsShut c.1 → c.0 ≡ old → kept (take 16 old) c ≡ Some old
old_shut shift batch old c h shut is = kept_shut (take 16 old) c (subst (λ (bs : List ℕ). IsOurs (take 16 old) bs) (sym is) (ours_self shift batch old h)) shut ∙ ap Some is

pub new_open : (shift : ℕ) (batch : Edits) (old : List ℕ) (c : Files) → CanHold shift batch old → IsOpenWith shift batch c.1 → c.0 ≡ old → kept (take 16 old) c ≡ Some (applied shift batch old)
new_open shift batch old c h opens is =
    kept_open (take 16 old) c shift batch (subst (λ (bs : List ℕ). IsOurs (take 16 old) bs) (sym is) (ours_self shift batch old h)) (subst (λ (bs : List ℕ). CanTake 16 shift (length bs) batch) (sym is) h.takes) opens
    ∙ ap (λ (bs : List ℕ). Some (applied shift batch bs)) is

pub can_hold : (shift : ℕ) (batch : Edits) (files : Option Files) → IsBatch batch → shift + batch.size ≤ longest → IfSome files (λ f. CanTake 16 shift (length f.0) batch) → IfSome files (λ f. 16 ≤ length f.0) → IfSome files (λ f. length f.0 ≤ longest)
    → IfSome files (λ f. CanHold shift batch f.0)
can_hold shift batch None made end takes long within = tt
can_hold shift batch (Some f) made end takes long within = record { made = made; end = end; takes = takes; long = long; within = within }

long_batch : (shift : ℕ) (batch : Edits) → 32 ≤ length (log_bytes 1 shift batch)
long_batch shift batch = omega (arith, length-append (pieces_bytes shift batch.pieces) (to_be_bytes w64 (shift + batch.size)))

-- a log as it is spelled
pub opens_spelled : (shift : ℕ) (batch : Edits) → IsBatch batch → shift + batch.size ≤ longest → IsOpenWith shift batch (log_bytes 1 shift batch)
opens_spelled shift batch made end = record {
  ungated = record { long = long_batch shift batch; magic = refl; gate = refl };
  reads = λ size can. one_state size (log_bytes 1 shift batch) (Open (moved shift batch)) (reads_back shift size batch made can end);
}

pub spelled_opens : (shift : ℕ) (batch : Edits) (spelled : List ℕ) → IsBatch batch → shift + batch.size ≤ longest → spelled ≡ batch_bytes shift batch → IsOpenWith shift batch (log_header 1 ++ spelled)
spelled_opens shift batch spelled made end is = subst (λ (bs : List ℕ). IsOpenWith shift batch (log_header 1 ++ bs)) (sym is) (opens_spelled shift batch made end)

pieces_cost : (shift : ℕ) (ps : List Piece) → length (pieces_bytes shift ps) ≡ cost ps
pieces_cost shift [] = refl
pieces_cost shift (p ∷ ps) = let rest = pieces_cost shift ps in omega (arith, length-append (piece_bytes shift p) (pieces_bytes shift ps), rest)

pub spelled_short : (shift : ℕ) (batch : Edits) (spelled : List ℕ) → IsBatch batch → spelled ≡ batch_bytes shift batch → 16 + length spelled ≤ 2 ^ 62
spelled_short shift batch spelled made is =
    let all : length spelled ≡ length (batch_bytes shift batch) = ap length is in
    omega (arith, all, length-append (pieces_bytes shift batch.pieces) (to_be_bytes w64 (shift + batch.size)), pieces_cost shift batch.pieces, made.room)

-- the first phase
pub logged_either : (shift : ℕ) (batch : Edits) (spelled : List ℕ) (start : Option Files) (c : Files) → spelled ≡ batch_bytes shift batch → IfSome start (λ f. CanHold shift batch f.0) → Beside start (IsLogged (log_header 1 ++ spelled)) c → Beside start (IsOldOrNew shift batch) c
logged_either shift batch spelled None c is holds logged = tt
logged_either shift batch spelled (Some f) c is h logged = elim logged.1 [
  | inl shut ↦ inl (old_shut shift batch f.0 c h shut logged.0)
  | inr log ↦ inr (new_open shift batch f.0 c h (subst (λ (l : List ℕ). IsOpenWith shift batch l) (sym log) (spelled_opens shift batch spelled h.made h.end is)) logged.0)
]

-- the second
pub completed_new : (shift : ℕ) (batch : Edits) (start : Option Files) (c : Files) → IfSome start (λ f. CanHold shift batch f.0) → IfSome start (λ f. IsOpenWith shift batch f.1) → Beside start (IsCompleted shift batch) c → Beside start (IsNew shift batch) c
completed_new shift batch None c holds opens completed = tt
completed_new shift batch (Some f) c h opens completed = absorbed_new shift batch f.0 c h (subst (λ (l : List ℕ). IsOpenWith shift batch l) (sym completed.0) opens) completed.1

-- and the third
pub closed_new : (shift : ℕ) (batch : Edits) (start mid : Option Files) (c : Files) → IfSome start (λ f. CanHold shift batch f.0) → IfSome start (λ f. IsOpenWith shift batch f.1) → mid ≡ option_map (with_batch shift batch) start
    → Beside mid (λ f c. IsLogged f.1 f c) c → Beside start (IsNew shift batch) c
closed_new shift batch None mid c holds opens is logged = tt
closed_new shift batch (Some f) mid c h opens is logged =
    let l : IsLogged f.1 (with_batch shift batch f) c = subst (λ (o : Option Files). Beside o (λ f c. IsLogged f.1 f c) c) is logged in
    elim l.1 [
      | inl shut ↦ stored_new shift batch f.0 c h shut l.0
      | inr log ↦ absorbed_new shift batch f.0 c h (subst (λ (l : List ℕ). IsOpenWith shift batch l) (sym log) opens) (subst (λ (bs : List ℕ). Absorbs shift batch f.0 bs) (sym l.0) (absorbs_applied shift batch f.0 h.made h.takes h.end))
    ]

pub open_magic : (shift : ℕ) (batch : Edits) (start mid : Option Files) → IfSome start (λ f. IsOpenWith shift batch f.1) → mid ≡ option_map (with_batch shift batch) start → IfSome mid (λ f. take 15 f.1 ≡ log_magic)
open_magic shift batch None mid opens is = rw is tt
open_magic shift batch (Some f) mid opens is = rw is (opens.ungated.magic)

pub open_gate : (shift : ℕ) (batch : Edits) (start mid : Option Files) → IfSome start (λ f. IsOpenWith shift batch f.1) → mid ≡ option_map (with_batch shift batch) start → IfSome mid (λ f. get_or f.1 15 0 ≡ 1)
open_gate shift batch None mid opens is = rw is tt
open_gate shift batch (Some f) mid opens is = rw is (opens.ungated.gate)

pub all_stored : (shift : ℕ) (batch : Edits) (start mid now : Option Files) → mid ≡ option_map (with_batch shift batch) start → now ≡ option_map (with_log (log_header 0)) mid → now ≡ option_map (stored shift batch) start
all_stored shift batch None mid now first second = second ∙ ap (option_map (with_log (log_header 0))) first
all_stored shift batch (Some f) mid now first second = second ∙ ap (option_map (with_log (log_header 0))) first

pub log_stored : (shift : ℕ) (batch : Edits) (log : List ℕ) (start mid now : Option Files) → mid ≡ option_map (with_log log) start → now ≡ option_map (stored shift batch) mid → now ≡ option_map (stored shift batch) start
log_stored shift batch log None mid now first second = second ∙ ap (option_map (stored shift batch)) first
log_stored shift batch log (Some f) mid now first second = second ∙ ap (option_map (stored shift batch)) first

-- what is said of the old files is said of them with another log
pub of_data : (P : List ℕ → Type 0) (log : List ℕ) (start mid : Option Files) → mid ≡ option_map (with_log log) start → IfSome start (λ f. P f.0) → IfSome mid (λ f. P f.0)
of_data P log None mid is fact = rw is tt
of_data P log (Some f) mid is fact = rw is fact

pub of_log : (P : List ℕ → Type 0) (log : List ℕ) (start mid : Option Files) → mid ≡ option_map (with_log log) start → P log → IfSome mid (λ f. P f.1)
of_log P log None mid is fact = rw is tt
of_log P log (Some f) mid is fact = rw is fact

pub new_either : (shift : ℕ) (batch : Edits) (log : List ℕ) (start mid : Option Files) (c : Files) → mid ≡ option_map (with_log log) start → Beside mid (IsNew shift batch) c → Beside start (IsOldOrNew shift batch) c
new_either shift batch log None mid c is new = tt
new_either shift batch log (Some f) mid c is new = inr (subst (λ (o : Option Files). Beside o (IsNew shift batch) c) is new)

pub new_only : (shift : ℕ) (batch : Edits) (log : List ℕ) (start mid : Option Files) (c : Files) → mid ≡ option_map (with_log log) start → Beside mid (IsNew shift batch) c → Beside start (IsNew shift batch) c
new_only shift batch log None mid c is new = tt
new_only shift batch log (Some f) mid c is new = subst (λ (o : Option Files). Beside o (IsNew shift batch) c) is new
