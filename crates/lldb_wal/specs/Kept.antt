-- What two files hold while a batch goes through the log into the data file.
use Rattle.std.specs.Prelude.{◌≡◌, ◌≢◌, ℕ, ◌+◌, ◌<◌, ◌≤◌, ◌⊎◌, List, length, take, get_or, Option, Some, None, IfSome}
use Rattle.ql_edge.specs.Disk.{Files}
use Rattle.ql_edge.specs.Stops.{Leaves}
use Rattle.lldb_base.specs.declared.batch.Piece.{Piece}
use Rattle.lldb_base.specs.Batch.{Edits, CanTake, applied, written, byte_at}
use Rattle.lldb_wal.specs.Fields.{header, longest}
use Rattle.lldb_wal.specs.Log.{log_magic, IsUngated}
use Rattle.lldb_wal.specs.Opening.{opening, opened}
use Rattle.lldb_wal.specs.Spelling.{log_header, moved}
use Rattle.lldb_wal.specs.States.{log_state}
use Rattle.lldb_wal.specs.declared.state.LogState.TheVariants.{Open}

-- the bytes of the data file as they are once two files are opened
abbrev pub kept : List ℕ → Files → Option (List ℕ)
kept magic f = opened magic f.0 (opening magic f.0 f.1)

-- a log that has its magic, and whose gate is not open
pub record IsShut (log : List ℕ) : Type 0 where
  pub magic : take 15 log ≡ log_magic
  pub gate : get_or log 15 0 ≢ 1

-- bytes that a batch makes the same as it makes others of: they differ only where its pieces lie, and its pieces still leave no gap
pub record Absorbs (shift : ℕ) (batch : Edits) (old new : List ℕ) : Type 0 where
  pub same : (i : ℕ) → i < shift + batch.size → byte_at shift i batch.pieces ≡ None → get_or new i 0 ≡ get_or old i 0
  pub takes : CanTake header shift (length new) batch
  pub long : header ≤ length new
  pub within : length new ≤ longest

-- what is left has a property beside the files that were read before, where these are told
abbrev pub Beside : Option Files → (Files → Files → Type 0) → Files → Type 0
Beside before P c = IfSome before (λ f. P f c)

-- a stop leaves what is read, and nothing else
abbrev pub IsDurable : Option Files → (Files → Type 0) → Type 0
IsDurable files leave = IfSome files (λ f. Leaves leave (λ c. c ≡ f))

-- the log is its header with a closed gate; a stop leaves the same data file beside a log that is shut
abbrev pub IsAtRest : Option Files → (Files → Type 0) → Type 0
IsAtRest files leave = IfSome files (λ f. (f.1 ≡ log_header 0) × Leaves leave (λ c. (c.0 ≡ f.0) × IsShut c.1))

-- the same data file, beside a log that is shut or has a gate and these bytes
abbrev pub IsLogged : List ℕ → Files → Files → Type 0
IsLogged log f c = (c.0 ≡ f.0) × (IsShut c.1 ⊎ (c.1 ≡ log))

-- the same log, beside a data file that the batch of it completes
abbrev pub IsCompleted : ℕ → Edits → Files → Files → Type 0
IsCompleted shift batch f c = (c.1 ≡ f.1) × Absorbs shift batch f.0 c.0

-- two files with the pieces of a batch in the data file
abbrev pub with_pieces : ℕ → List Piece → Files → Files
with_pieces shift pieces f = (written shift pieces f.0, f.1)

-- two files with a batch in the data file
abbrev pub with_batch : ℕ → Edits → Files → Files
with_batch shift batch f = (applied shift batch f.0, f.1)

-- two files with another log
abbrev pub with_log : List ℕ → Files → Files
with_log log f = (f.0, log)

-- the same two files with the log closed
abbrev pub stored : ℕ → Edits → Files → Files
stored shift batch f = (applied shift batch f.0, log_header 0)

-- a log that is open with a batch, beside every data file that the batch can be written to
pub record IsOpenWith (shift : ℕ) (batch : Edits) (log : List ℕ) : Type 0 where
  pub ungated : IsUngated log
  pub reads : (size : ℕ) → CanTake header shift size batch → log_state size log ≡ Open (moved shift batch)

-- what is kept is the data file after a batch
abbrev pub IsNew : ℕ → Edits → Files → Files → Type 0
IsNew shift batch f c = kept (take header f.0) c ≡ Some (applied shift batch f.0)

-- what is kept is the old data file, or the one after a batch
abbrev pub IsOldOrNew : ℕ → Edits → Files → Files → Type 0
IsOldOrNew shift batch f c = (kept (take header f.0) c ≡ Some f.0) ⊎ (kept (take header f.0) c ≡ Some (applied shift batch f.0))
