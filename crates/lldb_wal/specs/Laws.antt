-- What is said of logs and of two files beside what they are.
use Rattle.std.specs.Prelude.{◌≡◌, ℕ, ◌≤◌, List, length, take, drop, Some, None}
use Rattle.lldb_base.specs.Batch.{Edits, applied}
use Rattle.lldb_wal.specs.Fields.{header, longest}
use Rattle.lldb_wal.specs.Log.{IsLog}
use Rattle.lldb_wal.specs.Opening.{content}
use Rattle.lldb_wal.specs.States.{log_state}
use Rattle.lldb_wal.specs.declared.state.LogState.{LogState}
use Rattle.lldb_wal.specs.declared.state.LogState.TheVariants.{Closed, Open, Faulty}

-- a data file that begins with the magic, and is not too long
pub record IsOurs (magic bytes : List ℕ) : Type 0 where
  pub begins : take header bytes ≡ magic
  pub long : header ≤ length bytes
  pub within : length bytes ≤ longest

-- Each byte list is one thing as a log: closed, open with one batch, or faulty at one place. Beside a closed log a data file is
-- all; beside an open one it is completed by the batch; beside a faulty one nothing is held.
pub record LogLaws : Type 0 where
  pub one : (size : ℕ) (l : List ℕ) (state : LogState) → IsLog size l state → log_state size l ≡ state
  pub closed : (magic bytes l : List ℕ) → IsOurs magic bytes → IsLog (length bytes) l Closed → content magic bytes l ≡ Some (drop header bytes)
  pub batched : (magic bytes l : List ℕ) (batch : Edits) → IsOurs magic bytes → IsLog (length bytes) l (Open batch) → content magic bytes l ≡ Some (drop header (applied 0 batch bytes))
  pub faulty : (magic bytes l : List ℕ) (at : ℕ) → IsOurs magic bytes → IsLog (length bytes) l (Faulty at) → content magic bytes l ≡ None
