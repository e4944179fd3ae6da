-- What a byte list is as a log, beside a data file of a size.
use Rattle.std.specs.Prelude.{◌≡◌, ◌≢◌, ℕ, ◌+◌, ◌<◌, ◌≤◌, true, false, List, [], ◌∷◌, length, take, get_or}
use Rattle.std.specs.Int.{w64}
use Rattle.lldb_base.specs.Batch.{Edits}
use Rattle.lldb_base.specs.declared.batch.Piece.{Piece}
use Rattle.lldb_wal.specs.Fields.{number, is_place, is_length, is_whole, is_size, piece_at}
use Rattle.lldb_wal.specs.declared.state.LogState.{LogState}
use Rattle.lldb_wal.specs.declared.state.LogState.TheVariants.{Closed, Open, Faulty}

-- `QL lldb log fmt`, the first 15 bytes of a log
abbrev pub log_magic : List ℕ
log_magic = 81 ∷ 76 ∷ 32 ∷ 108 ∷ 108 ∷ 100 ∷ 98 ∷ 32 ∷ 108 ∷ 111 ∷ 103 ∷ 32 ∷ 102 ∷ 109 ∷ 116 ∷ []

-- a log that says it is open: it has its magic, the gate behind that is 1, and it is long enough for a batch
pub record IsUngated (log : List ℕ) : Type 0 where
  pub long : 32 ≤ length log
  pub magic : take 15 log ≡ log_magic
  pub gate : get_or log 15 0 ≡ 1

-- a piece stands at a place, and its fields keep the rules
pub record Stands (size last : ℕ) (p : Piece) (at : ℕ) (log : List ℕ) : Type 0 where
  pub place_kept : is_place size last at log ≡ true
  pub length_kept : is_length at log ≡ true
  pub whole : is_whole at log ≡ true
  pub is : p ≡ piece_at at log

-- Pieces stand one behind the other from a place on, where the one before them ended at `last`; they end at `end`, and
-- the field behind them is at `next`.
pub data Follow (size : ℕ) (log : List ℕ) (end next : ℕ) : (last at : ℕ) → List Piece → Type 0 where
  no_more : Follow size log end next end next []
  one_more : {last at : ℕ} {p : Piece} {ps : List Piece} → Stands size last p at log
      → Follow size log end next (p.place + length p.bytes) (at + 12 + length p.bytes) ps → Follow size log end next last at (p ∷ ps)

-- The first field of a piece that is not whole or breaks a rule stands at a place.
pub data SpoilsPiece (size last at : ℕ) (log : List ℕ) : ℕ → Type 0 where
  bad_place : is_place size last at log ≡ false → SpoilsPiece size last at log at
  bad_length : is_place size last at log ≡ true → is_length at log ≡ false → SpoilsPiece size last at log (at + 8)
  bad_bytes : is_place size last at log ≡ true → is_length at log ≡ true → is_whole at log ≡ false → SpoilsPiece size last at log (at + 12)

-- The new length is not whole or breaks a rule, or bytes stand behind it.
pub data SpoilsEnd (size last at : ℕ) (log : List ℕ) : ℕ → Type 0 where
  bad_size : is_size size last at log ≡ false → SpoilsEnd size last at log at
  bytes_behind : is_size size last at log ≡ true → at + 8 < length log → SpoilsEnd size last at log (at + 8)

-- A log is closed where it is too short for a batch, or its gate says so; it is open with a batch whose every field keeps the
-- rules and that ends where the log ends; else it is faulty at the first field that does not, or at its own first byte.
pub data IsLog (size : ℕ) (log : List ℕ) : LogState → Type 0 where
  too_short : length log < 32 → IsLog size log Closed
  shut : 32 ≤ length log → take 15 log ≡ log_magic → get_or log 15 0 ≢ 1 → IsLog size log Closed
  holds : {last at : ℕ} {batch : Edits} → IsUngated log → number w64 16 log ≡ length batch.pieces → Follow size log last at 0 24 batch.pieces
      → is_size size last at log ≡ true → length log ≡ at + 8 → batch.size ≡ number w64 at log → IsLog size log (Open batch)
  nameless : 32 ≤ length log → take 15 log ≢ log_magic → IsLog size log (Faulty 0)
  bad_piece : {last at place : ℕ} {ps : List Piece} → IsUngated log → length ps < number w64 16 log → Follow size log last at 0 24 ps
      → SpoilsPiece size last at log place → IsLog size log (Faulty place)
  bad_end : {last at place : ℕ} {ps : List Piece} → IsUngated log → length ps ≡ number w64 16 log → Follow size log last at 0 24 ps
      → SpoilsEnd size last at log place → IsLog size log (Faulty place)
