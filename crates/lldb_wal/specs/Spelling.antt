-- How a batch is spelled in a log.
use Rattle.std.specs.Prelude.{◌≡◌, ℕ, ◌+◌, ◌≤◌, List, [], ◌∷◌, ◌++◌, length}
use Rattle.std.specs.Int.{w32, w64, to_be_bytes}
use Rattle.lldb_base.specs.Batch.{Edits, IsBatch, CanTake, applied}
use Rattle.lldb_base.specs.declared.batch.Piece.{Piece}
use Rattle.lldb_wal.specs.Fields.{header, longest}
use Rattle.lldb_wal.specs.Log.{log_magic, IsLog}
use Rattle.lldb_wal.specs.declared.state.LogState.TheVariants.{Open}

-- a piece that is written `shift` behind its place: that place in 8 bytes, how many bytes it has in 4, and the bytes
abbrev pub piece_bytes : ℕ → Piece → List ℕ
piece_bytes shift p = to_be_bytes w64 (shift + p.place) ++ to_be_bytes w32 (length p.bytes) ++ p.bytes

-- pieces, one behind the other
abbrev pub pieces_bytes : ℕ → List Piece → List ℕ
pieces_bytes shift [] = []
pieces_bytes shift (p ∷ ps) = piece_bytes shift p ++ pieces_bytes shift ps

-- a batch: how many pieces it has in 8 bytes, the pieces, and the new length in 8
abbrev pub batch_bytes : ℕ → Edits → List ℕ
batch_bytes shift batch = to_be_bytes w64 (length batch.pieces) ++ pieces_bytes shift batch.pieces ++ to_be_bytes w64 (shift + batch.size)

-- the first 16 bytes of a log, with a gate
abbrev pub log_header : ℕ → List ℕ
log_header gate = log_magic ++ gate ∷ []

-- a log with a gate and a batch
abbrev pub log_bytes : ℕ → ℕ → Edits → List ℕ
log_bytes gate shift batch = log_header gate ++ batch_bytes shift batch

-- pieces that stand `shift` behind their places
abbrev pub moved_pieces : ℕ → List Piece → List Piece
moved_pieces shift [] = []
moved_pieces shift (p ∷ ps) = record { place = shift + p.place; bytes = p.bytes } ∷ moved_pieces shift ps

-- a batch whose places and length are moved by a shift
abbrev pub moved : ℕ → Edits → Edits
moved shift batch = record { pieces = moved_pieces shift batch.pieces; size = shift + batch.size }

-- What is spelled is read back as the same batch, moved; and such a batch does what the batch does with the shift.
pub record SpellingLaws : Type 0 where
  pub reads_back : (shift size : ℕ) (batch : Edits) → IsBatch batch → CanTake header shift size batch → shift + batch.size ≤ longest
      → IsLog size (log_bytes 1 shift batch) (Open (moved shift batch))
  pub same_effect : (shift : ℕ) (batch : Edits) (bytes : List ℕ) → applied 0 (moved shift batch) bytes ≡ applied shift batch bytes
