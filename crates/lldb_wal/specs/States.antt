-- The same as a function: what a log is, field by field.
use Rattle.std.specs.Prelude.{ℕ, zero, suc, ◌+◌, nat_eq, nat_lt, if◌then◌else◌, List, [], ◌∷◌, length, take, get_or, bytes_eq}
use Rattle.std.specs.Int.{w64}
use Rattle.lldb_base.specs.declared.batch.Piece.{Piece}
use Rattle.lldb_wal.specs.Fields.{number, is_place, is_length, is_whole, is_size, piece_at}
use Rattle.lldb_wal.specs.Log.{log_magic}
use Rattle.lldb_wal.specs.declared.state.LogState.{LogState}
use Rattle.lldb_wal.specs.declared.state.LogState.TheVariants.{Closed, Open, Faulty}

-- the same with a piece before the others
abbrev pub with_piece : Piece → LogState → LogState
with_piece p Closed = Closed
with_piece p (Open batch) = Open (record { pieces = p ∷ batch.pieces; size = batch.size })
with_piece p (Faulty at) = Faulty at

-- what the bytes behind all pieces are
abbrev pub end_state : (size last at : ℕ) → List ℕ → LogState
end_state size last at log =
    if is_size size last at log then (
    if nat_lt (at + 8) (length log) then Faulty (at + 8) else Open (record { pieces = []; size = number w64 at log })
    ) else Faulty at

-- what the bytes are from a place on where so many pieces are to come
abbrev pub pieces_state : (left size last at : ℕ) → List ℕ → LogState
pieces_state zero size last at log = end_state size last at log
pieces_state (suc left) size last at log =
    if is_place size last at log then (
    if is_length at log then (
    if is_whole at log then with_piece (piece_at at log) (pieces_state left size (number w64 at log + length (piece_at at log).bytes) (at + 12 + length (piece_at at log).bytes) log) else Faulty (at + 12)
    ) else Faulty (at + 8)
    ) else Faulty at

-- what a log is
abbrev pub log_state : ℕ → List ℕ → LogState
log_state size log =
    if nat_lt (length log) 32 then Closed else (
    if bytes_eq (take 15 log) log_magic then (
    if nat_eq (get_or log 15 0) 1 then pieces_state (number w64 16 log) size 0 24 log else Closed
    ) else Faulty 0
    )
