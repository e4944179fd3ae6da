-- The fields of a log's batch, and what each of them may say.
use Rattle.std.specs.Prelude.{ℕ, ◌+◌, ◌^◌, max, Bool, ◌&&◌, nat_le, List, length, take, drop}
use Rattle.std.specs.Int.{Width, w32, w64, byte_len, from_be_bytes}
use Rattle.lldb_base.specs.declared.batch.Piece.{Piece}

-- how many bytes the header of a file has: what no batch writes
abbrev pub header : ℕ
header = 16

-- how many bytes a data file has at most
abbrev pub longest : ℕ
longest = 2 ^ 60 + 16

-- the number that stands at a place
abbrev pub number : Width → ℕ → List ℕ → ℕ
number w at log = from_be_bytes w (take (byte_len w) (drop at log))

-- so many bytes stand from a place on
abbrev pub has : ℕ → ℕ → List ℕ → Bool
has n at log = nat_le (at + n) (length log)

-- where a piece may begin, behind one that ended at `last`, beside a data file of a size
abbrev pub may_begin : (size last place : ℕ) → Bool
may_begin size last place = nat_le header place && nat_le last place && nat_le place (max size last)

-- how many bytes a piece may have that begins at a place
abbrev pub may_hold : (place n : ℕ) → Bool
may_hold place n = nat_le 1 n && nat_le n 65536 && nat_le (place + n) longest

-- how long the data file may become, behind pieces of which the last ended at `last`
abbrev pub may_become : (size last new : ℕ) → Bool
may_become size last new = nat_le header new && nat_le last new && nat_le new (max size last)

-- the three fields of a piece: its place, its length, its bytes
abbrev pub is_place : (size last at : ℕ) → List ℕ → Bool
is_place size last at log = has 8 at log && may_begin size last (number w64 at log)

abbrev pub is_length : ℕ → List ℕ → Bool
is_length at log = has 12 at log && may_hold (number w64 at log) (number w32 (at + 8) log)

abbrev pub is_whole : ℕ → List ℕ → Bool
is_whole at log = has (12 + number w32 (at + 8) log) at log

-- the field behind the pieces: the new length
abbrev pub is_size : (size last at : ℕ) → List ℕ → Bool
is_size size last at log = has 8 at log && may_become size last (number w64 at log)

-- the piece whose fields stand at a place
abbrev pub piece_at : ℕ → List ℕ → Piece
piece_at at log = record { place = number w64 at log; bytes = take (number w32 (at + 8) log) (drop (at + 12) log) }
