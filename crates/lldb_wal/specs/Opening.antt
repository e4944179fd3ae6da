-- What two files are, for the magic with which they are opened, and the content that they hold.
use Rattle.std.specs.Prelude.{ℕ, Bool, ◌&&◌, ◌||◌, not, nat_eq, nat_le, nat_lt, if◌then◌else◌, List, length, take, drop, get_or, bytes_eq, Option, Some, None, option_map}
use Rattle.lldb_base.specs.Batch.{applied}
use Rattle.lldb_wal.specs.Fields.{header, longest}
use Rattle.lldb_wal.specs.Log.{log_magic}
use Rattle.lldb_wal.specs.States.{log_state}
use Rattle.lldb_wal.specs.declared.state.LogState.{LogState}
use Rattle.lldb_wal.specs.declared.state.LogState.TheVariants as log
use Rattle.lldb_wal.specs.declared.state.Opening.{Opening}
use Rattle.lldb_wal.specs.declared.state.Opening.TheVariants.{New, NotDatabase, BadLog, Closed, Open}

-- a log that has its header, and is closed by its gate or because it is too short for a batch
abbrev pub is_fresh : List ℕ → Bool
is_fresh l = nat_le header (length l) && bytes_eq (take 15 l) log_magic && (nat_lt (length l) 32 || not (nat_eq (get_or l 15 0) 1))

-- what a database is by its log
abbrev pub beside : LogState → Opening
beside log.Closed = Closed
beside (log.Open batch) = Open batch
beside (log.Faulty at) = BadLog at

-- What two files are, of a data file its first 16 bytes and its size: an empty data file is new, whatever the log holds. One
-- that begins with the magic is what its log says. One of up to 16 other bytes was being made where the log is fresh. All else
-- is no database.
abbrev pub opening_by : (magic front : List ℕ) (size : ℕ) (l : List ℕ) → Opening
opening_by magic front size l =
    if nat_eq size 0 then New else (
    if bytes_eq front magic && nat_le size longest then beside (log_state size l) else (
    if nat_le size header && is_fresh l then New else NotDatabase
    )
    )

abbrev pub opening : (magic bytes l : List ℕ) → Opening
opening magic bytes l = opening_by magic (take header bytes) (length bytes) l

-- the bytes of the data file as they are once it is opened
abbrev pub opened : (magic bytes : List ℕ) → Opening → Option (List ℕ)
opened magic bytes New = Some magic
opened magic bytes Closed = Some bytes
opened magic bytes (Open batch) = Some (applied 0 batch bytes)
opened magic bytes (BadLog at) = None
opened magic bytes NotDatabase = None

-- what two files hold: the bytes behind the magic
abbrev pub content : (magic bytes l : List ℕ) → Option (List ℕ)
content magic bytes l = option_map (drop header) (opened magic bytes (opening magic bytes l))
