-- What two files hold while they are opened.
use Rattle.std.specs.Prelude.{◌≡◌, true, ℕ, ◌<◌, ◌≤◌, ◌⊎◌, List, [], length, Some}
use Rattle.std.specs.Option.{unwrap_or}
use Rattle.ql_edge.specs.Disk.{Files}
use Rattle.lldb_wal.specs.Kept.{kept, IsShut}
use Rattle.lldb_wal.specs.Opening.{is_fresh}
use Rattle.lldb_wal.specs.Spelling.{log_header}

-- a log that is closed, whatever the data file
abbrev pub IsClosedLog : List ℕ → Type 0
IsClosedLog log = (length log < 32) ⊎ IsShut log

-- the same data file, beside a log that is closed
abbrev pub IsTidied : Files → Files → Type 0
IsTidied f c = (c.0 ≡ f.0) × IsClosedLog c.1

-- what is kept is the same
abbrev pub IsSameKept : List ℕ → Files → Files → Type 0
IsSameKept magic f c = kept magic c ≡ kept magic f

-- what is kept is a new database
abbrev pub IsCreated : List ℕ → Files → Files → Type 0
IsCreated magic f c = kept magic c ≡ Some magic

-- the two files once they are opened: what was kept, beside a log that is closed
abbrev pub settled : List ℕ → Files → Files
settled magic f = (unwrap_or (kept magic f) [], log_header 0)

-- the same data file
abbrev pub IsSameData : Files → Files → Type 0
IsSameData f c = c.0 ≡ f.0

-- the same log beside another data file
abbrev pub with_data : List ℕ → Files → Files
with_data bytes f = (bytes, f.1)

-- a new database
abbrev pub created : List ℕ → Files → Files
created magic f = (magic, log_header 0)

-- a data file that a new database may be made of, beside a log that is fresh
abbrev pub IsUnmade : Files → Type 0
IsUnmade f = (length f.0 ≤ 16) × (is_fresh f.1 ≡ true)

-- the data file as it is once it is opened
abbrev pub opened_data : List ℕ → Files → List ℕ
opened_data magic f = unwrap_or (kept magic f) []
