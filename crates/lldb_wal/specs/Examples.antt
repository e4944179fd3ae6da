-- Files of a few bytes, and what they are.
use Rattle.std.specs.Prelude.{◌≡◌, ℕ, List, [], ◌∷◌, ◌++◌, length, take, replicate, Some, None}
use Rattle.lldb_wal.specs.Log.{log_magic}
use Rattle.lldb_wal.specs.Opening.{opening, content}
use Rattle.lldb_wal.specs.declared.state.Opening.TheVariants.{New, NotDatabase, BadLog, Open}

-- `QL lldb database`
abbrev pub some_magic : List ℕ
some_magic = 81 ∷ 76 ∷ 32 ∷ 108 ∷ 108 ∷ 100 ∷ 98 ∷ 32 ∷ 100 ∷ 97 ∷ 116 ∷ 97 ∷ 98 ∷ 97 ∷ 115 ∷ 101 ∷ []

-- the magic and 60 bytes of another kind
abbrev pub some_data : List ℕ
some_data = some_magic ++ replicate 60 170

-- an open log with one piece: 128 zeros at byte 16, after which the data file has 144 bytes
abbrev pub some_log : List ℕ
some_log = log_magic ++ (1 ∷ 0 ∷ 0 ∷ 0 ∷ 0 ∷ 0 ∷ 0 ∷ 0 ∷ 1 ∷ 0 ∷ 0 ∷ 0 ∷ 0 ∷ 0 ∷ 0 ∷ 0 ∷ 16 ∷ 0 ∷ 0 ∷ 0 ∷ 128 ∷ []) ++ replicate 128 0 ++ (0 ∷ 0 ∷ 0 ∷ 0 ∷ 0 ∷ 0 ∷ 0 ∷ 144 ∷ [])

-- `plain text`
abbrev pub some_text : List ℕ
some_text = 112 ∷ 108 ∷ 97 ∷ 105 ∷ 110 ∷ 32 ∷ 116 ∷ 101 ∷ 120 ∷ 116 ∷ []

-- the log is 172 bytes long; without its last byte its last field, at byte 164, is not whole; a short data file of another kind
-- is no database beside an empty log, and a new one beside a log that has its header and nothing else
pub record LogExamples : Type 0 where
  pub long : length some_log ≡ 172
  pub open_log : opening some_magic some_data some_log ≡ Open (record { pieces = record { place = 16; bytes = replicate 128 0 } ∷ []; size = 144 })
  pub open_content : content some_magic some_data some_log ≡ Some (replicate 128 0)
  pub cut_log : opening some_magic some_data (take 171 some_log) ≡ BadLog 164
  pub no_content : content some_magic some_data (take 171 some_log) ≡ None
  pub closed_log : content some_magic some_data (log_magic ++ 0 ∷ []) ≡ Some (replicate 60 170)
  pub other_file : opening some_magic some_text [] ≡ NotDatabase
  pub being_made : opening some_magic some_text (log_magic ++ 0 ∷ []) ≡ New
