-- Two files on a disk: what a call does to what is read, and what a stop may then leave.
use Rattle.std.specs.Prelude.{◌≡◌, ℕ, ◌+◌, ◌≤◌, min, max, List, ◌++◌, length, take, drop}
use Rattle.ql_edge.specs.declared.volume.Which.{Which}
use Rattle.ql_edge.specs.declared.volume.Which.TheVariants as which

-- the bytes of the data file and those of the log
abbrev pub Files : Type 0
Files = List ℕ × List ℕ

-- the bytes of one of the two
abbrev pub file_of : Which → Files → List ℕ
file_of which.Data files = files.0
file_of which.Log files = files.1

-- the bytes of the other one
abbrev pub other_of : Which → Files → List ℕ
other_of which.Data files = files.1
other_of which.Log files = files.0

-- the two files with other bytes in one of them
abbrev pub with_file : Which → List ℕ → Files → Files
with_file which.Data bytes files = (bytes, files.1)
with_file which.Log bytes files = (files.0, bytes)

-- bytes with a piece at a place: those before, the piece, those after
abbrev pub put : ℕ → List ℕ → List ℕ → List ℕ
put at piece bytes = take at bytes ++ piece ++ drop (at + length piece) bytes

-- the two files with a piece at a place of one of them
abbrev pub with_piece : Which → ℕ → List ℕ → Files → Files
with_piece which at piece files = with_file which (put at piece (file_of which files)) files

-- the two files with one of them cut to a length
abbrev pub with_cut : Which → ℕ → Files → Files
with_cut which to files = with_file which (take to (file_of which files)) files

-- A write of n bytes that a stop tears: any bytes in the range and past the old end, any length from the old one to that
-- of the whole write, and the same bytes elsewhere.
pub record Torn (at n : ℕ) (old new : List ℕ) : Type 0 where
  pub before : take at new ≡ take at old
  pub after : drop (at + n) new ≡ drop (at + n) old
  pub no_shorter : length old ≤ length new
  pub no_longer : length new ≤ max (length old) (at + n)

-- A cut to n bytes that a stop tears: it counts as a write of the part that it takes away, which is any length of any
-- bytes. What has at most n bytes stays.
pub record Cut (n : ℕ) (old new : List ℕ) : Type 0 where
  pub before : take n new ≡ take n old
  pub no_shorter : min n (length old) ≤ length new
  pub no_longer : length new ≤ length old

-- a step of one of the two files alone
pub record OnFile (which : Which) (step : List ℕ → List ℕ → Type 0) (old new : Files) : Type 0 where
  pub stepped : step (file_of which old) (file_of which new)
  pub other : other_of which new ≡ other_of which old
