-- A data file as the content of a filer.
use Rattle.std.specs.Prelude.{◌≡◌, ℕ, ◌≤◌, Bool, List, length, take, Option, Some, None, option_map, IfSome, refl}
use Rattle.std.proofs.Common.{ap, sym, ◌∙◌}
use Rattle.ql_edge.specs.Disk.{Files}
use Rattle.ql_edge.specs.Stops.{Leaves, IsSameBut}
use Rattle.ql_edge.specs.Told.{Told}
use Rattle.lldb_base.specs.Filers.{IsSameBase}
use Rattle.lldb_base.specs.Stops.{LeavesOnly, Seen, seen_same}
use Rattle.lldb_wal.specs.Fields.{header}
use Rattle.lldb_wal.specs.Kept.{kept}

-- the data file of two
abbrev pub data_of : Files → List ℕ
data_of f = f.0

-- where it is told, the data file is a database's, and has a size
abbrev pub IsStored : List ℕ → ℕ → Option Files → Type 0
IsStored magic size files = IfSome files (λ f. (take header f.0 ≡ magic) × (header ≤ length f.0) × (length f.0 ≡ size))

pub stored_size : (magic : List ℕ) (size : ℕ) (files : Option Files) → IsStored magic size files → IfSome (option_map data_of files) (λ c. length c ≡ size)
stored_size magic size None stored = tt
stored_size magic size (Some f) stored = stored.2

pub same_stored : (old new : Option Files) (size_old size_new limit_old limit_new : ℕ) (sound_old sound_new : Bool) (moved_old moved_new : ℕ) → new ≡ old → size_new ≡ size_old → limit_new ≡ limit_old → sound_new ≡ sound_old → moved_new ≡ moved_old
    → IsSameBase (option_map data_of old) (option_map data_of new) size_old size_new limit_old limit_new sound_old sound_new moved_old moved_new
same_stored old new size_old size_new limit_old limit_new sound_old sound_new moved_old moved_new files size limit sound moved =
    record { held = ap (option_map data_of) files; size = size; limit = limit; sound = sound; moved = moved }

-- what opening gives of the two files that a stop may leave
abbrev pub AsKept : List ℕ → (Files → Type 0) → Option (List ℕ) → Type 0
AsKept magic left s = Seen (kept magic) left s

-- where files are told, what is left is opened to what they are opened to
abbrev pub IsKept : List ℕ → Option Files → Option (List ℕ) → Type 0
IsKept magic files s = IfSome files (λ f. s ≡ kept magic f)

-- the data file is what is kept, and a stop keeps the same
abbrev pub KeepsData : List ℕ → Option Files → (Files → Type 0) → Type 0
KeepsData magic files left = IfSome files (λ f. (kept magic f ≡ Some f.0) × Leaves left (λ c. kept magic c ≡ Some f.0))

pub keeps_only : (magic : List ℕ) (files : Option Files) (left : Files → Type 0) → KeepsData magic files left → IfSome files left → LeavesOnly (option_map data_of files) (AsKept magic left)
keeps_only magic None left keeps now = tt
keeps_only magic (Some f) left keeps now = ((f, now, sym keeps.0), λ s b. b.2 ∙ keeps.1 b.0 b.1)

pub kept_same : (m p : List ℕ) → p ≡ m → {held_old held_new : Option Files} {left_old left_new : Files → Type 0} {before now : ℕ} {past since : ℕ → ℕ → Files → Type 0} {told_old told_new : Told} → IsSameBut held_old held_new left_old left_new before now past since told_old told_new
    → IsSameBut (option_map data_of held_old) (option_map data_of held_new) (AsKept m left_old) (AsKept p left_new) before now (λ t n. AsKept m (past t n)) (λ t n. AsKept p (since t n)) told_old told_new
kept_same m p here same = rw here (seen_same (kept m) (option_map data_of) same)
