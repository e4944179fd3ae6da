-- What calls on a filer leave as it was.
use Rattle.std.specs.Prelude.{◌≡◌, ℕ, Bool, List, Option}
use Rattle.ql_edge.specs.Stops.{IsSameBut}
use Rattle.ql_edge.specs.Told.{Told}
use Rattle.lldb_base.specs.Stops.{kept_of}

-- a call left a filer's levels and whatever no change of its content touches: these tell it of a filer
pub record KeepsLevels {S T L : Type 0} (saved_of : S → List (Option (List ℕ))) (sizes_of : S → List ℕ) (limit_of : S → ℕ) (sound_of : S → Bool) (told_of : S → T) (left_of : S → L) (fixed_of : S → List ℕ) (before now : S) : Type 0 where
  pub saved : saved_of now ≡ saved_of before
  pub saved_sizes : sizes_of now ≡ sizes_of before
  pub limit : limit_of now ≡ limit_of before
  pub sound : sound_of now ≡ sound_of before
  pub told : told_of now ≡ told_of before
  pub left : left_of now ≡ left_of before
  pub fixed : fixed_of now ≡ fixed_of before

-- a call only read
pub record KeepsContent {S : Type 0} (content_of : S → Option (List ℕ)) (size_of : S → ℕ) (before now : S) : Type 0 where
  pub content : content_of now ≡ content_of before
  pub size : size_of now ≡ size_of before

-- a call left what a stop may leave, now and at each moment since an earlier one; these tell it of a filer
pub data KeepsStops {S : Type 0} (content_of : S → Option (List ℕ)) (saved_of : S → List (Option (List ℕ))) (leaves : S → Option (List ℕ) → Type 0) (moment_of : S → ℕ) (past : S → ℕ → ℕ → Option (List ℕ) → Type 0) (told_of : S → Told) (before now : S) : Type 0 where
  kept : IsSameBut (kept_of (content_of before) (saved_of before)) (kept_of (content_of now) (saved_of now)) (leaves before) (leaves now) (moment_of before) (moment_of now) (past before) (past now) (told_of before) (told_of now) → told_of now ≡ told_of before → KeepsStops content_of saved_of leaves moment_of past told_of before now
