-- What calls on a tree leave as it was.
use Rattle.std.specs.Prelude.{◌≡◌, ℕ, Bool, true, false, List, Option, Result, Ok, Err}
use Rattle.lldb_base.specs.Contents.{Contents}
use Rattle.lldb_base.specs.declared.trouble.Trouble.{Trouble}

-- a call left a heap's levels and whatever no change of its contents touches: these tell it of a heap
pub record KeepsLevels {S T L : Type 0} (saved_of : S → List (Option Contents)) (sizes_of : S → List ℕ) (limit_of : S → Option ℕ) (sound_of : S → Bool) (told_of : S → T) (left_of : S → L) (fixed_of : S → List ℕ) (before now : S) : Type 0 where
  pub saved : saved_of now ≡ saved_of before
  pub saved_sizes : sizes_of now ≡ sizes_of before
  pub limit : limit_of now ≡ limit_of before
  pub sound : sound_of now ≡ sound_of before
  pub told : told_of now ≡ told_of before
  pub left : left_of now ≡ left_of before
  pub fixed : fixed_of now ≡ fixed_of before

-- a call only read: it left the contents, their bytes, and whether the heap is ready
pub record KeepsContents {S : Type 0} (contents_of : S → Option Contents) (bytes_of : S → ℕ) (free_of : S → ℕ) (ready_of : S → Bool) (before now : S) : Type 0 where
  pub map : contents_of now ≡ contents_of before
  pub size : bytes_of now ≡ bytes_of before
  pub free : free_of now ≡ free_of before
  pub ready : ready_of now ≡ ready_of before

-- the answer is yes, or this holds
abbrev pub UnlessYes : Result Bool Trouble → Type 0 → Type 0
UnlessYes (Ok true) P = Unit {0}
UnlessYes (Ok false) P = P
UnlessYes (Err e) P = P

-- where the answer is yes, this holds
abbrev pub OnYes : Result Bool Trouble → Type 0 → Type 0
OnYes (Ok true) P = P
OnYes (Ok false) P = Unit {0}
OnYes (Err e) P = Unit {0}
