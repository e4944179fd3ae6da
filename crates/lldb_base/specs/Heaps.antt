-- What is said of every heap.
use Rattle.std.specs.Prelude.{◌≡◌, ℕ, ◌+◌, ◌*◌, ◌<◌, ◌≤◌, Bool, List, length, Option, Some, None, IfSome, nat_eq, if◌then◌else◌}
use Rattle.lldb_base.specs.Contents.{Contents, content_of, atoms_for}

-- a handle is not live, or nobody tells
abbrev pub MayBeDead : ℕ → Option Contents → Type 0
MayBeDead handle told = IfSome told (λ map. content_of handle map ≡ None)

-- the atoms of a content are more than those of the one that a handle has
abbrev pub IsGrown : ℕ → ℕ → Option Contents → Type 0
IsGrown handle atoms told = IfSome told (λ map. IfSome (content_of handle map) (λ content. atoms_for (length content) < atoms))

-- the most bytes that a content of so many atoms adds to what has this size
abbrev pub most_added : ℕ → ℕ → ℕ
most_added atoms size = 16 * atoms + (if nat_eq size 0 then 128 else 0)

-- no free block serves so many atoms, and the content cannot grow by them
pub record IsFull (atoms most_free size_old size_new : ℕ) (limit : Option ℕ) (need most : ℕ) : Type 0 where
  pub none_free : most_free < atoms
  pub limit_is : limit ≡ Some most
  pub over_size : size_new < need
  pub over_limit : most < need
  pub needed : need ≤ size_new + 16 * atoms + (if nat_eq size_old 0 then 128 else 0)

-- a heap in two states that differ only in what is shown and warned
pub record IsSameHeap (map_old map_new : Option Contents) (saved_old saved_new : List (Option Contents)) (size_old size_new : ℕ) (sizes_old sizes_new : List ℕ) (limit_old limit_new : Option ℕ) (free_old free_new : ℕ) (ready_old ready_new sound_old sound_new : Bool) (reads_old reads_new : ℕ) : Type 0 where
  pub map : map_new ≡ map_old
  pub saved : saved_new ≡ saved_old
  pub size : size_new ≡ size_old
  pub sizes : sizes_new ≡ sizes_old
  pub limit : limit_new ≡ limit_old
  pub free : free_new ≡ free_old
  pub ready : ready_new ≡ ready_old
  pub sound : sound_new ≡ sound_old
  pub reads : reads_new ≡ reads_old
