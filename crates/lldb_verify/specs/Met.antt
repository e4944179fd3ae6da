-- What was met along the lists of free blocks, and what a verifier did as a whole.
use Rattle.std.specs.Prelude.{◌≡◌, ℕ, zero, suc, ◌/◌, ◌≤◌, Bool, true, false, not, ◌&&◌, nat_eq, if◌then◌else◌, List, [], ◌∷◌, ◌++◌, length, Option, Some, None, is_some, option_and_then, Result, Ok, Err}
use Rattle.lldb_base.specs.Contents.{content_of}
use Rattle.lldb_atoms.specs.Rows.{extent_at, contains, targets}
use Rattle.lldb_atoms.specs.Lists.{class_of, row_of, tile_from}
use Rattle.lldb_atoms.specs.Sound.{heap_in}
use Rattle.lldb_verify.specs.declared.finding.Finding.{Finding}
use Rattle.lldb_verify.specs.declared.finding.Finding.TheVariants as finding
use Rattle.lldb_verify.specs.declared.finding.Stats.{Stats}
use Rattle.lldb_verify.specs.declared.finding.VerifyFault.{VerifyFault}
use Rattle.lldb_verify.specs.declared.finding.VerifyFault.TheVariants as fault
use Rattle.lldb_verify.specs.declared.seen.Seen.{Seen}
use Rattle.lldb_verify.specs.declared.seen.Seen.TheVariants as seen
use Rattle.lldb_verify.specs.Findings.{blocks, is_used, goes_on, next_of, Walk, walk, of_lists, of_unlisted, of_whole, findings}
use Rattle.lldb_verify.specs.Logs.{has_room, kept_one}
use Rattle.lldb_verify.specs.Marks.{Marks, is_set}
use Rattle.lldb_verify.specs.Passes.{blocks_from, stats_of}
use Rattle.lldb_verify.specs.Told.{Tells, IsFront, IsStop}

-- the bits at the blocks of a content but for the used ones that are named and the ones that were met
abbrev pub Unmet : List ℕ → List ℕ → Marks → Type 0
Unmet c met bits = (q : ℕ) → is_set bits q ≡ ((is_some (tile_from 8 (blocks_from c 8) q) && not (is_used (extent_at 8 (row_of (blocks_from c 8)) q) && contains (targets (row_of (blocks_from c 8))) q)) && not (contains met q))

-- the next link of a block as it is seen, where it is free, of a class, and names the one before
abbrev pub link_of : ℕ → ℕ → Seen → Option ℕ
link_of class before (seen.Used atoms) = None
link_of class before (seen.Compressed atoms) = None
link_of class before (seen.Relocated target) = None
link_of class before (seen.Free atoms previous next) = if nat_eq (class_of atoms) class && nat_eq previous before then Some next else None

-- whether a list goes on to an atom, the next link there, and the bits with the atom as met
abbrev pub Follows : List ℕ → ℕ → List ℕ → ℕ → ℕ → Marks → Option ℕ → Type 0
Follows c class met before atom bits None = (goes_on (blocks_from c 8) class met before atom ≡ false) × Unmet c met bits
Follows c class met before atom bits (Some next) = (goes_on (blocks_from c 8) class met before atom ≡ true) × (next ≡ next_of (tile_from 8 (blocks_from c 8) atom)) × Unmet c (atom ∷ met) bits

-- what is found where the steps of a walk run out at an atom
abbrev pub cut_short : ℕ → ℕ → List Finding
cut_short class zero = []
cut_short class (suc atom) = finding.BadLink class (suc atom) ∷ []

-- a list that is walked: what is met and found from here on is what is met and found on the whole
pub record Walking (c : List ℕ) (class : ℕ) (w : Walk) (most before atom : ℕ) (bits : Marks) : Type 0 where
  pub met : List ℕ
  pub same : walk (blocks_from c 8) class most met before atom ≡ w
  pub marked : Unmet c met bits

-- what was found along a list, and the bits without what was met
pub record IsWalked (c : List ℕ) (w : Walk) (bits : Marks) (found : Option Finding) : Type 0 where
  pub told : kept_one found ≡ w.found
  pub marked : Unmet c w.met bits

-- what is found along lists was told, and the bits are those without what was met; or it stopped
abbrev pub Lists : List ℕ → Walk → List Finding → Option ℕ → Marks → List Finding → Result (Unit {0}) VerifyFault → Type 0
Lists c w before bound bits now (Ok _) = (now ≡ before ++ w.found) × Unmet c w.met bits
Lists c w before bound bits now (Err e) = Tells {T = Unit {0}} (before ++ w.found) bound now (Err e)

-- what is found at a block that no list has met, by whether its bit is set
abbrev pub left_over : Bool → ℕ → Seen → List Finding
left_over set atom (seen.Used atoms) = []
left_over set atom (seen.Compressed atoms) = []
left_over set atom (seen.Relocated target) = []
left_over set atom (seen.Free atoms previous next) = if set then finding.Unlisted atom ∷ [] else []

-- where the last pass stands
pub record Sweeping (c met : List ℕ) (all : List Finding) (atom : ℕ) (now : List Finding) : Type 0 where
  pub told : all ≡ now ++ of_unlisted met atom (row_of (blocks_from c atom))
  pub inner : (q : ℕ) → is_some (tile_from atom (blocks_from c atom) q) ≡ true → is_some (tile_from 8 (blocks_from c 8) q) ≡ true

-- the last pass went on to an atom, or it stopped
abbrev pub Sweeps : List ℕ → List ℕ → List Finding → Option ℕ → List Finding → Result ℕ VerifyFault → Type 0
Sweeps c met all bound now (Ok next) = Sweeping c met all next now
Sweeps c met all bound now (Err e) = Tells {T = Unit {0}} all bound now (Err e)

-- all that blocks name: what is found, and what the lists have met
abbrev pub links_of : List ℕ → Walk
links_of c = record { met = (of_lists c (blocks_from c 8) 16).met; found = of_whole c (blocks_from c 8) }

-- whether an atom is a handle of a content
abbrev pub is_handle : List ℕ → ℕ → Bool
is_handle c q = is_some (option_and_then (content_of q) (heap_in c))

-- nothing was found
pub record IsSoundSeen (c : List ℕ) (bits : Marks) (now : List Finding) (stats : Stats) : Type 0 where
  pub none : findings c ≡ []
  pub told : now ≡ []
  pub numbers : stats ≡ stats_of (length c / 16) (row_of (blocks c))
  pub handles : (q : ℕ) → is_set bits q ≡ is_handle c q

-- all was told, and the log wanted more
pub record AllTold (c : List ℕ) (bound : Option ℕ) (now : List Finding) (count : ℕ) : Type 0 where
  pub told : now ≡ findings c
  pub counted : count ≡ length (findings c)
  pub some : 1 ≤ count
  pub room : has_room bound (length now) ≡ true

-- what a verifier did: nothing is found; or all was told; or what was told ends where the log wanted no more; or a device
-- or memory refused
abbrev pub Verifies : List ℕ → Option ℕ → Marks → List Finding → Result Stats VerifyFault → Type 0
Verifies c bound bits now (Ok stats) = IsSoundSeen c bits now stats
Verifies c bound bits now (Err (fault.Found count)) = AllTold c bound now count
Verifies c bound bits now (Err (fault.Stopped last)) = IsStop bound last now (findings c)
Verifies c bound bits now (Err fault.Failed) = IsFront now (findings c)
Verifies c bound bits now (Err fault.NoMemory) = IsFront now (findings c)

-- all that is found is that a content of so many bytes is not whole atoms behind a table
abbrev pub IsOdd : List ℕ → ℕ → Type 0
IsOdd c bytes = findings c ≡ finding.BadLength bytes ∷ []

-- the passes told all; where the blocks take the whole content there are numbers, and the bits are those at the handles if
-- nothing was found
abbrev pub Passing : List ℕ → Option ℕ → Marks → List Finding → Result (Option Stats) VerifyFault → Type 0
Passing c bound bits now (Ok (Some stats)) = (now ≡ findings c) × (stats ≡ stats_of (length c / 16) (row_of (blocks c))) × (findings c ≡ [] → (q : ℕ) → is_set bits q ≡ is_handle c q)
Passing c bound bits now (Ok None) = (now ≡ findings c) × (1 ≤ length (findings c))
Passing c bound bits now (Err e) = Tells {T = Unit {0}} (findings c) bound now (Err e)
