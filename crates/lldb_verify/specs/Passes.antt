-- How far a verifier has come along the blocks of a content.
use Rattle.std.specs.Prelude.{◌≡◌, ℕ, ◌+◌, ◌*◌, ◌/◌, Bool, true, false, not, ◌&&◌, ◌||◌, nat_eq, if◌then◌else◌, List, [], ◌∷◌, ◌++◌, length, drop, Option, Some, None, is_some, Result, Ok, Err}
use Rattle.lldb_atoms.specs.Blocks.{Extent, Used, Compressed, Moved, Free, Hole, Tile, is_free}
use Rattle.lldb_atoms.specs.Rows.{atoms_in, extent_at, contains, target_of, targets}
use Rattle.lldb_atoms.specs.Lists.{row_of, tile_from}
use Rattle.lldb_verify.specs.declared.finding.Finding.{Finding}
use Rattle.lldb_verify.specs.declared.finding.Finding.TheVariants as finding
use Rattle.lldb_verify.specs.declared.finding.VerifyFault.{VerifyFault}
use Rattle.lldb_verify.specs.declared.finding.Stats.{Stats}
use Rattle.lldb_verify.specs.declared.place.Place.{Place}
use Rattle.lldb_verify.specs.declared.seen.Seen.{Seen}
use Rattle.lldb_verify.specs.declared.seen.Seen.TheVariants as seen
use Rattle.lldb_verify.specs.Findings.{blocks_in, beside, of_blocks, is_used, of_target, of_targets}
use Rattle.lldb_verify.specs.Logs.{kept_one}
use Rattle.lldb_verify.specs.Marks.{Marks, is_set}
use Rattle.lldb_verify.specs.Told.{Tells}

-- the blocks of a content from an atom on, up to where none stands
abbrev pub blocks_from : List ℕ → ℕ → List Tile
blocks_from c atom = blocks_in (length c) (drop (16 * atom) c)

-- what is found at a block, where `before` is the free block in front of it
abbrev pub found_at : Option ℕ → ℕ → Seen → List Finding
found_at before atom (seen.Used atoms) = []
found_at before atom (seen.Compressed atoms) = finding.Compressed atom ∷ []
found_at before atom (seen.Relocated target) = []
found_at before atom (seen.Free atoms previous next) = beside before atom

-- whether it is a relocated block
abbrev pub is_moved : Extent → Bool
is_moved (Used content) = false
is_moved (Compressed content) = false
is_moved (Moved target) = true
is_moved (Free atoms) = false
is_moved (Hole atoms) = false

-- how many blocks there are of a kind
abbrev pub count_of : (Extent → Bool) → List Extent → ℕ
count_of kind [] = 0
count_of kind (e ∷ row) = (if kind e then 1 else 0) + count_of kind row

-- the numbers of a row of blocks in so many atoms
abbrev pub stats_of : ℕ → List Extent → Stats
stats_of atoms row = record { atoms = atoms; used = count_of (λ e. is_used (Some e)) row; relocated = count_of is_moved row; free = count_of is_free row }

-- where the first pass stands in a content: what was told, what is still to be found, and what was counted and marked
pub record Ahead (c : List ℕ) (all : List Finding) (place : Place) (bits : Marks) (now : List Finding) : Type 0 where
  pub told : all ≡ now ++ of_blocks (length c / 16) place.before place.atom (row_of (blocks_from c place.atom))
  pub marked : (q : ℕ) → (is_set bits q || is_some (tile_from place.atom (blocks_from c place.atom) q)) ≡ is_some (tile_from 8 (blocks_from c 8) q)
  pub whole : place.atom + atoms_in (row_of (blocks_from c place.atom)) ≡ 8 + atoms_in (row_of (blocks_from c 8))
  pub used_so : place.used + count_of (λ e. is_used (Some e)) (row_of (blocks_from c place.atom)) ≡ count_of (λ e. is_used (Some e)) (row_of (blocks_from c 8))
  pub relocated_so : place.relocated + count_of is_moved (row_of (blocks_from c place.atom)) ≡ count_of is_moved (row_of (blocks_from c 8))
  pub free_so : place.free + count_of is_free (row_of (blocks_from c place.atom)) ≡ count_of is_free (row_of (blocks_from c 8))

-- all was told, and the blocks end before the content does
pub record IsStuck (c : List ℕ) (all now : List Finding) : Type 0 where
  pub told : now ≡ all
  pub short : nat_eq (8 + atoms_in (row_of (blocks_from c 8))) (length c / 16) ≡ false

-- the first pass went on by a block, or none stands there, or it stopped
abbrev pub Goes : List ℕ → List Finding → Option ℕ → Place → Marks → List Finding → Result Bool VerifyFault → Type 0
Goes c all bound place bits now (Ok true) = Ahead c all place bits now
Goes c all bound place bits now (Ok false) = IsStuck c all now
Goes c all bound place bits now (Err e) = Tells {T = Unit {0}} all bound now (Err e)

-- the first pass told what is found in blocks; where they take the whole content it counted them and marked where each begins
pub record Passed (c : List ℕ) (all now : List Finding) (bits : Marks) (stats : Stats) : Type 0 where
  pub told : now ≡ all
  pub whole : nat_eq (8 + atoms_in (row_of (blocks_from c 8))) (length c / 16) ≡ true
  pub marked : (q : ℕ) → is_set bits q ≡ is_some (tile_from 8 (blocks_from c 8) q)
  pub numbers : stats ≡ stats_of (length c / 16) (row_of (blocks_from c 8))

-- what the first pass did
abbrev pub Passes : List ℕ → List Finding → Option ℕ → Marks → List Finding → Result (Option Stats) VerifyFault → Type 0
Passes c all bound bits now (Ok (Some stats)) = Passed c all now bits stats
Passes c all bound bits now (Ok None) = IsStuck c all now
Passes c all bound bits now (Err e) = Tells {T = Unit {0}} all bound now (Err e)

-- the bits at the blocks of a content but for the used ones that are named
abbrev pub Marked : List ℕ → List ℕ → Marks → Type 0
Marked c named bits = (q : ℕ) → is_set bits q ≡ (is_some (tile_from 8 (blocks_from c 8) q) && not (is_used (extent_at 8 (row_of (blocks_from c 8)) q) && contains named q))

-- whether a relocated block may name an atom: a used block begins there, and none names it
abbrev pub aims_right : List ℕ → List ℕ → ℕ → Bool
aims_right c named target = is_used (extent_at 8 (row_of (blocks_from c 8)) target) && not (contains named target)

-- whether a target was right, and the bits with it as named
pub record IsTaken (c : List ℕ) (named : List ℕ) (target : ℕ) (bits : Marks) (taken : Bool) : Type 0 where
  pub right : taken ≡ aims_right c named target
  pub marked : Marked c (target ∷ named) bits

-- what was found at a block by what it names, and the bits with that as named
pub record IsFound (c : List ℕ) (named : List ℕ) (atom : ℕ) (e : Extent) (bits : Marks) (found : Option Finding) : Type 0 where
  pub told : kept_one found ≡ of_target (row_of (blocks_from c 8)) named atom e
  pub marked : Marked c (target_of e ++ named) bits

-- where the second pass stands
pub record Aiming (c : List ℕ) (all : List Finding) (atom : ℕ) (bits : Marks) (now : List Finding) : Type 0 where
  pub named : List ℕ
  pub told : all ≡ now ++ of_targets (row_of (blocks_from c 8)) named atom (row_of (blocks_from c atom))
  pub marked : Marked c named bits
  pub names : (q : ℕ) → (contains named q || contains (targets (row_of (blocks_from c atom))) q) ≡ contains (targets (row_of (blocks_from c 8))) q

-- the second pass went on to an atom, or it stopped
abbrev pub Aims : List ℕ → List Finding → Option ℕ → Marks → List Finding → Result ℕ VerifyFault → Type 0
Aims c all bound bits now (Ok next) = Aiming c all next bits now
Aims c all bound bits now (Err e) = Tells {T = Unit {0}} all bound now (Err e)

-- the second pass told what is found in what blocks name, and unset the bits of the used blocks that are named; or it stopped
abbrev pub AllAimed : List ℕ → List Finding → Option ℕ → Marks → List Finding → Result (Unit {0}) VerifyFault → Type 0
AllAimed c all bound bits now (Ok _) = (now ≡ all) × Marked c (targets (row_of (blocks_from c 8))) bits
AllAimed c all bound bits now (Err e) = Tells {T = Unit {0}} all bound now (Err e)
