-- A hole among blocks is given up.
use Rattle.std.specs.Prelude.{◌≡◌, ℕ, ◌+◌, Bool, true, false, nat_eq, if◌then◌else◌, List, [], ◌∷◌, ◌++◌, slice_index}
use Rattle.lldb_atoms.specs.Numbers.{number_in}
use Rattle.lldb_atoms.specs.Blocks.{Extent, Used, Compressed, Moved, Free, Hole, is_free}
use Rattle.lldb_atoms.specs.Rows.{atoms_in, are_spaced, ends_free}
use Rattle.lldb_atoms.specs.Laws.{is_block}
use Rattle.lldb_blocks.specs.Laid.{Spells, Lays, Named}
use Rattle.lldb_blocks.specs.Steps.{Settled}

-- whether the block that begins at an atom is free, whatever the row
abbrev pub TellsFree : ℕ → Bool → List ℕ → Type 0
TellsFree at free c = (h p n : ℕ → ℕ) (x : List Extent) (e : Extent) (y : List Extent) → at ≡ 8 + atoms_in x → is_block e ≡ true → Spells h p n c (x ++ e ∷ y) → free ≡ is_free e

-- no block begins at an atom, in no row
abbrev pub LacksBlock : ℕ → List ℕ → Type 0
LacksBlock at c = (h p n : ℕ → ℕ) (x : List Extent) (e : Extent) (y : List Extent) → at ≡ 8 + atoms_in x → is_block e ≡ true → Spells h p n c (x ++ e ∷ y) → ⊥

-- the atoms of a free block, 0 of another
abbrev pub free_atoms : Extent → ℕ
free_atoms (Used content) = 0
free_atoms (Compressed content) = 0
free_atoms (Moved target) = 0
free_atoms (Free atoms) = atoms
free_atoms (Hole atoms) = 0

-- the block that ends before an atom is a free one of so many atoms, or another one where that is 0, whatever the row
abbrev pub EndsFree : ℕ → ℕ → List ℕ → Type 0
EndsFree at atoms c = (h p n : ℕ → ℕ) (x : List Extent) (e : Extent) (y : List Extent) → at ≡ 8 + atoms_in (x ++ e ∷ []) → is_block e ≡ true → Spells h p n c ((x ++ e ∷ []) ++ y) → atoms ≡ free_atoms e

-- the atoms of a free block whose last eight bytes are these, 0 where they are those of another
abbrev pub free_by : List ℕ → ℕ
free_by bytes =
    if nat_eq (slice_index bytes 7) 254 then 1
    else if nat_eq (slice_index bytes 7) 255 then number_in 7 bytes
    else 0

-- no hole of so many atoms begins at an atom, with no other hole in the row
abbrev pub LacksGap : ℕ → ℕ → List ℕ → Type 0
LacksGap at atoms c = (x y : List Extent) → at ≡ 8 + atoms_in x → are_spaced false x ≡ true → are_spaced false y ≡ true → Lays c (x ++ Hole atoms ∷ y) → ⊥

-- a hole of so many atoms in a row that is else at rest is given up
abbrev pub Releases : ℕ → ℕ → List ℕ → List ℕ → Type 0
Releases at atoms c d = (x y : List Extent) → at ≡ 8 + atoms_in x → Lays c (x ++ Hole atoms ∷ y) → are_spaced false x ≡ true → are_spaced false y ≡ true → ends_free false y ≡ false → Named (x ++ Hole atoms ∷ y) → Settled d (x ++ Hole atoms ∷ y)
