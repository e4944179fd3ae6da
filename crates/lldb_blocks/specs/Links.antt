-- Doubly linked lists of free blocks. Heads and links are functions, of a class and of an atom; no list has the atom 0.
use Rattle.std.specs.Prelude.{◌≡◌, ℕ, ◌<◌, false, nat_eq, if◌then◌else◌, List, [], ◌∷◌}
use Rattle.lldb_atoms.specs.Blocks.{Extent}
use Rattle.lldb_atoms.specs.Rows.{extent_at, contains}
use Rattle.lldb_atoms.specs.Lists.{in_class}

-- no atom stands twice
abbrev pub Apart : List ℕ → Type 0
Apart [] = Unit {0}
Apart (a ∷ cs) = (contains cs a ≡ false) × Apart cs

-- all but one atom
abbrev pub leaving_out : ℕ → List ℕ → List ℕ
leaving_out a [] = []
leaving_out a (c ∷ cs) = if nat_eq c a then leaving_out a cs else c ∷ leaving_out a cs

-- the first, or 0
abbrev pub first : List ℕ → ℕ
first [] = 0
first (a ∷ cs) = a

-- the last, or the one before them
abbrev pub last : ℕ → List ℕ → ℕ
last before [] = before
last before (a ∷ cs) = last a cs

-- each names the one before it and the one behind it
abbrev pub Linked : (ℕ → ℕ) → (ℕ → ℕ) → ℕ → List ℕ → Type 0
Linked previous next before [] = Unit {0}
Linked previous next before (a ∷ cs) = (previous a ≡ before) × (next a ≡ first cs) × Linked previous next a cs

-- a function with another value at one place
abbrev pub at_one : {A : Type 0} → (ℕ → A) → ℕ → A → ℕ → A
at_one f a v q = if nat_eq q a then v else f q

-- the heads once an atom with these links is taken out of its list: one of them changes where it was the first
abbrev pub head_without : (ℕ → ℕ) → ℕ → ℕ → ℕ → ℕ → ℕ
head_without head class before behind = if nat_eq before 0 then at_one head class behind else head

-- the lists of a row's free blocks, one for each class: heads and links spell them, and each free block stands once in that of
-- its class
pub record Listed (head previous next : ℕ → ℕ) (row : List Extent) (chains : ℕ → List ℕ) : Type 0 where
  pub heads : (class : ℕ) → class < 16 → head class ≡ first (chains class)
  pub linked : (class : ℕ) → Linked previous next 0 (chains class)
  pub once : (class : ℕ) → Apart (chains class)
  pub members : (class atom : ℕ) → contains (chains class) atom ≡ in_class class (extent_at 8 row atom)
