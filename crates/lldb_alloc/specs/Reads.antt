-- What is read where a row of blocks lies in a content.
use Rattle.std.specs.Prelude.{◌≡◌, ℕ, ◌+◌, true, List, ◌∷◌, ◌++◌, length, Some, Result, Ok, Err}
use Rattle.lldb_base.specs.declared.trouble.Trouble.{Trouble}
use Rattle.lldb_base.specs.declared.trouble.Trouble.TheVariants as trouble
use Rattle.lldb_base.specs.Contents.{content_of}
use Rattle.lldb_atoms.specs.declared.block.Block.{Block}
use Rattle.lldb_atoms.specs.Blocks.{Extent, Used, used_head, head_for}
use Rattle.lldb_atoms.specs.Rows.{atoms_in, heap}
use Rattle.lldb_atoms.specs.Laws.{is_block}
use Rattle.lldb_blocks.specs.Laid.{Spells, Lays, AtRest}

-- an answer is such a value, or a refusal that does not speak of damage
abbrev pub Gives : {T : Type 0} → (T → Type 0) → Result T Trouble → Type 0
Gives P (Ok value) = P value
Gives P (Err trouble.Failed) = Unit {0}
Gives P (Err trouble.NoMemory) = Unit {0}
Gives P (Err (trouble.Full _ _)) = Unit {0}
Gives P (Err trouble.Damaged) = ⊥

-- the block that begins at an atom is given, whatever the row
abbrev pub HasBlock : ℕ → Result Block Trouble → List ℕ → Type 0
HasBlock at result c = (h p n : ℕ → ℕ) (x : List Extent) (e : Extent) (y : List Extent) → at ≡ 8 + atoms_in x → is_block e ≡ true → Spells h p n c (x ++ e ∷ y) → Gives (λ (b : Block). b ≡ head_for (p at) (n at) e) result

-- the content of the used block with this head, which begins at an atom, is given
abbrev pub HasUsed : ℕ → Block → Result (Unit {0}) Trouble → List ℕ → List ℕ → Type 0
HasUsed at head result out c = (h p n : ℕ → ℕ) (x : List Extent) (u : List ℕ) (y : List Extent) → at ≡ 8 + atoms_in x → head ≡ used_head (length u) → Spells h p n c (x ++ Used u ∷ y) → Gives (λ _. out ≡ u) result

-- the content of a handle is given, where it is live
abbrev pub HasContent : ℕ → Result (Unit {0}) Trouble → List ℕ → List ℕ → Type 0
HasContent handle result out c = (row : List Extent) (u : List ℕ) → Lays c row → AtRest row → content_of handle (heap row) ≡ Some u → Gives (λ _. out ≡ u) result
