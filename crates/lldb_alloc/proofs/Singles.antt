-- Single writes to a content that is told.
use Rattle.std.proofs.Common.{◌≡◌, ℕ, ◌+◌, ◌*◌, ◌<◌, ◌≤◌, ◌^◌, List, Option, Some, None, IfSome, Result, Ok, Err, option_map, refl, sym, ◌∙◌, subst, arith}
use Rattle.std.specs.Prelude.{⊤}
use Rattle.std.specs.Option.{IsSomeAnd}
use Rattle.lldb_base.specs.Batch.{put}
use Rattle.lldb_base.specs.declared.trouble.Trouble.{Trouble}
use Rattle.lldb_base.specs.declared.trouble.Trouble.TheVariants as trouble
use Rattle.lldb_base.specs.Trouble.{Refuses, IsOver}
use Rattle.lldb_atoms.specs.declared.block.Block.{Block}
use Rattle.lldb_atoms.specs.Numbers.{as_bytes}
use Rattle.lldb_atoms.specs.Blocks.{Free, free_head}
use Rattle.lldb_blocks.specs.Steps.{links_from, SetsHead, SetsPrevious, SetsNext}
use Rattle.lldb_blocks.proofs.Writes.{sets_head, sets_previous, sets_next}
use Rattle.lldb_alloc.specs.Reads.{HasBlock}
use Rattle.lldb_alloc.specs.Changes.{Turns, HasFree, LacksFree}
use Rattle.lldb_alloc.specs.declared.links.FreeBlock.{FreeBlock}
use Rattle.lldb_alloc.proofs.Uses.{free_known}

-- a write within a content is never over the size
pub not_full : {T : Type 0} (result : Result T Trouble) (size limit asked : ℕ) → asked ≤ size → Refuses (IsOver size limit asked) ⊥ result → Refuses (λ _ _. ⊥) ⊥ result
not_full (Ok v) size limit asked within refuses = tt
not_full (Err trouble.Failed) size limit asked within refuses = tt
not_full (Err trouble.NoMemory) size limit asked within refuses = tt
not_full (Err (trouble.Full need most)) size limit asked within refuses =
    let is = refuses.0 in
    let over = refuses.2 in
    omega (arith, within, is, over)
not_full (Err trouble.Damaged) size limit asked within refuses = refuses

-- a change of what is told
turned : (before after : Option (List ℕ)) (f : List ℕ → List ℕ) (R : List ℕ → List ℕ → Type 0) → after ≡ option_map f before → ((c : List ℕ) → before ≡ Some c → R c (f c)) → Turns before after R
turned None after f R is holds = tt
turned (Some c) after f R is holds = subst (λ (o : Option (List ℕ)). IsSomeAnd o (λ d. R c d)) (sym is) (holds c refl)

pub head_told : (before after : Option (List ℕ)) (class atom : ℕ) → class < 16 → atom < 2 ^ 64 → after ≡ option_map (put (8 * class) (as_bytes 8 atom)) before → Turns before after (SetsHead class atom)
head_told before after class atom below small is = turned before after (put (8 * class) (as_bytes 8 atom)) (SetsHead class atom) is (λ c _. sets_head class atom c below small)

free_told : (told : Option (List ℕ)) (c : List ℕ) (at : ℕ) (free : FreeBlock) → told ≡ Some c → IfSome told (HasFree at free) → HasFree at free c
free_told None c at free is has = absurd (cc)
free_told (Some d) c at free is has = let same : d ≡ c = cc in subst (λ (e : List ℕ). HasFree at free e) same has

pub previous_told : (before after : Option (List ℕ)) (at value : ℕ) (free : FreeBlock) → value < 2 ^ 56 → IfSome before (HasFree at free) → after ≡ option_map (put (16 * at + links_from free.atoms) (as_bytes 7 value)) before → Turns before after (SetsPrevious at value)
previous_told before after at value free small has is = turned before after (put (16 * at + links_from free.atoms) (as_bytes 7 value)) (SetsPrevious at value) is (λ c told. sets_previous at free.atoms value c small (λ h p n x y s place spells. sym (free_told before c at free told has h p n x y s place spells).atoms_are))

pub next_told : (before after : Option (List ℕ)) (at value : ℕ) (free : FreeBlock) → value < 2 ^ 56 → IfSome before (HasFree at free) → after ≡ option_map (put (16 * at + (links_from free.atoms + 7)) (as_bytes 7 value)) before → Turns before after (SetsNext at value)
next_told before after at value free small has is = turned before after (put (16 * at + (links_from free.atoms + 7)) (as_bytes 7 value)) (SetsNext at value) is (λ c told. sets_next at free.atoms value c small (λ h p n x y s place spells. sym (free_told before c at free told has h p n x y s place spells).atoms_are))

-- what a head says of a free block
pub free_given : (told : Option (List ℕ)) (at : ℕ) (b : Block) (free : FreeBlock) → b ≡ free_head free.atoms free.previous free.next → IfSome told (HasBlock at (Ok b)) → IfSome told (HasFree at free)
free_given None at b free is has = tt
free_given (Some c) at b free is has = λ h p n x y s place spells.
    let same = free_known free.atoms free.previous free.next s (p at) (n at) (sym is ∙ has h p n x (Free s) y place refl spells) in
    record { atoms_are = same.0; previous_is = same.1; next_is = same.2 }

pub none_given : (told : Option (List ℕ)) (at : ℕ) (b : Block) → ((s p n : ℕ) → b ≡ free_head s p n → ⊥) → IfSome told (HasBlock at (Ok b)) → IfSome told (LacksFree at)
none_given None at b not has = tt
none_given (Some c) at b not has = λ h p n x y s place spells. not s (p at) (n at) (has h p n x (Free s) y place refl spells)

-- a head that was refused
pub refused_given : (told : Option (List ℕ)) (at : ℕ) (t : Trouble) → Refuses {T = Block} (λ _ _. ⊥) ⊤ (Err t) → IfSome told (HasBlock at (Err t)) → Refuses {T = FreeBlock} (λ _ _. ⊥) (IfSome told (LacksFree at)) (Err t)
refused_given told at trouble.Failed refuses has = tt
refused_given told at trouble.NoMemory refuses has = tt
refused_given told at (trouble.Full a b) refuses has = refuses
refused_given None at trouble.Damaged refuses has = tt
refused_given (Some c) at trouble.Damaged refuses has = λ h p n x y s place spells. has h p n x (Free s) y place refl spells
