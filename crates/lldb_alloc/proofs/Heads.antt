-- The head of a block, as it is read from the front of its bytes.
use Rattle.std.proofs.Common.{◌≡◌, ℕ, ◌+◌, ◌-◌, ◌*◌, ◌/◌, ◌≤◌, min, true, List, [], ◌∷◌, ◌++◌, length, take, drop, Option, Some, None, IfSome, Ok, Err, refl, sym, ◌∙◌, ap, arith, length-append}
use Rattle.std.proofs.lemmas.List.{take-take}
use Rattle.lldb_base.specs.declared.trouble.Trouble.{Trouble}
use Rattle.lldb_base.specs.declared.trouble.Trouble.TheVariants as trouble
use Rattle.lldb_atoms.specs.declared.block.Block.{Block}
use Rattle.lldb_atoms.specs.declared.block.Block.TheVariants as block
use Rattle.lldb_atoms.specs.Numbers.{as_bytes}
use Rattle.lldb_atoms.specs.Heads.{head_of, atoms_of, IsValid, head_at}
use Rattle.lldb_atoms.specs.Blocks.{Extent, size, head_for}
use Rattle.lldb_atoms.specs.Rows.{atoms_in}
use Rattle.lldb_atoms.specs.Laws.{is_block}
use Rattle.lldb_atoms.proofs.AsBytes.{length-as_bytes}
use Rattle.lldb_atoms.proofs.Says.{atoms_some}
use Rattle.lldb_blocks.specs.Laid.{Spells}
use Rattle.lldb_blocks.proofs.Readings.{block_found, block_begins, head_found}
use Rattle.lldb_alloc.specs.Reads.{HasBlock}

-- a head has 22 bytes at most
pub head_short : (b : Block) → length (head_of b) ≤ 32
head_short (block.Short n) = omega arith
head_short (block.Long n) = omega (arith, length-as_bytes 2 (n - 252))
head_short (block.Relocated t) =
    let long = length-append (as_bytes 7 t) (0 ∷ 0 ∷ 0 ∷ 0 ∷ 0 ∷ 0 ∷ 0 ∷ 0 ∷ []) in
    omega (arith, long, length-as_bytes 7 t)
head_short (block.FreeOne p n) =
    let long = length-append (as_bytes 7 p ++ as_bytes 7 n) (254 ∷ []) in
    let front = length-append (as_bytes 7 p) (as_bytes 7 n) in
    omega (arith, long, front, length-as_bytes 7 p, length-as_bytes 7 n)
head_short (block.Free s p n) =
    let long = length-append (as_bytes 7 s ++ as_bytes 7 p) (as_bytes 7 n) in
    let front = length-append (as_bytes 7 s) (as_bytes 7 p) in
    omega (arith, long, front, length-as_bytes 7 s, length-as_bytes 7 p, length-as_bytes 7 n)

same_front : (k n : ℕ) (a b : List ℕ) → k ≤ n → take n a ≡ take n b → take k a ≡ take k b
same_front k n a b below same = sym (take-take k n a below) ∙ ap (λ (u : List ℕ). take k u) same ∙ take-take k n b below

-- a block has an atom
pub atoms_above : (b : Block) → IsValid b → 1 ≤ atoms_of b
atoms_above (block.Short n) valid = atoms_some n
atoms_above (block.Long n) valid = atoms_some n
atoms_above (block.Relocated t) valid = omega arith
atoms_above (block.FreeOne p n) valid = omega arith
atoms_above (block.Free s p n) valid = let some = valid.0 in omega (arith, some)

-- a block has no more atoms than are left
pub block_fits : (h p n : ℕ → ℕ) (c : List ℕ) (x : List Extent) (e : Extent) (y : List Extent) (at bytes : ℕ) → length c ≡ bytes → at ≡ 8 + atoms_in x → Spells h p n c (x ++ e ∷ y) → 16 * at + 16 * size e ≤ bytes
block_fits h p n c x e y at bytes long place s =
    let f = block_found h p n c x e y at place s in
    let whole = f.block.whole in
    let all : length c ≡ length f.front + (length f.here + length f.rest) = ap length f.is ∙ length-append f.front (f.here ++ f.rest) ∙ ap (λ (k : ℕ). length f.front + k) (length-append f.here f.rest) in
    omega (arith, all, long, whole, f.long)

-- the head of the block at an atom, in bytes that begin as the content does from there on
pub head_there : (c front : List ℕ) (at bytes : ℕ) → length c ≡ bytes → take (min 32 (bytes - 16 * at)) front ≡ take (min 32 (bytes - 16 * at)) (drop (16 * at) c)
    → (h p n : ℕ → ℕ) (x : List Extent) (e : Extent) (y : List Extent) → at ≡ 8 + atoms_in x → is_block e ≡ true → Spells h p n c (x ++ e ∷ y) → head_at (bytes / 16 - at) front ≡ Some (head_for (p at) (n at) e)
head_there c front at bytes long same h p n x e y place known s =
    let f = block_found h p n c x e y at place s in
    let b = block_begins (p at) (n at) e f.here known f.block in
    let fits = block_fits h p n c x e y at bytes long place s in
    let short = head_short (head_for (p at) (n at) e) in
    let whole = f.block.whole in
    let parts : length f.here ≡ length (head_of (head_for (p at) (n at) e)) + length b.more = ap length b.is ∙ length-append (head_of (head_for (p at) (n at) e)) b.more in
    let enough : length (head_of (head_for (p at) (n at) e)) ≤ min 32 (bytes - 16 * at) = omega (arith, fits, short, whole, parts) in
    let room : size e ≤ bytes / 16 - at = omega (arith, fits) in
    head_found h p n c x e y at (bytes / 16 - at) front place known room (same_front (length (head_of (head_for (p at) (n at) e))) (min 32 (bytes - 16 * at)) front (drop (16 * at) c) enough same) s

-- the answers of a reading of a head
pub head_given : (told : Option (List ℕ)) (front : List ℕ) (at bytes : ℕ) (b : Block) → IfSome told (λ c. length c ≡ bytes) → IfSome told (λ c. take (min 32 (bytes - 16 * at)) front ≡ take (min 32 (bytes - 16 * at)) (drop (16 * at) c)) → Some b ≡ head_at (bytes / 16 - at) front → IfSome told (HasBlock at (Ok b))
head_given None front at bytes b long same is = tt
head_given (Some c) front at bytes b long same is = λ h p n x e y place known s.
    let there = is ∙ head_there c front at bytes long same h p n x e y place known s in cc

pub head_missing : (told : Option (List ℕ)) (front : List ℕ) (at bytes : ℕ) → IfSome told (λ c. length c ≡ bytes) → IfSome told (λ c. take (min 32 (bytes - 16 * at)) front ≡ take (min 32 (bytes - 16 * at)) (drop (16 * at) c)) → None ≡ head_at (bytes / 16 - at) front → IfSome told (HasBlock at (Err trouble.Damaged))
head_missing None front at bytes long same is = tt
head_missing (Some c) front at bytes long same is = λ h p n x e y place known s.
    let there = is ∙ head_there c front at bytes long same h p n x e y place known s in cc

pub head_outside : (told : Option (List ℕ)) (at bytes : ℕ) → IfSome told (λ c. length c ≡ bytes) → bytes / 16 ≤ at → IfSome told (HasBlock at (Err trouble.Damaged))
head_outside None at bytes long past = tt
head_outside (Some c) at bytes long past = λ h p n x e y place known s.
    let f = block_found h p n c x e y at place s in
    let b = block_begins (p at) (n at) e f.here known f.block in
    let fits = block_fits h p n c x e y at bytes long place s in
    absurd (no_room (head_for (p at) (n at) e) (size e) b.atoms b.valid fits past)
  where
    no_room : (b : Block) (s : ℕ) {at bytes : ℕ} → atoms_of b ≡ s → IsValid b → 16 * at + 16 * s ≤ bytes → bytes / 16 ≤ at → ⊥
    no_room b s atoms valid fits past = let some = atoms_above b valid in omega (arith, atoms, some, fits, past)

-- an answer that is no damage says nothing of blocks
pub no_answer : (told : Option (List ℕ)) (at : ℕ) (t : Trouble) → (t ≡ trouble.Damaged → ⊥) → IfSome told (HasBlock at (Err t))
no_answer None at t not = tt
no_answer (Some c) at trouble.Failed not = λ _ _ _ _ _ _ _ _ _. tt
no_answer (Some c) at trouble.NoMemory not = λ _ _ _ _ _ _ _ _ _. tt
no_answer (Some c) at (trouble.Full a b) not = λ _ _ _ _ _ _ _ _ _. tt
no_answer (Some c) at trouble.Damaged not = absurd (not refl)
