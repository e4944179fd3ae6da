-- Where the content of a handle stands, as it is read.
use Rattle.std.proofs.Common.{◌≡◌, ℕ, ◌≤◌, Bool, true, false, cond, leb, List, length, Option, Some, None, IfSome, Ok, Err, refl, sym, ◌∙◌, ap, subst, inl, inr, le-leb}
use Rattle.std.specs.Prelude.{⊤}
use Rattle.std.proofs.lemmas.Bool.{cases_lt, cond-true, cond-false, lt-leb}
use Rattle.lldb_base.specs.declared.trouble.Trouble.{Trouble}
use Rattle.lldb_base.specs.declared.trouble.Trouble.TheVariants as trouble
use Rattle.lldb_base.specs.Trouble.{Refuses}
use Rattle.lldb_base.specs.Contents.{content_of, atoms_for}
use Rattle.lldb_atoms.specs.declared.block.Block.{Block}
use Rattle.lldb_atoms.specs.declared.block.Block.TheVariants as block
use Rattle.lldb_atoms.specs.Heads.{atoms_of}
use Rattle.lldb_atoms.specs.Blocks.{Extent, Used, Moved, used_head}
use Rattle.lldb_atoms.specs.Rows.{extent_at, contains, targets, heap}
use Rattle.lldb_atoms.proofs.Says.{atoms_some}
use Rattle.lldb_blocks.specs.Laid.{Lays}
use Rattle.lldb_blocks.proofs.Heaps.{heap_at, meant}
use Rattle.lldb_alloc.specs.Reads.{HasBlock}
use Rattle.lldb_alloc.specs.Handles.{HasUsedAtoms, LacksUsed, HasSite, LacksHandle}
use Rattle.lldb_alloc.specs.declared.site.Site.TheVariants as site
use Rattle.lldb_alloc.proofs.Uses.{not_used, handle_says, spells_at}

-- which blocks are not used
pub moved_unused : (b : Block) (t n : ℕ) → b ≡ block.Relocated t → b ≡ used_head n → ⊥
moved_unused b t n is used = not_used (block.Relocated t) n (λ k no. cc) (λ k no. cc) (sym is ∙ used)

pub one_unused : (b : Block) (p q n : ℕ) → b ≡ block.FreeOne p q → b ≡ used_head n → ⊥
one_unused b p q n is used = not_used (block.FreeOne p q) n (λ k no. cc) (λ k no. cc) (sym is ∙ used)

pub free_unused : (b : Block) (s p q n : ℕ) → b ≡ block.Free s p q → b ≡ used_head n → ⊥
free_unused b s p q n is used = not_used (block.Free s p q) n (λ k no. cc) (λ k no. cc) (sym is ∙ used)

used_size : (n : ℕ) → atoms_of (used_head n) ≡ atoms_for n
used_size n = elim (cases_lt 251 n) [
  | inl large ↦ ap atoms_of (cond-false (leb n 251) (block.Short n) (block.Long n) (lt-leb n 251 large))
  | inr small ↦ ap atoms_of (cond-true (leb n 251) (block.Short n) (block.Long n) (le-leb n 251 small))
]

-- the used block at an atom
pub used_counted : (told : Option (List ℕ)) (at atoms : ℕ) (b : Block) → atoms ≡ atoms_of b → IfSome told (HasBlock at (Ok b)) → IfSome told (HasUsedAtoms at atoms)
used_counted None at atoms b is has = tt
used_counted (Some c) at atoms b is has = λ row u l here.
    spells_at c row l at (Used u) here (λ x y place s. is ∙ ap atoms_of (has l.head l.previous l.next x (Used u) y place refl s) ∙ used_size (length u))

pub used_none : (told : Option (List ℕ)) (at : ℕ) (b : Block) → ((n : ℕ) → b ≡ used_head n → ⊥) → IfSome told (HasBlock at (Ok b)) → IfSome told (LacksUsed at)
used_none None at b not has = tt
used_none (Some c) at b not has = λ row u l here.
    spells_at c row l at (Used u) here (λ x y place s. not (length u) (has l.head l.previous l.next x (Used u) y place refl s))

pub used_refused : (told : Option (List ℕ)) (at : ℕ) (t : Trouble) → Refuses {T = Block} (λ _ _. ⊥) ⊤ (Err t) → IfSome told (HasBlock at (Err t)) → Refuses {T = ℕ} (λ _ _. ⊥) (IfSome told (LacksUsed at)) (Err t)
used_refused told at trouble.Failed refuses has = tt
used_refused told at trouble.NoMemory refuses has = tt
used_refused told at (trouble.Full a b) refuses has = refuses
used_refused None at trouble.Damaged refuses has = tt
used_refused (Some c) at trouble.Damaged refuses has = λ row u l here. spells_at c row l at (Used u) here (λ x y place s. has l.head l.previous l.next x (Used u) y place refl s)

-- a block of its own that is a handle is named by no other
own_named : (b : Bool) (u v : List ℕ) → cond b None (Some u) ≡ Some v → b ≡ false
own_named true u v is = absurd (cc)
own_named false u v is = refl

pub handle_unnamed : (row : List Extent) (q : ℕ) (u v : List ℕ) (c : List ℕ) → Lays c row → extent_at 8 row q ≡ Some (Used u) → content_of q (heap row) ≡ Some v → contains (targets row) q ≡ false
handle_unnamed row q u v c l here is = own_named (contains (targets row) q) u v (sym (heap_at row q l.spells.solid ∙ ap (meant (contains (targets row)) (extent_at 8 row) q) here) ∙ is)

-- the content stands in the handle's own block
pub own_found : (told : Option (List ℕ)) (handle atoms : ℕ) (b : Block) → ((t : ℕ) → b ≡ block.Relocated t → ⊥) → atoms ≡ atoms_of b → IfSome told (HasBlock handle (Ok b)) → IfSome told (HasSite handle (site.Own atoms))
own_found None handle atoms b not is has = tt
own_found (Some c) handle atoms b not is has = λ row u l rest live. elim (handle_says row handle u l.spells.solid live).home [
  | inl own ↦ (own, handle_unnamed row handle u u c l own live, used_counted (Some c) handle atoms b is has row u l own)
  | inr moved ↦ spells_at c row l handle (Moved moved.0) moved.1 (λ x y place s. absurd (not moved.0 (has l.head l.previous l.next x (Moved moved.0) y place refl s)))
]

-- the handle names no block, and is not used
pub own_dead : (told : Option (List ℕ)) (handle : ℕ) (b : Block) → ((t : ℕ) → b ≡ block.Relocated t → ⊥) → ((n : ℕ) → b ≡ used_head n → ⊥) → IfSome told (HasBlock handle (Ok b)) → IfSome told (LacksHandle handle)
own_dead None handle b moved used has = tt
own_dead (Some c) handle b moved used has = λ row u l rest live. elim (handle_says row handle u l.spells.solid live).home [
  | inl own ↦ used_none (Some c) handle b used has row u l own
  | inr away ↦ spells_at c row l handle (Moved away.0) away.1 (λ x y place s. moved away.0 (has l.head l.previous l.next x (Moved away.0) y place refl s))
]

-- the content stands in the block that the handle names
named_there : (c : List ℕ) (row : List Extent) (handle t : ℕ) (u : List ℕ) → Lays c row → HasBlock handle (Ok (block.Relocated t)) c → content_of handle (heap row) ≡ Some u → (extent_at 8 row handle ≡ Some (Moved t)) × (extent_at 8 row t ≡ Some (Used u))
named_there c row handle t u l has live = elim (handle_says row handle u l.spells.solid live).home [
  | inl own ↦ spells_at c row l handle (Used u) own (λ x y place s. absurd (moved_unused (block.Relocated t) t (length u) refl (has l.head l.previous l.next x (Used u) y place refl s)))
  | inr away ↦ spells_at c row l handle (Moved away.0) away.1 (λ x y place s.
      let named : block.Relocated t ≡ block.Relocated away.0 = has l.head l.previous l.next x (Moved away.0) y place refl s in
      let same : t ≡ away.0 = cc in
      (away.1 ∙ ap (λ (k : ℕ). Some (Moved k)) (sym same), ap (extent_at 8 row) same ∙ away.2))
]

pub away_found : (told : Option (List ℕ)) (handle t atoms : ℕ) → IfSome told (HasBlock handle (Ok (block.Relocated t))) → IfSome told (HasUsedAtoms t atoms) → IfSome told (HasSite handle (site.Away t atoms))
away_found None handle t atoms has counted = tt
away_found (Some c) handle t atoms has counted = λ row u l rest live.
    let there = named_there c row handle t u l has live in
    (there.0, there.1, counted row u l there.1)

pub away_dead : (told : Option (List ℕ)) (handle t : ℕ) → IfSome told (HasBlock handle (Ok (block.Relocated t))) → IfSome told (LacksUsed t) → IfSome told (LacksHandle handle)
away_dead None handle t has lacks = tt
away_dead (Some c) handle t has lacks = λ row u l rest live. lacks row u l (named_there c row handle t u l has live).1

-- the head of the handle's block was refused
pub handle_refused : (S : Type 0) (told : Option (List ℕ)) (handle : ℕ) (t : Trouble) → Refuses {T = Block} (λ _ _. ⊥) ⊤ (Err t) → IfSome told (HasBlock handle (Err t)) → Refuses {T = S} (λ _ _. ⊥) (IfSome told (LacksHandle handle)) (Err t)
handle_refused S told handle trouble.Failed refuses has = tt
handle_refused S told handle trouble.NoMemory refuses has = tt
handle_refused S told handle (trouble.Full a b) refuses has = refuses
handle_refused S None handle trouble.Damaged refuses has = tt
handle_refused S (Some c) handle trouble.Damaged refuses has = λ row u l rest live. elim (handle_says row handle u l.spells.solid live).home [
  | inl own ↦ spells_at c row l handle (Used u) own (λ x y place s. has l.head l.previous l.next x (Used u) y place refl s)
  | inr away ↦ spells_at c row l handle (Moved away.0) away.1 (λ x y place s. has l.head l.previous l.next x (Moved away.0) y place refl s)
]

-- how many atoms a used block has at least
pub used_some : (b : Block) (n : ℕ) → b ≡ block.Short n → 1 ≤ atoms_of b
used_some b n is = subst (λ (k : ℕ). 1 ≤ k) (sym (ap atoms_of is)) (atoms_some n)
