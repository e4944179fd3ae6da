-- The content of a used block, and of a handle, as it is read.
use Rattle.std.proofs.Common.{◌≡◌, ℕ, ◌+◌, ◌-◌, ◌*◌, ◌≤◌, Bool, true, false, cond, leb, List, [], ◌∷◌, ◌++◌, length, take, drop, Option, Some, None, IfSome, Result, Ok, Err, OnOk, refl, sym, ◌∙◌, ap, subst, inl, inr, arith, append_assoc, length-append, take_at, drop_at, le-leb, eqb, eq-eqb, ne_eqb}
use Rattle.std.specs.Prelude.{◌⊎◌, IsErrAnd}
use Rattle.std.proofs.lemmas.Bool.{cases_lt, cases_eq, cond-true, cond-false, lt-leb}
use Rattle.lldb_base.specs.declared.trouble.Trouble.{Trouble}
use Rattle.lldb_base.specs.declared.trouble.Trouble.TheVariants as trouble
use Rattle.lldb_base.specs.Trouble.{Refuses}
use Rattle.lldb_base.specs.Contents.{content_of}
use Rattle.lldb_atoms.specs.declared.block.Block.{Block}
use Rattle.lldb_atoms.specs.declared.block.Block.TheVariants as block
use Rattle.lldb_atoms.specs.Heads.{head_of, IsValid}
use Rattle.lldb_atoms.specs.Blocks.{Extent, Used, Compressed, Moved, Free, Hole, used_head, free_head, head_for}
use Rattle.lldb_atoms.specs.Rows.{atoms_in, extent_at, contains, targets, used_content, heap}
use Rattle.lldb_atoms.proofs.AsBytes.{length-as_bytes}
use Rattle.lldb_blocks.specs.Laid.{Solid, Spells, Lays}
use Rattle.lldb_blocks.proofs.Looks.{found}
use Rattle.lldb_blocks.proofs.Heaps.{heap_at, meant}
use Rattle.lldb_blocks.proofs.Readings.{block_found, one_known, more_known}
use Rattle.lldb_alloc.specs.Reads.{Gives, HasBlock, HasUsed, HasContent}

-- the bytes behind the head of a used block are its content
used_there : (h p n : ℕ → ℕ) (c : List ℕ) (x : List Extent) (u : List ℕ) (y : List Extent) (at k : ℕ) → at ≡ 8 + atoms_in x → length (head_of (used_head (length u))) ≡ k → Spells h p n c (x ++ Used u ∷ y) → take (length u) (drop (16 * at + k) c) ≡ u
used_there h p n c x u y at k place long s =
    let f = block_found h p n c x (Used u) y at place s in
    let head = head_of (used_head (length u)) in
    let more = f.block.any ++ 0 ∷ [] in
    let spelled : f.here ≡ head ++ (u ++ more) = f.block.spelled ∙ append_assoc (head ++ u) f.block.any (0 ∷ []) ∙ append_assoc head u more in
    let is : c ≡ (f.front ++ head) ++ (u ++ (more ++ f.rest)) =
    f.is
    ∙ ap (λ (z : List ℕ). f.front ++ (z ++ f.rest)) spelled
    ∙ ap (λ (z : List ℕ). f.front ++ z) (append_assoc head (u ++ more) f.rest ∙ ap (λ (z : List ℕ). head ++ z) (append_assoc u more f.rest))
    ∙ sym (append_assoc f.front head (u ++ (more ++ f.rest))) in
    let far : length (f.front ++ head) ≡ 16 * at + k = length-append f.front head ∙ omega (arith, long, f.long) in
    ap (λ (z : List ℕ). take (length u) (drop (16 * at + k) z)) is
    ∙ ap (λ (z : List ℕ). take (length u) z) (drop_at (f.front ++ head) (u ++ (more ++ f.rest)) (16 * at + k) far)
    ∙ take_at u (more ++ f.rest) (length u) refl

-- which head a content has
short_head : (n m : ℕ) → block.Short n ≡ used_head m → m ≡ n
short_head n m is = elim (cases_lt 251 m) [
  | inl large ↦ let other : block.Short n ≡ block.Long m = is ∙ cond-false (leb m 251) (block.Short m) (block.Long m) (lt-leb m 251 large) in absurd (cc)
  | inr small ↦ let same : block.Short n ≡ block.Short m = is ∙ cond-true (leb m 251) (block.Short m) (block.Long m) (le-leb m 251 small) in cc
]

long_head : (n m : ℕ) → block.Long n ≡ used_head m → m ≡ n
long_head n m is = elim (cases_lt 251 m) [
  | inl large ↦ let same : block.Long n ≡ block.Long m = is ∙ cond-false (leb m 251) (block.Short m) (block.Long m) (lt-leb m 251 large) in cc
  | inr small ↦ let other : block.Long n ≡ block.Short m = is ∙ cond-true (leb m 251) (block.Short m) (block.Long m) (le-leb m 251 small) in absurd (cc)
]

-- an answer that was given on condition of Ok and is no damage
pub gives_when : (P : Type 0) (result : Result (Unit {0}) Trouble) → Refuses (λ _ _. ⊥) ⊥ result → OnOk result P → Gives (λ _. P) result
gives_when P (Ok u) undamaged holds = holds
gives_when P (Err trouble.Failed) undamaged holds = tt
gives_when P (Err trouble.NoMemory) undamaged holds = tt
gives_when P (Err (trouble.Full a b)) undamaged holds = tt
gives_when P (Err trouble.Damaged) undamaged holds = absurd undamaged

gives_same : (P Q : Type 0) (result : Result (Unit {0}) Trouble) → (P → Q) → Gives (λ _. P) result → Gives (λ _. Q) result
gives_same P Q (Ok u) so holds = so holds
gives_same P Q (Err trouble.Failed) so holds = tt
gives_same P Q (Err trouble.NoMemory) so holds = tt
gives_same P Q (Err (trouble.Full a b)) so holds = tt
gives_same P Q (Err trouble.Damaged) so holds = holds

on_ok : (P : List ℕ → Type 0) (result : Result (Unit {0}) Trouble) (c : List ℕ) → OnOk result (IfSome (Some c) P) → OnOk result (P c)
on_ok P (Ok u) c holds = holds
on_ok P (Err t) c holds = holds

three_bytes : (n : ℕ) → length (head_of (block.Long n)) ≡ 3
three_bytes n = let two = length-as_bytes 2 (n - 252) in omega (arith, two)

-- a short content was fetched
pub short_read : (told : Option (List ℕ)) (result : Result (Unit {0}) Trouble) (out : List ℕ) (at n : ℕ) → Refuses (λ _ _. ⊥) ⊥ result → OnOk result (IfSome told (λ c. out ≡ take n (drop (16 * at + 1) c))) → IfSome told (HasUsed at (block.Short n) result out)
short_read None result out at n undamaged read = tt
short_read (Some c) result out at n undamaged read = λ h p nx x u y place head s.
    let long : length u ≡ n = short_head n (length u) head in
    let one : length (head_of (used_head (length u))) ≡ 1 = ap (λ (b : Block). length (head_of b)) (sym head) in
    let there = used_there h p nx c x u y at 1 place one s in
    gives_same (out ≡ take n (drop (16 * at + 1) c)) (out ≡ u) result (λ is. is ∙ ap (λ (k : ℕ). take k (drop (16 * at + 1) c)) (sym long) ∙ there)
    (gives_when (out ≡ take n (drop (16 * at + 1) c)) result undamaged (on_ok (λ d. out ≡ take n (drop (16 * at + 1) d)) result c read))

-- a long one
pub long_read : (told : Option (List ℕ)) (result : Result (Unit {0}) Trouble) (out : List ℕ) (at n : ℕ) → Refuses (λ _ _. ⊥) ⊥ result → OnOk result (IfSome told (λ c. out ≡ take n (drop (16 * at + 3) c))) → IfSome told (HasUsed at (block.Long n) result out)
long_read None result out at n undamaged read = tt
long_read (Some c) result out at n undamaged read = λ h p nx x u y place head s.
    let long : length u ≡ n = long_head n (length u) head in
    let three : length (head_of (used_head (length u))) ≡ 3 = ap (λ (b : Block). length (head_of b)) (sym head) ∙ three_bytes n in
    let there = used_there h p nx c x u y at 3 place three s in
    gives_same (out ≡ take n (drop (16 * at + 3) c)) (out ≡ u) result (λ is. is ∙ ap (λ (k : ℕ). take k (drop (16 * at + 3) c)) (sym long) ∙ there)
    (gives_when (out ≡ take n (drop (16 * at + 3) c)) result undamaged (on_ok (λ d. out ≡ take n (drop (16 * at + 3) d)) result c read))

-- another block is no used one
pub not_used : (b : Block) (m : ℕ) → ((n : ℕ) → b ≡ block.Short n → ⊥) → ((n : ℕ) → b ≡ block.Long n → ⊥) → b ≡ used_head m → ⊥
not_used b m short long is = elim (cases_lt 251 m) [
  | inl large ↦ long m (is ∙ cond-false (leb m 251) (block.Short m) (block.Long m) (lt-leb m 251 large))
  | inr small ↦ short m (is ∙ cond-true (leb m 251) (block.Short m) (block.Long m) (le-leb m 251 small))
]

pub other_read : (told : Option (List ℕ)) (out : List ℕ) (at : ℕ) (b : Block) → ((n : ℕ) → b ≡ block.Short n → ⊥) → ((n : ℕ) → b ≡ block.Long n → ⊥) → IfSome told (HasUsed at b (Err trouble.Damaged) out)
other_read None out at b short long = tt
other_read (Some c) out at b short long = λ h p n x u y place head s. not_used b (length u) short long head

pub moved_read : (told : Option (List ℕ)) (out : List ℕ) (at t : ℕ) → IfSome told (HasUsed at (block.Relocated t) (Err trouble.Damaged) out)
moved_read told out at t = other_read told out at (block.Relocated t) (λ n is. cc) (λ n is. cc)

pub one_read : (told : Option (List ℕ)) (out : List ℕ) (at a b : ℕ) → IfSome told (HasUsed at (block.FreeOne a b) (Err trouble.Damaged) out)
one_read told out at a b = other_read told out at (block.FreeOne a b) (λ n is. cc) (λ n is. cc)

pub free_read : (told : Option (List ℕ)) (out : List ℕ) (at s a b : ℕ) → IfSome told (HasUsed at (block.Free s a b) (Err trouble.Damaged) out)
free_read told out at s a b = other_read told out at (block.Free s a b) (λ n is. cc) (λ n is. cc)

-- a handle is a used block, or a relocated one whose target is used
pub record AtHandle (row : List Extent) (q : ℕ) (u : List ℕ) : Type 0 where
  pub home : (extent_at 8 row q ≡ Some (Used u)) ⊎ ((t : ℕ) × (extent_at 8 row q ≡ Some (Moved t)) × (extent_at 8 row t ≡ Some (Used u)))

pub used_says : (o : Option Extent) (u : List ℕ) → used_content o ≡ Some u → o ≡ Some (Used u)
used_says None u is = absurd (cc)
used_says (Some (Used c)) u is = ap (λ (z : List ℕ). Some (Used z)) (let same : c ≡ u = cc in same)
used_says (Some (Compressed c)) u is = absurd (cc)
used_says (Some (Moved t)) u is = absurd (cc)
used_says (Some (Free s)) u is = absurd (cc)
used_says (Some (Hole s)) u is = absurd (cc)

meant_says : (row : List Extent) (q : ℕ) (u : List ℕ) (o : Option Extent) → extent_at 8 row q ≡ o → meant (contains (targets row)) (extent_at 8 row) q o ≡ Some u → AtHandle row q u
meant_says row q u None here is = absurd (cc)
meant_says row q u (Some (Used c)) here is = own (contains (targets row) q) is
  where
    own : (b : Bool) → cond b None (Some c) ≡ Some u → AtHandle row q u
    own true is = absurd (cc)
    own false is = let same : c ≡ u = cc in record { home = inl (here ∙ ap (λ (z : List ℕ). Some (Used z)) same) }
meant_says row q u (Some (Compressed c)) here is = absurd (cc)
meant_says row q u (Some (Moved t)) here is = record { home = inr (t, here, used_says (extent_at 8 row t) u is) }
meant_says row q u (Some (Free s)) here is = absurd (cc)
meant_says row q u (Some (Hole s)) here is = absurd (cc)

pub handle_says : (row : List Extent) (q : ℕ) (u : List ℕ) → Solid row → content_of q (heap row) ≡ Some u → AtHandle row q u
handle_says row q u solid is = meant_says row q u (extent_at 8 row q) refl (sym (heap_at row q solid) ∙ is)

-- the row with the block at an atom in the middle
pub spells_at : {P : Type 0} → (c : List ℕ) (row : List Extent) (l : Lays c row) (q : ℕ) (e : Extent) → extent_at 8 row q ≡ Some e → ((x y : List Extent) → q ≡ 8 + atoms_in x → Spells l.head l.previous l.next c (x ++ e ∷ y) → P) → P
spells_at c row l q e is goes =
    let f = found 8 row q e is in
    goes f.0 f.1 f.3 (subst (λ (r : List Extent). Spells l.head l.previous l.next c r) f.2 l.spells)

-- a head that is given is that of the block, or was refused without damage
given_head : (b d : Block) → Gives (λ (g : Block). g ≡ d) (Ok b) → b ≡ d
given_head b d is = is

-- the content stands at the handle itself
pub home_read : (told : Option (List ℕ)) (at : ℕ) (b : Block) (result : Result (Unit {0}) Trouble) (out : List ℕ) → ((t : ℕ) → b ≡ block.Relocated t → ⊥) → IfSome told (HasBlock at (Ok b)) → IfSome told (HasUsed at b result out) → IfSome told (HasContent at result out)
home_read None at b result out not head used = tt
home_read (Some c) at b result out not head used = λ row u l rest is. elim (handle_says row at u l.spells.solid is).home [
  | inl own ↦ spells_at c row l at (Used u) own (λ x y place s. used l.head l.previous l.next x u y place (head l.head l.previous l.next x (Used u) y place refl s) s)
  | inr moved ↦ spells_at c row l at (Moved moved.0) moved.1 (λ x y place s. absurd (not moved.0 (head l.head l.previous l.next x (Moved moved.0) y place refl s)))
]

-- the content stands at the block that the handle names
pub target_read : (told : Option (List ℕ)) (at t : ℕ) (b : Block) (result : Result (Unit {0}) Trouble) (out : List ℕ) → IfSome told (HasBlock at (Ok (block.Relocated t))) → IfSome told (HasBlock t (Ok b)) → IfSome told (HasUsed t b result out) → IfSome told (HasContent at result out)
target_read None at t b result out home head used = tt
target_read (Some c) at t b result out home head used = λ row u l rest is. elim (handle_says row at u l.spells.solid is).home [
  | inl own ↦ spells_at c row l at (Used u) own (λ x y place s. absurd (not_used (block.Relocated t) (length u) (λ n is. cc) (λ n is. cc) (home l.head l.previous l.next x (Used u) y place refl s)))
  | inr moved ↦ spells_at c row l at (Moved moved.0) moved.1 (λ x y place s.
      let named : block.Relocated t ≡ block.Relocated moved.0 = home l.head l.previous l.next x (Moved moved.0) y place refl s in
      let same : t ≡ moved.0 = cc in
      spells_at c row l t (Used u) (ap (extent_at 8 row) same ∙ moved.2) (λ v w there z. used l.head l.previous l.next v u w there (head l.head l.previous l.next v (Used u) w there refl z) z))
]

-- the head of the home was refused
pub home_refused : (told : Option (List ℕ)) (at : ℕ) (e : Trouble) (out : List ℕ) → IfSome told (HasBlock at (Err e)) → IfSome told (HasContent at (Err e) out)
home_refused None at e out head = tt
home_refused (Some c) at e out head = λ row u l rest is. elim (handle_says row at u l.spells.solid is).home [
  | inl own ↦ spells_at c row l at (Used u) own (λ x y place s. refused e (head_for (l.previous at) (l.next at) (Used u)) out u (head l.head l.previous l.next x (Used u) y place refl s))
  | inr moved ↦ spells_at c row l at (Moved moved.0) moved.1 (λ x y place s. refused e (head_for (l.previous at) (l.next at) (Moved moved.0)) out u (head l.head l.previous l.next x (Moved moved.0) y place refl s))
]
  where
    refused : (e : Trouble) (d : Block) (out u : List ℕ) → Gives (λ (g : Block). g ≡ d) (Err e) → Gives {T = Unit {0}} (λ _. out ≡ u) (Err e)
    refused trouble.Failed d out u holds = tt
    refused trouble.NoMemory d out u holds = tt
    refused (trouble.Full a b) d out u holds = tt
    refused trouble.Damaged d out u holds = holds

-- the head of the target was refused
pub target_refused : (told : Option (List ℕ)) (at t : ℕ) (e : Trouble) (out : List ℕ) → IfSome told (HasBlock at (Ok (block.Relocated t))) → IfSome told (HasBlock t (Err e)) → IfSome told (HasContent at (Err e) out)
target_refused None at t e out home head = tt
target_refused (Some c) at t e out home head = λ row u l rest is. elim (handle_says row at u l.spells.solid is).home [
  | inl own ↦ spells_at c row l at (Used u) own (λ x y place s. absurd (not_used (block.Relocated t) (length u) (λ n is. cc) (λ n is. cc) (home l.head l.previous l.next x (Used u) y place refl s)))
  | inr moved ↦ spells_at c row l at (Moved moved.0) moved.1 (λ x y place s.
      let named : block.Relocated t ≡ block.Relocated moved.0 = home l.head l.previous l.next x (Moved moved.0) y place refl s in
      let same : t ≡ moved.0 = cc in
      spells_at c row l t (Used u) (ap (extent_at 8 row) same ∙ moved.2) (λ v w there z. refused e (head_for (l.previous t) (l.next t) (Used u)) out u (head l.head l.previous l.next v (Used u) w there refl z)))
]
  where
    refused : (e : Trouble) (d : Block) (out u : List ℕ) → Gives (λ (g : Block). g ≡ d) (Err e) → Gives {T = Unit {0}} (λ _. out ≡ u) (Err e)
    refused trouble.Failed d out u holds = tt
    refused trouble.NoMemory d out u holds = tt
    refused (trouble.Full a b) d out u holds = tt
    refused trouble.Damaged d out u holds = holds

-- a refusal that is passed on
pub by_error : {T : Type 0} → (P : Result T Trouble → Type 0) (r : Result T Trouble) (e : Trouble) → IsErrAnd r (λ t. t ≡ e) → P (Err e) → P r
by_error P (Ok v) e is holds = absurd is
by_error P (Err t) e is holds = subst (λ (u : Trouble). P (Err u)) (sym is) holds

-- the head of a free block tells its atoms and links
pub free_known : (s p n t a b : ℕ) → free_head s p n ≡ free_head t a b → (s ≡ t) × (p ≡ a) × (n ≡ b)
free_known s p n t a b is = elim (cases_eq t 1) [
  | inl single ↦
      let one = one_known s p n a b (is ∙ cond-true (eqb t 1) (block.FreeOne a b) (block.Free t a b) (eq-eqb t 1 single)) in
      (one.0 ∙ sym single, one.1, one.2)
  | inr other ↦ more_known s p n t a b (is ∙ cond-false (eqb t 1) (block.FreeOne a b) (block.Free t a b) (ne_eqb t 1 other))
]

-- a head of many free atoms
pub many_head : (b : Block) (s p n : ℕ) → b ≡ block.Free s p n → IsValid b → b ≡ free_head s p n
many_head b s p n is valid =
    let some : 2 ≤ s = (subst (λ (d : Block). IsValid d) is valid).0 in
    is ∙ sym (cond-false (eqb s 1) (block.FreeOne p n) (block.Free s p n) (ne_eqb s 1 (λ one. omega (arith, some, one))))

-- which heads are those of free blocks
pub not_free : (b : Block) → ((p n : ℕ) → b ≡ block.FreeOne p n → ⊥) → ((s p n : ℕ) → b ≡ block.Free s p n → ⊥) → (s p n : ℕ) → b ≡ free_head s p n → ⊥
not_free b one many s p n is = elim (cases_eq s 1) [
  | inl single ↦ one p n (is ∙ cond-true (eqb s 1) (block.FreeOne p n) (block.Free s p n) (eq-eqb s 1 single))
  | inr other ↦ many s p n (is ∙ cond-false (eqb s 1) (block.FreeOne p n) (block.Free s p n) (ne_eqb s 1 other))
]

pub short_not_free : (n : ℕ) (s a b : ℕ) → block.Short n ≡ free_head s a b → ⊥
short_not_free n = not_free (block.Short n) (λ p m is. cc) (λ s p m is. cc)

pub long_not_free : (n : ℕ) (s a b : ℕ) → block.Long n ≡ free_head s a b → ⊥
long_not_free n = not_free (block.Long n) (λ p m is. cc) (λ s p m is. cc)

pub moved_not_free : (t : ℕ) (s a b : ℕ) → block.Relocated t ≡ free_head s a b → ⊥
moved_not_free t = not_free (block.Relocated t) (λ p m is. cc) (λ s p m is. cc)
