-- When a content has no room.
use Rattle.std.proofs.Common.{◌≡◌, ℕ, ◌+◌, ◌*◌, ◌<◌, ◌≤◌, cond, eqb, Some, Result, Ok, Err, sym, ◌∙◌, ap, subst, arith}
use Rattle.lldb_base.specs.declared.trouble.Trouble.{Trouble}
use Rattle.lldb_base.specs.declared.trouble.Trouble.TheVariants as trouble
use Rattle.lldb_base.specs.Trouble.{Refuses, IsOver}
use Rattle.lldb_base.specs.Heaps.{IsFull}

-- what is never full is full only where that may be
pub never_full : (T : Type 0) (full : ℕ → ℕ → Type 0) (Q : Type 0) (r : Result T Trouble) → Refuses (λ _ _. ⊥) Q r → Refuses full Q r
never_full T full Q (Ok v) refuses = tt
never_full T full Q (Err trouble.Failed) refuses = tt
never_full T full Q (Err trouble.NoMemory) refuses = tt
never_full T full Q (Err (trouble.Full a b)) refuses = absurd refuses
never_full T full Q (Err trouble.Damaged) refuses = refuses

-- a write within a content is never over the size
pub not_over : (T U Q : Type 0) (size limit asked : ℕ) → asked ≤ size → (t : Trouble) → Refuses {T = T} (IsOver size limit asked) ⊥ (Err t) → Refuses {T = U} (λ _ _. ⊥) Q (Err t)
not_over T U Q size limit asked within trouble.Failed refuses = tt
not_over T U Q size limit asked within trouble.NoMemory refuses = tt
not_over T U Q size limit asked within (trouble.Full need most) refuses =
    let is = refuses.0 in
    let over = refuses.2 in
    omega (arith, within, is, over)
not_over T U Q size limit asked within trouble.Damaged refuses = absurd refuses

-- one that is over it is where no free block has room
pub over_full : (T U Q : Type 0) (atoms most old now here limit limit_here asked : ℕ) → most < atoms → now ≡ here → limit_here ≡ limit → asked ≤ now + 16 * atoms + cond (eqb old 0) 128 0 → (t : Trouble) → Refuses {T = T} (IsOver here limit_here asked) ⊥ (Err t) → Refuses {T = U} (IsFull atoms most old now (Some limit)) Q (Err t)
over_full T U Q atoms most old now here limit limit_here asked none same same_limit room trouble.Failed refuses = tt
over_full T U Q atoms most old now here limit limit_here asked none same same_limit room trouble.NoMemory refuses = tt
over_full T U Q atoms most old now here limit limit_here asked none same same_limit room (trouble.Full need top) refuses =
    let is = refuses.0 in
    let top_is = refuses.1 in
    let over = refuses.2 in
    let past = refuses.3 in
    record {
      none_free = none;
      limit_is = ap (λ (k : ℕ). Some k) (sym same_limit ∙ sym top_is);
      over_size = omega (arith, is, over, same);
      over_limit = omega (arith, top_is, past);
      needed = omega (arith, is, room);
    }
over_full T U Q atoms most old now here limit limit_here asked none same same_limit room trouble.Damaged refuses = absurd refuses

-- the same in a state in which nothing was changed
pub full_same : (T Q : Type 0) (atoms most most_here old old_here now : ℕ) (limit limit_here : ℕ) (r : Result T Trouble) → most_here ≡ most → old_here ≡ old → limit_here ≡ limit → Refuses (IsFull atoms most_here old_here now (Some limit_here)) ⊥ r → Refuses (IsFull atoms most old now (Some limit)) Q r
full_same T Q atoms most most_here old old_here now limit limit_here (Ok v) same_most same same_limit refuses = tt
full_same T Q atoms most most_here old old_here now limit limit_here (Err trouble.Failed) same_most same same_limit refuses = tt
full_same T Q atoms most most_here old old_here now limit limit_here (Err trouble.NoMemory) same_most same same_limit refuses = tt
full_same T Q atoms most most_here old old_here now limit limit_here (Err (trouble.Full a b)) same_most same same_limit refuses =
    subst (λ (m : ℕ). IsFull atoms m old now (Some limit) a b) same_most
    (subst (λ (k : ℕ). IsFull atoms most_here k now (Some limit) a b) same
    (subst (λ (k : ℕ). IsFull atoms most_here old_here now (Some k) a b) same_limit refuses))
full_same T Q atoms most most_here old old_here now limit limit_here (Err trouble.Damaged) same_most same same_limit refuses = absurd refuses

-- an answer of one sort is one of another, where it says more
pub full_more : (T U : Type 0) (F G : ℕ → ℕ → Type 0) (P Q : Type 0) → ((need most : ℕ) → F need most → G need most) → (P → Q) → (t : Trouble) → Refuses {T = T} F P (Err t) → Refuses {T = U} G Q (Err t)
full_more T U F G P Q full more trouble.Failed refuses = tt
full_more T U F G P Q full more trouble.NoMemory refuses = tt
full_more T U F G P Q full more (trouble.Full a b) refuses = full a b refuses
full_more T U F G P Q full more trouble.Damaged refuses = more refuses
