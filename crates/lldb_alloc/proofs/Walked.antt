-- A walk along a list of free blocks.
use Rattle.std.proofs.Common.{◌≡◌, ℕ, ◌+◌, ◌/◌, ◌<◌, ◌≤◌, true, false, Bool, ◌||◌, eqb, List, [], ◌∷◌, ◌++◌, length, Option, Some, None, IfSome, refl, sym, ◌∙◌, ap, subst, inl, inr, arith, length-append, append_assoc, append-nil, eq-eqb, ne_eqb}
use Rattle.std.proofs.lemmas.Bool.{cases_eq, false≢true}
use Rattle.std.proofs.lemmas.Map.Steps.{length-le_from_distinct_below}
use Rattle.std.proofs.lemmas.Map.Keys.{IsDistinct-cons}
use Rattle.std.specs.List.{IsDistinct, AllByRecursion}
use Rattle.lldb_atoms.specs.Blocks.{Extent, Free}
use Rattle.lldb_atoms.specs.Rows.{atoms_in, extent_at, contains}
use Rattle.lldb_atoms.specs.Lists.{class_of, in_class, list_head}
use Rattle.lldb_blocks.specs.Links.{Apart, first, Linked}
use Rattle.lldb_blocks.specs.Laid.{Solid, Spells, Lays}
use Rattle.lldb_blocks.proofs.Chains.{links_of, has_head, has_rest, lacks_head, lacks_rest, has_append_right}
use Rattle.lldb_blocks.proofs.Listings.{lacks_zero}
use Rattle.lldb_blocks.proofs.Looks.{look_here, Solid_left, atoms_append}
use Rattle.lldb_blocks.proofs.Bridges.{head_read}
use Rattle.lldb_blocks.proofs.Lays.{lays_length}
use Rattle.lldb_alloc.specs.Changes.{IsFree, HasFree, LacksFree, LacksRow}
use Rattle.lldb_alloc.specs.Room.{FindsIn, Passed, Walks}
use Rattle.lldb_alloc.specs.declared.links.FreeBlock.{FreeBlock}
use Rattle.lldb_alloc.proofs.Lists.{Place, placed, stands}

-- the walk begins at the head of the list
pub walk_starts : (told : Option (List ℕ)) (class wanted here : ℕ) → class < 16 → IfSome told (λ c. list_head c class ≡ here) → IfSome told (Walks class wanted 0 here)
walk_starts None class wanted here below is = tt
walk_starts (Some c) class wanted here below is = λ row l. record {
  passed = [];
  ahead = l.chains class;
  chain_is = refl;
  here_is = sym is ∙ head_read l.head l.previous l.next c row class below l.spells ∙ l.listed.heads class below;
  count_is = refl;
  small = λ q s has. absurd (false≢true has);
}

-- it is at its end
pub walk_ends : (told : Option (List ℕ)) (class wanted count here : ℕ) → here ≡ 0 → IfSome told (Walks class wanted count here) → IfSome told (FindsIn class wanted None)
walk_ends None class wanted count here zero walks = tt
walk_ends (Some c) class wanted count here zero walks = λ row l q s is same.
    let w = walks row l in
    let none : w.ahead ≡ [] = nothing_ahead row (l.chains class) l class w.passed w.ahead refl w.chain_is (sym w.here_is ∙ zero) in
    let all : l.chains class ≡ w.passed = w.chain_is ∙ ap (λ (u : List ℕ). w.passed ++ u) none ∙ append-nil w.passed in
    let has : contains w.passed q ≡ true = subst (λ (u : List ℕ). contains u q ≡ true) all (l.listed.members class q ∙ ap (in_class class) is ∙ eq-eqb (class_of s) class same) in
    w.small q s has is
  where
    nothing_ahead : (row : List Extent) (chain : List ℕ) (l : Lays c row) (class : ℕ) (u v : List ℕ) → l.chains class ≡ chain → chain ≡ u ++ v → first v ≡ 0 → v ≡ []
    nothing_ahead row chain l class u [] here is zero = refl
    nothing_ahead row chain l class u (a ∷ v) here is zero =
        let has : contains (l.chains class) a ≡ true = subst (λ (w : List ℕ). contains w a ≡ true) (sym (here ∙ is)) (has_append_right u (a ∷ v) a (has_head a v)) in
        let lacks = lacks_zero l.head l.previous l.next row l.chains l.listed class in
        absurd (false≢true (sym lacks ∙ subst (λ (q : ℕ). contains (l.chains class) q ≡ true) zero has))

-- the block ahead
pub ahead_place : (c : List ℕ) (class wanted count here : ℕ) → (here ≡ 0 → ⊥) → (row : List Extent) (l : Lays c row) → Passed row (l.chains class) wanted count here → Place row here
ahead_place c class wanted count here some row l w = at_first w.ahead refl
  where
    at_first : (v : List ℕ) → w.ahead ≡ v → Place row here
    at_first [] is = absurd (some (w.here_is ∙ ap first is))
    at_first (a ∷ v) is =
        let same : here ≡ a = w.here_is ∙ ap first is in
        let has : contains (l.chains class) here ≡ true = subst (λ (q : ℕ). contains (l.chains class) q ≡ true) (sym same) (subst (λ (u : List ℕ). contains u a ≡ true) (sym (w.chain_is ∙ ap (λ (u : List ℕ). w.passed ++ u) is)) (has_append_right w.passed (a ∷ v) a (has_head a v))) in
        placed l.head l.previous l.next row l.chains class here l.spells.solid l.listed has

pub place_look : (row : List Extent) (q : ℕ) (f : Place row q) → Solid row → extent_at 8 row q ≡ Some (Free f.size)
place_look row q f solid =
    ap (λ (r : List Extent). extent_at 8 r q) f.row_is ∙ ap (extent_at 8 (f.before ++ Free f.size ∷ f.behind)) f.atom_is
    ∙ look_here 8 f.before (Free f.size) f.behind (Solid_left f.before (Free f.size ∷ f.behind) (subst (λ (r : List Extent). Solid r) f.row_is solid))

place_free : (h p n : ℕ → ℕ) (c : List ℕ) (row : List Extent) (q : ℕ) (free : FreeBlock) (f : Place row q) → HasFree q free c → Spells h p n c row → IsFree f.size (p q) (n q) free
place_free h p n c row q free f has spells = has h p n f.before f.behind f.size f.atom_is (subst (λ (r : List Extent). Spells h p n c r) f.row_is spells)

-- a block with enough atoms is found
pub walk_finds : (told : Option (List ℕ)) (class wanted count here : ℕ) (free : FreeBlock) → (here ≡ 0 → ⊥) → wanted ≤ free.atoms → IfSome told (HasFree here free) → IfSome told (Walks class wanted count here) → IfSome told (FindsIn class wanted (Some here))
walk_finds None class wanted count here free some enough has walks = tt
walk_finds (Some c) class wanted count here free some enough has walks = λ row l.
    let f = ahead_place c class wanted count here some row l (walks row l) in
    let is = place_free l.head l.previous l.next c row here free f has l.spells in
    let atoms = is.atoms_are in
    (f.size, place_look row here f l.spells.solid, omega (arith, enough, atoms))

-- a refused head of the block ahead
pub walk_sane : (told : Option (List ℕ)) (class wanted count here : ℕ) → (here ≡ 0 → ⊥) → IfSome told (Walks class wanted count here) → IfSome told (LacksFree here) → IfSome told LacksRow
walk_sane None class wanted count here some walks lacks = tt
walk_sane (Some c) class wanted count here some walks lacks = λ row l.
    stands l.head l.previous l.next c row here (ahead_place c class wanted count here some row l (walks row l)) l.spells lacks

rest_of : (b : ℕ) (u : List ℕ) (q : ℕ) → (q ≡ b → ⊥) → contains (b ∷ u) q ≡ true → contains u q ≡ true
rest_of b u q not member = subst (λ (t : Bool). (t || contains u q) ≡ true) (ne_eqb q b not) member

before_last : (u : List ℕ) (a q : ℕ) → (q ≡ a → ⊥) → contains (u ++ a ∷ []) q ≡ true → contains u q ≡ true
before_last [] a q other member = rest_of a [] q other member
before_last (b ∷ u) a q other member = elim (cases_eq q b) [
  | inl is ↦ subst (λ (k : ℕ). contains (b ∷ u) k ≡ true) (sym is) (has_head b u)
  | inr not ↦ has_rest b u q (before_last u a q other (rest_of b (u ++ a ∷ []) q not member))
]

-- one that is too small is passed
pub walk_passes : (told : Option (List ℕ)) (class wanted count here : ℕ) (free : FreeBlock) → (here ≡ 0 → ⊥) → free.atoms < wanted → IfSome told (HasFree here free) → IfSome told (Walks class wanted count here) → IfSome told (Walks class wanted (count + 1) free.next)
walk_passes None class wanted count here free some low has walks = tt
walk_passes (Some c) class wanted count here free some low has walks = λ row l.
    let w = walks row l in
    let f = ahead_place c class wanted count here some row l w in
    let is = place_free l.head l.previous l.next c row here free f has l.spells in
    step row l w f is w.ahead refl
  where
    step : (row : List Extent) (l : Lays c row) (w : Passed row (l.chains class) wanted count here) (f : Place row here) → IsFree f.size (l.previous here) (l.next here) free → (v : List ℕ) → w.ahead ≡ v → Passed row (l.chains class) wanted (count + 1) free.next
    step row l w f is [] none = absurd (some (w.here_is ∙ ap first none))
    step row l w f is (a ∷ v) split =
        let same : here ≡ a = w.here_is ∙ ap first split in
        let whole : l.chains class ≡ w.passed ++ a ∷ v = w.chain_is ∙ ap (λ (u : List ℕ). w.passed ++ u) split in
        let ends = links_of l.previous l.next 0 a w.passed v (subst (λ (cs : List ℕ). Linked l.previous l.next 0 cs) whole (l.listed.linked class)) in
        record {
          passed = w.passed ++ a ∷ [];
          ahead = v;
          chain_is = whole ∙ sym (append_assoc w.passed (a ∷ []) v);
          here_is = is.next_is ∙ ap l.next same ∙ ends.1;
          count_is = length-append w.passed (a ∷ []) ∙ ap (λ (k : ℕ). k + 1) w.count_is;
          small = λ q s member look. elim (cases_eq q a) [
            | inl at_a ↦
                let place : extent_at 8 row q ≡ Some (Free f.size) = ap (extent_at 8 row) (at_a ∙ sym same) ∙ place_look row here f l.spells.solid in
                let sizes : Some (Free s) ≡ Some (Free f.size) = sym look ∙ place in
                let one : s ≡ f.size = cc in
                let atoms = is.atoms_are in
                omega (arith, one, low, atoms)
            | inr other ↦ w.small q s (before_last w.passed a q other member) look
          ];
        }

-- no list has more blocks than its content has atoms
no_key : (n : ℕ) (ms : List ℕ) → contains ms n ≡ false → AllByRecursion (λ y. eqb n y ≡ false) ms
no_key n [] lacks = tt
no_key n (m ∷ ms) lacks = (ne_eqb n m (lacks_head m ms n lacks), no_key n ms (lacks_rest m ms n lacks))

distinct_keys : (ns : List ℕ) → Apart ns → IsDistinct eqb ns
unfolding IsDistinct
distinct_keys [] apart = tt
distinct_keys (n ∷ ns) apart = IsDistinct-cons eqb n ns (no_key n ns apart.0) (distinct_keys ns apart.1)

list_bound : (c : List ℕ) (row : List Extent) (l : Lays c row) (k : ℕ) → length (l.chains k) ≤ 8 + atoms_in row
list_bound c row l k =
    length-le_from_distinct_below (l.chains k) (8 + atoms_in row) (distinct_keys (l.chains k) (l.listed.once k)) (λ q member.
    let f = placed l.head l.previous l.next row l.chains k q l.spells.solid l.listed member in
    let one = f.some in
    let place = f.atom_is in
    let all : atoms_in row ≡ atoms_in f.before + (f.size + atoms_in f.behind) = ap atoms_in f.row_is ∙ atoms_append f.before (Free f.size ∷ f.behind) in
    omega (arith, one, place, all))

-- so a walk of more steps is along no list
pub walk_over : (told : Option (List ℕ)) (class wanted count here bytes : ℕ) → IfSome told (λ c. length c ≡ bytes) → count ≡ bytes / 16 + 1 → IfSome told (Walks class wanted count here) → IfSome told LacksRow
walk_over None class wanted count here bytes long over walks = tt
walk_over (Some c) class wanted count here bytes long over walks = λ row l.
    let w = walks row l in
    let bound = list_bound c row l class in
    let all = lays_length c row l in
    let parts : length (l.chains class) ≡ length w.passed + length w.ahead = ap length w.chain_is ∙ length-append w.passed w.ahead in
    let counted = w.count_is in
    omega (arith, bound, all, parts, counted, over, long)
