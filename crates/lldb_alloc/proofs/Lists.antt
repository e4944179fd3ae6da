-- Changes of lists in a content that is told.
use Rattle.std.proofs.Common.{◌≡◌, ℕ, ◌+◌, ◌<◌, ◌≤◌, true, cond, Bool, List, [], ◌∷◌, ◌++◌, Option, Some, None, IfSome, Err, refl, sym, ◌∙◌, ap, subst, inl, inr, eq-eqb, ne_eqb}
use Rattle.std.proofs.lemmas.Bool.{cases_eq}
use Rattle.std.specs.Prelude.{MatchBool}
use Rattle.std.specs.Option.{IsSomeAnd}
use Rattle.lldb_base.specs.declared.trouble.Trouble.{Trouble}
use Rattle.lldb_base.specs.declared.trouble.Trouble.TheVariants as trouble
use Rattle.lldb_base.specs.Trouble.{Refuses}
use Rattle.lldb_atoms.specs.Blocks.{Extent, Free}
use Rattle.lldb_atoms.specs.Rows.{atoms_in, extent_at, contains}
use Rattle.lldb_atoms.specs.Lists.{class_of, in_class}
use Rattle.lldb_blocks.specs.Links.{first, last, Linked, Listed, at_one, head_without}
use Rattle.lldb_blocks.specs.Laid.{Solid, Spells, Lays}
use Rattle.lldb_blocks.specs.Steps.{SetsHead, SetsNext, SetsPrevious, Forward, Backward, Takes}
use Rattle.lldb_blocks.proofs.Chains.{cut_at, links_of, has_head, has_last, has_append_left, has_append_right}
use Rattle.lldb_blocks.proofs.Looks.{look_here, Solid_left, Solid_right}
use Rattle.lldb_blocks.proofs.Lays.{no_next, listed_free, lays_unlinked}
use Rattle.lldb_alloc.specs.Changes.{Turns, HasFree, LacksFree, LacksListed}
use Rattle.lldb_alloc.specs.declared.links.FreeBlock.{FreeBlock}

-- an answer of one sort is one of another, where damage means less
pub refuses_more : (T U P Q : Type 0) → (P → Q) → (t : Trouble) → Refuses {T = T} (λ _ _. ⊥) P (Err t) → Refuses {T = U} (λ _ _. ⊥) Q (Err t)
refuses_more T U P Q more trouble.Failed refuses = tt
refuses_more T U P Q more trouble.NoMemory refuses = tt
refuses_more T U P Q more (trouble.Full a b) refuses = refuses
refuses_more T U P Q more trouble.Damaged refuses = more refuses

pub turns_so : (before after : Option (List ℕ)) (R S : List ℕ → List ℕ → Type 0) → ((c d : List ℕ) → R c d → S c d) → Turns before after R → Turns before after S
turns_so None after R S so turns = tt
turns_so (Some c) None R S so turns = turns
turns_so (Some c) (Some d) R S so turns = so c d turns

pub forward_head : (before after : Option (List ℕ)) (class previous next : ℕ) → previous ≡ 0 → Turns before after (SetsHead class next) → Turns before after (Forward class previous next)
forward_head before after class previous next none = turns_so before after (SetsHead class next) (Forward class previous next) (λ c d sets. subst (λ (b : Bool). MatchBool b (SetsHead class next c d) (SetsNext previous next c d)) (sym (eq-eqb previous 0 none)) sets)

pub forward_next : (before after : Option (List ℕ)) (class previous next : ℕ) → (previous ≡ 0 → ⊥) → Turns before after (SetsNext previous next) → Turns before after (Forward class previous next)
forward_next before after class previous next some = turns_so before after (SetsNext previous next) (Forward class previous next) (λ c d sets. subst (λ (b : Bool). MatchBool b (SetsHead class next c d) (SetsNext previous next c d)) (sym (ne_eqb previous 0 some)) sets)

pub backward_none : (before after : Option (List ℕ)) (previous next : ℕ) → next ≡ 0 → after ≡ before → Turns before after (Backward previous next)
backward_none None after previous next none same = tt
backward_none (Some c) after previous next none same = subst (λ (o : Option (List ℕ)). IsSomeAnd o (λ d. Backward previous next c d)) (sym same) (subst (λ (b : Bool). MatchBool b (c ≡ c) (SetsPrevious next previous c c)) (sym (eq-eqb next 0 none)) refl)

pub backward_some : (before after : Option (List ℕ)) (previous next : ℕ) → (next ≡ 0 → ⊥) → Turns before after (SetsPrevious next previous) → Turns before after (Backward previous next)
backward_some before after previous next some = turns_so before after (SetsPrevious next previous) (Backward previous next) (λ c d sets. subst (λ (b : Bool). MatchBool b (d ≡ c) (SetsPrevious next previous c d)) (sym (ne_eqb next 0 some)) sets)

-- a free block of a row
pub record Place (row : List Extent) (atom : ℕ) : Type 0 where
  pub size : ℕ
  pub before : List Extent
  pub behind : List Extent
  pub row_is : row ≡ before ++ Free size ∷ behind
  pub atom_is : atom ≡ 8 + atoms_in before
  pub some : 1 ≤ size

pub placed : (h p n : ℕ → ℕ) (row : List Extent) (chains : ℕ → List ℕ) (k q : ℕ) → Solid row → Listed h p n row chains → contains (chains k) q ≡ true → Place row q
placed h p n row chains k q solid listed has =
    let f = listed_free h p n row chains k q listed has in
    let here = Solid_right f.1 (Free f.0 ∷ f.2) (subst (λ (r : List Extent). Solid r) f.3 solid) in
    record { size = f.0; before = f.1; behind = f.2; row_is = f.3; atom_is = f.4; some = here.0 }

last_listed : (u v : List ℕ) → (last 0 u ≡ 0 → ⊥) → contains (u ++ v) (last 0 u) ≡ true
last_listed [] v some = absurd (some refl)
last_listed (a ∷ u) v some = has_append_left (a ∷ u) v (last a u) (has_last a u)

first_listed : (u v : List ℕ) → (first v ≡ 0 → ⊥) → contains (u ++ v) (first v) ≡ true
first_listed u [] some = absurd (some refl)
first_listed u (c ∷ v) some = has_append_right u (c ∷ v) c (has_head c v)

-- the neighbours of a free block in its list are free blocks
pub record Beside (row : List Extent) (previous next : ℕ) : Type 0 where
  pub front : (previous ≡ 0 → ⊥) → Place row previous
  pub back : (next ≡ 0 → ⊥) → Place row next

pub beside : (c : List ℕ) (x : List Extent) (s : ℕ) (y : List Extent) (at : ℕ) (l : Lays c (x ++ Free s ∷ y)) → at ≡ 8 + atoms_in x → Beside (x ++ Free s ∷ y) (l.previous at) (l.next at)
beside c x s y at l place =
    let row : List Extent = x ++ Free s ∷ y in
    let k = class_of s in
    let look : extent_at 8 row at ≡ Some (Free s) = ap (extent_at 8 row) place ∙ look_here 8 x (Free s) y (Solid_left x (Free s ∷ y) l.spells.solid) in
    let here : contains (l.chains k) at ≡ true = l.listed.members k at ∙ ap (in_class k) look ∙ eq-eqb k k refl in
    let parts = cut_at (l.chains k) at here in
    let ends = links_of l.previous l.next 0 at parts.0 parts.1 (subst (λ (cs : List ℕ). Linked l.previous l.next 0 cs) parts.2 (l.listed.linked k)) in
    record {
      front = λ some. placed l.head l.previous l.next row l.chains k (l.previous at) l.spells.solid l.listed
          (subst (λ (cs : List ℕ). contains cs (l.previous at) ≡ true) (sym parts.2)
          (subst (λ (q : ℕ). contains (parts.0 ++ at ∷ parts.1) q ≡ true) (sym ends.0) (last_listed parts.0 (at ∷ parts.1) (λ zero. some (ends.0 ∙ zero)))));
      back = λ some. placed l.head l.previous l.next row l.chains k (l.next at) l.spells.solid l.listed
          (subst (λ (cs : List ℕ). contains cs (l.next at) ≡ true) (sym parts.2)
          (subst (λ (q : ℕ). contains (parts.0 ++ at ∷ parts.1) q ≡ true) (sym ends.1) (has_append_right parts.0 (at ∷ parts.1) (first parts.1) (first_listed (at ∷ []) parts.1 (λ zero. some (ends.1 ∙ zero))))));
    }

-- where a free block stands there is not none
pub stands : (h p n : ℕ → ℕ) (c : List ℕ) (row : List Extent) (q : ℕ) → Place row q → Spells h p n c row → LacksFree q c → ⊥
stands h p n c row q f spells lacks = lacks h p n f.before f.behind f.size f.atom_is (subst (λ (r : List Extent). Spells h p n c r) f.row_is spells)

-- no free block is listed where none is
pub unlisted : (told : Option (List ℕ)) (at : ℕ) → IfSome told (LacksFree at) → IfSome told (LacksListed at)
unlisted None at lacks = tt
unlisted (Some c) at lacks = λ x y s place l. lacks l.head l.previous l.next x y s place l.spells

-- one that is listed has free neighbours
pub forward_sane : (told : Option (List ℕ)) (at : ℕ) (free : FreeBlock) → IfSome told (HasFree at free) → (free.previous ≡ 0 → ⊥) × IfSome told (LacksFree free.previous) → IfSome told (LacksListed at)
forward_sane None at free has lacks = tt
forward_sane (Some c) at free has lacks = λ x y s place l.
    let f = has l.head l.previous l.next x y s place l.spells in
    let near = (beside c x s y at l place).front (λ none. lacks.0 (f.previous_is ∙ none)) in
    stands l.head l.previous l.next c (x ++ Free s ∷ y) (l.previous at) near l.spells (subst (λ (q : ℕ). LacksFree q c) f.previous_is lacks.1)

-- the links once those before a block were changed
next_set : (h p n : ℕ → ℕ) (row : List Extent) (before behind k : ℕ) (c d : List ℕ) → ((before ≡ 0 → ⊥) → Place row before) → Forward k before behind c d → Spells h p n c row → Spells (head_without h k before behind) p (at_one n before behind) d row
next_set h p n row before behind k c d free forward spells = elim (cases_eq before 0) [
  | inl is ↦
      let sets : SetsHead k behind c d = subst (λ (b : Bool). MatchBool b (SetsHead k behind c d) (SetsNext before behind c d)) (eq-eqb before 0 is) forward in
      subst (λ (b : Bool). Spells (cond b (at_one h k behind) h) p (at_one n before behind) d row) (sym (eq-eqb before 0 is))
      (subst (λ (q : ℕ). Spells (at_one h k behind) p (at_one n q behind) d row) (sym is) (no_next (at_one h k behind) p n behind d row (sets h p n row spells)))
  | inr some ↦
      let sets : SetsNext before behind c d = subst (λ (b : Bool). MatchBool b (SetsHead k behind c d) (SetsNext before behind c d)) (ne_eqb before 0 some) forward in
      let at = free some in
      subst (λ (b : Bool). Spells (cond b (at_one h k behind) h) p (at_one n before behind) d row) (sym (ne_eqb before 0 some))
      (subst (λ (r : List Extent). Spells h p (at_one n before behind) d r) (sym at.row_is)
      (sets h p n at.before at.behind at.size at.atom_is (subst (λ (r : List Extent). Spells h p n c r) at.row_is spells)))
]

pub backward_sane : (told mid : Option (List ℕ)) (at class : ℕ) (free : FreeBlock) → IfSome told (HasFree at free) → Turns told mid (Forward class free.previous free.next) → (free.next ≡ 0 → ⊥) × IfSome mid (LacksFree free.next) → IfSome told (LacksListed at)
backward_sane None mid at class free has forward lacks = tt
backward_sane (Some c) None at class free has forward lacks = absurd forward
backward_sane (Some c) (Some d) at class free has forward lacks = λ x y s place l.
    let f = has l.head l.previous l.next x y s place l.spells in
    let sides = beside c x s y at l place in
    let row : List Extent = x ++ Free s ∷ y in
    let near = sides.back (λ none. lacks.0 (f.next_is ∙ none)) in
    let after = next_set l.head l.previous l.next row free.previous free.next class c d
    (λ some. subst (λ (q : ℕ). Place row q) (sym f.previous_is) (sides.front (λ none. some (f.previous_is ∙ none)))) forward l.spells in
    stands (head_without l.head class free.previous free.next) l.previous (at_one l.next free.previous free.next) d row (l.next at) near after (subst (λ (q : ℕ). LacksFree q d) f.next_is lacks.1)

-- a free block is out of its list
pub unlinked_told : (told mid after : Option (List ℕ)) (at class : ℕ) (free : FreeBlock) → class ≡ class_of free.atoms → IfSome told (HasFree at free) → Turns told mid (Forward class free.previous free.next) → Turns mid after (Backward free.previous free.next) → Turns told after (Takes at free.atoms)
unlinked_told None mid after at class free is has forward backward = tt
unlinked_told (Some c) None after at class free is has forward backward = absurd forward
unlinked_told (Some c) (Some d) None at class free is has forward backward = backward
unlinked_told (Some c) (Some d) (Some e) at class free is has forward backward = λ x y s place l.
    let f = has l.head l.previous l.next x y s place l.spells in
    let same : class ≡ class_of s = is ∙ ap class_of f.atoms_are in (
      f.atoms_are,
      lays_unlinked x s y at free.previous free.next c d e place
          (λ h p n v w t there spells. let g = has h p n v w t there spells in (sym g.previous_is, sym g.next_is))
          (subst (λ (k : ℕ). Forward k free.previous free.next c d) same forward) backward l,
    )

-- the first of a list that is not empty
pub first_place : (c : List ℕ) (row : List Extent) (class : ℕ) (l : Lays c row) → class < 16 → (l.head class ≡ 0 → ⊥) → Place row (l.head class)
first_place c row class l below some =
    let is = l.listed.heads class below in
    subst (λ (q : ℕ). Place row q) (sym is)
    (placed l.head l.previous l.next row l.chains class (first (l.chains class)) l.spells.solid l.listed (first_listed [] (l.chains class) (λ none. some (is ∙ none))))
