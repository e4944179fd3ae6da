-- The heap of a row, as one extent of the row becomes another.
use Rattle.std.proofs.Common.{◌≡◌, ℕ, suc, ◌+◌, ◌<◌, ◌≤◌, Bool, true, false, ◌||◌, not, cond, eqb, List, [], ◌∷◌, ◌++◌, Option, Some, None, refl, sym, ◌∙◌, ap, subst, inl, inr, arith, eq-eqb, ne_eqb}
use Rattle.std.proofs.lemmas.Bool.{cases_eq, cases_Bool, false≢true, and_parts, not-true, or_parts}
use Rattle.lldb_base.specs.Contents.{Contents, content_of, with_content, without}
use Rattle.lldb_atoms.specs.Blocks.{Extent, Used, Compressed, Moved, Free, Hole, size}
use Rattle.lldb_atoms.specs.Rows.{extent_at, contains, are_distinct, target_of, targets, used_content, handle_content, with_first, handles_from, heap}
use Rattle.lldb_blocks.specs.Laid.{Solid}
use Rattle.lldb_blocks.specs.Maps.{Rising}
use Rattle.lldb_blocks.proofs.Maps.{content_here, content_there, content_low, same_contents, Rising_with, Rising_without, Rising_from, with_here, with_there, without_here, without_there}
use Rattle.lldb_blocks.proofs.Looks.{look_there, found}

-- the content that an atom is a handle of, in a row whose extents are told by a function and whose relocated blocks name some atoms
abbrev pub meant : (ℕ → Bool) → (ℕ → Option Extent) → ℕ → Option Extent → Option (List ℕ)
meant named look q None = None
meant named look q (Some (Used content)) = cond (named q) None (Some content)
meant named look q (Some (Compressed content)) = None
meant named look q (Some (Moved target)) = used_content (look target)
meant named look q (Some (Free atoms)) = None
meant named look q (Some (Hole atoms)) = None

same_handle : (row : List Extent) (q : ℕ) (e : Extent) → handle_content row q e ≡ meant (contains (targets row)) (extent_at 8 row) q (Some e)
same_handle row q (Used content) = refl
same_handle row q (Compressed content) = refl
same_handle row q (Moved target) = refl
same_handle row q (Free atoms) = refl
same_handle row q (Hole atoms) = refl

Rising_first : (f g : ℕ) (o : Option (List ℕ)) (es : Contents) → f < g → Rising g es → Rising f (with_first f o es)
Rising_first f g None es low rising = Rising_from g f es (omega arith) rising
Rising_first f g (Some c) es low rising = (omega arith, Rising_from g (suc f) es low rising)

pub Rising_handles : (row : List Extent) (f : ℕ) (rest : List Extent) → Solid rest → Rising f (handles_from row f rest)
Rising_handles row f [] solid = tt
Rising_handles row f (e ∷ rest) solid =
    let some = solid.0 in
    Rising_first f (f + size e) (handle_content row f e) (handles_from row (f + size e) rest) (omega (arith, some)) (Rising_handles row (f + size e) rest solid.1)

first_here : (f g : ℕ) (o : Option (List ℕ)) (es : Contents) → f < g → Rising g es → content_of f (with_first f o es) ≡ o
first_here f g None es low rising = content_low g es f rising low
first_here f g (Some c) es low rising = content_here f (f, c) es refl

first_there : (f : ℕ) (o : Option (List ℕ)) (es : Contents) (q : ℕ) → (q ≡ f → ⊥) → content_of q (with_first f o es) ≡ content_of q es
first_there f None es q not = refl
first_there f (Some c) es q not = content_there q (f, c) es not

handles_at : (row : List Extent) (f : ℕ) (rest : List Extent) (q : ℕ) → Solid rest → content_of q (handles_from row f rest) ≡ meant (contains (targets row)) (extent_at 8 row) q (extent_at f rest q)
handles_at row f [] q solid = refl
handles_at row f (e ∷ rest) q solid = elim (cases_eq q f) [
  | inl is ↦
      let some = solid.0 in
      rw (eq-eqb q f is)
      (ap (λ (a : ℕ). content_of a (with_first f (handle_content row f e) (handles_from row (f + size e) rest))) is
      ∙ first_here f (f + size e) (handle_content row f e) (handles_from row (f + size e) rest) (omega (arith, some)) (Rising_handles row (f + size e) rest solid.1)
      ∙ same_handle row f e
      ∙ ap (λ (a : ℕ). meant (contains (targets row)) (extent_at 8 row) a (Some e)) (sym is))
  | inr not ↦
      rw (ne_eqb q f not)
      (first_there f (handle_content row f e) (handles_from row (f + size e) rest) q not ∙ handles_at row (f + size e) rest q solid.1)
]

-- the content of a handle in a row
abbrev pub at_handle : List Extent → ℕ → Option (List ℕ)
at_handle row q = meant (contains (targets row)) (extent_at 8 row) q (extent_at 8 row q)

pub heap_at : (row : List Extent) (q : ℕ) → Solid row → content_of q (heap row) ≡ at_handle row q
heap_at row q solid = handles_at row 8 row q solid

pub Rising_heap : (row : List Extent) → Solid row → Rising 8 (heap row)
Rising_heap row solid = Rising_handles row 8 row solid

-- two rows in which each atom is a handle of the same content have one heap
pub same_heap : (v w : List Extent) → Solid v → Solid w → ((q : ℕ) → at_handle v q ≡ at_handle w q) → heap v ≡ heap w
same_heap v w solid_v solid_w same =
    same_contents 8 (heap v) (heap w) (Rising_heap v solid_v) (Rising_heap w solid_w) (λ q. heap_at v q solid_v ∙ same q ∙ sym (heap_at w q solid_w))

pub heap_with : (v w : List Extent) (h : ℕ) (c : List ℕ) → 8 ≤ h → Solid v → Solid w → at_handle w h ≡ Some c → ((q : ℕ) → (q ≡ h → ⊥) → at_handle w q ≡ at_handle v q) → heap w ≡ with_content h c (heap v)
heap_with v w h c from solid_v solid_w here there =
    same_contents 8 (heap w) (with_content h c (heap v)) (Rising_heap w solid_w) (Rising_with 8 h c (heap v) from (Rising_heap v solid_v)) (λ q. elim (cases_eq q h) [
      | inl is ↦ subst (λ (a : ℕ). content_of a (heap w) ≡ content_of a (with_content h c (heap v))) (sym is) (heap_at w h solid_w ∙ here ∙ sym (with_here h c (heap v)))
      | inr not ↦ heap_at w q solid_w ∙ there q not ∙ sym (heap_at v q solid_v) ∙ sym (with_there h c (heap v) q not)
    ])

pub heap_without : (v w : List Extent) (h : ℕ) → Solid v → Solid w → at_handle w h ≡ None → ((q : ℕ) → (q ≡ h → ⊥) → at_handle w q ≡ at_handle v q) → heap w ≡ without h (heap v)
heap_without v w h solid_v solid_w here there =
    same_contents 8 (heap w) (without h (heap v)) (Rising_heap w solid_w) (Rising_without 8 h (heap v) (Rising_heap v solid_v)) (λ q. elim (cases_eq q h) [
      | inl is ↦ subst (λ (a : ℕ). content_of a (heap w) ≡ content_of a (without h (heap v))) (sym is) (heap_at w h solid_w ∙ here ∙ sym (without_here 8 h (heap v) (Rising_heap v solid_v)))
      | inr not ↦ heap_at w q solid_w ∙ there q not ∙ sym (heap_at v q solid_v) ∙ sym (without_there h (heap v) q not)
    ])

-- targets

pub targets_append : (x y : List Extent) → targets (x ++ y) ≡ targets x ++ targets y
targets_append [] y = refl
targets_append (e ∷ x) y = ap (λ (ts : List ℕ). target_of e ++ ts) (targets_append x y) ∙ sym (append_assoc (target_of e) (targets x) (targets y))
  where
    append_assoc : (a b c : List ℕ) → (a ++ b) ++ c ≡ a ++ (b ++ c)
    append_assoc [] b c = refl
    append_assoc (n ∷ a) b c = ap (λ (r : List ℕ). n ∷ r) (append_assoc a b c)

or_assoc : (a b c : Bool) → ((a || b) || c) ≡ (a || (b || c))
or_assoc true b c = refl
or_assoc false b c = refl

pub contains_append : (x y : List ℕ) (q : ℕ) → contains (x ++ y) q ≡ (contains x q || contains y q)
contains_append [] y q = refl
contains_append (a ∷ x) y q = ap (λ (b : Bool). eqb q a || b) (contains_append x y q) ∙ sym (or_assoc (eqb q a) (contains x q) (contains y q))

-- which atoms a row names, by its parts
pub named_in : (x : List Extent) (e : Extent) (y : List Extent) (q : ℕ) → contains (targets (x ++ e ∷ y)) q ≡ (contains (targets x) q || (contains (target_of e) q || contains (targets y) q))
named_in x e y q =
    ap (λ (ts : List ℕ). contains ts q) (targets_append x (e ∷ y))
    ∙ contains_append (targets x) (target_of e ++ targets y) q
    ∙ ap (λ (b : Bool). contains (targets x) q || b) (contains_append (target_of e) (targets y) q)

-- a relocated block's target is named
pub target_named : (row : List Extent) (q t : ℕ) → extent_at 8 row q ≡ Some (Moved t) → contains (targets row) t ≡ true
target_named row q t is =
    let parts = found 8 row q (Moved t) is in
    subst (λ (r : List Extent). contains (targets r) t ≡ true) (sym parts.2)
    (named_in parts.0 (Moved t) parts.1 t ∙ whole (contains (targets parts.0) t) (contains (targets parts.1) t))
  where
    either : (a b c : Bool) → b ≡ true → (a || ((b || false) || c)) ≡ true
    either true b c is = refl
    either false true c is = refl
    either false false c is = absurd (false≢true is)

    whole : (a c : Bool) → (a || ((eqb t t || false) || c)) ≡ true
    whole a c = either a (eqb t t) c (eq-eqb t t refl)

distinct_parts : (a b : List ℕ) → are_distinct (a ++ b) ≡ true → (are_distinct b ≡ true) × ((q : ℕ) → contains a q ≡ true → contains b q ≡ false)
distinct_parts [] b distinct = (distinct, λ q here. absurd (false≢true here))
distinct_parts (n ∷ a) b distinct =
    let two = and_parts (not (contains (a ++ b) n)) (are_distinct (a ++ b)) distinct in
    let rest = distinct_parts a b two.1 in
    let lacks : (contains a n || contains b n) ≡ false = sym (contains_append a b n) ∙ not-true (contains (a ++ b) n) two.0 in (
      rest.0,
      λ q here. elim (cases_eq q n) [
        | inl is ↦ ap (contains b) is ∙ (or_parts (contains a n) (contains b n) lacks).1
        | inr other ↦ rest.1 q (sym (ap (λ (t : Bool). t || contains a q) (ne_eqb q n other)) ∙ here)
      ],
    )

contains_self : (t : ℕ) (r : List ℕ) → contains (t ∷ r) t ≡ true
contains_self t r = ap (λ (b : Bool). b || contains r t) (eq-eqb t t refl)

-- where no atom is named twice, nothing else names the target of a relocated block
pub named_once : (x : List Extent) (t : ℕ) (y : List Extent) → are_distinct (targets (x ++ Moved t ∷ y)) ≡ true → (contains (targets x) t ≡ false) × (contains (targets y) t ≡ false)
named_once x t y distinct =
    let parts = distinct_parts (targets x) (t ∷ targets y) (subst (λ (ts : List ℕ). are_distinct ts ≡ true) (targets_append x (Moved t ∷ y)) distinct) in
    let two = and_parts (not (contains (targets y) t)) (are_distinct (targets y)) parts.0 in (
      elim (cases_Bool (contains (targets x) t)) [
        | inl named ↦ absurd (false≢true (sym (parts.1 t named) ∙ contains_self t (targets y)))
        | inr lacks ↦ lacks
      ],
      not-true (contains (targets y) t) two.0,
    )

-- the one handle that names a target
pub one_owner : (row : List Extent) (q r t : ℕ) → are_distinct (targets row) ≡ true → Solid row → extent_at 8 row q ≡ Some (Moved t) → extent_at 8 row r ≡ Some (Moved t) → q ≡ r
one_owner row q r t distinct solid first second =
    let parts = found 8 row q (Moved t) first in
    let once = named_once parts.0 t parts.1 (subst (λ (v : List Extent). are_distinct (targets v) ≡ true) parts.2 distinct) in
    elim (cases_eq q r) [
      | inl is ↦ is
      | inr other ↦
          -- the row with a free atom in the place of the first names the target nowhere
          let hole : List Extent = parts.0 ++ Hole 1 ∷ parts.1 in
          let place = parts.3 in
          let still : extent_at 8 hole r ≡ Some (Moved t) =
          look_there 8 parts.0 (Hole 1) (Moved t) parts.1 r refl (λ is. other (place ∙ sym is)) ∙ sym (ap (λ (v : List Extent). extent_at 8 v r) parts.2) ∙ second in
          let none : contains (targets hole) t ≡ false = named_in parts.0 (Hole 1) parts.1 t ∙ lacking (contains (targets parts.0) t) (contains (targets parts.1) t) once.0 once.1 in
          absurd (false≢true (sym none ∙ target_named hole r t still))
    ]
  where
    lacking : (a c : Bool) → a ≡ false → c ≡ false → (a || (false || c)) ≡ false
    lacking a c first second = rw (first, second) refl
