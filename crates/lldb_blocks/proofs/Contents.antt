-- What a step of a call does to the heap of a row.
use Rattle.std.proofs.Common.{◌≡◌, ℕ, ◌+◌, ◌≤◌, Bool, true, false, ◌||◌, cond, List, [], ◌∷◌, ◌++◌, length, Option, Some, None, refl, sym, ◌∙◌, ap, subst, inl, inr, arith, ne_eqb}
use Rattle.std.proofs.lemmas.Bool.{cases_eq, false≢true}
use Rattle.lldb_base.specs.Contents.{content_of, with_content, without, atoms_for}
use Rattle.lldb_atoms.specs.Blocks.{Extent, Used, Compressed, Moved, Free, Hole}
use Rattle.lldb_atoms.specs.Rows.{atoms_in, extent_at, contains, are_distinct, targets, used_content, heap}
use Rattle.lldb_blocks.specs.Laid.{Solid}
use Rattle.lldb_blocks.proofs.Maps.{Rising_with, Rising_without, same_contents, with_here, with_there, without_here, without_there}
use Rattle.lldb_blocks.proofs.Looks.{look_here, look_there, look_exchanged, look_longer, Quiet, Solid_append, Solid_left, Solid_right}
use Rattle.lldb_blocks.proofs.Heaps.{meant, at_handle, same_heap, heap_with, heap_without, heap_at, Rising_heap, targets_append, named_in, target_named, one_owner}

-- an extent as far as the heap sees it
abbrev pub kept : Option Extent → Option Extent
kept None = None
kept (Some (Used content)) = Some (Used content)
kept (Some (Compressed content)) = None
kept (Some (Moved target)) = Some (Moved target)
kept (Some (Free atoms)) = None
kept (Some (Hole atoms)) = None

pub used_kept : (o : Option Extent) → used_content o ≡ used_content (kept o)
used_kept None = refl
used_kept (Some (Used c)) = refl
used_kept (Some (Compressed c)) = refl
used_kept (Some (Moved t)) = refl
used_kept (Some (Free s)) = refl
used_kept (Some (Hole s)) = refl

pub meant_kept : (named : ℕ → Bool) (look : ℕ → Option Extent) (q : ℕ) (o : Option Extent) → meant named look q o ≡ meant named look q (kept o)
meant_kept named look q None = refl
meant_kept named look q (Some (Used c)) = refl
meant_kept named look q (Some (Compressed c)) = refl
meant_kept named look q (Some (Moved t)) = refl
meant_kept named look q (Some (Free s)) = refl
meant_kept named look q (Some (Hole s)) = refl

-- what an atom is a handle of, in another row
pub meant_same : (named1 named2 : ℕ → Bool) (look1 look2 : ℕ → Option Extent) (q : ℕ) (o : Option Extent) → named1 q ≡ named2 q → ((t : ℕ) → o ≡ Some (Moved t) → used_content (look1 t) ≡ used_content (look2 t)) → meant named1 look1 q o ≡ meant named2 look2 q o
meant_same named1 named2 look1 look2 q None named same = refl
meant_same named1 named2 look1 look2 q (Some (Used c)) named same = ap (λ (b : Bool). cond b None (Some c)) named
meant_same named1 named2 look1 look2 q (Some (Compressed c)) named same = refl
meant_same named1 named2 look1 look2 q (Some (Moved t)) named same = same t refl
meant_same named1 named2 look1 look2 q (Some (Free s)) named same = refl
meant_same named1 named2 look1 look2 q (Some (Hole s)) named same = refl

-- rows that name the same, and in which the same used and relocated blocks stand, have one heap
pub heap_kept : (v w : List Extent) → Solid v → Solid w → targets v ≡ targets w → ((q : ℕ) → kept (extent_at 8 v q) ≡ kept (extent_at 8 w q)) → heap v ≡ heap w
heap_kept v w solid_v solid_w named same = same_heap v w solid_v solid_w (λ q.
    meant_kept (contains (targets v)) (extent_at 8 v) q (extent_at 8 v q)
    ∙ ap (meant (contains (targets v)) (extent_at 8 v) q) (same q)
    ∙ sym (meant_kept (contains (targets v)) (extent_at 8 v) q (extent_at 8 w q))
    ∙ meant_same (contains (targets v)) (contains (targets w)) (extent_at 8 v) (extent_at 8 w) q (extent_at 8 w q)
    (ap (λ (ts : List ℕ). contains ts q) named)
    (λ t is. used_kept (extent_at 8 v t) ∙ ap used_content (same t) ∙ sym (used_kept (extent_at 8 w t))))

no_targets : (m : List Extent) → Quiet kept m → targets m ≡ []
no_targets [] quiet = refl
no_targets (Used c ∷ m) quiet = no_targets m quiet.1
no_targets (Compressed c ∷ m) quiet = no_targets m quiet.1
no_targets (Moved t ∷ m) quiet = absurd (let e = quiet.0 in cc)
no_targets (Free s ∷ m) quiet = no_targets m quiet.1
no_targets (Hole s ∷ m) quiet = no_targets m quiet.1

pub targets_quiet : (x m y : List Extent) → Quiet kept m → targets (x ++ (m ++ y)) ≡ targets x ++ targets y
targets_quiet x m y quiet =
    targets_append x (m ++ y) ∙ ap (λ (ts : List ℕ). targets x ++ ts) (targets_append m y ∙ ap (λ (ts : List ℕ). ts ++ targets y) (no_targets m quiet))

pub targets_exchanged : (x m k y : List Extent) → Quiet kept m → Quiet kept k → targets (x ++ (m ++ y)) ≡ targets (x ++ (k ++ y))
targets_exchanged x m k y quiet_m quiet_k = targets_quiet x m y quiet_m ∙ sym (targets_quiet x k y quiet_k)

-- free blocks and holes do not matter for the heap
pub heap_exchanged : (x m k y : List Extent) → Quiet kept m → Quiet kept k → Solid (x ++ (m ++ y)) → Solid k → atoms_in m ≡ atoms_in k → heap (x ++ (m ++ y)) ≡ heap (x ++ (k ++ y))
heap_exchanged x m k y quiet_m quiet_k solid solid_k same =
    let right = Solid_right x (m ++ y) solid in
    heap_kept (x ++ (m ++ y)) (x ++ (k ++ y)) solid (Solid_append x (k ++ y) (Solid_left x (m ++ y) solid) (Solid_append k y solid_k (Solid_right m y right)))
    (targets_exchanged x m k y quiet_m quiet_k)
    (λ q. look_exchanged kept x m k y 8 q quiet_m quiet_k (Solid_left m y right) solid_k same)

append_none : (ts : List ℕ) → ts ++ [] ≡ ts
append_none [] = refl
append_none (t ∷ ts) = ap (λ (r : List ℕ). t ∷ r) (append_none ts)

pub targets_longer : (x m : List Extent) → Quiet kept m → targets (x ++ m) ≡ targets x
targets_longer x m quiet = targets_append x m ∙ ap (λ (ts : List ℕ). targets x ++ ts) (no_targets m quiet) ∙ append_none (targets x)

pub heap_longer : (x m : List Extent) → Quiet kept m → Solid x → Solid m → heap (x ++ m) ≡ heap x
heap_longer x m quiet solid solid_m =
    heap_kept (x ++ m) x (Solid_append x m solid solid_m) solid (targets_longer x m quiet) (λ q. look_longer kept x m 8 q quiet solid)

-- a used block in the place of a hole, and a hole in the place of a used block
module _ (x y : List Extent) (c : List ℕ) (at : ℕ) (solid : Solid (x ++ Used c ∷ y)) (place : at ≡ 8 + atoms_in x) where
  abbrev with_hole : List Extent
  with_hole = x ++ Hole (atoms_for (length c)) ∷ y

  abbrev with_used : List Extent
  with_used = x ++ Used c ∷ y

  solid_x : Solid x
  solid_x = Solid_left x (Used c ∷ y) solid

  solid_hole : Solid with_hole
  solid_hole = let right = Solid_right x (Used c ∷ y) solid in Solid_append x (Hole (atoms_for (length c)) ∷ y) solid_x (right.0, right.1)

  at_hole : extent_at 8 with_hole at ≡ Some (Hole (atoms_for (length c)))
  at_hole = subst (λ (q : ℕ). extent_at 8 with_hole q ≡ Some (Hole (atoms_for (length c)))) (sym place) (look_here 8 x (Hole (atoms_for (length c))) y solid_x)

  at_used : extent_at 8 with_used at ≡ Some (Used c)
  at_used = subst (λ (q : ℕ). extent_at 8 with_used q ≡ Some (Used c)) (sym place) (look_here 8 x (Used c) y solid_x)

  elsewhere : (q : ℕ) → (q ≡ at → ⊥) → extent_at 8 with_used q ≡ extent_at 8 with_hole q
  elsewhere q not = look_there 8 x (Used c) (Hole (atoms_for (length c))) y q refl (λ is. not (is ∙ sym place))

  pub same_named : targets with_used ≡ targets with_hole
  same_named = targets_append x (Used c ∷ y) ∙ sym (targets_append x (Hole (atoms_for (length c)) ∷ y))

  named_same : (q : ℕ) → contains (targets with_used) q ≡ contains (targets with_hole) q
  named_same q = ap (λ (ts : List ℕ). contains ts q) same_named

  hole_means : at_handle with_hole at ≡ None
  hole_means = ap (meant (contains (targets with_hole)) (extent_at 8 with_hole) at) at_hole

  -- where no block names it
  module _ (unnamed : contains (targets with_hole) at ≡ false) where
    used_means : at_handle with_used at ≡ Some c
    used_means = ap (meant (contains (targets with_used)) (extent_at 8 with_used) at) at_used ∙ ap (λ (b : Bool). cond b None (Some c)) (named_same at ∙ unnamed)

    others_mean : (q : ℕ) → (q ≡ at → ⊥) → at_handle with_used q ≡ at_handle with_hole q
    others_mean q not =
        ap (meant (contains (targets with_used)) (extent_at 8 with_used) q) (elsewhere q not)
        ∙ meant_same (contains (targets with_used)) (contains (targets with_hole)) (extent_at 8 with_used) (extent_at 8 with_hole) q (extent_at 8 with_hole q) (named_same q)
        (λ t is. ap used_content (elsewhere t (λ same. false≢true (sym unnamed ∙ ap (contains (targets with_hole)) (sym same) ∙ target_named with_hole q t is))))

    -- a content is written into a hole that no block names: a handle more
    pub heap_filled : heap with_used ≡ with_content at c (heap with_hole)
    heap_filled = heap_with with_hole with_used at c (omega (arith, place)) solid_hole solid used_means others_mean

    -- a content that no block names becomes a hole: a handle less
    pub heap_emptied : heap with_hole ≡ without at (heap with_used)
    heap_emptied = heap_without with_used with_hole at solid solid_hole hole_means (λ q not. sym (others_mean q not))

  -- where a relocated block names it
  module _ (home : ℕ) (names : extent_at 8 with_hole home ≡ Some (Moved at)) (distinct : are_distinct (targets with_hole) ≡ true) where
    apart_home : home ≡ at → ⊥
    apart_home is = let two : Some (Moved at) ≡ Some (Hole (atoms_for (length c))) = sym names ∙ ap (extent_at 8 with_hole) is ∙ at_hole in cc

    is_named : contains (targets with_used) at ≡ true
    is_named = named_same at ∙ target_named with_hole home at names

    home_means : at_handle with_used home ≡ Some c
    home_means = ap (meant (contains (targets with_used)) (extent_at 8 with_used) home) (elsewhere home apart_home ∙ names) ∙ ap used_content at_used

    home_lost : at_handle with_hole home ≡ None
    home_lost = ap (meant (contains (targets with_hole)) (extent_at 8 with_hole) home) names ∙ ap used_content at_hole

    rest_mean : (q : ℕ) → (q ≡ home → ⊥) → at_handle with_used q ≡ at_handle with_hole q
    rest_mean q other = elim (cases_eq q at) [
      | inl is ↦ subst (λ (a : ℕ). at_handle with_used a ≡ at_handle with_hole a) (sym is)
          (ap (meant (contains (targets with_used)) (extent_at 8 with_used) at) at_used ∙ ap (λ (b : Bool). cond b None (Some c)) is_named ∙ sym hole_means)
      | inr not ↦
          ap (meant (contains (targets with_used)) (extent_at 8 with_used) q) (elsewhere q not)
          ∙ meant_same (contains (targets with_used)) (contains (targets with_hole)) (extent_at 8 with_used) (extent_at 8 with_hole) q (extent_at 8 with_hole q) (named_same q)
          (λ t is. ap used_content (elsewhere t (λ same. other (one_owner with_hole q home at distinct solid_hole (subst (λ (u : ℕ). extent_at 8 with_hole q ≡ Some (Moved u)) same is) names))))
    ]

    -- a content is written into a hole that a relocated block names: it is the content of that handle
    pub heap_target_filled : 8 ≤ home → heap with_used ≡ with_content home c (heap with_hole)
    heap_target_filled from = heap_with with_hole with_used home c from solid_hole solid home_means rest_mean

    -- a content that a relocated block names becomes a hole: that handle has none
    pub heap_target_emptied : heap with_hole ≡ without home (heap with_used)
    heap_target_emptied = heap_without with_used with_hole home solid solid_hole home_lost (λ q not. sym (rest_mean q not))

-- a relocated block in the place of a hole of one atom, whose target is a used block that no other names
module _ (x y : List Extent) (t : ℕ) (u : List ℕ) (at : ℕ) (solid : Solid (x ++ Moved t ∷ y)) (place : at ≡ 8 + atoms_in x) (is_used : extent_at 8 (x ++ Hole 1 ∷ y) t ≡ Some (Used u)) (unnamed : contains (targets (x ++ Hole 1 ∷ y)) t ≡ false) where
  abbrev before_move : List Extent
  before_move = x ++ Hole 1 ∷ y

  abbrev after_move : List Extent
  after_move = x ++ Moved t ∷ y

  front_solid : Solid x
  front_solid = Solid_left x (Moved t ∷ y) solid

  before_solid : Solid before_move
  before_solid = let right = Solid_right x (Moved t ∷ y) solid in Solid_append x (Hole 1 ∷ y) front_solid (right.0, right.1)

  at_before : extent_at 8 before_move at ≡ Some (Hole 1)
  at_before = subst (λ (q : ℕ). extent_at 8 before_move q ≡ Some (Hole 1)) (sym place) (look_here 8 x (Hole 1) y front_solid)

  at_after : extent_at 8 after_move at ≡ Some (Moved t)
  at_after = subst (λ (q : ℕ). extent_at 8 after_move q ≡ Some (Moved t)) (sym place) (look_here 8 x (Moved t) y front_solid)

  off_move : (q : ℕ) → (q ≡ at → ⊥) → extent_at 8 after_move q ≡ extent_at 8 before_move q
  off_move q not = look_there 8 x (Moved t) (Hole 1) y q refl (λ is. not (is ∙ sym place))

  apart_target : t ≡ at → ⊥
  apart_target is = let two : Some (Used u) ≡ Some (Hole 1) = sym is_used ∙ ap (extent_at 8 before_move) is ∙ at_before in cc

  target_after : extent_at 8 after_move t ≡ Some (Used u)
  target_after = off_move t apart_target ∙ is_used

  now_named : contains (targets after_move) t ≡ true
  now_named = target_named after_move at t at_after

  pub others_named : (q : ℕ) → (q ≡ t → ⊥) → contains (targets after_move) q ≡ contains (targets before_move) q
  others_named q not =
      named_in x (Moved t) y q
      ∙ ap (λ (b : Bool). contains (targets x) q || ((b || false) || contains (targets y) q)) (ne_eqb q t not)
      ∙ sym (named_in x (Hole 1) y q)

  -- an extent other than the relocated block has the same content in both rows
  same_content : (q : ℕ) → used_content (extent_at 8 after_move q) ≡ used_content (extent_at 8 before_move q)
  same_content q = elim (cases_eq q at) [
    | inl is ↦ subst (λ (a : ℕ). used_content (extent_at 8 after_move a) ≡ used_content (extent_at 8 before_move a)) (sym is) (ap used_content at_after ∙ sym (ap used_content at_before))
    | inr not ↦ ap used_content (off_move q not)
  ]

  home_after : at_handle after_move at ≡ Some u
  home_after = ap (meant (contains (targets after_move)) (extent_at 8 after_move) at) at_after ∙ ap used_content target_after

  home_before : at_handle before_move at ≡ None
  home_before = ap (meant (contains (targets before_move)) (extent_at 8 before_move) at) at_before

  own_before : at_handle before_move t ≡ Some u
  own_before = ap (meant (contains (targets before_move)) (extent_at 8 before_move) t) is_used ∙ ap (λ (b : Bool). cond b None (Some u)) unnamed

  own_after : at_handle after_move t ≡ None
  own_after = ap (meant (contains (targets after_move)) (extent_at 8 after_move) t) target_after ∙ ap (λ (b : Bool). cond b None (Some u)) now_named

  third : (q : ℕ) → (q ≡ at → ⊥) → (q ≡ t → ⊥) → at_handle after_move q ≡ at_handle before_move q
  third q not other =
      ap (meant (contains (targets after_move)) (extent_at 8 after_move) q) (off_move q not)
      ∙ meant_same (contains (targets after_move)) (contains (targets before_move)) (extent_at 8 after_move) (extent_at 8 before_move) q (extent_at 8 before_move q) (others_named q other) (λ w is. same_content w)

  -- a hole becomes a relocated block: the handle of its target is its own
  pub heap_pointed : heap after_move ≡ with_content at u (without t (heap before_move))
  heap_pointed =
      let rise = Rising_heap before_move before_solid in
      let rise_out = Rising_without 8 t (heap before_move) rise in
      same_contents 8 (heap after_move) (with_content at u (without t (heap before_move))) (Rising_heap after_move solid) (Rising_with 8 at u (without t (heap before_move)) (omega (arith, place)) rise_out) (λ q.
      elim (cases_eq q at) [
        | inl is ↦ subst (λ (a : ℕ). content_of a (heap after_move) ≡ content_of a (with_content at u (without t (heap before_move)))) (sym is)
            (heap_at after_move at solid ∙ home_after ∙ sym (with_here at u (without t (heap before_move))))
        | inr not ↦ elim (cases_eq q t) [
          | inl is ↦ heap_at after_move q solid ∙ ap (at_handle after_move) is ∙ own_after ∙ sym (without_here 8 t (heap before_move) rise) ∙ ap (λ (a : ℕ). content_of a (without t (heap before_move))) (sym is) ∙ sym (with_there at u (without t (heap before_move)) q not)
          | inr other ↦ heap_at after_move q solid ∙ third q not other ∙ sym (heap_at before_move q before_solid) ∙ sym (without_there t (heap before_move) q other) ∙ sym (with_there at u (without t (heap before_move)) q not)
        ]
      ])

  -- a relocated block becomes a hole: its target is a handle of its own
  pub heap_unpointed : 8 ≤ t → heap before_move ≡ with_content t u (without at (heap after_move))
  heap_unpointed from =
      let rise = Rising_heap after_move solid in
      let rise_out = Rising_without 8 at (heap after_move) rise in
      same_contents 8 (heap before_move) (with_content t u (without at (heap after_move))) (Rising_heap before_move before_solid) (Rising_with 8 t u (without at (heap after_move)) from rise_out) (λ q.
      elim (cases_eq q t) [
        | inl is ↦ subst (λ (a : ℕ). content_of a (heap before_move) ≡ content_of a (with_content t u (without at (heap after_move)))) (sym is)
            (heap_at before_move t before_solid ∙ own_before ∙ sym (with_here t u (without at (heap after_move))))
        | inr other ↦ elim (cases_eq q at) [
          | inl is ↦ heap_at before_move q before_solid ∙ ap (at_handle before_move) is ∙ home_before ∙ sym (without_here 8 at (heap after_move) rise) ∙ ap (λ (a : ℕ). content_of a (without at (heap after_move))) (sym is) ∙ sym (with_there t u (without at (heap after_move)) q other)
          | inr not ↦ heap_at before_move q before_solid ∙ sym (third q not other) ∙ sym (heap_at after_move q solid) ∙ sym (without_there at (heap after_move) q not) ∙ sym (with_there t u (without at (heap after_move)) q other)
        ]
      ])
