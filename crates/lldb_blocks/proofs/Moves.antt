-- Contents that are replaced, moved and removed, as edits of a row.
use Rattle.std.proofs.Common.{◌≡◌, ℕ, ◌+◌, ◌≤◌, Bool, true, false, not, ◌||◌, eqb, List, [], ◌∷◌, ◌++◌, length, Option, Some, None, is_some, refl, sym, ◌∙◌, ap, subst, inl, inr, arith, eq-eqb, ne_eqb}
use Rattle.std.proofs.lemmas.Bool.{cases_eq, and_from, false≢true}
use Rattle.lldb_base.specs.Contents.{Contents, content_of, with_content, without, atoms_for}
use Rattle.lldb_atoms.specs.Blocks.{Extent, Used, Compressed, Moved, Free, Hole}
use Rattle.lldb_atoms.specs.Rows.{atoms_in, extent_at, contains, are_distinct, targets, used_content, are_used, heap}
use Rattle.lldb_blocks.specs.Links.{Apart}
use Rattle.lldb_blocks.specs.Laid.{Solid, Named}
use Rattle.lldb_blocks.proofs.Chains.{lacks_from, lacks_head, lacks_rest, Apart_out, differs, has_head}
use Rattle.lldb_blocks.specs.Maps.{Rising}
use Rattle.lldb_blocks.proofs.Maps.{Rising_with, Rising_without, same_contents, with_here, with_there, without_here, without_there, with_without}
use Rattle.lldb_blocks.proofs.Looks.{look_here, look_there, look_exchanged, Quiet, Solid_append, Solid_left, Solid_right}
use Rattle.lldb_blocks.proofs.Heaps.{Rising_heap, targets_append, contains_append, named_once}
use Rattle.lldb_blocks.proofs.Contents.{kept, used_kept, targets_exchanged, heap_exchanged, heap_filled, heap_emptied, heap_target_filled, heap_target_emptied}
use Rattle.lldb_blocks.proofs.Bridges.{Apart_from, distinct_from}
use Rattle.lldb_blocks.proofs.Rests.{Named_same, named_used}

names_same : (x : List Extent) (b c : Extent) (y : List Extent) → targets (b ∷ []) ≡ targets (c ∷ []) → targets (x ++ b ∷ y) ≡ targets (x ++ c ∷ y)
names_same x b c y same =
    targets_append x (b ∷ y) ∙ ap (λ (ts : List ℕ). targets x ++ ts) (one b ∙ ap (λ (ts : List ℕ). ts ++ targets y) same ∙ sym (one c)) ∙ sym (targets_append x (c ∷ y))
  where
    one : (e : Extent) → targets (e ∷ y) ≡ targets (e ∷ []) ++ targets y
    one e = targets_append (e ∷ []) y

-- a used block that no block names becomes a hole
pub Named_emptied : (x : List Extent) (c : List ℕ) (y : List Extent) → contains (targets (x ++ Used c ∷ y)) (8 + atoms_in x) ≡ false → Named (x ++ Used c ∷ y) → Named (x ++ Hole (atoms_for (length c)) ∷ y)
Named_emptied x c y lacks named =
    Named_same (x ++ Used c ∷ y) (x ++ Hole (atoms_for (length c)) ∷ y) (names_same x (Hole (atoms_for (length c))) (Used c) y refl)
    (λ t member used. sym (ap (λ (o : Option Extent). is_some (used_content o)) (look_there 8 x (Used c) (Hole (atoms_for (length c))) y t refl (λ is. differs (targets (x ++ Used c ∷ y)) t (8 + atoms_in x) member lacks is))) ∙ used) named

moved_of : (o : Option Extent) (p : ℕ) → kept o ≡ Some (Moved p) → o ≡ Some (Moved p)
moved_of None p is = absurd (cc)
moved_of (Some (Used c)) p is = is
moved_of (Some (Compressed c)) p is = absurd (cc)
moved_of (Some (Moved t)) p is = is
moved_of (Some (Free s)) p is = absurd (cc)
moved_of (Some (Hole s)) p is = absurd (cc)

-- a content is replaced in its place; what is left over, if anything, is a hole
module _ (x : List Extent) (c d : List ℕ) (t y : List Extent) (quiet : Quiet kept t) (solid : Solid (x ++ Used c ∷ y)) (solid_t : Solid t) (some : 1 ≤ atoms_for (length d)) (same : atoms_for (length c) ≡ atoms_for (length d) + atoms_in t) where
  abbrev hole_before : List Extent
  hole_before = x ++ Hole (atoms_for (length c)) ∷ y

  abbrev holes_after : List Extent
  holes_after = x ++ Hole (atoms_for (length d)) ∷ (t ++ y)

  front : Solid x
  front = Solid_left x (Used c ∷ y) solid

  right : Solid (Used c ∷ y)
  right = Solid_right x (Used c ∷ y) solid

  solid_before : Solid hole_before
  solid_before = Solid_append x (Hole (atoms_for (length c)) ∷ y) front (right.0, right.1)

  pub solid_replaced : Solid (x ++ Used d ∷ (t ++ y))
  solid_replaced = Solid_append x (Used d ∷ (t ++ y)) front (some, Solid_append t y solid_t right.1)

  holes_heap : heap holes_after ≡ heap hole_before
  holes_heap = sym (heap_exchanged x (Hole (atoms_for (length c)) ∷ []) (Hole (atoms_for (length d)) ∷ t) y (refl, tt) (refl, quiet) solid_before (some, solid_t) (omega (arith, same)))

  holes_named : targets holes_after ≡ targets (x ++ Used c ∷ y)
  holes_named = sym (targets_exchanged x (Hole (atoms_for (length c)) ∷ []) (Hole (atoms_for (length d)) ∷ t) y (refl, tt) (refl, quiet)) ∙ names_same x (Hole (atoms_for (length c))) (Used c) y refl

  pub Named_replaced : Named (x ++ Used c ∷ y) → Named (x ++ Used d ∷ (t ++ y))
  Named_replaced named =
      Named_same (x ++ Used c ∷ y) (x ++ Used d ∷ (t ++ y)) (names_same x (Used d) (Hole (atoms_for (length d))) (t ++ y) refl ∙ holes_named)
      (λ a member used. elim (cases_eq a (8 + atoms_in x)) [
        | inl is ↦ subst (λ (b : ℕ). is_some (used_content (extent_at 8 (x ++ Used d ∷ (t ++ y)) b)) ≡ true) (sym is) (ap (λ (o : Option Extent). is_some (used_content o)) (look_here 8 x (Used d) (t ++ y) front))
        | inr other ↦
            ap (λ (o : Option Extent). is_some (used_content o)) (look_there 8 x (Used d) (Hole (atoms_for (length d))) (t ++ y) a refl other)
            ∙ ap is_some (used_kept (extent_at 8 holes_after a)
            ∙ ap used_content (sym (look_exchanged kept x (Hole (atoms_for (length c)) ∷ []) (Hole (atoms_for (length d)) ∷ t) y 8 a (refl, tt) (refl, quiet) (right.0, tt) (some, solid_t) (omega (arith, same))))
            ∙ sym (used_kept (extent_at 8 hole_before a)))
            ∙ ap (λ (o : Option Extent). is_some (used_content o)) (look_there 8 x (Hole (atoms_for (length c))) (Used c) y a refl other)
            ∙ used
      ]) named

  -- of a handle of its own
  pub heap_replaced : contains (targets (x ++ Used c ∷ y)) (8 + atoms_in x) ≡ false → heap (x ++ Used d ∷ (t ++ y)) ≡ with_content (8 + atoms_in x) d (heap (x ++ Used c ∷ y))
  heap_replaced lacks =
      let p : ℕ = 8 + atoms_in x in
      let before : contains (targets hole_before) p ≡ false = ap (λ (ts : List ℕ). contains ts p) (names_same x (Hole (atoms_for (length c))) (Used c) y refl) ∙ lacks in
      let now : contains (targets holes_after) p ≡ false = ap (λ (ts : List ℕ). contains ts p) holes_named ∙ lacks in
      heap_filled x (t ++ y) d p solid_replaced refl now
      ∙ ap (with_content p d) (holes_heap ∙ heap_emptied x y c p solid refl before)
      ∙ with_without 8 p d (heap (x ++ Used c ∷ y)) (Rising_heap (x ++ Used c ∷ y) solid) (omega arith)

  -- of a relocated block's handle
  pub heap_target_replaced : (home : ℕ) → 8 ≤ home → extent_at 8 (x ++ Used c ∷ y) home ≡ Some (Moved (8 + atoms_in x)) → are_distinct (targets (x ++ Used c ∷ y)) ≡ true → heap (x ++ Used d ∷ (t ++ y)) ≡ with_content home d (heap (x ++ Used c ∷ y))
  heap_target_replaced home from names distinct =
      let p : ℕ = 8 + atoms_in x in
      let apart : home ≡ p → ⊥ = λ is. (let two : Some (Moved p) ≡ Some (Used c) = sym names ∙ ap (extent_at 8 (x ++ Used c ∷ y)) is ∙ look_here 8 x (Used c) y front in cc) in
      let before : extent_at 8 hole_before home ≡ Some (Moved p) = look_there 8 x (Hole (atoms_for (length c))) (Used c) y home refl apart ∙ names in
      let now : extent_at 8 holes_after home ≡ Some (Moved p) =
      moved_of (extent_at 8 holes_after home) p (sym (look_exchanged kept x (Hole (atoms_for (length c)) ∷ []) (Hole (atoms_for (length d)) ∷ t) y 8 home (refl, tt) (refl, quiet) (right.0, tt) (some, solid_t) (omega (arith, same))) ∙ ap kept before) in
      let distinct_before : are_distinct (targets hole_before) ≡ true = ap are_distinct (names_same x (Hole (atoms_for (length c))) (Used c) y refl) ∙ distinct in
      let distinct_now : are_distinct (targets holes_after) ≡ true = ap are_distinct holes_named ∙ distinct in
      heap_target_filled x (t ++ y) d p solid_replaced refl home now distinct_now from
      ∙ ap (with_content home d) (holes_heap ∙ heap_target_emptied x y c p solid refl home before distinct_before)
      ∙ with_without 8 home d (heap (x ++ Used c ∷ y)) (Rising_heap (x ++ Used c ∷ y) solid) from

-- a relocated block is put in the place of a hole, or taken from there

Apart_in : (x : List ℕ) (t : ℕ) (y : List ℕ) → Apart (x ++ y) → contains (x ++ y) t ≡ false → Apart (x ++ t ∷ y)
Apart_in [] t y apart lacks = (lacks, apart)
Apart_in (e ∷ x) t y apart lacks =
    (lacks_in x e apart.0 (λ is. lacks_head e (x ++ y) t lacks (sym is)), Apart_in x t y apart.1 (lacks_rest e (x ++ y) t lacks))
  where
    lacks_in : (z : List ℕ) (a : ℕ) → contains (z ++ y) a ≡ false → (a ≡ t → ⊥) → contains (z ++ t ∷ y) a ≡ false
    lacks_in [] a none other = lacks_from t y a other none
    lacks_in (b ∷ z) a none other = lacks_from b (z ++ t ∷ y) a (lacks_head b (z ++ y) a none) (lacks_in z a (lacks_rest b (z ++ y) a none) other)

pub Named_pointed : (x : List Extent) (t : ℕ) (u : List ℕ) (y : List Extent) → Solid x → extent_at 8 (x ++ Hole 1 ∷ y) t ≡ Some (Used u) → contains (targets (x ++ Hole 1 ∷ y)) t ≡ false → Named (x ++ Hole 1 ∷ y) → Named (x ++ Moved t ∷ y)
Named_pointed x t u y solid is_used lacks named =
    let old : targets (x ++ Hole 1 ∷ y) ≡ targets x ++ targets y = targets_append x (Hole 1 ∷ y) in
    let new : targets (x ++ Moved t ∷ y) ≡ targets x ++ t ∷ targets y = targets_append x (Moved t ∷ y) in
    let apart : Apart (targets x ++ targets y) = subst (λ (ts : List ℕ). Apart ts) old (Apart_from (targets (x ++ Hole 1 ∷ y)) named.once) in
    let none : contains (targets x ++ targets y) t ≡ false = ap (λ (ts : List ℕ). contains ts t) (sym old) ∙ lacks in
    record {
      once = ap are_distinct new ∙ distinct_from (targets x ++ t ∷ targets y) (Apart_in (targets x) t (targets y) apart none);
      used = each_used (x ++ Moved t ∷ y) (targets (x ++ Moved t ∷ y)) (λ a member. still a (subst (λ (ts : List ℕ). contains ts a ≡ true) new member));
    }
  where
    each_used : (w : List Extent) (ts : List ℕ) → ((a : ℕ) → contains ts a ≡ true → is_some (used_content (extent_at 8 w a)) ≡ true) → are_used w ts ≡ true
    each_used w [] each = refl
    each_used w (n ∷ ts) each = and_from (is_some (used_content (extent_at 8 w n))) (are_used w ts) (each n (has_head n ts)) (each_used w ts (λ a member. each a (behind n ts a member)))
      where
        behind : (n : ℕ) (ts : List ℕ) (a : ℕ) → contains ts a ≡ true → contains (n ∷ ts) a ≡ true
        behind n ts a member = elim (cases_eq a n) [
          | inl is ↦ rw (eq-eqb a n is) refl
          | inr other ↦ rw (ne_eqb a n other) member
        ]

    used_in_old : (a : ℕ) → contains (targets x ++ t ∷ targets y) a ≡ true → is_some (used_content (extent_at 8 (x ++ Hole 1 ∷ y) a)) ≡ true
    used_in_old a member = elim (cases_eq a t) [
      | inl is ↦ subst (λ (b : ℕ). is_some (used_content (extent_at 8 (x ++ Hole 1 ∷ y) b)) ≡ true) (sym is) (ap (λ (o : Option Extent). is_some (used_content o)) is_used)
      | inr other ↦ named_used (x ++ Hole 1 ∷ y) a named (ap (λ (ts : List ℕ). contains ts a) (targets_append x (Hole 1 ∷ y)) ∙ contains_append (targets x) (targets y) a ∙ ap (λ (b : Bool). contains (targets x) a || b) (sym (ap (λ (b : Bool). b || contains (targets y) a) (ne_eqb a t other))) ∙ sym (contains_append (targets x) (t ∷ targets y) a) ∙ member)
    ]

    still : (a : ℕ) → contains (targets x ++ t ∷ targets y) a ≡ true → is_some (used_content (extent_at 8 (x ++ Moved t ∷ y) a)) ≡ true
    still a member = elim (cases_eq a (8 + atoms_in x)) [
      | inl is ↦ absurd (false≢true (sym (ap (λ (o : Option Extent). is_some (used_content o)) (ap (extent_at 8 (x ++ Hole 1 ∷ y)) is ∙ look_here 8 x (Hole 1) y solid)) ∙ used_in_old a member))
      | inr other ↦ ap (λ (o : Option Extent). is_some (used_content o)) (look_there 8 x (Moved t) (Hole 1) y a refl other) ∙ used_in_old a member
    ]

pub Named_unpointed : (x : List Extent) (t : ℕ) (y : List Extent) → Solid x → Named (x ++ Moved t ∷ y) → Named (x ++ Hole 1 ∷ y) × (contains (targets (x ++ Hole 1 ∷ y)) t ≡ false)
Named_unpointed x t y solid named =
    let old : targets (x ++ Moved t ∷ y) ≡ targets x ++ t ∷ targets y = targets_append x (Moved t ∷ y) in
    let new : targets (x ++ Hole 1 ∷ y) ≡ targets x ++ targets y = targets_append x (Hole 1 ∷ y) in
    let apart : Apart (targets x ++ t ∷ targets y) = subst (λ (ts : List ℕ). Apart ts) old (Apart_from (targets (x ++ Moved t ∷ y)) named.once) in
    let once = named_once x t y named.once in
    let none : contains (targets x ++ targets y) t ≡ false = contains_append (targets x) (targets y) t ∙ both (contains (targets x) t) (contains (targets y) t) once.0 once.1 in (
      record {
        once = ap are_distinct new ∙ distinct_from (targets x ++ targets y) (Apart_out (targets x) t (targets y) apart);
        used = each_used (x ++ Hole 1 ∷ y) (targets (x ++ Hole 1 ∷ y)) (λ a member. still a (ap (λ (ts : List ℕ). contains ts a) (sym new) ∙ member));
      },
      ap (λ (ts : List ℕ). contains ts t) new ∙ none,
    )
  where
    both : (a b : Bool) → a ≡ false → b ≡ false → (a || b) ≡ false
    both a b first second = rw (first, second) refl

    behind : (n : ℕ) (ts : List ℕ) (a : ℕ) → contains ts a ≡ true → contains (n ∷ ts) a ≡ true
    behind n ts a member = elim (cases_eq a n) [
      | inl is ↦ rw (eq-eqb a n is) refl
      | inr other ↦ rw (ne_eqb a n other) member
    ]

    each_used : (w : List Extent) (ts : List ℕ) → ((a : ℕ) → contains ts a ≡ true → is_some (used_content (extent_at 8 w a)) ≡ true) → are_used w ts ≡ true
    each_used w [] each = refl
    each_used w (n ∷ ts) each = and_from (is_some (used_content (extent_at 8 w n))) (are_used w ts) (each n (has_head n ts)) (each_used w ts (λ a member. each a (behind n ts a member)))

    or_more : (a b c : Bool) → (a || c) ≡ true → (a || (b || c)) ≡ true
    or_more true b c is = refl
    or_more false true c is = refl
    or_more false false c is = is

    used_in_old : (a : ℕ) → contains (targets x ++ targets y) a ≡ true → is_some (used_content (extent_at 8 (x ++ Moved t ∷ y) a)) ≡ true
    used_in_old a member =
        named_used (x ++ Moved t ∷ y) a named
        (ap (λ (ts : List ℕ). contains ts a) (targets_append x (Moved t ∷ y)) ∙ contains_append (targets x) (t ∷ targets y) a
        ∙ or_more (contains (targets x) a) (eqb a t) (contains (targets y) a) (sym (contains_append (targets x) (targets y) a) ∙ member))

    still : (a : ℕ) → contains (targets x ++ targets y) a ≡ true → is_some (used_content (extent_at 8 (x ++ Hole 1 ∷ y) a)) ≡ true
    still a member = elim (cases_eq a (8 + atoms_in x)) [
      | inl is ↦ absurd (false≢true (sym (ap (λ (o : Option Extent). is_some (used_content o)) (ap (extent_at 8 (x ++ Moved t ∷ y)) is ∙ look_here 8 x (Moved t) y solid)) ∙ used_in_old a member))
      | inr other ↦ ap (λ (o : Option Extent). is_some (used_content o)) (look_there 8 x (Hole 1) (Moved t) y a refl other) ∙ used_in_old a member
    ]

-- maps

-- a content that was put elsewhere first becomes that of its handle
pub moved_map : (m : Contents) (p t : ℕ) (u : List ℕ) → Rising 8 m → 8 ≤ p → 8 ≤ t → (t ≡ p → ⊥) → content_of t m ≡ None → with_content p u (without t (without p (with_content t u m))) ≡ with_content p u m
moved_map m p t u rising low_p low_t apart none =
    let m1 = with_content t u m in
    let r1 = Rising_with 8 t u m low_t rising in
    let m2 = without p m1 in
    let r2 = Rising_without 8 p m1 r1 in
    let m3 = without t m2 in
    let r3 = Rising_without 8 t m2 r2 in
    same_contents 8 (with_content p u m3) (with_content p u m) (Rising_with 8 p u m3 low_p r3) (Rising_with 8 p u m low_p rising) (λ q.
    elim (cases_eq q p) [
      | inl is ↦ subst (λ (a : ℕ). content_of a (with_content p u m3) ≡ content_of a (with_content p u m)) (sym is) (with_here p u m3 ∙ sym (with_here p u m))
      | inr not ↦ with_there p u m3 q not ∙ elim (cases_eq q t) [
        | inl is ↦ subst (λ (a : ℕ). content_of a m3 ≡ content_of a m) (sym is) (without_here 8 t m2 r2 ∙ sym none)
        | inr other ↦ without_there t m2 q other ∙ without_there p m1 q not ∙ with_there t u m q other
      ] ∙ sym (with_there p u m q not)
    ])

-- a content whose handle is relocated gets another place: the old target is a handle for a moment, and then removed
pub repointed_map : (m : Contents) (p old t : ℕ) (v u : List ℕ) → Rising 8 m → 8 ≤ p → 8 ≤ t → 8 ≤ old → (t ≡ p → ⊥) → (old ≡ p → ⊥) → (old ≡ t → ⊥) → content_of t m ≡ None → content_of old m ≡ None → without old (with_content p u (without t (with_content old v (without p (with_content t u m))))) ≡ with_content p u m
repointed_map m p old t v u rising low_p low_t low_old apart apart_old two none none_old =
    let m1 = with_content t u m in
    let r1 = Rising_with 8 t u m low_t rising in
    let m2 = without p m1 in
    let r2 = Rising_without 8 p m1 r1 in
    let m3 = with_content old v m2 in
    let r3 = Rising_with 8 old v m2 low_old r2 in
    let m4 = without t m3 in
    let r4 = Rising_without 8 t m3 r3 in
    let m5 = with_content p u m4 in
    let r5 = Rising_with 8 p u m4 low_p r4 in
    same_contents 8 (without old m5) (with_content p u m) (Rising_without 8 old m5 r5) (Rising_with 8 p u m low_p rising) (λ q.
    elim (cases_eq q old) [
      | inl is ↦ subst (λ (a : ℕ). content_of a (without old m5) ≡ content_of a (with_content p u m)) (sym is) (without_here 8 old m5 r5 ∙ sym (with_there p u m old apart_old ∙ none_old))
      | inr not_old ↦ without_there old m5 q not_old ∙ elim (cases_eq q p) [
        | inl is ↦ subst (λ (a : ℕ). content_of a m5 ≡ content_of a (with_content p u m)) (sym is) (with_here p u m4 ∙ sym (with_here p u m))
        | inr not ↦ with_there p u m4 q not ∙ elim (cases_eq q t) [
          | inl is ↦ subst (λ (a : ℕ). content_of a m4 ≡ content_of a m) (sym is) (without_here 8 t m3 r3 ∙ sym none)
          | inr other ↦ without_there t m3 q other ∙ with_there old v m2 q not_old ∙ without_there p m1 q not ∙ with_there t u m q other
        ] ∙ sym (with_there p u m q not)
      ]
    ])

-- a relocated content is removed: its target is a handle for a moment
pub removed_map : (m : Contents) (p t : ℕ) (u : List ℕ) → Rising 8 m → 8 ≤ t → (t ≡ p → ⊥) → content_of t m ≡ None → without t (with_content t u (without p m)) ≡ without p m
removed_map m p t u rising low apart none =
    let m1 = without p m in
    let r1 = Rising_without 8 p m rising in
    let m2 = with_content t u m1 in
    let r2 = Rising_with 8 t u m1 low r1 in
    same_contents 8 (without t m2) m1 (Rising_without 8 t m2 r2) r1 (λ q. elim (cases_eq q t) [
      | inl is ↦ subst (λ (a : ℕ). content_of a (without t m2) ≡ content_of a m1) (sym is) (without_here 8 t m2 r2 ∙ sym (without_there p m t apart ∙ none))
      | inr other ↦ without_there t m2 q other ∙ with_there t u m1 q other
    ])
