-- Whole calls on a row at rest: a content more, and what follows from a row without contents or without room.
use Rattle.std.proofs.Common.{◌≡◌, ℕ, ◌+◌, ◌<◌, ◌≤◌, Bool, true, false, not, ◌||◌, cond, List, [], ◌∷◌, ◌++◌, length, Option, Some, None, is_some, refl, sym, ◌∙◌, ap, subst, inl, inr, arith, eq-eqb, ne_eqb}
use Rattle.std.proofs.lemmas.Bool.{cases_Bool, cases_eq, cases_lt, and_parts, and_from, false≢true}
use Rattle.lldb_base.specs.Contents.{content_of, with_content, atoms_for}
use Rattle.lldb_atoms.specs.Blocks.{Extent, Used, Compressed, Moved, Free, Hole, size, is_free}
use Rattle.lldb_atoms.specs.Rows.{atoms_in, extent_at, contains, targets, used_content, are_spaced, ends_free, heap}
use Rattle.lldb_blocks.specs.Laid.{Solid, AtRest, Named}
use Rattle.lldb_blocks.specs.Steps.{largest}
use Rattle.lldb_blocks.proofs.Looks.{look_low, look_here, look_there, look_longer, Solid_append, Solid_left, Solid_right, found}
use Rattle.lldb_blocks.proofs.Heaps.{at_handle, heap_at, meant, target_named, targets_append}
use Rattle.lldb_blocks.proofs.Contents.{targets_longer, heap_exchanged, heap_longer, heap_filled}
use Rattle.lldb_blocks.proofs.Rests.{spaced_less, not_last, spaced_append, ends_append, Named_same, Named_exchanged, named_used, unnamed}

pub named_of : (row : List Extent) → AtRest row → Named row
named_of row rest = record { once = rest.once; used = rest.used }

-- in a row with a content in the place of a hole each named block is used still
pub Named_filled : (x : List Extent) (u : List ℕ) (y : List Extent) → Solid x → Named (x ++ Hole (atoms_for (length u)) ∷ y) → Named (x ++ Used u ∷ y)
Named_filled x u y solid named =
    let v = x ++ Hole (atoms_for (length u)) ∷ y in
    let w = x ++ Used u ∷ y in
    let names : targets w ≡ targets v = targets_append_same x u y in
    Named_same v w names (λ t member used. elim (cases_eq t (8 + atoms_in x)) [
      | inl is ↦ subst (λ (a : ℕ). is_some (used_content (extent_at 8 w a)) ≡ true) (sym is) (ap (λ (o : Option Extent). is_some (used_content o)) (look_here 8 x (Used u) y solid))
      | inr other ↦ ap (λ (o : Option Extent). is_some (used_content o)) (look_there 8 x (Used u) (Hole (atoms_for (length u))) y t refl other) ∙ used
    ]) named
  where
    use_targets : (x : List Extent) (e : Extent) (y : List Extent) → targets (x ++ e ∷ y) ≡ targets x ++ targets (e ∷ y)
    use_targets x e y = targets_append x (e ∷ y)

    targets_append_same : (x : List Extent) (u : List ℕ) (y : List Extent) → targets (x ++ Used u ∷ y) ≡ targets (x ++ Hole (atoms_for (length u)) ∷ y)
    targets_append_same x u y = use_targets x (Used u) y ∙ sym (use_targets x (Hole (atoms_for (length u))) y)

-- a hole between rows that do not end or begin as holes is named by none
pub hole_unnamed : (x : List Extent) (s : ℕ) (y : List Extent) → Solid x → Named (x ++ Hole s ∷ y) → contains (targets (x ++ Hole s ∷ y)) (8 + atoms_in x) ≡ false
hole_unnamed x s y solid named = unnamed (x ++ Hole s ∷ y) (8 + atoms_in x) named (ap used_content (look_here 8 x (Hole s) y solid))

-- a content in a whole free block
pub made_whole : (x : List Extent) (u : List ℕ) (y : List Extent) → Solid (x ++ Free (atoms_for (length u)) ∷ y) → AtRest (x ++ Free (atoms_for (length u)) ∷ y) → AtRest (x ++ Used u ∷ y) × (heap (x ++ Used u ∷ y) ≡ with_content (8 + atoms_in x) u (heap (x ++ Free (atoms_for (length u)) ∷ y)))
made_whole x u y solid rest =
    let n = atoms_for (length u) in
    let solid_x = Solid_left x (Free n ∷ y) solid in
    let some = Solid_right x (Free n ∷ y) solid in
    let solid_now = Solid_append x (Used u ∷ y) solid_x (some.0, some.1) in
    let named = Named_exchanged x (Free n ∷ []) (Hole n ∷ []) y (refl, tt) (refl, tt) (some.0, tt) (some.0, tt) refl (named_of (x ++ Free n ∷ y) rest) in
    let now = Named_filled x u y solid_x named in
    let parts = and_parts (are_spaced false x) (are_spaced (ends_free false x) (Free n ∷ y)) (sym (spaced_append false x (Free n ∷ y)) ∙ rest.spread) in
    let rest_of = and_parts (not (ends_free false x)) (are_spaced true y) parts.1 in
    let closed : ends_free true y ≡ false = sym (ends_append false x (Free n ∷ y)) ∙ rest.closed in (
      record {
        spread = spaced_append false x (Used u ∷ y) ∙ and_from (are_spaced false x) (are_spaced (ends_free false x) (Used u ∷ y)) parts.0 (spaced_less y rest_of.1);
        closed = ends_append false x (Used u ∷ y) ∙ not_last y closed;
        once = now.once;
        used = now.used;
      },
      heap_filled x y u (8 + atoms_in x) solid_now refl (hole_unnamed x n y solid_x named)
          ∙ ap (with_content (8 + atoms_in x) u) (sym (heap_exchanged x (Free n ∷ []) (Hole n ∷ []) y (refl, tt) (refl, tt) solid (some.0, tt) refl)),
    )

-- a content in a part of a free block, whose rest stays free
pub made_part : (x : List Extent) (u : List ℕ) (r : ℕ) (y : List Extent) → 1 ≤ r → Solid (x ++ Free (atoms_for (length u) + r) ∷ y) → AtRest (x ++ Free (atoms_for (length u) + r) ∷ y) → 1 ≤ atoms_for (length u) → AtRest (x ++ Used u ∷ Free r ∷ y) × (heap (x ++ Used u ∷ Free r ∷ y) ≡ with_content (8 + atoms_in x) u (heap (x ++ Free (atoms_for (length u) + r) ∷ y)))
made_part x u r y more solid rest some_n =
    let n = atoms_for (length u) in
    let solid_x = Solid_left x (Free (n + r) ∷ y) solid in
    let some = Solid_right x (Free (n + r) ∷ y) solid in
    let solid_now = Solid_append x (Used u ∷ Free r ∷ y) solid_x (some_n, (more, some.1)) in
    let named = Named_exchanged x (Free (n + r) ∷ []) (Hole n ∷ Free r ∷ []) y (refl, tt) (refl, (refl, tt)) (some.0, tt) (some_n, (more, tt)) (omega arith) (named_of (x ++ Free (n + r) ∷ y) rest) in
    let now = Named_filled x u (Free r ∷ y) solid_x named in
    let parts = and_parts (are_spaced false x) (are_spaced (ends_free false x) (Free (n + r) ∷ y)) (sym (spaced_append false x (Free (n + r) ∷ y)) ∙ rest.spread) in
    let rest_of = and_parts (not (ends_free false x)) (are_spaced true y) parts.1 in (
      record {
        spread = spaced_append false x (Used u ∷ Free r ∷ y) ∙ and_from (are_spaced false x) (are_spaced (ends_free false x) (Used u ∷ Free r ∷ y)) parts.0 rest_of.1;
        closed = ends_append false x (Used u ∷ Free r ∷ y) ∙ sym (ends_append false x (Free (n + r) ∷ y)) ∙ rest.closed;
        once = now.once;
        used = now.used;
      },
      heap_filled x (Free r ∷ y) u (8 + atoms_in x) solid_now refl (hole_unnamed x n (Free r ∷ y) solid_x named)
          ∙ ap (with_content (8 + atoms_in x) u) (sym (heap_exchanged x (Free (n + r) ∷ []) (Hole n ∷ Free r ∷ []) y (refl, tt) (refl, (refl, tt)) solid (some_n, (more, tt)) (omega arith))),
    )

-- a content at the end
pub made_last : (x : List Extent) (u : List ℕ) → Solid x → AtRest x → 1 ≤ atoms_for (length u) → AtRest (x ++ Used u ∷ []) × (heap (x ++ Used u ∷ []) ≡ with_content (8 + atoms_in x) u (heap x))
made_last x u solid rest some =
    let n = atoms_for (length u) in
    let v = x ++ Hole n ∷ [] in
    let named_x = named_of x rest in
    let named : Named v = Named_same x v (targets_longer x (Hole n ∷ []) (refl, tt)) (λ t member used. ap is_some (used_longer x n t solid) ∙ used) named_x in
    let now = Named_filled x u [] solid named in (
      record {
        spread = spaced_append false x (Used u ∷ []) ∙ and_from (are_spaced false x) true rest.spread refl;
        closed = ends_append false x (Used u ∷ []);
        once = now.once;
        used = now.used;
      },
      heap_filled x [] u (8 + atoms_in x) (Solid_append x (Used u ∷ []) solid (some, tt)) refl (hole_unnamed x n [] solid named)
          ∙ ap (with_content (8 + atoms_in x) u) (heap_longer x (Hole n ∷ []) (refl, tt) solid (some, tt)),
    )
  where
    used_longer : (x : List Extent) (n t : ℕ) → Solid x → used_content (extent_at 8 (x ++ Hole n ∷ []) t) ≡ used_content (extent_at 8 x t)
    used_longer x n t solid = look_longer used_content x (Hole n ∷ []) 8 t (refl, tt) solid

-- a row at rest without a content is empty, so the first handle is 8

no_handle : (row : List Extent) → Solid row → heap row ≡ [] → (q : ℕ) → at_handle row q ≡ None
no_handle row solid none q = sym (heap_at row q solid) ∙ ap (content_of q) none

no_moved : (row : List Extent) → Solid row → AtRest row → heap row ≡ [] → (q t : ℕ) → extent_at 8 row q ≡ Some (Moved t) → ⊥
no_moved row solid rest none q t is =
    let empty : used_content (extent_at 8 row t) ≡ None = sym (ap (meant (contains (targets row)) (extent_at 8 row) q) is) ∙ no_handle row solid none q in
    false≢true (sym (ap is_some empty) ∙ named_used row t (named_of row rest) (target_named row q t is))

first_at : (e : Extent) (row : List Extent) → extent_at 8 (e ∷ row) 8 ≡ Some e
first_at e row = refl

behind : (e : Extent) (row : List Extent) (f t : ℕ) → Solid (e ∷ row) → (q : ℕ) × (extent_at (f + size e) row q ≡ Some (Moved t)) × (f + size e ≤ q) → (q : ℕ) × (extent_at f (e ∷ row) q ≡ Some (Moved t)) × (f ≤ q)
behind e row f t solid rest =
    let some = solid.0 in
    let from = rest.2 in
    (rest.0, ap (λ (b : Bool). cond b (Some e) (extent_at (f + size e) row rest.0)) (ne_eqb rest.0 f (λ is. absurd (omega (arith, is, from, some)))) ∙ rest.1, omega (arith, from))

-- what is named is named by a relocated block
names_from : (row : List Extent) (f t : ℕ) → Solid row → contains (targets row) t ≡ true → (q : ℕ) × (extent_at f row q ≡ Some (Moved t)) × (f ≤ q)
names_from [] f t solid member = absurd (false≢true member)
names_from (Used c ∷ row) f t solid member = behind (Used c) row f t solid (names_from row (f + size (Used c)) t solid.1 member)
names_from (Compressed c ∷ row) f t solid member = behind (Compressed c) row f t solid (names_from row (f + size (Compressed c)) t solid.1 member)
names_from (Free s ∷ row) f t solid member = behind (Free s) row f t solid (names_from row (f + s) t solid.1 member)
names_from (Hole s ∷ row) f t solid member = behind (Hole s) row f t solid (names_from row (f + s) t solid.1 member)
names_from (Moved a ∷ row) f t solid member = elim (cases_eq t a) [
  | inl is ↦ (f, ap (λ (b : Bool). cond b (Some (Moved a)) (extent_at (f + 1) row f)) (eq-eqb f f refl) ∙ ap (λ (c : ℕ). Some (Moved c)) (sym is), omega arith)
  | inr other ↦ behind (Moved a) row f t solid (names_from row (f + 1) t solid.1 (sym (ap (λ (b : Bool). b || contains (targets row) t) (ne_eqb t a other)) ∙ member))
]

pub unmoved : (row : List Extent) → Solid row → AtRest row → heap row ≡ [] → (t : ℕ) → contains (targets row) t ≡ false
unmoved row solid rest none t = elim (cases_Bool (contains (targets row) t)) [
  | inl member ↦ let from = names_from row 8 t solid member in absurd (no_moved row solid rest none from.0 t from.1)
  | inr lacks ↦ lacks
]

no_used : (row : List Extent) → Solid row → AtRest row → heap row ≡ [] → (q : ℕ) (c : List ℕ) → extent_at 8 row q ≡ Some (Used c) → ⊥
no_used row solid rest none q c is =
    let is_none : Some c ≡ None = sym (ap (λ (b : Bool). cond b None (Some c)) (unmoved row solid rest none q)) ∙ sym (ap (meant (contains (targets row)) (extent_at 8 row) q) is) ∙ no_handle row solid none q in
    absurd (cc)

pub empty_row : (row : List Extent) → Solid row → AtRest row → heap row ≡ [] → row ≡ []
empty_row [] solid rest none = refl
empty_row (Used c ∷ row) solid rest none = absurd (no_used (Used c ∷ row) solid rest none 8 c refl)
empty_row (Compressed c ∷ row) solid rest none = absurd (false≢true rest.spread)
empty_row (Moved t ∷ row) solid rest none = absurd (no_moved (Moved t ∷ row) solid rest none 8 t refl)
empty_row (Hole s ∷ row) solid rest none = absurd (false≢true rest.spread)
empty_row (Free s ∷ []) solid rest none = absurd (false≢true (sym rest.closed))
empty_row (Free s ∷ Used c ∷ row) solid rest none = absurd (no_used (Free s ∷ Used c ∷ row) solid rest none (8 + atoms_in (Free s ∷ [])) c (look_here 8 (Free s ∷ []) (Used c) row (solid.0, tt)))
empty_row (Free s ∷ Compressed c ∷ row) solid rest none = absurd (false≢true rest.spread)
empty_row (Free s ∷ Moved t ∷ row) solid rest none = absurd (no_moved (Free s ∷ Moved t ∷ row) solid rest none (8 + atoms_in (Free s ∷ [])) t (look_here 8 (Free s ∷ []) (Moved t) row (solid.0, tt)))
empty_row (Free s ∷ Free r ∷ row) solid rest none = absurd (false≢true rest.spread)
empty_row (Free s ∷ Hole r ∷ row) solid rest none = absurd (false≢true rest.spread)

later : (e : Extent) (row : List Extent) (f n : ℕ) → Solid (e ∷ row) → ((q s : ℕ) → extent_at f (e ∷ row) q ≡ Some (Free s) → s < n) → (q s : ℕ) → extent_at (f + size e) row q ≡ Some (Free s) → s < n
later e row f n solid each q s is =
    let some = solid.0 in
    elim (cases_lt q (f + size e)) [
      | inl low ↦ absurd (let none = look_low (f + size e) row q low in let two : None ≡ Some (Free s) = sym none ∙ is in cc)
      | inr high ↦ each q s (ap (λ (b : Bool). cond b (Some e) (extent_at (f + size e) row q)) (ne_eqb q f (λ same. absurd (omega (arith, same, high, some)))) ∙ is)
    ]

-- where each free block has too few atoms, so has the largest
pub largest_below : (row : List Extent) (f n : ℕ) → 1 ≤ n → Solid row → ((q s : ℕ) → extent_at f row q ≡ Some (Free s) → s < n) → largest row < n
largest_below [] f n some solid each = some
largest_below (Used c ∷ row) f n some solid each = largest_below row (f + size (Used c)) n some solid.1 (later (Used c) row f n solid each)
largest_below (Compressed c ∷ row) f n some solid each = largest_below row (f + size (Compressed c)) n some solid.1 (later (Compressed c) row f n solid each)
largest_below (Moved t ∷ row) f n some solid each = largest_below row (f + 1) n some solid.1 (later (Moved t) row f n solid each)
largest_below (Free s ∷ row) f n some solid each =
    let rest = largest_below row (f + s) n some solid.1 (later (Free s) row f n solid each) in
    let here = each f s (ap (λ (b : Bool). cond b (Some (Free s)) (extent_at (f + s) row f)) (eq-eqb f f refl)) in
    omega (arith, rest, here)
largest_below (Hole s ∷ row) f n some solid each = largest_below row (f + s) n some solid.1 (later (Hole s) row f n solid each)

-- no free block has more atoms than the largest
pub largest_most : (row : List Extent) (f q s : ℕ) → extent_at f row q ≡ Some (Free s) → s ≤ largest row
largest_most row f q s is = let parts = found f row q (Free s) is in subst (λ (r : List Extent). s ≤ largest r) (sym parts.2) (within parts.0 s parts.1)
  where
    within : (x : List Extent) (s : ℕ) (y : List Extent) → s ≤ largest (x ++ Free s ∷ y)
    within [] s y = omega arith
    within (Used c ∷ x) s y = within x s y
    within (Compressed c ∷ x) s y = within x s y
    within (Moved t ∷ x) s y = within x s y
    within (Free r ∷ x) s y = let rest = within x s y in omega (arith, rest)
    within (Hole r ∷ x) s y = within x s y

-- a row at rest round a block that is not free
pub rest_parts : (x : List Extent) (e : Extent) (y : List Extent) → is_free e ≡ false → AtRest (x ++ e ∷ y) → (are_spaced false x ≡ true) × (are_spaced false y ≡ true) × (ends_free false y ≡ false)
rest_parts x e y not_free rest =
    let parts = and_parts (are_spaced false x) (are_spaced (ends_free false x) (e ∷ y)) (sym (spaced_append false x (e ∷ y)) ∙ rest.spread) in
    (parts.0, behind_of e (ends_free false x) not_free parts.1, ap (λ (b : Bool). ends_free b y) (sym not_free) ∙ sym (ends_append false x (e ∷ y)) ∙ rest.closed)
  where
    behind_of : (e : Extent) (b : Bool) → is_free e ≡ false → are_spaced b (e ∷ y) ≡ true → are_spaced false y ≡ true
    behind_of (Used c) b not_free spread = spread
    behind_of (Compressed c) b not_free spread = absurd (false≢true spread)
    behind_of (Moved t) b not_free spread = spread
    behind_of (Free s) b not_free spread = absurd (false≢true (sym not_free))
    behind_of (Hole s) b not_free spread = absurd (false≢true spread)

-- the other way, for a content
pub rest_used : (x : List Extent) (u : List ℕ) (y : List Extent) → are_spaced false x ≡ true → are_spaced false y ≡ true → ends_free false y ≡ false → Named (x ++ Used u ∷ y) → AtRest (x ++ Used u ∷ y)
rest_used x u y spread_x spread_y closed_y named = record {
  spread = spaced_append false x (Used u ∷ y) ∙ and_from (are_spaced false x) (are_spaced (ends_free false x) (Used u ∷ y)) spread_x spread_y;
  closed = ends_append false x (Used u ∷ y) ∙ closed_y;
  once = named.once;
  used = named.used;
}

-- the other way, for a relocated block
pub rest_moved : (x : List Extent) (t : ℕ) (y : List Extent) → are_spaced false x ≡ true → are_spaced false y ≡ true → ends_free false y ≡ false → Named (x ++ Moved t ∷ y) → AtRest (x ++ Moved t ∷ y)
rest_moved x t y spread_x spread_y closed_y named = record {
  spread = spaced_append false x (Moved t ∷ y) ∙ and_from (are_spaced false x) (are_spaced (ends_free false x) (Moved t ∷ y)) spread_x spread_y;
  closed = ends_append false x (Moved t ∷ y) ∙ closed_y;
  once = named.once;
  used = named.used;
}

-- a front that ends in a content or a relocated block is as it has to be before a hole
pub spaced_behind : (x : List Extent) (e : Extent) → is_free e ≡ false → are_spaced false (e ∷ []) ≡ true → are_spaced false x ≡ true → are_spaced false (x ++ e ∷ []) ≡ true
spaced_behind x e not_free one spread = spaced_append false x (e ∷ []) ∙ and_from (are_spaced false x) (are_spaced (ends_free false x) (e ∷ [])) spread (alone e (ends_free false x) not_free one)
  where
    alone : (e : Extent) (b : Bool) → is_free e ≡ false → are_spaced false (e ∷ []) ≡ true → are_spaced b (e ∷ []) ≡ true
    alone (Used c) b not_free one = one
    alone (Compressed c) b not_free one = one
    alone (Moved t) b not_free one = one
    alone (Free s) b not_free one = absurd (false≢true (sym not_free))
    alone (Hole s) b not_free one = one
