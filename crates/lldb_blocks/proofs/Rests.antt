-- Rows between calls, and with one hole in them.
use Rattle.std.proofs.Common.{◌≡◌, ℕ, ◌+◌, ◌≤◌, ◌⊎◌, Bool, true, false, not, ◌&&◌, ◌||◌, List, [], ◌∷◌, ◌++◌, None, is_some, refl, sym, ◌∙◌, ap, subst, inl, inr, arith, append_assoc, ne_eqb}
use Rattle.std.proofs.lemmas.Bool.{cases_Bool, cases_eq, and_parts, and_from, false≢true, not-true}
use Rattle.lldb_atoms.specs.Blocks.{Extent, Used, Compressed, Moved, Free, Hole, is_free}
use Rattle.lldb_atoms.specs.Rows.{atoms_in, extent_at, contains, are_distinct, targets, used_content, are_used, are_spaced, ends_free, heap}
use Rattle.lldb_blocks.specs.Laid.{Solid, Lays, AtRest, Named}
use Rattle.lldb_blocks.specs.Steps.{begins_free, TakesBehind, TakesBefore, GivesUp, Settled}
use Rattle.lldb_blocks.proofs.Chains.{has_head, has_rest}
use Rattle.lldb_blocks.proofs.Looks.{look_longer, look_exchanged, Quiet, Solid_left, Solid_right, atoms_append}
use Rattle.lldb_blocks.proofs.Contents.{kept, used_kept, targets_exchanged, targets_longer, heap_exchanged, heap_longer}

and_assoc : (a b c : Bool) → ((a && b) && c) ≡ (a && (b && c))
and_assoc true b c = refl
and_assoc false b c = refl

-- rows one behind the other
pub spaced_append : (b : Bool) (x y : List Extent) → are_spaced b (x ++ y) ≡ (are_spaced b x && are_spaced (ends_free b x) y)
spaced_append b [] y = refl
spaced_append b (Used c ∷ x) y = spaced_append false x y
spaced_append b (Compressed c ∷ x) y = refl
spaced_append b (Moved t ∷ x) y = spaced_append false x y
spaced_append b (Free s ∷ x) y = ap (λ (r : Bool). not b && r) (spaced_append true x y) ∙ sym (and_assoc (not b) (are_spaced true x) (are_spaced (ends_free true x) y))
spaced_append b (Hole s ∷ x) y = refl

pub ends_append : (b : Bool) (x y : List Extent) → ends_free b (x ++ y) ≡ ends_free (ends_free b x) y
ends_append b [] y = refl
ends_append b (e ∷ x) y = ends_append (is_free e) x y

-- what stands before matters less
pub spaced_less : (y : List Extent) → are_spaced true y ≡ true → are_spaced false y ≡ true
spaced_less [] spread = refl
spaced_less (Used c ∷ y) spread = spread
spaced_less (Compressed c ∷ y) spread = spread
spaced_less (Moved t ∷ y) spread = spread
spaced_less (Free s ∷ y) spread = absurd (false≢true spread)
spaced_less (Hole s ∷ y) spread = spread

pub spaced_more : (y : List Extent) → begins_free y ≡ false → are_spaced false y ≡ true → are_spaced true y ≡ true
spaced_more [] other spread = refl
spaced_more (Used c ∷ y) other spread = spread
spaced_more (Compressed c ∷ y) other spread = spread
spaced_more (Moved t ∷ y) other spread = spread
spaced_more (Free s ∷ y) other spread = absurd (false≢true (sym other))
spaced_more (Hole s ∷ y) other spread = spread

-- a row ends in a free block, or does not
pub back_cases : (x : List Extent) → (ends_free false x ≡ false) ⊎ ((u : List Extent) × (s : ℕ) × (x ≡ u ++ Free s ∷ []))
back_cases [] = inl refl
back_cases (e ∷ x) = elim (back_cases x) [
  | inr ends ↦ inr (e ∷ ends.0, ends.1, ap (λ (r : List Extent). e ∷ r) ends.2)
  | inl other ↦ last_one e x other
]
  where
    last_one : (e : Extent) (x : List Extent) → ends_free false x ≡ false → (ends_free false (e ∷ x) ≡ false) ⊎ ((u : List Extent) × (s : ℕ) × (e ∷ x ≡ u ++ Free s ∷ []))
    last_one (Used c) x other = inl other
    last_one (Compressed c) x other = inl other
    last_one (Moved t) x other = inl other
    last_one (Hole s) x other = inl other
    last_one (Free s) [] other = inr ([], s, refl)
    last_one (Free s) (d ∷ x) other = inl other

-- what relocated blocks name, in another row

same_used : (v w : List Extent) (ts : List ℕ) → ((t : ℕ) → contains ts t ≡ true → is_some (used_content (extent_at 8 v t)) ≡ true → is_some (used_content (extent_at 8 w t)) ≡ true) → are_used v ts ≡ true → are_used w ts ≡ true
same_used v w [] same used = refl
same_used v w (t ∷ ts) same used =
    let two = and_parts (is_some (used_content (extent_at 8 v t))) (are_used v ts) used in
    and_from (is_some (used_content (extent_at 8 w t))) (are_used w ts) (same t (has_head t ts) two.0) (same_used v w ts (λ q member. same q (has_rest t ts q member)) two.1)

pub Named_same : (v w : List Extent) → targets w ≡ targets v → ((t : ℕ) → contains (targets v) t ≡ true → is_some (used_content (extent_at 8 v t)) ≡ true → is_some (used_content (extent_at 8 w t)) ≡ true) → Named v → Named w
Named_same v w names same named = record {
  once = ap are_distinct names ∙ named.once;
  used = subst (λ (ts : List ℕ). are_used w ts ≡ true) (sym names) (same_used v w (targets v) same named.used);
}

-- a named atom is that of a used block
pub named_used : (v : List Extent) (t : ℕ) → Named v → contains (targets v) t ≡ true → is_some (used_content (extent_at 8 v t)) ≡ true
named_used v t named member = at_each (targets v) named.used member
  where
    at_each : (ts : List ℕ) → are_used v ts ≡ true → contains ts t ≡ true → is_some (used_content (extent_at 8 v t)) ≡ true
    at_each [] used member = absurd (false≢true member)
    at_each (n ∷ ts) used member =
        let two = and_parts (is_some (used_content (extent_at 8 v n))) (are_used v ts) used in
        elim (cases_eq t n) [
          | inl is ↦ subst (λ (a : ℕ). is_some (used_content (extent_at 8 v a)) ≡ true) (sym is) two.0
          | inr other ↦ at_each ts two.1 (sym (ap (λ (b : Bool). b || contains ts t) (ne_eqb t n other)) ∙ member)
        ]

-- an atom where no used block stands is not named
pub unnamed : (v : List Extent) (t : ℕ) → Named v → used_content (extent_at 8 v t) ≡ None → contains (targets v) t ≡ false
unnamed v t named none = elim (cases_Bool (contains (targets v) t)) [
  | inl member ↦ absurd (false≢true (sym (ap is_some none) ∙ named_used v t named member))
  | inr lacks ↦ lacks
]

pub Named_exchanged : (x m k y : List Extent) → Quiet kept m → Quiet kept k → Solid m → Solid k → atoms_in m ≡ atoms_in k → Named (x ++ (m ++ y)) → Named (x ++ (k ++ y))
Named_exchanged x m k y quiet_m quiet_k solid_m solid_k same named =
    Named_same (x ++ (m ++ y)) (x ++ (k ++ y)) (targets_exchanged x k m y quiet_k quiet_m)
    (λ t member used. sym (ap is_some (used_kept (extent_at 8 (x ++ (m ++ y)) t) ∙ ap used_content (look_exchanged kept x m k y 8 t quiet_m quiet_k solid_m solid_k same) ∙ sym (used_kept (extent_at 8 (x ++ (k ++ y)) t)))) ∙ used) named

pub Named_shorter : (x m : List Extent) → Quiet kept m → Solid x → Named (x ++ m) → Named x
Named_shorter x m quiet solid named =
    Named_same (x ++ m) x (sym (targets_longer x m quiet))
    (λ t member used. sym (ap is_some (used_kept (extent_at 8 (x ++ m) t) ∙ ap used_content (look_longer kept x m 8 t quiet solid) ∙ sym (used_kept (extent_at 8 x t)))) ∙ used) named

-- a hole is given up

-- the last is not free, whatever stood before the row
ends_any : (b : Bool) (e : Extent) (y : List Extent) → ends_free false (e ∷ y) ≡ false → ends_free b (e ∷ y) ≡ false
ends_any b e y closed = closed

pub rest_freed : (x : List Extent) (s : ℕ) (e : Extent) (y : List Extent) → 1 ≤ s → are_spaced false x ≡ true → ends_free false x ≡ false → are_spaced true (e ∷ y) ≡ true → ends_free false (e ∷ y) ≡ false → Named (x ++ Hole s ∷ e ∷ y) → AtRest (x ++ Free s ∷ e ∷ y)
rest_freed x s e y some spread_x closed_x spread_y closed_y named =
    let now = Named_exchanged x (Hole s ∷ []) (Free s ∷ []) (e ∷ y) (refl, tt) (refl, tt) (some, tt) (some, tt) refl named in
    record {
      spread = spaced_append false x (Free s ∷ e ∷ y) ∙ and_from (are_spaced false x) (are_spaced (ends_free false x) (Free s ∷ e ∷ y)) spread_x (ap (λ (b : Bool). are_spaced b (Free s ∷ e ∷ y)) closed_x ∙ spread_y);
      closed = ends_append false x (Free s ∷ e ∷ y) ∙ closed_y;
      once = now.once;
      used = now.used;
    }

pub rest_cut : (x : List Extent) (s : ℕ) → Solid x → are_spaced false x ≡ true → ends_free false x ≡ false → Named (x ++ Hole s ∷ []) → AtRest x
rest_cut x s solid spread closed named =
    let now = Named_shorter x (Hole s ∷ []) (refl, tt) solid named in
    record { spread = spread; closed = closed; once = now.once; used = now.used }

-- a row with one hole, whose neighbours are not free
record Alone (at total : ℕ) (d : List ℕ) (old : List Extent) : Type 0 where
  x : List Extent
  y : List Extent
  place : at ≡ 8 + atoms_in x
  lays : Lays d (x ++ Hole total ∷ y)
  spread_x : are_spaced false x ≡ true
  closed_x : ends_free false x ≡ false
  spread_y : are_spaced true y ≡ true
  closed_y : ends_free false y ≡ false
  named : Named (x ++ Hole total ∷ y)
  heap_is : heap (x ++ Hole total ∷ y) ≡ heap old
  used_are : (q : ℕ) → used_content (extent_at 8 (x ++ Hole total ∷ y) q) ≡ used_content (extent_at 8 old q)
  targets_are : targets (x ++ Hole total ∷ y) ≡ targets old
  atoms_are : atoms_in (x ++ Hole total ∷ y) ≡ atoms_in old

-- the same where only the one behind is not free
record Before (at total : ℕ) (d : List ℕ) (old : List Extent) (x : List Extent) : Type 0 where
  y : List Extent
  lays : Lays d (x ++ Hole total ∷ y)
  spread_y : are_spaced true y ≡ true
  closed_y : ends_free false y ≡ false
  named : Named (x ++ Hole total ∷ y)
  heap_is : heap (x ++ Hole total ∷ y) ≡ heap old
  used_are : (q : ℕ) → used_content (extent_at 8 (x ++ Hole total ∷ y) q) ≡ used_content (extent_at 8 old q)
  targets_are : targets (x ++ Hole total ∷ y) ≡ targets old
  atoms_are : atoms_in (x ++ Hole total ∷ y) ≡ atoms_in old

pub not_last : (y : List Extent) → ends_free true y ≡ false → ends_free false y ≡ false
not_last [] closed = refl
not_last (e ∷ y) closed = closed

taken_behind : (at s total : ℕ) (c d : List ℕ) (x y : List Extent) → TakesBehind at s total c d → at ≡ 8 + atoms_in x → Lays c (x ++ Hole s ∷ y) → are_spaced false y ≡ true → ends_free false y ≡ false → Named (x ++ Hole s ∷ y) → Before at total d (x ++ Hole s ∷ y) x
taken_behind at s total c d x [] takes place l spread closed named =
    let r = takes.other x [] place refl refl l in
    subst (λ (k : ℕ). Before at k d (x ++ Hole s ∷ []) x) (sym r.0)
    (record { y = []; lays = subst (λ (k : ℕ). Lays d (x ++ Hole k ∷ [])) r.0 r.1; spread_y = refl; closed_y = refl; named = named; heap_is = refl; used_are = λ q. refl; targets_are = refl; atoms_are = refl })
taken_behind at s total c d x (Used u ∷ y) takes place l spread closed named =
    let r = takes.other x (Used u ∷ y) place refl spread l in
    subst (λ (k : ℕ). Before at k d (x ++ Hole s ∷ Used u ∷ y) x) (sym r.0)
    (record { y = Used u ∷ y; lays = subst (λ (k : ℕ). Lays d (x ++ Hole k ∷ Used u ∷ y)) r.0 r.1; spread_y = spread; closed_y = closed; named = named; heap_is = refl; used_are = λ q. refl; targets_are = refl; atoms_are = refl })
taken_behind at s total c d x (Compressed u ∷ y) takes place l spread closed named = absurd (false≢true spread)
taken_behind at s total c d x (Moved t ∷ y) takes place l spread closed named =
    let r = takes.other x (Moved t ∷ y) place refl spread l in
    subst (λ (k : ℕ). Before at k d (x ++ Hole s ∷ Moved t ∷ y) x) (sym r.0)
    (record { y = Moved t ∷ y; lays = subst (λ (k : ℕ). Lays d (x ++ Hole k ∷ Moved t ∷ y)) r.0 r.1; spread_y = spread; closed_y = closed; named = named; heap_is = refl; used_are = λ q. refl; targets_are = refl; atoms_are = refl })
taken_behind at s total c d x (Free t ∷ y) takes place l spread closed named =
    let r = takes.free x y t place l in
    let solid = Solid_right x (Hole s ∷ Free t ∷ y) l.spells.solid in
    let some = solid.0 in
    let more = solid.1.0 in
    let joined : 1 ≤ s + t = omega (arith, some) in
    subst (λ (k : ℕ). Before at k d (x ++ Hole s ∷ Free t ∷ y) x) (sym r.0)
    (record {
      y = y;
      lays = subst (λ (k : ℕ). Lays d (x ++ Hole k ∷ y)) r.0 r.1;
      spread_y = spread;
      closed_y = not_last y closed;
      named = Named_exchanged x (Hole s ∷ Free t ∷ []) (Hole (s + t) ∷ []) y (refl, (refl, tt)) (refl, tt) (some, (more, tt)) (joined, tt) (omega arith) named;
      heap_is = sym (heap_exchanged x (Hole s ∷ Free t ∷ []) (Hole (s + t) ∷ []) y (refl, (refl, tt)) (refl, tt) l.spells.solid (joined, tt) (omega arith));
      used_are = λ q. sym (look_exchanged used_content x (Hole s ∷ Free t ∷ []) (Hole (s + t) ∷ []) y 8 q (refl, (refl, tt)) (refl, tt) (some, (more, tt)) (joined, tt) (omega arith));
      targets_are = sym (targets_exchanged x (Hole s ∷ Free t ∷ []) (Hole (s + t) ∷ []) y (refl, (refl, tt)) (refl, tt));
      atoms_are = atoms_append x (Hole (s + t) ∷ y) ∙ (let e = atoms_append x (Hole s ∷ Free t ∷ y) in omega (arith, e));
    })
taken_behind at s total c d x (Hole t ∷ y) takes place l spread closed named = absurd (false≢true spread)

taken_before : (at s from total : ℕ) (c d : List ℕ) (x : List Extent) (old : List Extent) → TakesBefore at s from total c d → at ≡ 8 + atoms_in x → are_spaced false x ≡ true → Before at s c old x → Alone from total d old
taken_before at s from total c d x old takes place spread b = elim (back_cases x) [
  | inl other ↦
      let r = takes.other x b.y place other spread b.lays in
      subst (λ (k : ℕ). Alone from k d old) (sym r.1)
      (record {
        x = x;
        y = b.y;
        place = r.0 ∙ place;
        lays = subst (λ (k : ℕ). Lays d (x ++ Hole k ∷ b.y)) r.1 r.2;
        spread_x = spread;
        closed_x = other;
        spread_y = b.spread_y;
        closed_y = b.closed_y;
        named = b.named;
        heap_is = b.heap_is;
        used_are = b.used_are;
        targets_are = b.targets_are;
        atoms_are = b.atoms_are;
      })
  | inr ends ↦ merged ends.0 ends.1 ends.2
]
  where
    merged : (u : List Extent) (t : ℕ) → x ≡ u ++ Free t ∷ [] → Alone from total d old
    merged u t is =
        let here = subst (λ (v : List Extent). Lays c (v ++ Hole s ∷ b.y)) is b.lays in
        let r = takes.free u b.y t (place ∙ ap (λ (v : List Extent). 8 + atoms_in v) is) here in
        let row_is : x ++ Hole s ∷ b.y ≡ u ++ (Free t ∷ Hole s ∷ b.y) = ap (λ (v : List Extent). v ++ Hole s ∷ b.y) is ∙ append_assoc u (Free t ∷ []) (Hole s ∷ b.y) in
        let solid = Solid_right u (Free t ∷ Hole s ∷ b.y) (subst (λ (v : List Extent). Solid v) row_is b.lays.spells.solid) in
        let some = solid.0 in
        let joined : 1 ≤ t + s = omega (arith, some) in
        let parts = and_parts (are_spaced false u) (are_spaced (ends_free false u) (Free t ∷ [])) (sym (spaced_append false u (Free t ∷ [])) ∙ ap (are_spaced false) (sym is) ∙ spread) in
        let open_ = and_parts (not (ends_free false u)) true parts.1 in
        subst (λ (k : ℕ). Alone from k d old) (sym r.1)
        (record {
          x = u;
          y = b.y;
          place = r.0;
          lays = subst (λ (k : ℕ). Lays d (u ++ Hole k ∷ b.y)) r.1 r.2;
          spread_x = parts.0;
          closed_x = not-true (ends_free false u) open_.0;
          spread_y = b.spread_y;
          closed_y = b.closed_y;
          named = Named_exchanged u (Free t ∷ Hole s ∷ []) (Hole (t + s) ∷ []) b.y (refl, (refl, tt)) (refl, tt) (some, (solid.1.0, tt)) (joined, tt) (omega arith) (subst (λ (v : List Extent). Named v) row_is b.named);
          heap_is = sym (heap_exchanged u (Free t ∷ Hole s ∷ []) (Hole (t + s) ∷ []) b.y (refl, (refl, tt)) (refl, tt) (subst (λ (v : List Extent). Solid v) row_is b.lays.spells.solid) (joined, tt) (omega arith)) ∙ ap heap (sym row_is) ∙ b.heap_is;
          used_are = λ q. sym (look_exchanged used_content u (Free t ∷ Hole s ∷ []) (Hole (t + s) ∷ []) b.y 8 q (refl, (refl, tt)) (refl, tt) (some, (solid.1.0, tt)) (joined, tt) (omega arith)) ∙ ap (λ (v : List Extent). used_content (extent_at 8 v q)) (sym row_is) ∙ b.used_are q;
          targets_are = sym (targets_exchanged u (Free t ∷ Hole s ∷ []) (Hole (t + s) ∷ []) b.y (refl, (refl, tt)) (refl, tt)) ∙ ap targets (sym row_is) ∙ b.targets_are;
          atoms_are = atoms_append u (Hole (t + s) ∷ b.y) ∙ (let e = atoms_append u (Free t ∷ Hole s ∷ b.y) in omega (arith, e)) ∙ ap atoms_in (sym row_is) ∙ b.atoms_are;
        })

given_up : (at s : ℕ) (c d : List ℕ) (old : List Extent) → GivesUp at s c d → Alone at s c old → Settled d old
given_up at s c d old gives a = last a.x a.y a.place a.lays a.spread_x a.closed_x a.spread_y a.closed_y a.named a.heap_is a.used_are a.targets_are a.atoms_are
  where
    last : (x y : List Extent) → at ≡ 8 + atoms_in x → Lays c (x ++ Hole s ∷ y) → are_spaced false x ≡ true → ends_free false x ≡ false → are_spaced true y ≡ true → ends_free false y ≡ false → Named (x ++ Hole s ∷ y) → heap (x ++ Hole s ∷ y) ≡ heap old → ((q : ℕ) → used_content (extent_at 8 (x ++ Hole s ∷ y) q) ≡ used_content (extent_at 8 old q)) → targets (x ++ Hole s ∷ y) ≡ targets old → atoms_in (x ++ Hole s ∷ y) ≡ atoms_in old → Settled d old
    last x [] place l spread_x closed_x spread_y closed_y named heap_is used_are targets_are atoms_are =
        let solid = Solid_left x (Hole s ∷ []) l.spells.solid in
        let some = Solid_right x (Hole s ∷ []) l.spells.solid in
        record {
          row = x;
          lays = gives.end x place l;
          rest = rest_cut x s solid spread_x closed_x named;
          heap_is = sym (heap_longer x (Hole s ∷ []) (refl, tt) solid some) ∙ heap_is;
          used_are = λ q. sym (look_longer used_content x (Hole s ∷ []) 8 q (refl, tt) solid) ∙ used_are q;
          targets_are = sym (targets_longer x (Hole s ∷ []) (refl, tt)) ∙ targets_are;
          atoms_are = let e = atoms_append x (Hole s ∷ []) in omega (arith, e, atoms_are);
        }
    last x (e ∷ y) place l spread_x closed_x spread_y closed_y named heap_is used_are targets_are atoms_are =
        let some = Solid_right x (Hole s ∷ e ∷ y) l.spells.solid in
        record {
          row = x ++ Free s ∷ e ∷ y;
          lays = gives.within x e y place l;
          rest = rest_freed x s e y some.0 spread_x closed_x spread_y closed_y named;
          heap_is = sym (heap_exchanged x (Hole s ∷ []) (Free s ∷ []) (e ∷ y) (refl, tt) (refl, tt) l.spells.solid (some.0, tt) refl) ∙ heap_is;
          used_are = λ q. sym (look_exchanged used_content x (Hole s ∷ []) (Free s ∷ []) (e ∷ y) 8 q (refl, tt) (refl, tt) (some.0, tt) (some.0, tt) refl) ∙ used_are q;
          targets_are = sym (targets_exchanged x (Hole s ∷ []) (Free s ∷ []) (e ∷ y) (refl, tt) (refl, tt)) ∙ targets_are;
          atoms_are = let a = atoms_append x (Hole s ∷ e ∷ y) in let b = atoms_append x (Free s ∷ e ∷ y) in omega (arith, a, b, atoms_are);
        }

-- a hole is given up: merged with the free block behind it and with the one before it, and then cut off or put into a list
pub released : (at s from one two : ℕ) (c c1 c2 d : List ℕ) (x y : List Extent) → TakesBehind at s one c c1 → TakesBefore at one from two c1 c2 → GivesUp from two c2 d → at ≡ 8 + atoms_in x → Lays c (x ++ Hole s ∷ y) → are_spaced false x ≡ true → are_spaced false y ≡ true → ends_free false y ≡ false → Named (x ++ Hole s ∷ y) → Settled d (x ++ Hole s ∷ y)
released at s from one two c c1 c2 d x y behind before gives place l spread_x spread_y closed_y named =
    given_up from two c2 d (x ++ Hole s ∷ y) gives
    (taken_before at one from two c1 c2 x (x ++ Hole s ∷ y) before place spread_x
    (taken_behind at s one c c1 x y behind place l spread_y closed_y named))
