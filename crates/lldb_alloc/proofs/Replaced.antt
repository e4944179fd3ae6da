-- A content is replaced: in its place, or by one elsewhere that its handle names.
use Rattle.std.proofs.Common.{◌≡◌, ℕ, ◌+◌, ◌-◌, ◌*◌, ◌<◌, ◌≤◌, ◌^◌, Bool, true, false, cond, eqb, List, [], ◌∷◌, ◌++◌, length, Option, Some, None, IfSome, option_map, refl, sym, ◌∙◌, ap, subst, inl, inr, arith, append_assoc, eq-eqb, ne_eqb}
use Rattle.std.proofs.lemmas.Bool.{cases_eq, cond-true, cond-false, false≢true}
use Rattle.std.specs.Option.{IsSomeAnd}
use Rattle.std.specs.Prelude.{MatchBool}
use Rattle.lldb_base.specs.Batch.{put}
use Rattle.lldb_base.specs.Contents.{Contents, content_of, with_content, without, atoms_for}
use Rattle.lldb_base.specs.Heaps.{IsGrown, IsFull}
use Rattle.lldb_atoms.specs.declared.block.Block.TheVariants as block
use Rattle.lldb_atoms.specs.Heads.{head_of}
use Rattle.lldb_atoms.specs.Blocks.{Extent, Used, Moved, Hole, is_free}
use Rattle.lldb_atoms.specs.Rows.{atoms_in, extent_at, contains, targets, are_spaced, ends_free, heap}
use Rattle.lldb_atoms.specs.Sound.{heap_in}
use Rattle.lldb_atoms.proofs.Says.{atoms_some}
use Rattle.lldb_blocks.specs.Laid.{Solid, Lays, AtRest, Named}
use Rattle.lldb_blocks.specs.Steps.{Settled}
use Rattle.lldb_blocks.proofs.Looks.{Quiet, atoms_append, found, look_there, look_exchanged, Solid_left, Solid_right}
use Rattle.lldb_blocks.proofs.Lays.{lays_emptied, lays_parted, lays_filled}
use Rattle.lldb_blocks.proofs.Heaps.{heap_at, meant, Rising_heap, targets_append, target_named}
use Rattle.lldb_blocks.proofs.Maps.{with_there, with_here}
use Rattle.lldb_blocks.proofs.Contents.{kept, targets_exchanged, heap_exchanged, heap_emptied, heap_pointed, heap_unpointed, others_named}
use Rattle.lldb_blocks.proofs.Rests.{Named_exchanged}
use Rattle.lldb_blocks.proofs.Readings.{moved_spelled}
use Rattle.lldb_blocks.proofs.Calls.{named_of, hole_unnamed, rest_parts, rest_used, rest_moved, spaced_behind}
use Rattle.lldb_blocks.proofs.Moves.{Named_emptied, Named_replaced, heap_replaced, heap_target_replaced, Named_pointed, Named_unpointed, moved_map, repointed_map}
use Rattle.lldb_blocks.proofs.Bridges.{lays_heap}
use Rattle.lldb_alloc.specs.Changes.{Turns, WritesUsed}
use Rattle.lldb_alloc.specs.Releases.{LacksGap, Releases}
use Rattle.lldb_alloc.specs.Room.{most_free_told}
use Rattle.lldb_alloc.specs.Told.{heap_told}
use Rattle.lldb_alloc.specs.Handles.{HasSite, LacksHandle}
use Rattle.lldb_alloc.specs.Places.{Placed, Places, Points, Trims, holes_of, Rewritten, Rewrites, LacksUsedAtoms, Replaces, ReplacesIn, HasFewer}
use Rattle.lldb_alloc.specs.declared.site.Site.TheVariants as site
use Rattle.lldb_alloc.proofs.ToldHeaps.{no_contents}
use Rattle.lldb_alloc.proofs.Created.{by_row}
use Rattle.lldb_alloc.proofs.Sites.{handle_unnamed}
use Rattle.lldb_alloc.proofs.Removed.{Split, split, gap_stands, own_removed, by_live}
use Rattle.lldb_alloc.proofs.Placed.{kept_says}

-- a relocated block is written into a hole of one atom
pub pointed_told : (told after : Option (List ℕ)) (at t : ℕ) → t < 2 ^ 56 → after ≡ option_map (put (16 * at) (head_of (block.Relocated t))) told → Turns told after (Points at t)
pointed_told None after at t small is = tt
pointed_told (Some c) after at t small is = subst (λ (o : Option (List ℕ)). IsSomeAnd o (λ d. Points at t c d)) (sym is)
    (λ x y place l. lays_filled c x (Moved t) y at (head_of (block.Relocated t)) place refl (moved_spelled 0 0 t small) l)

-- what is left over is given up, if anything
pub trims_none : (told : Option (List ℕ)) (at atoms : ℕ) → atoms ≡ 0 → Turns told told (Trims at atoms)
trims_none None at atoms none = tt
trims_none (Some c) at atoms none = subst (λ (b : Bool). MatchBool b (c ≡ c) (Releases at atoms c c)) (sym (eq-eqb atoms 0 none)) refl

pub trims_some : (told after : Option (List ℕ)) (at atoms : ℕ) → (atoms ≡ 0 → ⊥) → Turns told after (Releases at atoms) → Turns told after (Trims at atoms)
trims_some None after at atoms some turns = tt
trims_some (Some c) None at atoms some turns = turns
trims_some (Some c) (Some d) at atoms some turns = subst (λ (b : Bool). MatchBool b (d ≡ c) (Releases at atoms c d)) (sym (ne_eqb atoms 0 some)) turns

holes_none : (r : ℕ) → r ≡ 0 → holes_of r ≡ []
holes_none r is = cond-true (eqb r 0) [] (Hole r ∷ []) (eq-eqb r 0 is)

holes_some : (r : ℕ) → (r ≡ 0 → ⊥) → holes_of r ≡ Hole r ∷ []
holes_some r not = cond-false (eqb r 0) [] (Hole r ∷ []) (ne_eqb r 0 not)

holes_quiet : (r : ℕ) → Quiet kept (holes_of r) × Solid (holes_of r) × (atoms_in (holes_of r) ≡ r)
holes_quiet r = elim (cases_eq r 0) [
  | inl none ↦ subst (λ (z : List Extent). Quiet kept z × Solid z × (atoms_in z ≡ r)) (sym (holes_none r none)) (tt, tt, sym none)
  | inr some ↦ subst (λ (z : List Extent). Quiet kept z × Solid z × (atoms_in z ≡ r)) (sym (holes_some r some)) ((refl, tt), (omega (arith, some), tt), omega arith)
]

-- a hole in two, if more than one part is wanted
in_parts : (c : List ℕ) (x y : List Extent) (a n r : ℕ) → 1 ≤ n → a ≡ n + r → Lays c (x ++ Hole a ∷ y) → Lays c (x ++ Hole n ∷ (holes_of r ++ y))
in_parts c x y a n r some sum l = elim (cases_eq r 0) [
  | inl none ↦
      let same : a ≡ n = omega (arith, sum, none) in
      subst (λ (z : List Extent). Lays c (x ++ Hole n ∷ (z ++ y))) (sym (holes_none r none)) (subst (λ (k : ℕ). Lays c (x ++ Hole k ∷ y)) same l)
  | inr more ↦
      subst (λ (z : List Extent). Lays c (x ++ Hole n ∷ (z ++ y))) (sym (holes_some r more))
      (lays_parted c x n r y some (omega (arith, more)) (subst (λ (k : ℕ). Lays c (x ++ Hole k ∷ y)) sum l))
]

place_behind : (x : List Extent) (e : Extent) (at n : ℕ) → at ≡ 8 + atoms_in x → atoms_in (e ∷ []) ≡ n → at + n ≡ 8 + atoms_in (x ++ e ∷ [])
place_behind x e at n place long = let all = atoms_append x (e ∷ []) in omega (arith, place, all, long)

-- a row is at rest again once what is left over behind a block is given up
trimmed : (c d : List ℕ) (x : List Extent) (e : Extent) (r : ℕ) (y : List Extent) (at : ℕ) → is_free e ≡ false → are_spaced false (e ∷ []) ≡ true → at ≡ 8 + atoms_in (x ++ e ∷ []) → Lays c (x ++ e ∷ (holes_of r ++ y)) → Trims at r c d → are_spaced false x ≡ true → are_spaced false y ≡ true → ends_free false y ≡ false → Named (x ++ e ∷ (holes_of r ++ y)) → (Named (x ++ e ∷ y) → AtRest (x ++ e ∷ y)) → Settled d (x ++ e ∷ (holes_of r ++ y))
trimmed c d x e r y at known one place l trims spread_x spread_y closed named rests = elim (cases_eq r 0) [
  | inl none ↦
      let hs : holes_of r ≡ [] = holes_none r none in
      let same : d ≡ c = subst (λ (b : Bool). MatchBool b (d ≡ c) (Releases at r c d)) (eq-eqb r 0 none) trims in
      subst (λ (z : List Extent). Settled d (x ++ e ∷ (z ++ y))) (sym hs) (record {
        row = x ++ e ∷ y;
        lays = subst (λ (b : List ℕ). Lays b (x ++ e ∷ y)) (sym same) (subst (λ (z : List Extent). Lays c (x ++ e ∷ (z ++ y))) hs l);
        rest = rests (subst (λ (z : List Extent). Named (x ++ e ∷ (z ++ y))) hs named);
        heap_is = refl;
        used_are = λ a. refl;
        targets_are = refl;
        atoms_are = omega arith;
      })
  | inr some ↦
      let hs : holes_of r ≡ Hole r ∷ [] = holes_some r some in
      let releases : Releases at r c d = subst (λ (b : Bool). MatchBool b (d ≡ c) (Releases at r c d)) (ne_eqb r 0 some) trims in
      let flat : (x ++ e ∷ []) ++ Hole r ∷ y ≡ x ++ e ∷ Hole r ∷ y = append_assoc x (e ∷ []) (Hole r ∷ y) in
      subst (λ (z : List Extent). Settled d (x ++ e ∷ (z ++ y))) (sym hs)
      (subst (λ (z : List Extent). Settled d z) flat
      (releases (x ++ e ∷ []) y place
      (subst (λ (z : List Extent). Lays c z) (sym flat) (subst (λ (z : List Extent). Lays c (x ++ e ∷ (z ++ y))) hs l))
      (spaced_behind x e known one spread_x) spread_y closed
      (subst (λ (z : List Extent). Named z) (sym flat) (subst (λ (z : List Extent). Named (x ++ e ∷ (z ++ y))) hs named))))
]

-- what is left over can be given up
trim_stands : (c : List ℕ) (x : List Extent) (e : Extent) (r : ℕ) (y : List Extent) (at : ℕ) → is_free e ≡ false → are_spaced false (e ∷ []) ≡ true → at ≡ 8 + atoms_in (x ++ e ∷ []) → Lays c (x ++ e ∷ (holes_of r ++ y)) → are_spaced false x ≡ true → are_spaced false y ≡ true → (r ≡ 0 → ⊥) → LacksGap at r c → ⊥
trim_stands c x e r y at known one place l spread_x spread_y some lacks =
    let flat : (x ++ e ∷ []) ++ Hole r ∷ y ≡ x ++ e ∷ Hole r ∷ y = append_assoc x (e ∷ []) (Hole r ∷ y) in
    lacks (x ++ e ∷ []) y place (spaced_behind x e known one spread_x) spread_y
    (subst (λ (z : List Extent). Lays c z) (sym flat) (subst (λ (z : List Extent). Lays c (x ++ e ∷ (z ++ y))) (holes_some r some) l))

-- a content over another that takes as many atoms or more
record Over (c d : List ℕ) (row : List Extent) (at atoms : ℕ) (u v : List ℕ) : Type 0 where
  pub cut : Split c row at (Used v)
  pub sum : atoms_for (length v) ≡ atoms_for (length u) + (atoms - atoms_for (length u))
  pub lays : Lays d (cut.x ++ Used u ∷ (holes_of (atoms - atoms_for (length u)) ++ cut.y))

over : (c d : List ℕ) (row : List Extent) (at atoms : ℕ) (u v : List ℕ) → Lays c row → AtRest row → extent_at 8 row at ≡ Some (Used v) → atoms ≡ atoms_for (length v) → atoms_for (length u) ≤ atoms → WritesUsed at u c d → Over c d row at atoms u v
over c d row at atoms u v l rest here is room w =
    let s = split c row at (Used v) l rest here in
    let n : ℕ = atoms_for (length u) in
    let sum : atoms_for (length v) ≡ n + (atoms - n) = omega (arith, is, room) in
    let hole : Lays c (s.x ++ Hole n ∷ (holes_of (atoms - n) ++ s.y)) = in_parts c s.x s.y (atoms_for (length v)) n (atoms - n) (atoms_some (length u)) sum (lays_emptied c s.x (Used v) s.y refl s.lays) in
    record {
      cut = s;
      sum = sum;
      lays = subst (λ (b : List ℕ). Lays b (s.x ++ Used u ∷ (holes_of (atoms - n) ++ s.y))) (sym w.2) (lays_filled c s.x (Used u) (holes_of (atoms - n) ++ s.y) at w.0 s.place refl w.1 hole);
    }

rewritten : (c d e : List ℕ) (row : List Extent) (at atoms : ℕ) (u v : List ℕ) → Lays c row → AtRest row → extent_at 8 row at ≡ Some (Used v) → atoms ≡ atoms_for (length v) → atoms_for (length u) ≤ atoms → WritesUsed at u c d → Trims (at + atoms_for (length u)) (atoms - atoms_for (length u)) d e → Rewritten e row at u
rewritten c d e row at atoms u v l rest here is room w trims =
    let o = over c d row at atoms u v l rest here is room w in
    let s = o.cut in
    let x : List Extent = s.x in
    let y : List Extent = s.y in
    let n : ℕ = atoms_for (length u) in
    let r : ℕ = atoms - n in
    let t : List Extent = holes_of r in
    let h = holes_quiet r in
    let long = h.2 in
    let total : atoms_for (length v) ≡ n + atoms_in t = o.sum ∙ ap (λ (k : ℕ). n + k) (sym long) in
    let solid : Solid (x ++ Used v ∷ y) = s.lays.spells.solid in
    let parts = rest_parts x (Used v) y refl s.rest in
    let named = Named_replaced x v u t y h.0 solid h.1 (atoms_some (length u)) total (named_of (x ++ Used v ∷ y) s.rest) in
    let done = trimmed d e x (Used u) r y (at + n) refl refl (place_behind x (Used u) at n s.place (omega arith)) o.lays trims parts.0 parts.1 parts.2 named (rest_used x u y parts.0 parts.1 parts.2) in
    record {
      own = λ lacks.
          let none : contains (targets (x ++ Used v ∷ y)) (8 + atoms_in x) ≡ false = ap (contains (targets (x ++ Used v ∷ y))) (sym s.place) ∙ ap (λ (z : List Extent). contains (targets z) at) (sym s.is) ∙ lacks in
          lays_heap e done.row done.lays done.rest
          ∙ ap (λ (m : Contents). Some m) (done.heap_is ∙ heap_replaced x v u t y h.0 solid h.1 (atoms_some (length u)) total none
          ∙ ap (λ (q : ℕ). with_content q u (heap (x ++ Used v ∷ y))) (sym s.place) ∙ ap (λ (z : List Extent). with_content at u (heap z)) (sym s.is));
      named = λ home names.
          let low = found 8 row home (Moved at) names in
          let from : 8 ≤ home = (let there = low.3 in omega (arith, there)) in
          let there : extent_at 8 (x ++ Used v ∷ y) home ≡ Some (Moved (8 + atoms_in x)) = ap (λ (z : List Extent). extent_at 8 z home) (sym s.is) ∙ names ∙ ap (λ (k : ℕ). Some (Moved k)) s.place in
          lays_heap e done.row done.lays done.rest
          ∙ ap (λ (m : Contents). Some m) (done.heap_is ∙ heap_target_replaced x v u t y h.0 solid h.1 (atoms_some (length u)) total home from there s.rest.once
          ∙ ap (λ (z : List Extent). with_content home u (heap z)) (sym s.is));
    }

pub rewritten_told : (told mid after : Option (List ℕ)) (at atoms : ℕ) (u : List ℕ) → atoms_for (length u) ≤ atoms → Turns told mid (WritesUsed at u) → Turns mid after (Trims (at + atoms_for (length u)) (atoms - atoms_for (length u))) → Turns told after (Rewrites at atoms u)
rewritten_told None mid after at atoms u room w trims = tt
rewritten_told (Some c) None after at atoms u room w trims = absurd w
rewritten_told (Some c) (Some d) None at atoms u room w trims = trims
rewritten_told (Some c) (Some d) (Some e) at atoms u room w trims = λ row v l rest here is. rewritten c d e row at atoms u v l rest here is room w trims

pub rewrite_sane : (told mid : Option (List ℕ)) (at atoms : ℕ) (u : List ℕ) → atoms_for (length u) ≤ atoms → Turns told mid (WritesUsed at u) → (atoms - atoms_for (length u) ≡ 0 → ⊥) × IfSome mid (LacksGap (at + atoms_for (length u)) (atoms - atoms_for (length u))) → IfSome told (LacksUsedAtoms at atoms)
rewrite_sane None mid at atoms u room w lacks = tt
rewrite_sane (Some c) None at atoms u room w lacks = absurd w
rewrite_sane (Some c) (Some d) at atoms u room w lacks = λ row v l rest here is.
    let o = over c d row at atoms u v l rest here is room w in
    let s = o.cut in
    let parts = rest_parts s.x (Used v) s.y refl s.rest in
    trim_stands d s.x (Used u) (atoms - atoms_for (length u)) s.y (at + atoms_for (length u)) refl refl (place_behind s.x (Used u) at (atoms_for (length u)) s.place (omega arith)) o.lays parts.0 parts.1 lacks.0 lacks.1

-- what of the handle follows
pub own_rewritten : (told after : Option (List ℕ)) (handle atoms : ℕ) (u : List ℕ) → IfSome told (HasSite handle (site.Own atoms)) → Turns told after (Rewrites handle atoms u) → Turns told after (ReplacesIn handle u)
own_rewritten None after handle atoms u found turns = tt
own_rewritten (Some c) None handle atoms u found turns = turns
own_rewritten (Some c) (Some d) handle atoms u found turns = λ row v l rest live.
    let is = found row v l rest live in
    (turns row v l rest is.0 is.2).own is.1

pub away_rewritten : (told after : Option (List ℕ)) (handle at atoms : ℕ) (u : List ℕ) → IfSome told (HasSite handle (site.Away at atoms)) → Turns told after (Rewrites at atoms u) → Turns told after (ReplacesIn handle u)
away_rewritten None after handle at atoms u found turns = tt
away_rewritten (Some c) None handle at atoms u found turns = turns
away_rewritten (Some c) (Some d) handle at atoms u found turns = λ row v l rest live.
    let is = found row v l rest live in
    (turns row v l rest is.1 is.2).named handle is.0

pub own_unwritten : (told : Option (List ℕ)) (handle atoms : ℕ) → IfSome told (HasSite handle (site.Own atoms)) → IfSome told (LacksUsedAtoms handle atoms) → IfSome told (LacksHandle handle)
own_unwritten None handle atoms found lacks = tt
own_unwritten (Some c) handle atoms found lacks = λ row v l rest live. let is = found row v l rest live in lacks row v l rest is.0 is.2

pub away_unwritten : (told : Option (List ℕ)) (handle at atoms : ℕ) → IfSome told (HasSite handle (site.Away at atoms)) → IfSome told (LacksUsedAtoms at atoms) → IfSome told (LacksHandle handle)
away_unwritten None handle at atoms found lacks = tt
away_unwritten (Some c) handle at atoms found lacks = λ row v l rest live. let is = found row v l rest live in lacks row v l rest is.1 is.2

-- a handle's own block gives its first atom to a relocated block, which names a content elsewhere
record Pointed (e : List ℕ) (row : List Extent) (handle t r : ℕ) (u : List ℕ) : Type 0 where
  pub x : List Extent
  pub y : List Extent
  pub place : handle ≡ 8 + atoms_in x
  pub lays : Lays e (x ++ Moved t ∷ (holes_of r ++ y))
  pub front : are_spaced false x ≡ true
  pub back : are_spaced false y ≡ true
  pub closed : ends_free false y ≡ false
  pub named : Named (x ++ Moved t ∷ (holes_of r ++ y))
  pub heap_is : heap (x ++ Moved t ∷ (holes_of r ++ y)) ≡ with_content handle u (heap row)

not_there : (row : List Extent) (handle t : ℕ) (v : List ℕ) → content_of handle (heap row) ≡ Some v → content_of t (heap row) ≡ None → t ≡ handle → ⊥
not_there row handle t v live fresh is =
    let two : ◌≡◌ {A = Option (List ℕ)} None (Some v) = sym fresh ∙ ap (λ (q : ℕ). content_of q (heap row)) is ∙ live in
    cc

pointed : (c d e : List ℕ) (row : List Extent) (handle atoms t : ℕ) (v u : List ℕ) → Lays c row → content_of handle (heap row) ≡ Some v → extent_at 8 row handle ≡ Some (Used v) → atoms ≡ atoms_for (length v) → Placed d row t u → Points handle t d e → Pointed e row handle t (atoms - 1) u
pointed c d e row handle atoms t v u l live here is p points =
    let apart : t ≡ handle → ⊥ = not_there row handle t v live p.fresh in
    let own : extent_at 8 p.now handle ≡ Some (Used v) = p.used_stay handle v here in
    let s = split d p.now handle (Used v) p.lays p.rest own in
    let x : List Extent = s.x in
    let y : List Extent = s.y in
    let a : ℕ = atoms_for (length v) in
    let r : ℕ = atoms - 1 in
    let one : 1 ≤ 1 = omega arith in
    let some = atoms_some (length v) in
    let sum : a ≡ 1 + r = omega (arith, is, some) in
    let h = holes_quiet r in
    let long = h.2 in
    let now_live : content_of handle (heap p.now) ≡ Some v = ap (content_of handle) p.heap_is ∙ with_there t u (heap row) handle (λ same. apart (sym same)) ∙ live in
    let lacks_h = handle_unnamed p.now handle v v d p.lays own now_live in
    let at_live : content_of t (heap p.now) ≡ Some u = ap (content_of t) p.heap_is ∙ with_here t u (heap row) in
    let lacks_t = handle_unnamed p.now t u u d p.lays p.here at_live in
    let none : contains (targets (x ++ Used v ∷ y)) (8 + atoms_in x) ≡ false = ap (contains (targets (x ++ Used v ∷ y))) (sym s.place) ∙ ap (λ (z : List Extent). contains (targets z) handle) (sym s.is) ∙ lacks_h in
    let solid : Solid (x ++ Used v ∷ y) = s.lays.spells.solid in
    let solid_x = Solid_left x (Used v ∷ y) solid in
    let right = Solid_right x (Used v ∷ y) solid in
    let named_hole = Named_emptied x v y none (named_of (x ++ Used v ∷ y) s.rest) in
    let total : atoms_in (Hole a ∷ []) ≡ atoms_in (Hole 1 ∷ holes_of r) = omega (arith, sum, long) in
    let named_parts = Named_exchanged x (Hole a ∷ []) (Hole 1 ∷ holes_of r) y (refl, tt) (refl, h.0) (right.0, tt) (one, h.1) total named_hole in
    let used_hole : extent_at 8 (x ++ Hole a ∷ y) t ≡ Some (Used u) = look_there 8 x (Hole a) (Used v) y t refl (λ same. apart (same ∙ sym s.place)) ∙ ap (λ (z : List Extent). extent_at 8 z t) (sym s.is) ∙ p.here in
    let used : extent_at 8 (x ++ Hole 1 ∷ (holes_of r ++ y)) t ≡ Some (Used u) =
    kept_says (extent_at 8 (x ++ Hole 1 ∷ (holes_of r ++ y)) t) (Used u)
    (look_exchanged kept x (Hole 1 ∷ holes_of r) (Hole a ∷ []) y 8 t (refl, h.0) (refl, tt) (one, h.1) (right.0, tt) (sym total) ∙ ap kept used_hole) in
    let names : targets (x ++ Hole 1 ∷ (holes_of r ++ y)) ≡ targets p.now =
    targets_exchanged x (Hole 1 ∷ holes_of r) (Hole a ∷ []) y (refl, h.0) (refl, tt) ∙ targets_append x (Hole a ∷ y) ∙ sym (targets_append x (Used v ∷ y)) ∙ ap targets (sym s.is) in
    let unnamed : contains (targets (x ++ Hole 1 ∷ (holes_of r ++ y))) t ≡ false = ap (λ (ts : List ℕ). contains ts t) names ∙ lacks_t in
    let in_two : Lays d (x ++ Hole 1 ∷ (holes_of r ++ y)) = in_parts d x y a 1 r one sum (lays_emptied d x (Used v) y refl s.lays) in
    let lays_now : Lays e (x ++ Moved t ∷ (holes_of r ++ y)) = points x (holes_of r ++ y) s.place in_two in
    let bare : contains (targets (x ++ Hole a ∷ y)) handle ≡ false = ap (contains (targets (x ++ Hole a ∷ y))) s.place ∙ hole_unnamed x a y solid_x named_hole in
    let parts = rest_parts x (Used v) y refl s.rest in
    let place = s.place in
    let low = found 8 p.now t (Used u) p.here in
    let at_least : 8 ≤ t = (let there = low.3 in omega (arith, there)) in
    record {
      x = x;
      y = y;
      place = s.place;
      lays = lays_now;
      front = parts.0;
      back = parts.1;
      closed = parts.2;
      named = Named_pointed x t u (holes_of r ++ y) solid_x used unnamed named_parts;
      heap_is = heap_pointed x (holes_of r ++ y) t u handle lays_now.spells.solid s.place used unnamed
          ∙ ap (λ (m : Contents). with_content handle u (without t m))
          (heap_exchanged x (Hole 1 ∷ holes_of r) (Hole a ∷ []) y (refl, h.0) (refl, tt) in_two.spells.solid (right.0, tt) (sym total)
          ∙ heap_emptied x y v handle solid s.place bare ∙ ap (λ (z : List Extent). without handle (heap z)) (sym s.is) ∙ ap (without handle) p.heap_is)
          ∙ moved_map (heap row) handle t u (Rising_heap row l.spells.solid) (omega (arith, place)) at_least apart p.fresh;
    }

pub moved_home : (told mid two after : Option (List ℕ)) (handle atoms t : ℕ) (u : List ℕ) → IfSome told (HasSite handle (site.Own atoms)) → Turns told mid (Places t u) → Turns mid two (Points handle t) → Turns two after (Trims (handle + 1) (atoms - 1)) → Turns told after (ReplacesIn handle u)
moved_home None mid two after handle atoms t u found places points trims = tt
moved_home (Some c) None two after handle atoms t u found places points trims = absurd places
moved_home (Some c) (Some d) None after handle atoms t u found places points trims = absurd points
moved_home (Some c) (Some d) (Some e) None handle atoms t u found places points trims = trims
moved_home (Some c) (Some d) (Some e) (Some f) handle atoms t u found places points trims = λ row v l rest live.
    let is = found row v l rest live in
    let k = pointed c d e row handle atoms t v u l live is.0 is.2 (places row l rest) points in
    let done = trimmed e f k.x (Moved t) (atoms - 1) k.y (handle + 1) refl refl (place_behind k.x (Moved t) handle 1 k.place (omega arith)) k.lays trims k.front k.back k.closed k.named (rest_moved k.x t k.y k.front k.back k.closed) in
    lays_heap f done.row done.lays done.rest ∙ ap (λ (m : Contents). Some m) (done.heap_is ∙ k.heap_is)

pub home_sane : (told mid two : Option (List ℕ)) (handle atoms t : ℕ) (u : List ℕ) → IfSome told (HasSite handle (site.Own atoms)) → Turns told mid (Places t u) → Turns mid two (Points handle t) → (atoms - 1 ≡ 0 → ⊥) × IfSome two (LacksGap (handle + 1) (atoms - 1)) → IfSome told (LacksHandle handle)
home_sane None mid two handle atoms t u found places points lacks = tt
home_sane (Some c) None two handle atoms t u found places points lacks = absurd places
home_sane (Some c) (Some d) None handle atoms t u found places points lacks = absurd points
home_sane (Some c) (Some d) (Some e) handle atoms t u found places points lacks = λ row v l rest live.
    let is = found row v l rest live in
    let k = pointed c d e row handle atoms t v u l live is.0 is.2 (places row l rest) points in
    trim_stands e k.x (Moved t) (atoms - 1) k.y (handle + 1) refl refl (place_behind k.x (Moved t) handle 1 k.place (omega arith)) k.lays k.front k.back lacks.0 lacks.1

-- a relocated block names another content, and the one that it named is a handle of its own for a moment
record Again (e : List ℕ) (row : List Extent) (handle old t : ℕ) (v u : List ℕ) : Type 0 where
  pub now : List Extent
  pub lays : Lays e now
  pub rest : AtRest now
  pub there : extent_at 8 now old ≡ Some (Used v)
  pub unnamed : contains (targets now) old ≡ false
  pub heap_is : without old (heap now) ≡ with_content handle u (heap row)

again : (c d e : List ℕ) (row : List Extent) (handle old t : ℕ) (v u : List ℕ) → Lays c row → content_of handle (heap row) ≡ Some v → extent_at 8 row handle ≡ Some (Moved old) → extent_at 8 row old ≡ Some (Used v) → Placed d row t u → Points handle t d e → Again e row handle old t v u
again c d e row handle old t v u l live here there p points =
    let apart : t ≡ handle → ⊥ = not_there row handle t v live p.fresh in
    let home : extent_at 8 p.now handle ≡ Some (Moved old) = p.moved_stay handle old here in
    let s = split d p.now handle (Moved old) p.lays p.rest home in
    let x : List Extent = s.x in
    let y : List Extent = s.y in
    let at_live : content_of t (heap p.now) ≡ Some u = ap (content_of t) p.heap_is ∙ with_here t u (heap row) in
    let lacks_t = handle_unnamed p.now t u u d p.lays p.here at_live in
    let two_apart : old ≡ t → ⊥ = λ same. false≢true (sym lacks_t ∙ ap (contains (targets p.now)) (sym same) ∙ target_named p.now handle old home) in
    let old_apart : old ≡ handle → ⊥ = λ same. (let both : Some (Used v) ≡ Some (Moved old) = sym there ∙ ap (extent_at 8 row) same ∙ here in cc) in
    let dead : content_of old (heap row) ≡ None = heap_at row old l.spells.solid ∙ ap (meant (contains (targets row)) (extent_at 8 row) old) there ∙ ap (λ (b : Bool). cond b None (Some v)) (target_named row handle old here) in
    let solid : Solid (x ++ Moved old ∷ y) = s.lays.spells.solid in
    let solid_x = Solid_left x (Moved old ∷ y) solid in
    let parts = rest_parts x (Moved old) y refl s.rest in
    let named = Named_unpointed x old y solid_x (named_of (x ++ Moved old ∷ y) s.rest) in
    let used_t : extent_at 8 (x ++ Hole 1 ∷ y) t ≡ Some (Used u) = look_there 8 x (Hole 1) (Moved old) y t refl (λ same. apart (same ∙ sym s.place)) ∙ ap (λ (z : List Extent). extent_at 8 z t) (sym s.is) ∙ p.here in
    let used_old : extent_at 8 (x ++ Hole 1 ∷ y) old ≡ Some (Used v) = look_there 8 x (Hole 1) (Moved old) y old refl (λ same. old_apart (same ∙ sym s.place)) ∙ ap (λ (z : List Extent). extent_at 8 z old) (sym s.is) ∙ p.used_stay old v there in
    let unnamed_t : contains (targets (x ++ Hole 1 ∷ y)) t ≡ false = sym (others_named x y old v handle solid s.place used_old named.1 t (λ same. two_apart (sym same))) ∙ ap (λ (z : List Extent). contains (targets z) t) (sym s.is) ∙ lacks_t in
    let lays_now : Lays e (x ++ Moved t ∷ y) = points x y s.place (lays_emptied d x (Moved old) y refl s.lays) in
    let named_now = Named_pointed x t u y solid_x used_t unnamed_t named.0 in
    let place = s.place in
    let low = found 8 p.now t (Used u) p.here in
    let at_least : 8 ≤ t = (let is = low.3 in omega (arith, is)) in
    let low_old = found 8 row old (Used v) there in
    let old_least : 8 ≤ old = (let is = low_old.3 in omega (arith, is)) in
    record {
      now = x ++ Moved t ∷ y;
      lays = lays_now;
      rest = rest_moved x t y parts.0 parts.1 parts.2 named_now;
      there = look_there 8 x (Moved t) (Hole 1) y old refl (λ same. old_apart (same ∙ sym s.place)) ∙ used_old;
      unnamed = others_named x y t u handle lays_now.spells.solid s.place used_t unnamed_t old two_apart ∙ named.1;
      heap_is = ap (without old) (heap_pointed x y t u handle lays_now.spells.solid s.place used_t unnamed_t
          ∙ ap (λ (m : Contents). with_content handle u (without t m))
          (heap_unpointed x y old v handle solid s.place used_old named.1 old_least ∙ ap (λ (z : List Extent). with_content old v (without handle (heap z))) (sym s.is) ∙ ap (λ (m : Contents). with_content old v (without handle m)) p.heap_is))
          ∙ repointed_map (heap row) handle old t v u (Rising_heap row l.spells.solid) (omega (arith, place)) at_least old_least apart old_apart two_apart p.fresh dead;
    }

pub moved_again : (told mid two after : Option (List ℕ)) (handle old atoms t : ℕ) (u : List ℕ) → IfSome told (HasSite handle (site.Away old atoms)) → Turns told mid (Places t u) → Turns mid two (Points handle t) → Turns two after (Releases old atoms) → Turns told after (ReplacesIn handle u)
moved_again None mid two after handle old atoms t u found places points releases = tt
moved_again (Some c) None two after handle old atoms t u found places points releases = absurd places
moved_again (Some c) (Some d) None after handle old atoms t u found places points releases = absurd points
moved_again (Some c) (Some d) (Some e) None handle old atoms t u found places points releases = releases
moved_again (Some c) (Some d) (Some e) (Some f) handle old atoms t u found places points releases = λ row v l rest live.
    let is = found row v l rest live in
    let k = again c d e row handle old t v u l live is.0 is.1 (places row l rest) points in
    own_removed e f k.now old v k.lays k.rest k.there k.unnamed (subst (λ (n : ℕ). Releases old n e f) is.2 releases) ∙ ap (λ (m : Contents). Some m) k.heap_is

pub again_sane : (told mid two : Option (List ℕ)) (handle old atoms t : ℕ) (u : List ℕ) → IfSome told (HasSite handle (site.Away old atoms)) → Turns told mid (Places t u) → Turns mid two (Points handle t) → IfSome two (LacksGap old atoms) → IfSome told (LacksHandle handle)
again_sane None mid two handle old atoms t u found places points lacks = tt
again_sane (Some c) None two handle old atoms t u found places points lacks = absurd places
again_sane (Some c) (Some d) None handle old atoms t u found places points lacks = absurd points
again_sane (Some c) (Some d) (Some e) handle old atoms t u found places points lacks = λ row v l rest live.
    let is = found row v l rest live in
    let k = again c d e row handle old t v u l live is.0 is.1 (places row l rest) points in
    gap_stands e k.now old (Used v) refl k.lays k.rest k.there (subst (λ (n : ℕ). LacksGap old n e) is.2 lacks)

-- a content that is no heap has no handle
pub none_live : (told : Option (List ℕ)) (handle : ℕ) → heap_told told ≡ None → IfSome told (LacksHandle handle)
none_live None handle unsound = tt
none_live (Some c) handle unsound = λ row u l rest live.
    let two : ◌≡◌ {A = Option Contents} None (Some (heap row)) = sym unsound ∙ lays_heap c row l rest in
    cc

-- which content grows
pub own_fewer : (told : Option (List ℕ)) (handle atoms n : ℕ) → IfSome told (HasSite handle (site.Own atoms)) → atoms < n → IfSome told (HasFewer handle n)
own_fewer None handle atoms n found more = tt
own_fewer (Some c) handle atoms n found more = λ row u l rest live. let is = (found row u l rest live).2 in omega (arith, is, more)

pub away_fewer : (told : Option (List ℕ)) (handle at atoms n : ℕ) → IfSome told (HasSite handle (site.Away at atoms)) → atoms < n → IfSome told (HasFewer handle n)
away_fewer None handle at atoms n found more = tt
away_fewer (Some c) handle at atoms n found more = λ row u l rest live. let is = (found row u l rest live).2 in omega (arith, is, more)

-- the heap that is told
pub replaced_told : (told after : Option (List ℕ)) (handle : ℕ) (u : List ℕ) → Turns told after (ReplacesIn handle u) → Replaces handle u (heap_told told) (heap_told after)
replaced_told None after handle u turns = tt
replaced_told (Some []) after handle u turns = subst (λ (o : Option Contents). Replaces handle u o (heap_told after)) (sym no_contents) tt
replaced_told (Some (b ∷ c)) None handle u turns = absurd turns
replaced_told (Some (b ∷ c)) (Some d) handle u turns =
    by_row (λ o. Replaces handle u o (heap_in d)) b c tt (λ row l rest. by_live (λ _. heap_in d ≡ Some (with_content handle u (heap row))) (content_of handle (heap row)) (λ v live. turns row v l rest live))

pub grown_told : (told : Option (List ℕ)) (handle n : ℕ) → IfSome told (HasFewer handle n) → IsGrown handle n (heap_told told)
grown_told None handle n fewer = tt
grown_told (Some []) handle n fewer = subst (λ (o : Option Contents). IsGrown handle n o) (sym no_contents) tt
grown_told (Some (b ∷ c)) handle n fewer = by_row (λ o. IsGrown handle n o) b c tt (λ row l rest. by_live (λ v. atoms_for (length v) < n) (content_of handle (heap row)) (λ v live. fewer row v l rest live))

pub grown_full : (told mid : Option (List ℕ)) (handle n size size_mid now limit limit_mid : ℕ) → mid ≡ told → size_mid ≡ size → limit_mid ≡ limit → (need most : ℕ) → IfSome mid (HasFewer handle n) × IsFull n (most_free_told mid) size_mid now (Some limit_mid) need most → IsGrown handle n (heap_told told) × IsFull n (most_free_told told) size now (Some limit) need most
grown_full told mid handle n size size_mid now limit limit_mid same same_size same_limit need most is = (
  grown_told told handle n (subst (λ (o : Option (List ℕ)). IfSome o (HasFewer handle n)) same is.0),
  subst (λ (o : Option (List ℕ)). IsFull n (most_free_told o) size now (Some limit) need most) same
      (subst (λ (k : ℕ). IsFull n (most_free_told mid) k now (Some limit) need most) same_size
      (subst (λ (k : ℕ). IsFull n (most_free_told mid) size_mid now (Some k) need most) same_limit is.1)),
)
