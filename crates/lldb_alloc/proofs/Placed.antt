-- A content is put where none stood: behind the last block, or in a free block, of which the rest stays free.
use Rattle.std.proofs.Common.{◌≡◌, ℕ, ◌+◌, ◌-◌, ◌*◌, ◌≤◌, List, [], ◌∷◌, ◌++◌, length, Option, Some, None, IfSome, refl, sym, ◌∙◌, ap, subst, inl, inr, arith}
use Rattle.std.proofs.lemmas.Bool.{cases_eq, cases_lt}
use Rattle.lldb_base.specs.Batch.{put}
use Rattle.lldb_base.specs.Contents.{content_of, with_content, atoms_for}
use Rattle.lldb_atoms.specs.Blocks.{Extent, Used, Compressed, Moved, Free, Hole}
use Rattle.lldb_atoms.specs.Rows.{atoms_in, extent_at, contains, targets, heap}
use Rattle.lldb_atoms.proofs.Says.{atoms_some}
use Rattle.lldb_blocks.specs.Laid.{Solid, Lays, AtRest}
use Rattle.lldb_blocks.proofs.Looks.{Quiet, found, look_here, look_there, look_left, look_past, look_exchanged, Solid_left, Solid_right}
use Rattle.lldb_blocks.proofs.Contents.{kept}
use Rattle.lldb_blocks.proofs.Heaps.{heap_at, meant}
use Rattle.lldb_blocks.proofs.Lays.{lays_filled, lays_grown, lays_length}
use Rattle.lldb_blocks.proofs.Calls.{made_whole, made_part, made_last, empty_row}
use Rattle.lldb_alloc.specs.Changes.{Turns, TakesPart, WritesUsed, left_over}
use Rattle.lldb_alloc.specs.Room.{FindsRoom}
use Rattle.lldb_alloc.specs.Places.{Placed, Places}
use Rattle.lldb_alloc.proofs.Parts.{left_none, left_some}

-- nothing stands at a place
unused : (row : List Extent) (q : ℕ) (o : Option Extent) → Solid row → extent_at 8 row q ≡ o → meant (contains (targets row)) (extent_at 8 row) q o ≡ None → content_of q (heap row) ≡ None
unused row q o solid is none = heap_at row q solid ∙ ap (meant (contains (targets row)) (extent_at 8 row) q) is ∙ none

-- what a place is in a longer row
longer : (row y : List Extent) (q : ℕ) (e : Extent) → Solid row → extent_at 8 row q ≡ Some e → extent_at 8 (row ++ y) q ≡ Some e
longer row y q e solid there = elim (cases_lt q (8 + atoms_in row)) [
  | inl within ↦ look_left 8 row y q within ∙ there
  | inr past ↦ let two : ◌≡◌ {A = Option Extent} None (Some e) = sym (look_past 8 row q solid past) ∙ there in absurd (cc)
]

-- behind the last block
pub grown : (c d : List ℕ) (row : List Extent) (at : ℕ) (u : List ℕ) → length c ≡ 16 * at → Lays c row → AtRest row → WritesUsed at u c d → Placed d row at u
grown c d row at u long l rest w =
    let all = lays_length c row l in
    let place : at ≡ 8 + atoms_in row = omega (arith, all, long) in
    let solid : Solid row = l.spells.solid in
    let made = made_last row u solid rest (atoms_some (length u)) in
    let grows : Lays (put (length c) w.0 c) (row ++ Used u ∷ []) = lays_grown c row (Used u) w.0 refl (atoms_some (length u)) w.1 l in
    let same : d ≡ put (length c) w.0 c = w.2 ∙ ap (λ (n : ℕ). put n w.0 c) (sym long) in
    record {
      now = row ++ Used u ∷ [];
      lays = subst (λ (z : List ℕ). Lays z (row ++ Used u ∷ [])) (sym same) grows;
      rest = made.0;
      here = ap (extent_at 8 (row ++ Used u ∷ [])) place ∙ look_here 8 row (Used u) [] solid;
      used_stay = λ q v there. longer row (Used u ∷ []) q (Used v) solid there;
      moved_stay = λ q t there. longer row (Used u ∷ []) q (Moved t) solid there;
      fresh = unused row at None solid (ap (extent_at 8 row) place ∙ look_past 8 row (8 + atoms_in row) solid (omega arith)) refl;
      first = λ none. place ∙ ap (λ (r : List Extent). 8 + atoms_in r) (empty_row row solid rest none);
      heap_is = made.1 ∙ ap (λ (q : ℕ). with_content q u (heap row)) (sym place);
    }

-- what is left over of a free block
left_quiet : (r : ℕ) → Quiet kept (left_over r) × Solid (left_over r) × (atoms_in (left_over r) ≡ r)
left_quiet r = elim (cases_eq r 0) [
  | inl none ↦ subst (λ (z : List Extent). Quiet kept z × Solid z × (atoms_in z ≡ r)) (sym (left_none r none)) (tt, tt, sym none)
  | inr some ↦ subst (λ (z : List Extent). Quiet kept z × Solid z × (atoms_in z ≡ r)) (sym (left_some r some)) ((refl, tt), (omega (arith, some), tt), omega arith)
]

pub kept_says : (o : Option Extent) (e : Extent) → kept o ≡ Some e → o ≡ Some e
kept_says None e is = absurd (cc)
kept_says (Some (Used c)) e is = is
kept_says (Some (Compressed c)) e is = absurd (cc)
kept_says (Some (Moved t)) e is = is
kept_says (Some (Free s)) e is = absurd (cc)
kept_says (Some (Hole s)) e is = absurd (cc)

-- a content in the place of a free block, before what is left over of it
module _ (x : List Extent) (s : ℕ) (y : List Extent) (u : List ℕ) (room : atoms_for (length u) ≤ s) (solid : Solid (x ++ Free s ∷ y)) where
  abbrev rest_of : List Extent
  rest_of = left_over (s - atoms_for (length u))

  abbrev row_now : List Extent
  row_now = x ++ Used u ∷ (rest_of ++ y)

  part_stays : (q : ℕ) (e : Extent) → kept (Some e) ≡ Some e → (e ≡ Free s → ⊥) → extent_at 8 (x ++ Free s ∷ y) q ≡ Some e → extent_at 8 row_now q ≡ Some e
  part_stays q e known other there =
      let n : ℕ = atoms_for (length u) in
      let front = Solid_left x (Free s ∷ y) solid in
      let right = Solid_right x (Free s ∷ y) solid in
      let left = left_quiet (s - n) in
      let sum = left.2 in
      let apart : q ≡ 8 + atoms_in x → ⊥ = λ is. (let two : Some e ≡ Some (Free s) = sym there ∙ ap (extent_at 8 (x ++ Free s ∷ y)) is ∙ look_here 8 x (Free s) y front in other (cc)) in
      kept_says (extent_at 8 row_now q) e
      (ap kept (look_there 8 x (Used u) (Hole n) (rest_of ++ y) q refl apart)
      ∙ look_exchanged kept x (Hole n ∷ rest_of) (Free s ∷ []) y 8 q (refl, left.0) (refl, tt) (atoms_some (length u), left.1) (right.0, tt) (omega (arith, sum, room))
      ∙ ap kept there ∙ known)

  part_rests : AtRest (x ++ Free s ∷ y) → AtRest row_now × (heap row_now ≡ with_content (8 + atoms_in x) u (heap (x ++ Free s ∷ y)))
  part_rests rest =
      let n : ℕ = atoms_for (length u) in
      elim (cases_eq (s - n) 0) [
        | inl none ↦
            let same : s ≡ n = omega (arith, none, room) in
            let made = made_whole x u y (subst (λ (k : ℕ). Solid (x ++ Free k ∷ y)) same solid) (subst (λ (k : ℕ). AtRest (x ++ Free k ∷ y)) same rest) in
            subst (λ (z : List Extent). AtRest (x ++ Used u ∷ (z ++ y)) × (heap (x ++ Used u ∷ (z ++ y)) ≡ with_content (8 + atoms_in x) u (heap (x ++ Free s ∷ y)))) (sym (left_none (s - n) none))
            (made.0, made.1 ∙ ap (λ (k : ℕ). with_content (8 + atoms_in x) u (heap (x ++ Free k ∷ y))) (sym same))
        | inr some ↦
            let whole : s ≡ n + (s - n) = omega (arith, room) in
            let made = made_part x u (s - n) y (omega (arith, some)) (subst (λ (k : ℕ). Solid (x ++ Free k ∷ y)) whole solid) (subst (λ (k : ℕ). AtRest (x ++ Free k ∷ y)) whole rest) (atoms_some (length u)) in
            subst (λ (z : List Extent). AtRest (x ++ Used u ∷ (z ++ y)) × (heap (x ++ Used u ∷ (z ++ y)) ≡ with_content (8 + atoms_in x) u (heap (x ++ Free s ∷ y)))) (sym (left_some (s - n) some))
            (made.0, made.1 ∙ ap (λ (k : ℕ). with_content (8 + atoms_in x) u (heap (x ++ Free k ∷ y))) (sym whole))
      ]

not_empty : (x : List Extent) (e : Extent) (y : List Extent) → x ++ e ∷ y ≡ [] → ⊥
not_empty [] e y is = cc
not_empty (b ∷ x) e y is = cc

filled : (c d e : List ℕ) (row : List Extent) (at : ℕ) (u : List ℕ) → Lays c row → AtRest row → FindsRoom (atoms_for (length u)) (Some at) c → TakesPart at (atoms_for (length u)) c d → WritesUsed at u d e → Placed e row at u
filled c d e row at u l rest room takes w =
    let n : ℕ = atoms_for (length u) in
    let r = room row l in
    let s : ℕ = r.0 in
    let f = found 8 row at (Free s) r.1 in
    let x : List Extent = f.0 in
    let y : List Extent = f.1 in
    let place : at ≡ 8 + atoms_in x = f.3 in
    let solid : Solid (x ++ Free s ∷ y) = subst (λ (z : List Extent). Solid z) f.2 l.spells.solid in
    let before : Lays c (x ++ Free s ∷ y) = subst (λ (z : List Extent). Lays c z) f.2 l in
    let stood : AtRest (x ++ Free s ∷ y) = subst (λ (z : List Extent). AtRest z) f.2 rest in
    let hole : Lays d (x ++ Hole n ∷ (left_over (s - n) ++ y)) = takes x y s place r.2 before in
    let lays : Lays (put (16 * at) w.0 d) (x ++ Used u ∷ (left_over (s - n) ++ y)) = lays_filled d x (Used u) (left_over (s - n) ++ y) at w.0 place refl w.1 hole in
    let done = part_rests x s y u r.2 solid stood in
    record {
      now = x ++ Used u ∷ (left_over (s - n) ++ y);
      lays = subst (λ (z : List ℕ). Lays z (x ++ Used u ∷ (left_over (s - n) ++ y))) (sym w.2) lays;
      rest = done.0;
      here = ap (extent_at 8 (x ++ Used u ∷ (left_over (s - n) ++ y))) place ∙ look_here 8 x (Used u) (left_over (s - n) ++ y) (Solid_left x (Free s ∷ y) solid);
      used_stay = λ q v there. part_stays x s y u r.2 solid q (Used v) refl (λ is. cc) (ap (λ (z : List Extent). extent_at 8 z q) (sym f.2) ∙ there);
      moved_stay = λ q t there. part_stays x s y u r.2 solid q (Moved t) refl (λ is. cc) (ap (λ (z : List Extent). extent_at 8 z q) (sym f.2) ∙ there);
      fresh = unused row at (Some (Free s)) l.spells.solid r.1 refl;
      first = λ none. absurd (not_empty x (Free s) y (sym f.2 ∙ empty_row row l.spells.solid rest none));
      heap_is = done.1 ∙ ap (λ (q : ℕ). with_content q u (heap (x ++ Free s ∷ y))) (sym place) ∙ ap (λ (z : List Extent). with_content at u (heap z)) (sym f.2);
    }

-- the same of a content that is told
pub placed_behind : (told after : Option (List ℕ)) (at size : ℕ) (u : List ℕ) → IfSome told (λ c. length c ≡ size) → 16 * at ≡ size → Turns told after (WritesUsed at u) → Turns told after (Places at u)
placed_behind None after at size u long even writes = tt
placed_behind (Some c) None at size u long even writes = writes
placed_behind (Some c) (Some d) at size u long even writes = λ row l rest. grown c d row at u (long ∙ sym even) l rest writes

pub placed_within : (told mid after : Option (List ℕ)) (at : ℕ) (u : List ℕ) → IfSome told (FindsRoom (atoms_for (length u)) (Some at)) → Turns told mid (TakesPart at (atoms_for (length u))) → Turns mid after (WritesUsed at u) → Turns told after (Places at u)
placed_within None mid after at u room takes writes = tt
placed_within (Some c) None after at u room takes writes = absurd takes
placed_within (Some c) (Some d) None at u room takes writes = writes
placed_within (Some c) (Some d) (Some e) at u room takes writes = λ row l rest. filled c d e row at u l rest room takes writes
