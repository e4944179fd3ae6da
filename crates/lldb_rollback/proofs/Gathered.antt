-- A batch of the pages that differ, gathered from the front.
use Rattle.std.proofs.Common.{◌≡◌, ◌≢◌, ℕ, ◌+◌, ◌-◌, ◌*◌, ◌<◌, ◌≤◌, min, max, List, [], ◌∷◌, ◌++◌, length, take, drop, refl, arith, append_assoc, length-take, length-drop, take-add, sym, ◌∙◌, ap, subst}
use Rattle.std.proofs.lemmas.List.{drop_all, take-append-drop, take-append-le, drop-append-le, drop-drop, take-take}
use Rattle.lldb_base.specs.declared.batch.Piece.{Piece}
use Rattle.lldb_base.specs.Batch.{Edits, put, written, end_of, cost, LeaveNoGap, reach}
use Rattle.lldb_base.proofs.Pieces.{end_push, cost_push}
use Rattle.lldb_rollback.specs.Changes.{AreChanged}

pub written_push : (shift : ℕ) (ps : List Piece) (p : Piece) (bytes : List ℕ) → written shift (ps ++ p ∷ []) bytes ≡ put (shift + p.place) p.bytes (written shift ps bytes)
written_push shift [] p bytes = refl
written_push shift (q ∷ ps) p bytes = written_push shift ps p (put (shift + q.place) q.bytes bytes)

pub gapless_push : (floor shift size : ℕ) (ps : List Piece) (p : Piece) → LeaveNoGap floor shift size ps → floor ≤ shift + p.place → shift + p.place ≤ reach shift size ps → LeaveNoGap floor shift size (ps ++ p ∷ [])
gapless_push floor shift size [] p gapless under starts = (under, starts, tt)
gapless_push floor shift size (q ∷ ps) p gapless under starts = (gapless.0, gapless.1, gapless_push floor shift (max size (shift + q.place + length q.bytes)) ps p gapless.2 under starts)

pub reach_push : (shift size : ℕ) (ps : List Piece) (p : Piece) → reach shift size (ps ++ p ∷ []) ≡ max (reach shift size ps) (shift + p.place + length p.bytes)
reach_push shift size [] p = refl
reach_push shift size (q ∷ ps) p = reach_push shift (max size (shift + q.place + length q.bytes)) ps p

pub reach_above : (shift size : ℕ) (ps : List Piece) → size ≤ reach shift size ps
reach_above shift size [] = omega arith
reach_above shift size (p ∷ ps) = let rest = reach_above shift (max size (shift + p.place + length p.bytes)) ps in omega (arith, rest)

pub changed_push : (old : List ℕ) (ps : List Piece) (p : Piece) → AreChanged old ps → take (length p.bytes) (drop p.place old) ≢ p.bytes → AreChanged old (ps ++ p ∷ [])
changed_push old [] p changed differs = (differs, tt)
changed_push old (q ∷ ps) p changed differs = (changed.0, changed_push old ps p changed.1 differs)

-- up to a place the pieces make the new bytes of the old ones
pub record Gathers (old new : List ℕ) (batch : Edits) (at : ℕ) : Type 0 where
  pub within : at ≤ length new
  pub content : written 0 batch.pieces old ≡ take at new ++ drop at old
  pub gapless : LeaveNoGap 0 0 (length old) batch.pieces
  pub reached : at ≤ reach 0 (length old) batch.pieces
  pub behind : end_of 0 batch.pieces ≤ at
  pub room : at < length new → 256 * cost batch.pieces ≤ 257 * at
  pub changed : AreChanged old batch.pieces
  pub size : batch.size ≡ length new

-- bytes of both, cut at a place and at a later one
cut_later : (at n : ℕ) (old new : List ℕ) → take at new ++ take n (drop at new) ++ drop n (drop at old) ≡ take (at + n) new ++ drop (at + n) old
cut_later at n old new = rw (take-add at n new, drop-drop n at old) refl

put_page : (at n : ℕ) (bytes page front back : List ℕ) → take at bytes ≡ front → length page ≡ n → drop (at + n) bytes ≡ back → put at page bytes ≡ front ++ page ++ back
put_page at n bytes page front back start long rest = rw (long, start, rest) refl

-- a page that is the same is left out
pub page_kept : (old new : List ℕ) (batch : Edits) (at n : ℕ) → at + n ≤ length new → take n (drop at old) ≡ take n (drop at new) → (at + n < length new → 1 ≤ n) → Gathers old new batch at → Gathers old new batch (at + n)
page_kept old new batch at n within same some g =
    let ends : at + n ≤ max at (length old) = omega (arith, sym (length-take n (drop at old)) ∙ ap length same ∙ length-take n (drop at new), length-drop at old, length-drop at new, within) in
    let far = reach_above 0 (length old) batch.pieces in
    record {
      within = within;
      content = g.content ∙ ap (λ (xs : List ℕ). take at new ++ xs) (sym (take-append-drop n (drop at old)) ∙ ap (λ (xs : List ℕ). xs ++ drop n (drop at old)) same) ∙ sym (append_assoc (take at new) (take n (drop at new)) (drop n (drop at old))) ∙ cut_later at n old new;
      gapless = g.gapless;
      reached = omega (arith, ends, far, g.reached);
      behind = omega (arith, g.behind);
      room = λ more. let so_far = g.room (omega (arith, more)) in omega (arith, so_far);
      changed = g.changed;
      size = g.size;
    }

-- a page that differs is written
pub page_written : (old new : List ℕ) (batch more : Edits) (p : Piece) (at n : ℕ) → p.place ≡ at → p.bytes ≡ take n (drop at new) → n ≤ 4096 → at + n ≤ length new → (at + n < length new → n ≡ 4096) → at < length new → take (length p.bytes) (drop p.place old) ≢ p.bytes → more.pieces ≡ batch.pieces ++ p ∷ [] → more.size ≡ batch.size → Gathers old new batch at → Gathers old new more (at + n)
page_written old new batch more p at n here page short within full some differs pieces size g =
    let long : length p.bytes ≡ n = ap length page ∙ length-take n (drop at new) ∙ omega (arith, length-drop at new, within) in
    let front : length (take at new) ≡ at = length-take at new ∙ omega (arith, g.within) in
    let starts : 0 + p.place ≤ reach 0 (length old) batch.pieces = omega (arith, here, g.reached) in
    let over : take at (take at new ++ drop at old) ≡ take at new = take-append-le at (take at new) (drop at old) (omega (arith, front)) ∙ take-take at at new (omega arith) in
    let rest : drop (at + n) (take at new ++ drop at old) ≡ drop n (drop at old) =
    sym (drop-drop n at (take at new ++ drop at old))
    ∙ ap (drop n) (drop-append-le at (take at new) (drop at old) (omega (arith, front)) ∙ ap (λ (xs : List ℕ). xs ++ drop at old) (drop_all at (take at new) (omega (arith, front)))) in
    let same : 0 + p.place ≡ at = omega (arith, here) in
    let far = reach_push 0 (length old) batch.pieces p in
    let ends = end_push 0 batch.pieces p in
    let costs = cost_push batch.pieces p in
    record {
      within = within;
      content = rw pieces (written_push 0 batch.pieces p old ∙ ap (put (0 + p.place) p.bytes) g.content ∙ ap (λ k. put k p.bytes (take at new ++ drop at old)) same ∙ ap (λ (xs : List ℕ). take at (take at new ++ drop at old) ++ xs ++ drop (at + length xs) (take at new ++ drop at old)) page ∙ put_page at n (take at new ++ drop at old) (take n (drop at new)) (take at new) (drop n (drop at old)) over (sym (ap length page) ∙ long) rest ∙ cut_later at n old new);
      gapless = rw pieces (gapless_push 0 0 (length old) batch.pieces p g.gapless (omega arith) starts);
      reached = rw pieces (omega (arith, far, here, long));
      behind = rw pieces (omega (arith, ends, here, long));
      room = λ more_left. let so_far = g.room some in let whole = full more_left in rw pieces (omega (arith, so_far, costs, long, whole));
      changed = rw pieces (changed_push old batch.pieces p g.changed differs);
      size = size ∙ g.size;
    }

pub turn_kept : (old new : List ℕ) (batch : Edits) (at stop : ℕ) (piece : List ℕ) → at < length new → stop ≡ min (length new) (at + 4096) → piece ≡ take (stop - at) (drop at new) → take (length piece) (drop at old) ≡ piece → Gathers old new batch at → Gathers old new batch stop
turn_kept old new batch at stop piece some ends page same g =
    let long : length piece ≡ stop - at = ap length page ∙ length-take (stop - at) (drop at new) ∙ omega (arith, length-drop at new, ends) in
    let next : at + (stop - at) ≡ stop = omega (arith, ends, some) in
    let here : take (stop - at) (drop at old) ≡ take (stop - at) (drop at new) = ap (λ n. take n (drop at old)) (sym long) ∙ same ∙ page in
    subst (λ n. Gathers old new batch n) next (page_kept old new batch at (stop - at) (omega (arith, ends, some)) here (λ _. omega (arith, ends, some)) g)

pub turn_written : (old new : List ℕ) (batch more : Edits) (at stop : ℕ) (piece : List ℕ) → at < length new → stop ≡ min (length new) (at + 4096) → piece ≡ take (stop - at) (drop at new) → take (length piece) (drop at old) ≢ piece → more.pieces ≡ batch.pieces ++ record { place = at; bytes = piece } ∷ [] → more.size ≡ batch.size → Gathers old new batch at → Gathers old new more stop
turn_written old new batch more at stop piece some ends page differs pieces size g =
    let next : at + (stop - at) ≡ stop = omega (arith, ends, some) in
    subst (λ n. Gathers old new more n) next (page_written old new batch more (record { place = at; bytes = piece }) at (stop - at) refl page (omega (arith, ends)) (omega (arith, ends, some)) (λ left. omega (arith, ends, left)) some differs pieces size g)
