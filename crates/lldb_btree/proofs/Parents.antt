-- Some children of a node have become others, and what this makes of the node.
use Rattle.std.proofs.Common.{◌≡◌, ℕ, zero, suc, ◌+◌, ◌<◌, ◌≤◌, List, [], ◌∷◌, ◌++◌, length, map, refl, sym, ap, ◌∙◌, arith, append_assoc, length-append}
use Rattle.std.specs.List.{AllByRecursion}
use Rattle.lldb_base.specs.Contents.{Contents}
use Rattle.lldb_btree.specs.declared.node.Child.{Child}
use Rattle.lldb_btree.specs.declared.node.Node.TheVariants.{Inner}
use Rattle.lldb_btree.specs.declared.node.Pair.{Pair}
use Rattle.lldb_btree.specs.Changes.{Becomes, Lifts}
use Rattle.lldb_btree.specs.Footprints.{times}
use Rattle.lldb_btree.specs.Trees.{Part, child_of, pairs_of, footprint_of, IsNode, IsOver}
use Rattle.lldb_btree.proofs.Edited.{Live, times_append, times_here, times_self, edits_in, edit_stays}
use Rattle.lldb_btree.proofs.Moved.{Agree, all_live, all_moved}
use Rattle.lldb_btree.proofs.Standing.{all_both}

pub footprints_both : (xs ys : List Part) → footprint_of (xs ++ ys) ≡ footprint_of xs ++ footprint_of ys
footprints_both [] ys = refl
footprints_both (x ∷ xs) ys = ap (λ (r : List ℕ). x.footprint ++ r) (footprints_both xs ys) ∙ sym (append_assoc x.footprint (footprint_of xs) (footprint_of ys))

pub pairs_both : (xs ys : List Part) → pairs_of (xs ++ ys) ≡ pairs_of xs ++ pairs_of ys
pairs_both [] ys = refl
pairs_both (x ∷ xs) ys = ap (λ (r : List Pair). x.pairs ++ r) (pairs_both xs ys) ∙ sym (append_assoc x.pairs (pairs_of xs) (pairs_of ys))

pub children_both : (xs ys : List Part) → map child_of (xs ++ ys) ≡ map child_of xs ++ map child_of ys
children_both [] ys = refl
children_both (x ∷ xs) ys = ap (λ (r : List Child). child_of x ∷ r) (children_both xs ys)

-- three runs of parts: the sums of their counts and lengths
pub counts : (n : ℕ) (l m r : List Part) → times n (footprint_of (l ++ (m ++ r))) ≡ times n (footprint_of l) + (times n (footprint_of m) + times n (footprint_of r))
counts n l m r =
    let a : times n (footprint_of (l ++ (m ++ r))) ≡ times n (footprint_of l ++ footprint_of (m ++ r)) = ap (times n) (footprints_both l (m ++ r)) in
    let b : times n (footprint_of (m ++ r)) ≡ times n (footprint_of m ++ footprint_of r) = ap (times n) (footprints_both m r) in
    omega (arith, a, b, times_append n (footprint_of l) (footprint_of (m ++ r)), times_append n (footprint_of m) (footprint_of r))

lengths : (l m r : List Part) → length (footprint_of (l ++ (m ++ r))) ≡ length (footprint_of l) + (length (footprint_of m) + length (footprint_of r))
lengths l m r =
    let a : length (footprint_of (l ++ (m ++ r))) ≡ length (footprint_of l ++ footprint_of (m ++ r)) = ap length (footprints_both l (m ++ r)) in
    let b : length (footprint_of (m ++ r)) ≡ length (footprint_of m ++ footprint_of r) = ap length (footprints_both m r) in
    omega (arith, a, b, length-append (footprint_of l) (footprint_of (m ++ r)), length-append (footprint_of m) (footprint_of r))

-- the handle of a node, and those of the runs beside the one that is edited
abbrev rest_of : ℕ → List Part → List Part → List ℕ
rest_of h l r = h ∷ (footprint_of l ++ footprint_of r)

rest_live : (m : Contents) (h : ℕ) (l r : List Part) → Live m (h ∷ []) → Live m (footprint_of l) → Live m (footprint_of r) → Live m (rest_of h l r)
rest_live m h l r here left right n some none = seen (times n (h ∷ [])) (times n (footprint_of l)) refl refl
  where
    sum : times n (footprint_of l ++ footprint_of r) ≡ times n (footprint_of l) + times n (footprint_of r)
    sum = times_append n (footprint_of l) (footprint_of r)

    seen : (i j : ℕ) → times n (h ∷ []) ≡ i → times n (footprint_of l) ≡ j → ⊥
    seen (suc i) j e f = here n (omega (arith, e)) none
    seen zero (suc j) e f = left n (omega (arith, f)) none
    seen zero zero e f = right n (omega (arith, some, sum, e, f)) none

pub parent : (old new : Contents) (d more h : ℕ) (l mid r : List Part) (cs : List Child) (pairs : List Pair) → AllByRecursion (IsNode (IsOver old d) old 16) l → AllByRecursion (IsNode (IsOver old d) old 16) r → Live old (h ∷ []) → ((n : ℕ) → times n (h ∷ footprint_of (l ++ (mid ++ r))) ≤ 1) → Becomes old new d more (footprint_of mid) cs pairs → Lifts old new (suc d) more h (h ∷ footprint_of (l ++ (mid ++ r))) (Inner (map child_of l ++ (cs ++ map child_of r))) (pairs_of l ++ (pairs ++ pairs_of r))
parent old new d more h l mid r cs pairs left right here once b =
    let live_l : Live old (footprint_of l) = all_live old d l left in
    let live_r : Live old (footprint_of r) = all_live old d r right in
    let apart_l : (n : ℕ) → 0 < times n (footprint_of l) → times n (footprint_of mid) ≡ 0 = λ n some. omega (arith, some, once n, counts n l mid r) in
    let apart_r : (n : ℕ) → 0 < times n (footprint_of r) → times n (footprint_of mid) ≡ 0 = λ n some. omega (arith, some, once n, counts n l mid r) in
    let apart_h : times h (footprint_of mid) ≡ 0 = omega (arith, times_self h (footprint_of (l ++ (mid ++ r))), once h, counts h l mid r) in
    let same_l : Agree old new (footprint_of l) = λ n some. edit_stays old new (footprint_of mid) (footprint_of b.parts) n b.edits (apart_l n some) (live_l n some) in
    let same_r : Agree old new (footprint_of r) = λ n some. edit_stays old new (footprint_of mid) (footprint_of b.parts) n b.edits (apart_r n some) (live_r n some) in
    record {
      under = footprint_of (l ++ (b.parts ++ r));
      over = record {
        parts = l ++ (b.parts ++ r);
        each = all_both (IsNode (IsOver new d) new 16) l (b.parts ++ r) (all_moved old new d l left same_l) (all_both (IsNode (IsOver new d) new 16) b.parts r b.each (all_moved old new d r right same_r));
        named = ap (λ (x : List Child). Inner (map child_of l ++ (x ++ map child_of r))) b.named ∙ sym (ap (λ (x : List Child). Inner x) (children_both l (b.parts ++ r) ∙ ap (λ (x : List Child). map child_of l ++ x) (children_both b.parts r)));
        all = ap (λ (x : List Pair). pairs_of l ++ (x ++ pairs_of r)) b.all ∙ sym (pairs_both l (b.parts ++ r) ∙ ap (λ (x : List Pair). pairs_of l ++ x) (pairs_both b.parts r));
        takes = refl;
      };
      edits = edits_in old new (footprint_of mid) (footprint_of b.parts) (rest_of h l r) (h ∷ footprint_of (l ++ (mid ++ r))) (h ∷ footprint_of (l ++ (b.parts ++ r))) b.edits (rest_live old h l r here live_l live_r)
          (λ n. omega (arith, counts n l mid r, times_append n (footprint_of l) (footprint_of r)))
          (λ n. omega (arith, counts n l b.parts r, times_append n (footprint_of l) (footprint_of r)))
          once;
      stays = edit_stays old new (footprint_of mid) (footprint_of b.parts) h b.edits apart_h (here h (times_here h []));
      grows = omega (arith, b.grows, lengths l mid r, lengths l b.parts r);
    }
