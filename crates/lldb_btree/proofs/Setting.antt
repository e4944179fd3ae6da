-- A pair that is set in a leaf, and below an inner node.
use Rattle.std.proofs.Common.{◌≡◌, ⊎_elim, ℕ, zero, suc, ◌+◌, ◌≤◌, List, [], ◌∷◌, ◌++◌, length, map, Option, Some, None, refl, sym, ap, ◌∙◌, arith, length-append, append-nil, append_assoc}
use Rattle.std.specs.List.{AllByRecursion}
use Rattle.lldb_base.specs.Contents.{Contents, content_of}
use Rattle.lldb_btree.specs.declared.node.Child.{Child}
use Rattle.lldb_btree.specs.declared.node.Node.{Node}
use Rattle.lldb_btree.specs.declared.node.Node.TheVariants.{Leaf, Inner}
use Rattle.lldb_btree.specs.declared.node.Pair.{Pair}
use Rattle.lldb_btree.specs.Changes.{Becomes, Lifts, CanEdit, IsEdited, CanStore}
use Rattle.lldb_btree.specs.Footprints.{times}
use Rattle.lldb_btree.specs.Nodes.{Entry, count, spelling, body, child_entry}
use Rattle.lldb_btree.specs.Pairs.{FitsPair, insert}
use Rattle.lldb_btree.specs.Trees.{Part, child_of, pairs_of, footprint_of, IsNode, IsOver}
use Rattle.std.proofs.lemmas.Bool.{cases_eq}
use Rattle.lldb_btree.proofs.Edited.{Live, edits_none, edits_then, times_there}
use Rattle.lldb_btree.proofs.Inserts.{insert_count}
use Rattle.lldb_btree.proofs.Parents.{parent}
use Rattle.lldb_btree.proofs.Splices.{body_both}
use Rattle.std.proofs.lemmas.List.{map-append}
use Rattle.lldb_btree.proofs.Standing.{all_left, all_right, parts_count}

-- a leaf with a pair set
pub leaf_set : (told now : Option Contents) (m : Contents) (least handle room : ℕ) (p : Part) (k v bytes : List ℕ) → CanEdit told m zero least p handle room → now ≡ told → bytes ≡ spelling (Leaf (insert k v p.pairs)) → IsEdited now m zero least p (insert k v p.pairs) bytes
leaf_set told now m least handle room p k v bytes e same spelled =
    let foot : p.footprint ≡ p.handle ∷ [] = e.walk.stands.footprint ∙ ap (λ (us : List ℕ). p.handle ∷ us) e.walk.stands.over.1 in
    let many : count e.walk.stands.node ≡ length p.pairs = ap count e.walk.stands.over.0 in
    let size = insert_count k v p.pairs in
    let once : (n : ℕ) → times n (p.handle ∷ []) ≤ 1 = λ n. omega (arith, e.once n, ap (times n) foot) in
    record {
      new = m;
      told = same ∙ e.walk.is;
      node = Leaf (insert k v p.pairs);
      spelled = spelled;
      lifts = record {
        under = [];
        over = (refl, refl);
        edits = rw foot (edits_none m (p.handle ∷ []) once);
        stays = refl;
        grows = omega (arith, ap length foot);
      };
      enough = omega (arith, many, size.0, e.walk.stands.enough);
      few = omega (arith, many, size.1, e.walk.stands.few);
    }

-- a node that was changed in memory and is then stored
pub then_stored : (old mid new : Contents) (d more handle : ℕ) (before : List ℕ) (node : Node) (pairs : List Pair) (children : List Child) → (l : Lifts old mid d more handle before node pairs) → Becomes mid new d 1 (handle ∷ l.under) children pairs → Becomes old new d (suc more) before children pairs
then_stored old mid new d more handle before node pairs children l b = record {
  parts = b.parts;
  each = b.each;
  named = b.named;
  all = b.all;
  edits = edits_then old mid new before (handle ∷ l.under) (footprint_of b.parts) l.edits b.edits;
  grows = omega (arith, b.grows, l.grows);
}

-- a node that was changed in memory can be stored at its handle
pub can_store : (now : Option Contents) (m : Contents) (d handle : ℕ) (p : Part) (pairs : List Pair) (bytes : List ℕ) → IsNode (IsOver m d) m 16 p → p.handle ≡ handle → (e : IsEdited now m d 16 p pairs bytes) → AllByRecursion FitsPair pairs → CanStore now e.new d handle bytes pairs e.lifts.under
can_store now m d handle p pairs bytes n here e fits = record {
  is = e.told;
  node = e.node;
  spelled = e.spelled;
  over = e.lifts.over;
  once = rw (sym here) e.lifts.edits.once;
  live = (spelling n.node, ap (λ (h : ℕ). content_of h e.new) (sym here) ∙ e.lifts.stays ∙ n.held);
  low = omega (arith, here, n.handle);
  enough = e.enough;
  few = omega (arith, e.few);
  fits = fits;
}

pub one_live : (m : Contents) (h : ℕ) (c : List ℕ) → content_of h m ≡ Some c → Live m (h ∷ [])
one_live m h c held n some none = ⊎_elim
    (λ same. let clash : Some c ≡ None = sym held ∙ ap (λ (k : ℕ). content_of k m) (sym same) ∙ none in absurd (cc))
    (λ ne. absurd (omega (arith, some, times_there n h [] ne)))
    (cases_eq n h)

-- the bytes of an inner node where entries were exchanged
pub inner_spelled : (l : List Part) (cs : List Child) (r : List Part) (n : ℕ) (front middle back bytes : List ℕ) → front ≡ body (map child_entry (map child_of l)) → middle ≡ body (map child_entry cs) → back ≡ body (map child_entry (map child_of r)) → n ≡ length (map child_of l ++ (cs ++ map child_of r)) → bytes ≡ 1 ∷ n ∷ ((front ++ middle) ++ back) → bytes ≡ spelling (Inner (map child_of l ++ (cs ++ map child_of r)))
inner_spelled l cs r n front middle back bytes f m b many is =
    let all : body (map child_entry (map child_of l ++ (cs ++ map child_of r))) ≡ body (map child_entry (map child_of l)) ++ (body (map child_entry cs) ++ body (map child_entry (map child_of r))) =
    ap body (map-append child_entry (map child_of l) (cs ++ map child_of r)) ∙ body_both (map child_entry (map child_of l)) (map child_entry (cs ++ map child_of r))
    ∙ ap (λ (x : List Entry). body (map child_entry (map child_of l)) ++ body x) (map-append child_entry cs (map child_of r))
    ∙ ap (λ (x : List ℕ). body (map child_entry (map child_of l)) ++ x) (body_both (map child_entry cs) (map child_entry (map child_of r))) in
    let runs : (front ++ middle) ++ back ≡ body (map child_entry (map child_of l)) ++ (body (map child_entry cs) ++ body (map child_entry (map child_of r))) =
    append_assoc front middle back ∙ ap (λ (x : List ℕ). x ++ (middle ++ back)) f ∙ ap (λ (x : List ℕ). body (map child_entry (map child_of l)) ++ (x ++ back)) m ∙ ap (λ (x : List ℕ). body (map child_entry (map child_of l)) ++ (body (map child_entry cs) ++ x)) b in
    is ∙ ap (λ (k : ℕ). 1 ∷ k ∷ ((front ++ middle) ++ back)) many ∙ ap (λ (x : List ℕ). 1 ∷ length (map child_of l ++ (cs ++ map child_of r)) ∷ x) (runs ∙ sym all)

-- an inner node where a child has become one child or two
pub inner_set : (told now : Option Contents) (m new : Contents) (d least handle room : ℕ) (p : Part) (k v : List ℕ) (e : CanEdit told m (suc d) least p handle room) → (l : List Part) (q : Part) (r : List Part) (cs : List Child) → e.walk.stands.over.parts ≡ l ++ (q ∷ r) → Becomes m new d (suc d) q.footprint cs (insert k v q.pairs) → now ≡ Some new → insert k v (pairs_of e.walk.stands.over.parts) ≡ pairs_of l ++ (insert k v q.pairs ++ pairs_of r) → 1 ≤ length cs → length cs ≤ 2 → (bytes : List ℕ) → bytes ≡ spelling (Inner (map child_of l ++ (cs ++ map child_of r))) → IsEdited now m (suc d) least p (insert k v p.pairs) bytes
inner_set told now m new d least handle room p k v e l q r cs whole b is pairs low high bytes spelled =
    let each : AllByRecursion (IsNode (IsOver m d) m 16) (l ++ (q ∷ r)) = rw whole at e.walk.stands.over.each in
    let left : AllByRecursion (IsNode (IsOver m d) m 16) l = all_left (IsNode (IsOver m d) m 16) l (q ∷ r) each in
    let right : AllByRecursion (IsNode (IsOver m d) m 16) (q ∷ r) = all_right (IsNode (IsOver m d) m 16) l (q ∷ r) each in
    let foot : p.footprint ≡ p.handle ∷ footprint_of (l ++ (q ∷ r)) = e.walk.stands.footprint ∙ ap (λ (us : List ℕ). p.handle ∷ us) (e.walk.stands.over.takes ∙ ap (λ (x : List Part). footprint_of x) whole) in
    let once : (n : ℕ) → times n (p.handle ∷ footprint_of (l ++ (q ∷ r))) ≤ 1 = λ n. omega (arith, e.once n, ap (times n) foot) in
    let one : Becomes m new d (suc d) (q.footprint ++ []) cs (insert k v q.pairs) = rw (append-nil q.footprint) b in
    let up : Lifts m new (suc d) (suc d) p.handle (p.handle ∷ footprint_of (l ++ (q ∷ r))) (Inner (map child_of l ++ (cs ++ map child_of r))) (pairs_of l ++ (insert k v q.pairs ++ pairs_of r)) = parent m new d (suc d) p.handle l (q ∷ []) r cs (insert k v q.pairs) left right.1 (one_live m p.handle (spelling e.walk.stands.node) e.walk.stands.held) once one in
    let all : insert k v p.pairs ≡ pairs_of l ++ (insert k v q.pairs ++ pairs_of r) = ap (insert k v) e.walk.stands.over.all ∙ pairs in
    let had : count e.walk.stands.node ≡ length (l ++ (q ∷ r)) = ap count e.walk.stands.over.named ∙ parts_count e.walk.stands.over.parts ∙ ap length whole in
    let old : length (l ++ (q ∷ r)) ≡ length l + length (q ∷ r) = length-append l (q ∷ r) in
    let has : length (map child_of l ++ (cs ++ map child_of r)) ≡ length (map child_of l) + length (cs ++ map child_of r) = length-append (map child_of l) (cs ++ map child_of r) in
    let more : length (cs ++ map child_of r) ≡ length cs + length (map child_of r) = length-append cs (map child_of r) in
    record {
      new = new;
      told = is;
      node = Inner (map child_of l ++ (cs ++ map child_of r));
      spelled = spelled;
      lifts = rw (foot, all) up;
      enough = omega (arith, had, old, has, more, parts_count l, parts_count r, e.walk.stands.enough, low);
      few = omega (arith, had, old, has, more, parts_count l, parts_count r, e.walk.stands.few, high);
    }
