-- Children of a node some of which were stored, and the neighbour with which a child shares.
use Rattle.std.proofs.Common.{◌≡◌, ℕ, zero, suc, ◌+◌, ◌-◌, ◌≤◌, Bool, true, false, List, [], ◌∷◌, ◌++◌, length, map, Option, Some, IfSome, refl, sym, ap, ◌∙◌, arith, append_assoc, append-nil, length-append}
use Rattle.std.specs.List.{AllByRecursion}
use Rattle.lldb_base.specs.Contents.{Contents, content_of}
use Rattle.lldb_base.specs.Heaps.{MayBeDead}
use Rattle.lldb_btree.specs.declared.node.Child.{Child}
use Rattle.lldb_btree.specs.declared.node.Pair.{Pair}
use Rattle.lldb_btree.specs.Changes.{Becomes, CanStore, IsStored}
use Rattle.lldb_btree.specs.Footprints.{times, Edits}
use Rattle.lldb_btree.specs.Nodes.{count, spelling, body, child_entry, is_leaf, entries}
use Rattle.lldb_btree.specs.Pairs.{FitsPair}
use Rattle.lldb_btree.specs.Reading.{mark}
use Rattle.lldb_btree.specs.Removal.{IsLoose, CanMendWith, CanPut, IsPut, IsBeside, either_way}
use Rattle.lldb_btree.specs.Trees.{Part, child_of, pairs_of, footprint_of, IsNode, IsOver}
use Rattle.lldb_btree.proofs.Edited.{Live, times_append, edits_in, edit_stays}
use Rattle.lldb_btree.proofs.Lengths.{entries_count, spelled_by}
use Rattle.lldb_btree.proofs.Moved.{Agree, all_live, all_moved}
use Rattle.lldb_btree.proofs.Neighbours.{Sides}
use Rattle.lldb_btree.proofs.Parents.{footprints_both, pairs_both, children_both}
use Rattle.lldb_btree.proofs.Rooted.{not_dead}
use Rattle.lldb_btree.proofs.Setting.{inner_spelled}
use Rattle.lldb_btree.proofs.Standing.{all_left, all_right, all_both, parts_count, parts_fit}
use Rattle.lldb_btree.proofs.Steps.{Got}

-- the handles under some children, with those of a run between them
abbrev pub amid : List Part → List ℕ → List Part → List ℕ
amid l before r = footprint_of l ++ (before ++ footprint_of r)

abbrev pub pairs_amid : List Part → List Pair → List Part → List Pair
pairs_amid l ps r = pairs_of l ++ (ps ++ pairs_of r)

pub times_amid : (n : ℕ) (l : List Part) (before : List ℕ) (r : List Part) → times n (amid l before r) ≡ times n (footprint_of l) + (times n before + times n (footprint_of r))
times_amid n l before r = omega (arith, times_append n (footprint_of l) (before ++ footprint_of r), times_append n before (footprint_of r))

pub length_amid : (l : List Part) (before : List ℕ) (r : List Part) → length (amid l before r) ≡ length (footprint_of l) + (length before + length (footprint_of r))
length_amid l before r = omega (arith, length-append (footprint_of l) (before ++ footprint_of r), length-append before (footprint_of r))

pub footprints_amid : (l m r : List Part) → footprint_of (l ++ (m ++ r)) ≡ amid l (footprint_of m) r
footprints_amid l m r = footprints_both l (m ++ r) ∙ ap (λ (x : List ℕ). footprint_of l ++ x) (footprints_both m r)

-- two runs of live handles
live_both : (m : Contents) (us ts : List ℕ) → Live m us → Live m ts → Live m (us ++ ts)
live_both m us ts a b n some none = seen (times n us) refl where
  seen : (k : ℕ) → times n us ≡ k → ⊥
  seen zero e = b n (omega (arith, some, times_append n us ts, e)) none
  seen (suc k) e = a n (omega (arith, e)) none

-- parts beside handles that are edited stand as they did
pub apart_moved : (old new : Contents) (d : ℕ) (l : List Part) (before after : List ℕ) → AllByRecursion (IsNode (IsOver old d) old 16) l → Edits old new before after → ((n : ℕ) → times n (footprint_of l) + times n before ≤ 1) → AllByRecursion (IsNode (IsOver new d) new 16) l
apart_moved old new d l before after a e once =
    let live : Live old (footprint_of l) = all_live old d l a in
    let same : Agree old new (footprint_of l) = λ n some. edit_stays old new before after n e (omega (arith, some, once n)) (live n some) in
    all_moved old new d l a same

-- handles between other children become what they become alone
pub edits_amid : (old new : Contents) (d : ℕ) (l r : List Part) (before after : List ℕ) → AllByRecursion (IsNode (IsOver old d) old 16) l → AllByRecursion (IsNode (IsOver old d) old 16) r → ((n : ℕ) → times n (amid l before r) ≤ 1) → Edits old new before after → Edits old new (amid l before r) (amid l after r)
edits_amid old new d l r before after left right once e =
    edits_in old new before after (footprint_of l ++ footprint_of r) (amid l before r) (amid l after r) e (live_both old (footprint_of l) (footprint_of r) (all_live old d l left) (all_live old d r right))
    (λ n. omega (arith, times_amid n l before r, times_append n (footprint_of l) (footprint_of r)))
    (λ n. omega (arith, times_amid n l after r, times_append n (footprint_of l) (footprint_of r)))
    once

becomes_amid : (old new : Contents) (d more : ℕ) (l r : List Part) (before : List ℕ) (cs : List Child) (ps : List Pair) → AllByRecursion (IsNode (IsOver old d) old 16) l → AllByRecursion (IsNode (IsOver old d) old 16) r → ((n : ℕ) → times n (amid l before r) ≤ 1) → Becomes old new d more before cs ps → Becomes old new d more (amid l before r) (map child_of l ++ (cs ++ map child_of r)) (pairs_amid l ps r)
becomes_amid old new d more l r before cs ps left right once b =
    let left_new : AllByRecursion (IsNode (IsOver new d) new 16) l = apart_moved old new d l before (footprint_of b.parts) left b.edits (λ n. omega (arith, once n, times_amid n l before r)) in
    let right_new : AllByRecursion (IsNode (IsOver new d) new 16) r = apart_moved old new d r before (footprint_of b.parts) right b.edits (λ n. omega (arith, once n, times_amid n l before r)) in
    let edits : Edits old new (amid l before r) (amid l (footprint_of b.parts) r) = edits_amid old new d l r before (footprint_of b.parts) left right once b.edits in
    record {
      parts = l ++ (b.parts ++ r);
      each = all_both (IsNode (IsOver new d) new 16) l (b.parts ++ r) left_new (all_both (IsNode (IsOver new d) new 16) b.parts r b.each right_new);
      named = ap (λ (x : List Child). map child_of l ++ (x ++ map child_of r)) b.named ∙ sym (children_both l (b.parts ++ r) ∙ ap (λ (x : List Child). map child_of l ++ x) (children_both b.parts r));
      all = ap (λ (x : List Pair). pairs_of l ++ (x ++ pairs_of r)) b.all ∙ sym (pairs_both l (b.parts ++ r) ∙ ap (λ (x : List Pair). pairs_of l ++ x) (pairs_both b.parts r));
      edits = rw (footprints_amid l b.parts r) edits;
      grows = omega (arith, b.grows, ap length (footprints_amid l b.parts r), length_amid l (footprint_of b.parts) r, length_amid l before r);
    }

-- what a parent is where one child or two neighbours were stored
pub put_amid : (now : Option Contents) (m : Contents) (d many : ℕ) (l r : List Part) (mid before : List ℕ) (ps pairs : List Pair) (found n : ℕ) (front out back all : List ℕ) → AllByRecursion (IsNode (IsOver m d) m 16) l → AllByRecursion (IsNode (IsOver m d) m 16) r → ((k : ℕ) → times k before ≤ 1) → before ≡ amid l mid r → pairs ≡ pairs_amid l ps r → front ≡ body (map child_entry (map child_of l)) → back ≡ body (map child_entry (map child_of r)) → IsStored now m d 0 mid ps found out → n ≡ length l + (found + length r) → many ≤ n + 1 → n ≤ many → all ≡ 1 ∷ n ∷ ((front ++ out) ++ back) → IsPut now m d many before pairs all
put_amid now m d many l r mid before ps pairs found n front out back all left right once before_is pairs_are f b s n_is low high all_is =
    let cs : List Child = map child_of l ++ (s.children ++ map child_of r) in
    let up : Becomes m s.new d 0 (amid l mid r) cs (pairs_amid l ps r) = becomes_amid m s.new d 0 l r mid s.children ps left right (λ k. omega (arith, once k, ap (times k) before_is)) s.becomes in
    let len : n ≡ length cs = omega (arith, n_is, s.counted, length-append (map child_of l) (s.children ++ map child_of r), length-append s.children (map child_of r), parts_count l, parts_count r) in
    record {
      new = s.new;
      told = s.told;
      children = cs;
      becomes = rw (before_is, pairs_are) up;
      spelled = inner_spelled l s.children r n front out back all f s.spelled b len all_is;
      low = omega (arith, low, len);
      high = omega (arith, high, len);
    }

-- a child with entries enough can be stored
abbrev pub put_store : (told : Option Contents) (m : Contents) (d many child : ℕ) (front node back before : List ℕ) (pairs : List Pair) (c : CanPut told m d many child front node back before pairs) → 16 ≤ count c.loose.node → CanStore told m d child node c.middle c.under
put_store told m d many child front node back before pairs c enough = record {
  is = c.is;
  node = c.loose.node;
  spelled = c.loose.spelled;
  over = c.loose.over;
  once = λ n. omega (arith, c.once n, ap (times n) c.before_is, times_amid n c.l (child ∷ c.under) c.r);
  live = c.loose.live;
  low = c.loose.low;
  enough = enough;
  few = omega (arith, c.loose.few);
  fits = c.loose.fits;
}

-- a child was stored as it is
pub kept_put : (told now : Option Contents) (m : Contents) (d many child : ℕ) (front node back before : List ℕ) (pairs : List Pair) (found n : ℕ) (out all : List ℕ) (c : CanPut told m d many child front node back before pairs) → found ≡ 1 → n ≡ many → IsStored now m d 0 (child ∷ c.under) c.middle found out → all ≡ 1 ∷ n ∷ ((front ++ out) ++ back) → IsPut now m d many before pairs all
kept_put told now m d many child front node back before pairs found n out all c one same s all_is =
    put_amid now m d many c.l c.r (child ∷ c.under) before c.middle pairs found n front out back all c.each_l c.each_r c.once c.before_is c.pairs_are c.front_is c.back_is s (omega (arith, one, same, c.counted)) (omega (arith, same)) (omega (arith, same)) all_is

-- the head of a child counts its entries
pub put_headless : (told : Option Contents) (m : Contents) (d many child : ℕ) (front node back before : List ℕ) (pairs : List Pair) → CanPut told m d many child front node back before pairs → ((l : Bool) (n : ℕ) (r : List ℕ) → node ≡ mark l ∷ n ∷ r → ⊥) → ⊥
put_headless told m d many child front node back before pairs c none = none (is_leaf c.loose.node) (length (entries c.loose.node)) (body (entries c.loose.node)) (c.loose.spelled ∙ spelled_by c.loose.node)

pub put_count : (told : Option Contents) (m : Contents) (d many child : ℕ) (front node back before : List ℕ) (pairs : List Pair) (n : ℕ) {leaf : Bool} {rest : List ℕ} (c : CanPut told m d many child front node back before pairs) → ((l : Bool) (k : ℕ) (r : List ℕ) → node ≡ mark l ∷ k ∷ r → (leaf ≡ l) × (n ≡ k) × (rest ≡ r)) → n ≡ count c.loose.node
put_count told m d many child front node back before pairs n c whole = (whole (is_leaf c.loose.node) (length (entries c.loose.node)) (body (entries c.loose.node)) (c.loose.spelled ∙ spelled_by c.loose.node)).1 ∙ entries_count c.loose.node

-- what stands beside a child, as its bytes are
pub put_sides : (told : Option Contents) (m : Contents) (d many child : ℕ) (front node back before : List ℕ) (pairs : List Pair) (n : ℕ) (c : CanPut told m d many child front node back before pairs) → 2 ≤ many → n ≡ many - 1 → Sides c.l c.r front n back
put_sides told m d many child front node back before pairs n c some is =
    let fits : AllByRecursion FitsPair (pairs_amid c.l c.middle c.r) = rw c.pairs_are at c.fits in
    let rest : AllByRecursion FitsPair (c.middle ++ pairs_of c.r) = all_right FitsPair (pairs_of c.l) (c.middle ++ pairs_of c.r) fits in (
      parts_fit m d c.l c.each_l (all_left FitsPair (pairs_of c.l) (c.middle ++ pairs_of c.r) fits),
      parts_fit m d c.r c.each_r (all_right FitsPair c.middle (pairs_of c.r) rest),
      omega (arith, some, c.counted),
      omega (arith, is, c.counted),
      c.front_is,
      c.back_is,
    )

-- the neighbour of a child, and what stands beside both
pub record Beside (told : Option Contents) (m : Contents) (d many child : ℕ) (node before : List ℕ) (pairs middle : List Pair) (under front back : List ℕ) (other : ℕ) (behind : Bool) : Type 0 where
  pub l : List Part
  pub r : List Part
  pub q : Part
  pub stands : IsNode (IsOver m d) m 16 q
  pub here : other ≡ q.handle
  pub fits : AllByRecursion FitsPair q.pairs
  pub each_l : AllByRecursion (IsNode (IsOver m d) m 16) l
  pub each_r : AllByRecursion (IsNode (IsOver m d) m 16) r
  pub front_is : front ≡ body (map child_entry (map child_of l))
  pub back_is : back ≡ body (map child_entry (map child_of r))
  pub before_is : before ≡ amid l (either_way behind (child ∷ under) (other ∷ stands.under)) r
  pub pairs_are : pairs ≡ pairs_amid l (either_way behind middle q.pairs) r
  pub counted : many ≡ length l + (2 + length r)

foot_of : (m : Contents) (d other : ℕ) (q : Part) (a : IsNode (IsOver m d) m 16 q) → other ≡ q.handle → q.footprint ≡ other ∷ a.under
foot_of m d other q a here = a.footprint ∙ ap (λ (h : ℕ). h ∷ a.under) (sym here)

pub beside : (told : Option Contents) (m : Contents) (d many child : ℕ) (front node back before : List ℕ) (pairs : List Pair) (c : CanPut told m d many child front node back before pairs) (near far : List ℕ) (other : ℕ) (behind : Bool) → IsBeside c.l c.r near other far behind → Beside told m d many child node before pairs c.middle c.under near far other behind
beside told m d many child front node back before pairs c near far other true i =
    let q : Part = i.0 in
    let qs : List Part = i.1 in
    let each : AllByRecursion (IsNode (IsOver m d) m 16) (q ∷ qs) = rw i.2 at c.each_r in
    let foot : q.footprint ≡ other ∷ each.0.under = foot_of m d other q each.0 i.3 in
    let fits : AllByRecursion FitsPair (pairs_amid c.l c.middle c.r) = rw c.pairs_are at c.fits in
    let rest : AllByRecursion FitsPair (pairs_of c.r) = all_right FitsPair c.middle (pairs_of c.r) (all_right FitsPair (pairs_of c.l) (c.middle ++ pairs_of c.r) fits) in
    let mine : AllByRecursion FitsPair (q.pairs ++ pairs_of qs) = rw i.2 at rest in
    record {
      l = c.l;
      r = qs;
      q = q;
      stands = each.0;
      here = i.3;
      fits = all_left FitsPair q.pairs (pairs_of qs) mine;
      each_l = c.each_l;
      each_r = each.1;
      front_is = i.4;
      back_is = i.5;
      before_is = c.before_is ∙ ap (λ (x : List Part). amid c.l (child ∷ c.under) x) i.2 ∙ ap (λ (x : List ℕ). footprint_of c.l ++ ((child ∷ c.under) ++ (x ++ footprint_of qs))) foot ∙ ap (λ (x : List ℕ). footprint_of c.l ++ x) (sym (append_assoc (child ∷ c.under) (other ∷ each.0.under) (footprint_of qs)));
      pairs_are = c.pairs_are ∙ ap (λ (x : List Part). pairs_amid c.l c.middle x) i.2 ∙ ap (λ (x : List Pair). pairs_of c.l ++ x) (sym (append_assoc c.middle q.pairs (pairs_of qs)));
      counted = omega (arith, c.counted, ap length i.2);
    }
beside told m d many child front node back before pairs c near far other false i =
    let q : Part = i.0 in
    let qs : List Part = i.1 in
    let each : AllByRecursion (IsNode (IsOver m d) m 16) (qs ++ (q ∷ [])) = rw i.2 at c.each_l in
    let one : IsNode (IsOver m d) m 16 q = (all_right (IsNode (IsOver m d) m 16) qs (q ∷ []) each).0 in
    let foot : q.footprint ≡ other ∷ one.under = foot_of m d other q one i.3 in
    let fits : AllByRecursion FitsPair (pairs_amid c.l c.middle c.r) = rw c.pairs_are at c.fits in
    let first : AllByRecursion FitsPair (pairs_of c.l) = all_left FitsPair (pairs_of c.l) (c.middle ++ pairs_of c.r) fits in
    let ends : pairs_of c.l ≡ pairs_of qs ++ q.pairs = ap (λ (x : List Part). pairs_of x) i.2 ∙ pairs_both qs (q ∷ []) ∙ ap (λ (x : List Pair). pairs_of qs ++ x) (append-nil q.pairs) in
    let mine : AllByRecursion FitsPair (pairs_of qs ++ q.pairs) = rw ends at first in
    let foots : footprint_of c.l ≡ footprint_of qs ++ (other ∷ one.under) = ap (λ (x : List Part). footprint_of x) i.2 ∙ footprints_both qs (q ∷ []) ∙ ap (λ (x : List ℕ). footprint_of qs ++ x) (append-nil q.footprint ∙ foot) in
    record {
      l = qs;
      r = [];
      q = q;
      stands = one;
      here = i.3;
      fits = all_right FitsPair (pairs_of qs) q.pairs mine;
      each_l = all_left (IsNode (IsOver m d) m 16) qs (q ∷ []) each;
      each_r = tt;
      front_is = i.4;
      back_is = i.6;
      before_is = c.before_is ∙ ap (λ (x : List Part). amid c.l (child ∷ c.under) x) i.5 ∙ ap (λ (x : List ℕ). x ++ ((child ∷ c.under) ++ [])) foots ∙ append_assoc (footprint_of qs) (other ∷ one.under) ((child ∷ c.under) ++ []) ∙ ap (λ (x : List ℕ). footprint_of qs ++ x) (sym (append_assoc (other ∷ one.under) (child ∷ c.under) []));
      pairs_are = c.pairs_are ∙ ap (λ (x : List Part). pairs_amid c.l c.middle x) i.5 ∙ ap (λ (x : List Pair). x ++ (c.middle ++ [])) ends ∙ append_assoc (pairs_of qs) q.pairs (c.middle ++ []) ∙ ap (λ (x : List Pair). pairs_of qs ++ x) (sym (append_assoc q.pairs c.middle []));
      counted = omega (arith, c.counted, ap length i.2, ap length i.5, length-append qs (q ∷ []));
    }

-- the neighbour as it was read
abbrev other_loose : (told : Option Contents) (m : Contents) (d many child : ℕ) (node before : List ℕ) (pairs middle : List Pair) (under front back : List ℕ) (other : ℕ) (behind : Bool) (next : List ℕ) (b : Beside told m d many child node before pairs middle under front back other behind) → told ≡ Some m → Got told other next → IsLoose m d other next b.q.pairs b.stands.under
other_loose told m d many child node before pairs middle under front back other behind next b is got =
    let held : content_of other m ≡ Some (spelling b.stands.node) = ap (λ (h : ℕ). content_of h m) b.here ∙ b.stands.held in
    let one : IfSome (content_of other m) (λ content. next ≡ content) = rw is at got in
    record {
      node = b.stands.node;
      spelled = rw held at one;
      over = b.stands.over;
      live = (spelling b.stands.node, held);
      low = omega (arith, b.here, b.stands.handle);
      few = b.stands.few;
      fits = b.fits;
    }

pub other_dead : (told : Option Contents) (m : Contents) (d many child : ℕ) (node before : List ℕ) (pairs middle : List Pair) (under front back : List ℕ) (other : ℕ) (behind : Bool) → Beside told m d many child node before pairs middle under front back other behind → told ≡ Some m → MayBeDead other told → ⊥
other_dead told m d many child node before pairs middle under front back other behind b is dead = not_dead told other (spelling b.stands.node) m is (ap (λ (h : ℕ). content_of h m) b.here ∙ b.stands.held) dead

-- a child and its neighbour can be put together
pub can_mend : (told read : Option Contents) (m : Contents) (d many child : ℕ) (front node back before : List ℕ) (pairs : List Pair) (c : CanPut told m d many child front node back before pairs) (near far : List ℕ) (other : ℕ) (behind : Bool) (next : List ℕ) (b : Beside told m d many child node before pairs c.middle c.under near far other behind) → Got told other next → read ≡ told → CanMendWith behind read m d child other node next c.middle b.q.pairs c.under b.stands.under
can_mend told read m d many child front node back before pairs c near far other true next b got same =
    let loose : IsLoose m d other next b.q.pairs b.stands.under = other_loose told m d many child node before pairs c.middle c.under near far other true next b c.is got in
    let many : 16 ≤ count loose.node = b.stands.enough in
    record {
      is = same ∙ c.is;
      one = c.loose;
      two = loose;
      once = λ n. omega (arith, c.once n, ap (times n) b.before_is, times_amid n b.l ((child ∷ c.under) ++ (other ∷ b.stands.under)) b.r);
      enough = omega (arith, many);
    }
can_mend told read m d many child front node back before pairs c near far other false next b got same =
    let loose : IsLoose m d other next b.q.pairs b.stands.under = other_loose told m d many child node before pairs c.middle c.under near far other false next b c.is got in
    let many : 16 ≤ count loose.node = b.stands.enough in
    record {
      is = same ∙ c.is;
      one = loose;
      two = c.loose;
      once = λ n. omega (arith, c.once n, ap (times n) b.before_is, times_amid n b.l ((other ∷ b.stands.under) ++ (child ∷ c.under)) b.r);
      enough = omega (arith, many);
    }

-- what stands where a child and its neighbour were stored
pub refilled : (told now : Option Contents) (m : Contents) (d many child : ℕ) (front node back before : List ℕ) (pairs : List Pair) (c : CanPut told m d many child front node back before pairs) (near far : List ℕ) (other : ℕ) (behind : Bool) (b : Beside told m d many child node before pairs c.middle c.under near far other behind) (found n : ℕ) (out all : List ℕ) → IsStored now m d 0 (either_way behind (child ∷ c.under) (other ∷ b.stands.under)) (either_way behind c.middle b.q.pairs) found out → 1 ≤ found → found ≤ 2 → n + 2 ≡ many + found → all ≡ 1 ∷ n ∷ ((near ++ out) ++ far) → IsPut now m d many before pairs all
refilled told now m d many child front node back before pairs c near far other behind b found n out all s low high n_is all_is =
    put_amid now m d many b.l b.r (either_way behind (child ∷ c.under) (other ∷ b.stands.under)) before (either_way behind c.middle b.q.pairs) pairs found n near out far all b.each_l b.each_r c.once b.before_is b.pairs_are b.front_is b.back_is s (omega (arith, n_is, b.counted)) (omega (arith, n_is, low)) (omega (arith, n_is, high)) all_is
