-- A root from below which a key was removed, as it is written.
use Rattle.std.proofs.Common.{◌≡◌, ℕ, zero, suc, ◌+◌, ◌≤◌, List, [], ◌∷◌, length, map, Option, Some, None, IfSome, refl, sym, ap, ◌∙◌, arith, append-nil}
use Rattle.std.specs.List.{AllByRecursion}
use Rattle.lldb_base.specs.Contents.{Contents, content_of, with_content, AreContents}
use Rattle.lldb_base.specs.Heaps.{MayBeDead}
use Rattle.lldb_btree.specs.declared.node.Child.{Child}
use Rattle.lldb_btree.specs.declared.node.Node.{Node}
use Rattle.lldb_btree.specs.declared.node.Node.TheVariants.{Leaf, Inner}
use Rattle.lldb_btree.specs.declared.node.Pair.{Pair}
use Rattle.lldb_btree.specs.Footprints.{times, Edits}
use Rattle.lldb_btree.specs.Nodes.{count, spelling, FitsChild}
use Rattle.lldb_btree.specs.Pairs.{FitsPair}
use Rattle.lldb_btree.specs.Removal.{CanLower, HoldsLess}
use Rattle.lldb_btree.specs.Trees.{Part, child_of, pairs_of, footprint_of, IsNode, IsOver, IsCleared, least_of}
use Rattle.lldb_btree.proofs.Clearing.{Removed, removed_here}
use Rattle.lldb_btree.proofs.Edited.{Live, times_here, times_self, edits_then, edits_in, edit_put, edit_stays}
use Rattle.lldb_btree.proofs.Lengths.{spelled_short}
use Rattle.lldb_btree.proofs.Moved.{Agree, over_live, over_moved}
use Rattle.lldb_btree.proofs.Rooted.{was_put, not_dead, handle_live}
use Rattle.lldb_btree.proofs.Standing.{over_fits, parts_fit}
use Rattle.lldb_btree.proofs.Steps.{Got}
use Rattle.lldb_btree.proofs.Stored.{part_at, node_put, apart_once}

-- what a replacement leaves
abbrev pub Written : Option Contents → Option Contents → ℕ → List ℕ → Type 0
Written told now h bytes = IfSome told (λ map. IfSome (content_of h map) (λ _. now ≡ Some (with_content h bytes map)))

-- a root with entries enough is written as it is
pub lower_one : (told now : Option Contents) (old m : Contents) (d h : ℕ) (before bytes : List ℕ) (pairs : List Pair) (c : CanLower told old m d h before bytes pairs) → least_of d ≤ count c.node → Written told now h bytes → HoldsLess now old h (d + 1) before pairs
lower_one told now old m d h before bytes pairs c enough put =
    let now_is : now ≡ Some (with_content h bytes m) = was_put told now h bytes c.live.0 m c.is c.live.1 put in
    record {
      new = with_content h (spelling c.node) m;
      told = now_is ∙ ap (λ (b : List ℕ). Some (with_content h b m)) c.spelled;
      levels_now = d + 1;
      footprint_now = h ∷ c.lifts.under;
      tree = record {
        d = d;
        top = node_put m d (least_of d) h c.node pairs c.lifts.under c.lifts.over (apart_once h c.lifts.under (c.lifts.edits.once h)) c.low enough c.few;
        depth = refl;
        sorted = c.sorted;
        once = c.lifts.edits.once;
      };
      edits = edits_then old m (with_content h (spelling c.node) m) before (h ∷ c.lifts.under) (h ∷ c.lifts.under) c.lifts.edits (edit_put m h (spelling c.node) (h ∷ c.lifts.under) (times_here h c.lifts.under) c.lifts.edits.once);
      lower = omega arith;
      fewer = omega (arith, c.lifts.grows);
    }

pub lower_unsaved : (told : Option Contents) (old m : Contents) (d h : ℕ) (before bytes : List ℕ) (pairs : List Pair) → CanLower told old m d h before bytes pairs → (length bytes ≤ 35810 → MayBeDead h told) → ⊥
lower_unsaved told old m d h before bytes pairs c dead = not_dead told h c.live.0 m c.is c.live.1 (dead (spelled_short c.node bytes (over_fits m d c.node pairs c.lifts.under c.lifts.over c.sorted.fits) c.few c.spelled))

-- what is answered of the only child of a node
pub record Answers (bytes : List ℕ) (r : Option ℕ) : Type 0 where
  pub only : (x : Child) → FitsChild x → bytes ≡ spelling (Inner (x ∷ [])) → r ≡ Some x.handle
  pub leaf : (pairs : List Pair) → bytes ≡ spelling (Leaf pairs) → r ≡ None
  pub many : (children : List Child) → 2 ≤ length children → bytes ≡ spelling (Inner children) → r ≡ None

enough_of : (bytes : List ℕ) (node : Node) (parts : List Part) → Answers bytes None → bytes ≡ spelling node → node ≡ Inner (map child_of parts) → AllByRecursion FitsChild (map child_of parts) → 2 ≤ count node + 1 → 2 ≤ count node
enough_of bytes node [] a is named fits some = absurd (omega (arith, some, ap count named))
enough_of bytes node (q ∷ []) a is named fits some =
    let clash : None ≡ Some q.handle = a.only (child_of q) fits.0 (is ∙ ap spelling named) in
    absurd (cc (clash))
enough_of bytes node (q ∷ r ∷ parts) a is named fits some = omega (arith, ap count named)

lower_children : (told : Option Contents) (old m : Contents) (d h : ℕ) (before bytes : List ℕ) (pairs : List Pair) (c : CanLower told old m (suc d) h before bytes pairs) → AllByRecursion FitsChild (map child_of c.lifts.over.parts)
lower_children told old m d h before bytes pairs c = parts_fit m d c.lifts.over.parts c.lifts.over.each (rw c.lifts.over.all at c.sorted.fits)

-- a root that has no only child has entries enough
pub lower_enough : (told : Option Contents) (old m : Contents) (d h : ℕ) (before bytes : List ℕ) (pairs : List Pair) (c : CanLower told old m d h before bytes pairs) (r : Option ℕ) → r ≡ None → Answers bytes r → least_of d ≤ count c.node
lower_enough told old m zero h before bytes pairs c r none a = omega arith
lower_enough told old m (suc d) h before bytes pairs c r none a =
    let b : Answers bytes None = rw none at a in
    enough_of bytes c.node c.lifts.over.parts b c.spelled c.lifts.over.named (lower_children told old m d h before bytes pairs c) c.enough

-- the only child of a root
pub record OnlyOne (node : Node) (only : ℕ) : Type 0 where
  pub x : Child
  pub is : node ≡ Inner (x ∷ [])
  pub here : only ≡ x.handle

only_of : (bytes : List ℕ) (node : Node) (parts : List Part) (only : ℕ) → Answers bytes (Some only) → bytes ≡ spelling node → node ≡ Inner (map child_of parts) → AllByRecursion FitsChild (map child_of parts) → 2 ≤ count node + 1 → OnlyOne node only
only_of bytes node [] only a is named fits some = absurd (omega (arith, some, ap count named))
only_of bytes node (q ∷ []) only a is named fits some =
    let e : Some only ≡ Some q.handle = a.only (child_of q) fits.0 (is ∙ ap spelling named) in
    record { x = child_of q; is = named; here = cc (e) }
only_of bytes node (q ∷ r ∷ parts) only a is named fits some =
    let clash : Some only ≡ None = a.many (map child_of (q ∷ r ∷ parts)) (omega arith) (is ∙ ap spelling named) in
    absurd (cc (clash))

pub lower_only : (told : Option Contents) (old m : Contents) (d h : ℕ) (before bytes : List ℕ) (pairs : List Pair) (c : CanLower told old m d h before bytes pairs) (r : Option ℕ) (only : ℕ) → r ≡ Some only → Answers bytes r → OnlyOne c.node only
lower_only told old m zero h before bytes pairs c r only some a =
    let clash : Some only ≡ None = sym some ∙ a.leaf pairs (c.spelled ∙ ap spelling c.lifts.over.0) in
    absurd (cc (clash))
lower_only told old m (suc d) h before bytes pairs c r only some a =
    let b : Answers bytes (Some only) = rw some at a in
    only_of bytes c.node c.lifts.over.parts only b c.spelled c.lifts.over.named (lower_children told old m d h before bytes pairs c) c.enough

-- the part below a root that has no other one
record Sole (m : Contents) (d only : ℕ) (under : List ℕ) (pairs : List Pair) : Type 0 where
  low : ℕ
  one_more : d ≡ suc low
  q : Part
  stands : IsNode (IsOver m low) m 16 q
  here : only ≡ q.handle
  under_is : under ≡ only ∷ stands.under
  pairs_is : pairs ≡ q.pairs

one_part : (m : Contents) (d only : ℕ) (x : Child) (parts : List Part) (under : List ℕ) (pairs : List Pair) → AllByRecursion (IsNode (IsOver m d) m 16) parts → Inner (map child_of parts) ≡ Inner (x ∷ []) → only ≡ x.handle → under ≡ footprint_of parts → pairs ≡ pairs_of parts → Sole m (suc d) only under pairs
one_part m d only x [] under pairs each e here takes all = absurd (cc (e))
one_part m d only x (q ∷ r ∷ parts) under pairs each e here takes all = absurd (cc (e))
one_part m d only x (q ∷ []) under pairs each e here takes all =
    let same : child_of q ≡ x = cc (e) in
    let at_q : only ≡ q.handle = here ∙ sym (ap (λ (y : Child). y.handle) same) in
    record {
      low = d;
      one_more = refl;
      q = q;
      stands = each.0;
      here = at_q;
      under_is = takes ∙ append-nil q.footprint ∙ each.0.footprint ∙ ap (λ (k : ℕ). k ∷ each.0.under) (sym at_q);
      pairs_is = all ∙ append-nil q.pairs;
    }

sole : (told : Option Contents) (old m : Contents) (d h : ℕ) (before bytes : List ℕ) (pairs : List Pair) (only : ℕ) (x : Child) (c : CanLower told old m d h before bytes pairs) → c.node ≡ Inner (x ∷ []) → only ≡ x.handle → Sole m d only c.lifts.under pairs
sole told old m zero h before bytes pairs only x c is here =
    let clash : Leaf pairs ≡ Inner (x ∷ []) = sym c.lifts.over.0 ∙ is in
    absurd (cc (clash))
sole told old m (suc d) h before bytes pairs only x c is here =
    one_part m d only x c.lifts.over.parts c.lifts.under pairs c.lifts.over.each (sym c.lifts.over.named ∙ is) here c.lifts.over.takes c.lifts.over.all

sole_held : (m : Contents) (d only : ℕ) (under : List ℕ) (pairs : List Pair) (s : Sole m d only under pairs) → content_of only m ≡ Some (spelling s.stands.node)
sole_held m d only under pairs s = ap (λ (k : ℕ). content_of k m) s.here ∙ s.stands.held

pub only_dead : (told read : Option Contents) (old m : Contents) (d h : ℕ) (before bytes : List ℕ) (pairs : List Pair) (only : ℕ) (x : Child) (c : CanLower told old m d h before bytes pairs) → c.node ≡ Inner (x ∷ []) → only ≡ x.handle → read ≡ told → MayBeDead only read → ⊥
only_dead told read old m d h before bytes pairs only x c is here same dead =
    let s = sole told old m d h before bytes pairs only x c is here in
    not_dead read only (spelling s.stands.node) m (same ∙ c.is) (sole_held m d only c.lifts.under pairs s) dead

edits_from : (m new : Contents) (h : ℕ) (us ts vs : List ℕ) → us ≡ ts → Edits m new (h ∷ ts) vs → Edits m new (h ∷ us) vs
edits_from m new h us ts vs same e = rw same e

node_of : (m : Contents) (d least h : ℕ) (ps qs : List Pair) (us : List ℕ) → ps ≡ qs → IsNode (IsOver m d) m least (part_at h qs us) → IsNode (IsOver m d) m least (part_at h ps us)
node_of m d least h ps qs us same n = rw same n

-- a root whose only child was read and removed
record Bare (mid : Option Contents) (m : Contents) (d h only : ℕ) (under node : List ℕ) (pairs : List Pair) (s : Sole m d only under pairs) : Type 0 where
  new : Contents
  told : mid ≡ Some new
  edits : Edits m new (h ∷ under) (h ∷ s.stands.under)
  over : IsOver new s.low s.stands.node s.q.pairs s.stands.under
  content : List ℕ
  live : content_of h new ≡ Some content
  is : node ≡ spelling s.stands.node

bare : (told read mid : Option Contents) (old m : Contents) (d h : ℕ) (before bytes node : List ℕ) (pairs : List Pair) (only : ℕ) (c : CanLower told old m d h before bytes pairs) (s : Sole m d only c.lifts.under pairs) → Got told only node → read ≡ told → IfSome read AreContents → Removed read mid only → Bare mid m d h only c.lifts.under node pairs s
bare told read mid old m d h before bytes node pairs only c s got same all gone =
    let a : IsNode (IsOver m s.low) m 16 s.q = s.stands in
    let held : content_of only m ≡ Some (spelling a.node) = sole_held m d only c.lifts.under pairs s in
    let one : IfSome (content_of only m) (λ content. node ≡ content) = rw c.is at got in
    let x : IsCleared mid m (only ∷ []) = removed_here read mid m only (spelling a.node) (same ∙ c.is) held all gone in
    let once : (n : ℕ) → times n (h ∷ (only ∷ a.under)) ≤ 1 = λ n. omega (arith, c.lifts.edits.once n, ap (times n) s.under_is) in
    let below : Live m a.under = over_live m s.low a.node s.q.pairs a.under a.over in
    let live : Live m (h ∷ a.under) = handle_live m h c.live.0 a.under c.live.1 below in
    let edits : Edits m x.new (h ∷ (only ∷ a.under)) (h ∷ a.under) = edits_in m x.new (only ∷ []) [] (h ∷ a.under) (h ∷ (only ∷ a.under)) (h ∷ a.under) x.edits live (λ n. omega arith) (λ n. omega arith) once in
    let agree : Agree m x.new a.under = λ n some. edit_stays m x.new (only ∷ []) [] n x.edits (omega (arith, some, once n)) (below n some) in
    let apart : times h (only ∷ []) ≡ 0 = omega (arith, once h, times_self h (only ∷ a.under)) in
    record {
      new = x.new;
      told = x.told;
      edits = edits_from m x.new h c.lifts.under (only ∷ a.under) (h ∷ a.under) s.under_is edits;
      over = over_moved m x.new s.low a.node s.q.pairs a.under a.over agree;
      content = c.live.0;
      live = edit_stays m x.new (only ∷ []) [] h x.edits apart (live h (times_here h a.under)) ∙ c.live.1;
      is = rw held at one;
    }

least_low : (d : ℕ) → least_of d ≤ 16
least_low zero = omega arith
least_low (suc d) = omega arith

-- the only child takes the place of the root
pub root_lowered : (told read mid now : Option Contents) (old m : Contents) (d h : ℕ) (before bytes node : List ℕ) (pairs : List Pair) (only : ℕ) (x : Child) (c : CanLower told old m d h before bytes pairs) → c.node ≡ Inner (x ∷ []) → only ≡ x.handle → Got told only node → read ≡ told → IfSome read AreContents → Removed read mid only → Written mid now h node → HoldsLess now old h (d + 1) before pairs
root_lowered told read mid now old m d h before bytes node pairs only x c is here got same all gone put =
    let s : Sole m d only c.lifts.under pairs = sole told old m d h before bytes pairs only x c is here in
    let b : Bare mid m d h only c.lifts.under node pairs s = bare told read mid old m d h before bytes node pairs only c s got same all gone in
    let a : IsNode (IsOver m s.low) m 16 s.q = s.stands in
    let new : Contents = with_content h (spelling a.node) b.new in
    let now_is : now ≡ Some (with_content h node b.new) = was_put mid now h node b.content b.new b.told b.live put in
    let least : least_of s.low ≤ count a.node = omega (arith, least_low s.low, a.enough) in
    let written : Edits b.new new (h ∷ a.under) (h ∷ a.under) = edit_put b.new h (spelling a.node) (h ∷ a.under) (times_here h a.under) b.edits.once in
    record {
      new = new;
      told = now_is ∙ ap (λ (y : List ℕ). Some (with_content h y b.new)) b.is;
      levels_now = s.low + 1;
      footprint_now = h ∷ a.under;
      tree = record {
        d = s.low;
        top = node_of new s.low (least_of s.low) h pairs s.q.pairs a.under s.pairs_is (node_put b.new s.low (least_of s.low) h a.node s.q.pairs a.under b.over (apart_once h a.under (b.edits.once h)) c.low least a.few);
        depth = refl;
        sorted = c.sorted;
        once = b.edits.once;
      };
      edits = edits_then old m new before (h ∷ c.lifts.under) (h ∷ a.under) c.lifts.edits (edits_then m b.new new (h ∷ c.lifts.under) (h ∷ a.under) (h ∷ a.under) b.edits written);
      lower = omega (arith, s.one_more);
      fewer = omega (arith, c.lifts.grows, ap length s.under_is);
    }

pub root_unwritten : (told read mid : Option Contents) (old m : Contents) (d h : ℕ) (before bytes node : List ℕ) (pairs : List Pair) (only : ℕ) (x : Child) (c : CanLower told old m d h before bytes pairs) → c.node ≡ Inner (x ∷ []) → only ≡ x.handle → Got told only node → read ≡ told → IfSome read AreContents → Removed read mid only → (length node ≤ 35810 → MayBeDead h mid) → ⊥
root_unwritten told read mid old m d h before bytes node pairs only x c is here got same all gone dead =
    let s : Sole m d only c.lifts.under pairs = sole told old m d h before bytes pairs only x c is here in
    let b : Bare mid m d h only c.lifts.under node pairs s = bare told read mid old m d h before bytes node pairs only c s got same all gone in
    let fits : AllByRecursion FitsPair s.q.pairs = rw s.pairs_is at c.sorted.fits in
    not_dead mid h b.content b.new b.told b.live (dead (spelled_short s.stands.node node (over_fits m s.low s.stands.node s.q.pairs s.stands.under s.stands.over fits) s.stands.few b.is))
