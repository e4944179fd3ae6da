-- What stands after the bytes of a node were stored below another, or as a root.
use Rattle.std.proofs.Common.{◌≡◌, ⊎_elim, ℕ, suc, ◌+◌, ◌-◌, ◌*◌, ◌/◌, ◌^◌, ◌<◌, ◌≤◌, Bool, true, false, List, [], ◌∷◌, ◌++◌, length, take, drop, Option, Some, None, IfSome, refl, sym, ap, ◌∙◌, arith, length-append, append-nil}
use Rattle.std.specs.List.{AllByRecursion}
use Rattle.std.proofs.lemmas.Bool.{cases_eq}
use Rattle.lldb_base.specs.Contents.{Contents, content_of, with_content}
use Rattle.lldb_base.specs.Heaps.{MayBeDead}
use Rattle.lldb_btree.specs.declared.node.Node.{Node}
use Rattle.lldb_btree.specs.declared.node.Node.TheVariants.{Inner}
use Rattle.lldb_btree.specs.declared.node.Pair.{Pair}
use Rattle.lldb_btree.specs.Changes.{CanStore, IsStored, CanRoot}
use Rattle.lldb_btree.specs.Footprints.{times, unless, Edits}
use Rattle.lldb_btree.specs.Nodes.{Entry, IsEntry, count, is_leaf, entries, spelling, entry_bytes, body, child_entry, Fits}
use Rattle.lldb_btree.specs.Pairs.{FitsPair, IsSorted}
use Rattle.lldb_btree.specs.Reading.{mark}
use Rattle.lldb_btree.specs.Splicing.{AreNode, AreNoNode, entry_of, key_at_end}
use Rattle.lldb_btree.specs.Trees.{child_of, greatest, IsNode, IsOver, HoldsTree, least_of}
use Rattle.lldb_btree.proofs.Cuts.{Cut, over_cut}
use Rattle.lldb_btree.proofs.Edited.{Live, times_append, times_here, times_there, edits_then, edits_in, edit_put}
use Rattle.lldb_btree.proofs.Lasts.{last_key_is}
use Rattle.lldb_btree.proofs.Lengths.{are_node, entries_count, spelled_by, spelled_short, body_long}
use Rattle.lldb_btree.proofs.Moved.{over_live, over_moved, node_moved}
use Rattle.lldb_btree.proofs.Puts.{put_same, put_apart, edit_create}
use Rattle.lldb_btree.proofs.Standing.{all_left, all_right, over_fits, greatest_fits}
use Rattle.lldb_btree.proofs.Stored.{part_at, part_entry, put_agrees, node_put, put_live, dead_apart, apart_once, stored_one, stored_two}

-- what a replacement leaves where the handle is live
pub was_put : (told now : Option Contents) (h : ℕ) (c content : List ℕ) (m : Contents) → told ≡ Some m → content_of h m ≡ Some content → IfSome told (λ map. IfSome (content_of h map) (λ _. now ≡ Some (with_content h c map))) → now ≡ Some (with_content h c m)
was_put told now h c content m is held put =
    let one : IfSome (content_of h m) (λ _. now ≡ Some (with_content h c m)) = rw is at put in
    rw held at one

pub not_dead : (told : Option Contents) (h : ℕ) (content : List ℕ) (m : Contents) → told ≡ Some m → content_of h m ≡ Some content → MayBeDead h told → ⊥
not_dead told h content m is held dead =
    let none : content_of h m ≡ None = rw is at dead in
    let clash : Some content ≡ None = sym held ∙ none in
    absurd (cc (clash))

-- a node with as many entries, and its bytes
pub node_back : (node : Node) (leaf : Bool) (es : List Entry) (bytes : List ℕ) → is_leaf node ≡ leaf → entries node ≡ es → AreNode leaf es bytes → bytes ≡ spelling node
node_back node leaf es bytes l e a = a.is ∙ ap (λ (x : Bool). mark x ∷ length es ∷ body es) (sym l) ∙ ap (λ (x : List Entry). mark (is_leaf node) ∷ length x ∷ body x) (sym e) ∙ sym (spelled_by node)

-- a node with too many entries cut in two
pub record Halved (m : Contents) (d : ℕ) (node : Node) (pairs : List Pair) (under : List ℕ) (front back : List ℕ) : Type 0 where
  pub half : ℕ
  pub cut : Cut m d half node pairs under
  pub low : 16 ≤ half
  pub high : half ≤ 32
  pub low_right : 16 ≤ count node - half
  pub high_right : count node - half ≤ 32
  pub front_is : front ≡ spelling cut.left
  pub back_is : back ≡ spelling cut.right
  pub left_node : AreNode (is_leaf node) (entries cut.left) front
  pub right_node : AreNode (is_leaf node) (entries cut.right) back
  pub left_some : 0 < length (entries cut.left)
  pub right_some : 0 < length (entries cut.right)
  pub left_short : length front ≤ 35810
  pub right_short : length back ≤ 35810

-- what a cut of bytes gives
abbrev pub FrontHalf : List ℕ → List ℕ → Type 0
FrontHalf bytes front = (leaf : Bool) (es : List Entry) → AreNode leaf es bytes → AreNode leaf (take (length es / 2) es) front

abbrev pub BackHalf : List ℕ → List ℕ → Type 0
BackHalf bytes back = (leaf : Bool) (es : List Entry) → AreNode leaf es bytes → AreNode leaf (drop (length es / 2) es) back

pub halved : (m : Contents) (d : ℕ) (node : Node) (pairs : List Pair) (under bytes front back : List ℕ) → IsOver m d node pairs under → AllByRecursion FitsPair pairs → bytes ≡ spelling node → 33 ≤ count node → count node ≤ 64 → FrontHalf bytes front → BackHalf bytes back → Halved m d node pairs under front back
halved m d node pairs under bytes front back over fits is low high fh bh =
    let n : ℕ = length (entries node) / 2 in
    let many : length (entries node) ≡ count node = entries_count node in
    let c : Cut m d n node pairs under = over_cut m d n node pairs under over (omega (arith, many)) in
    let whole : AreNode (is_leaf node) (entries node) bytes = are_node node bytes (over_fits m d node pairs under over fits) is in
    let f : AreNode (is_leaf node) (take n (entries node)) front = fh (is_leaf node) (entries node) whole in
    let b : AreNode (is_leaf node) (drop n (entries node)) back = bh (is_leaf node) (entries node) whole in
    let both : AllByRecursion FitsPair (c.ps ++ c.qs) = rw c.pairs_are at fits in
    let front_is : front ≡ spelling c.left = node_back c.left (is_leaf node) (take n (entries node)) front c.left_leaf c.left_entries f in
    let back_is : back ≡ spelling c.right = node_back c.right (is_leaf node) (drop n (entries node)) back c.right_leaf c.right_entries b in
    let left_fits : Fits c.left = over_fits m d c.left c.ps c.us c.over_left (all_left FitsPair c.ps c.qs both) in
    let right_fits : Fits c.right = over_fits m d c.right c.qs c.ts c.over_right (all_right FitsPair c.ps c.qs both) in
    record {
      half = n;
      cut = c;
      low = omega (arith, many, low);
      high = omega (arith, many, high);
      low_right = omega (arith, many, low);
      high_right = omega (arith, many, high);
      front_is = front_is;
      back_is = back_is;
      left_node = rw (sym c.left_entries) at f;
      right_node = rw (sym c.right_entries) at b;
      left_some = omega (arith, entries_count c.left, c.left_count, many, low);
      right_some = omega (arith, entries_count c.right, c.right_count, many, low);
      left_short = spelled_short c.left front left_fits (omega (arith, c.left_count, many, high)) front_is;
      right_short = spelled_short c.right back right_fits (omega (arith, c.right_count, many, high)) back_is;
    }

-- the entries that two children were given
abbrev pub TwoOf : List ℕ → ℕ → List ℕ → ℕ → List ℕ → Type 0
TwoOf front h back more out = (leaf : Bool) (es fs : List Entry) → AreNode leaf es front → 0 < length es → AreNode leaf fs back → 0 < length fs → out ≡ body (entry_of es h ∷ entry_of fs more ∷ [])

pub one_child : (told now : Option Contents) (m : Contents) (d h : ℕ) (bytes : List ℕ) (pairs : List Pair) (under out : List ℕ) (s : CanStore told m d h bytes pairs under) → count s.node ≤ 32 → IfSome told (λ map. IfSome (content_of h map) (λ _. now ≡ Some (with_content h bytes map))) → (k : List ℕ) (ends : Bool) → (ends ≡ true → k ≡ greatest pairs) → ((leaf : Bool) (es : List Entry) → AreNode leaf es bytes → 0 < length es → (ends ≡ true → k ≡ key_at_end es) → out ≡ entry_bytes (entry_of es h)) → IsStored now m d 0 (h ∷ under) pairs 1 out
one_child told now m d h bytes pairs under out s few put k ends known pushed =
    let a : AreNode (is_leaf s.node) (entries s.node) bytes = are_node s.node bytes (over_fits m d s.node pairs under s.over s.fits) s.spelled in
    stored_one told now m d h bytes pairs under 1 out s few (was_put told now h bytes s.live.0 m s.is s.live.1 put) refl (pushed (is_leaf s.node) (entries s.node) a (omega (arith, entries_count s.node, s.enough)) (λ on. known on ∙ sym (last_key_is m d s.node pairs under s.over)))

pub one_unsaved : (told : Option Contents) (m : Contents) (d h : ℕ) (bytes : List ℕ) (pairs : List Pair) (under : List ℕ) (s : CanStore told m d h bytes pairs under) → count s.node ≤ 32 → (length bytes ≤ 35810 → MayBeDead h told) → ⊥
one_unsaved told m d h bytes pairs under s few dead = not_dead told h s.live.0 m s.is s.live.1 (dead (spelled_short s.node bytes (over_fits m d s.node pairs under s.over s.fits) few s.spelled))

pub one_unread : (told : Option Contents) (m : Contents) (d h : ℕ) (bytes : List ℕ) (pairs : List Pair) (under : List ℕ) → CanStore told m d h bytes pairs under → AreNoNode bytes → ⊥
one_unread told m d h bytes pairs under s none = none (is_leaf s.node) (entries s.node) (are_node s.node bytes (over_fits m d s.node pairs under s.over s.fits) s.spelled) (omega (arith, entries_count s.node, s.enough))

-- a node that can be stored has a head, which counts its entries
pub one_headless : (told : Option Contents) (m : Contents) (d h : ℕ) (bytes : List ℕ) (pairs : List Pair) (under : List ℕ) → CanStore told m d h bytes pairs under → ((l : Bool) (c : ℕ) (r : List ℕ) → bytes ≡ mark l ∷ c ∷ r → ⊥) → ⊥
one_headless told m d h bytes pairs under s none = none (is_leaf s.node) (length (entries s.node)) (body (entries s.node)) (s.spelled ∙ spelled_by s.node)

pub one_count : (told : Option Contents) (m : Contents) (d h : ℕ) (bytes : List ℕ) (pairs : List Pair) (under : List ℕ) (n : ℕ) {leaf : Bool} {rest : List ℕ} (s : CanStore told m d h bytes pairs under) → ((l : Bool) (c : ℕ) (r : List ℕ) → bytes ≡ mark l ∷ c ∷ r → (leaf ≡ l) × (n ≡ c) × (rest ≡ r)) → n ≡ count s.node
one_count told m d h bytes pairs under n s whole = (whole (is_leaf s.node) (length (entries s.node)) (body (entries s.node)) (s.spelled ∙ spelled_by s.node)).1 ∙ entries_count s.node

pub root_headless : (told : Option Contents) (old m : Contents) (d h : ℕ) (before bytes : List ℕ) (pairs : List Pair) → CanRoot told old m d h before bytes pairs → ((l : Bool) (c : ℕ) (r : List ℕ) → bytes ≡ mark l ∷ c ∷ r → ⊥) → ⊥
root_headless told old m d h before bytes pairs c none = none (is_leaf c.node) (length (entries c.node)) (body (entries c.node)) (c.spelled ∙ spelled_by c.node)

pub root_count : (told : Option Contents) (old m : Contents) (d h : ℕ) (before bytes : List ℕ) (pairs : List Pair) (n : ℕ) {leaf : Bool} {rest : List ℕ} (c : CanRoot told old m d h before bytes pairs) → ((l : Bool) (k : ℕ) (r : List ℕ) → bytes ≡ mark l ∷ k ∷ r → (leaf ≡ l) × (n ≡ k) × (rest ≡ r)) → n ≡ count c.node
root_count told old m d h before bytes pairs n c whole = (whole (is_leaf c.node) (length (entries c.node)) (body (entries c.node)) (c.spelled ∙ spelled_by c.node)).1 ∙ entries_count c.node

pub store_halved : (told : Option Contents) (m : Contents) (d h : ℕ) (bytes front back : List ℕ) (pairs : List Pair) (under : List ℕ) (s : CanStore told m d h bytes pairs under) → 33 ≤ count s.node → FrontHalf bytes front → BackHalf bytes back → Halved m d s.node pairs under front back
store_halved told m d h bytes front back pairs under s low fh bh = halved m d s.node pairs under bytes front back s.over s.fits s.spelled low s.few fh bh

pub two_stored : (told mid now : Option Contents) (m : Contents) (d h more : ℕ) (bytes front back : List ℕ) (pairs : List Pair) (under out : List ℕ) (s : CanStore told m d h bytes pairs under) → 33 ≤ count s.node → FrontHalf bytes front → BackHalf bytes back → IfSome told (λ map. IfSome (content_of h map) (λ _. mid ≡ Some (with_content h front map))) → more < 2 ^ 64 → IfSome mid (λ map. content_of more map ≡ None) → IfSome mid (λ map. now ≡ Some (with_content more back map)) → TwoOf front h back more out → IsStored now m d 1 (h ∷ under) pairs 2 out
two_stored told mid now m d h more bytes front back pairs under out s low fh bh put range fresh made two =
    let v : Halved m d s.node pairs under front back = store_halved told m d h bytes front back pairs under s low fh bh in
    let mid_is : mid ≡ Some (with_content h front m) = was_put told mid h front s.live.0 m s.is s.live.1 put in
    let dead : content_of more (with_content h front m) ≡ None = rw mid_is at fresh in
    let now_is : now ≡ Some (with_content more back (with_content h front m)) = rw mid_is at made in
    stored_two told now m d v.half h more bytes front back pairs under 2 out s v.cut v.low v.high v.low_right v.high_right v.front_is v.back_is range dead now_is refl (two (is_leaf s.node) (entries v.cut.left) (entries v.cut.right) v.left_node v.left_some v.right_node v.right_some)

pub two_unsaved : (told : Option Contents) (m : Contents) (d h : ℕ) (bytes front back : List ℕ) (pairs : List Pair) (under : List ℕ) (s : CanStore told m d h bytes pairs under) → 33 ≤ count s.node → FrontHalf bytes front → BackHalf bytes back → (length front ≤ 35810 → MayBeDead h told) → ⊥
two_unsaved told m d h bytes front back pairs under s low fh bh dead = not_dead told h s.live.0 m s.is s.live.1 (dead (store_halved told m d h bytes front back pairs under s low fh bh).left_short)

pub two_unmade : (told mid : Option Contents) (m : Contents) (d h : ℕ) (bytes front back : List ℕ) (pairs : List Pair) (under : List ℕ) (s : CanStore told m d h bytes pairs under) → 33 ≤ count s.node → FrontHalf bytes front → BackHalf bytes back → IfSome told (λ map. IfSome (content_of h map) (λ _. mid ≡ Some (with_content h front map))) → (length back ≤ 35810 → mid ≡ None) → ⊥
two_unmade told mid m d h bytes front back pairs under s low fh bh put none =
    let mid_is : mid ≡ Some (with_content h front m) = was_put told mid h front s.live.0 m s.is s.live.1 put in
    let clash : Some (with_content h front m) ≡ None = sym mid_is ∙ none (store_halved told m d h bytes front back pairs under s low fh bh).right_short in
    absurd (cc (clash))

-- two halves have entries
abbrev pub NoTwo : List ℕ → List ℕ → Type 0
NoTwo front back = (leaf : Bool) (es fs : List Entry) → AreNode leaf es front → 0 < length es → AreNode leaf fs back → 0 < length fs → ⊥

-- what stands with no handle more stands with one more at most
pub stored_more : (now : Option Contents) (m : Contents) (d : ℕ) (before : List ℕ) (pairs : List Pair) (many : ℕ) (out : List ℕ) → IsStored now m d 0 before pairs many out → IsStored now m d 1 before pairs many out
stored_more now m d before pairs many out s = record {
  new = s.new;
  told = s.told;
  children = s.children;
  becomes = record { parts = s.becomes.parts; each = s.becomes.each; named = s.becomes.named; all = s.becomes.all; edits = s.becomes.edits; grows = omega (arith, s.becomes.grows) };
  counted = s.counted;
  spelled = s.spelled;
}

pub two_unread : (m : Contents) (d : ℕ) (node : Node) (pairs : List Pair) (under front back : List ℕ) → Halved m d node pairs under front back → NoTwo front back → ⊥
two_unread m d node pairs under front back v none = none (is_leaf node) (entries v.cut.left) (entries v.cut.right) v.left_node v.left_some v.right_node v.right_some

-- a root that is written at its handle
pub root_one : (told now : Option Contents) (old m : Contents) (d h : ℕ) (before bytes : List ℕ) (pairs : List Pair) (c : CanRoot told old m d h before bytes pairs) → count c.node ≤ 32 → IfSome told (λ map. IfSome (content_of h map) (λ _. now ≡ Some (with_content h bytes map))) → HoldsTree now old h (d + 1) before pairs
root_one told now old m d h before bytes pairs c few put =
    let now_is : now ≡ Some (with_content h bytes m) = was_put told now h bytes c.live.0 m c.is c.live.1 put in
    record {
      new = with_content h (spelling c.node) m;
      told = now_is ∙ ap (λ (b : List ℕ). Some (with_content h b m)) c.spelled;
      levels_now = d + 1;
      footprint_now = h ∷ c.lifts.under;
      tree = record {
        d = d;
        top = node_put m d (least_of d) h c.node pairs c.lifts.under c.lifts.over (apart_once h c.lifts.under (c.lifts.edits.once h)) c.low c.enough few;
        depth = refl;
        sorted = c.sorted;
        once = c.lifts.edits.once;
      };
      edits = edits_then old m (with_content h (spelling c.node) m) before (h ∷ c.lifts.under) (h ∷ c.lifts.under) c.lifts.edits (edit_put m h (spelling c.node) (h ∷ c.lifts.under) (times_here h c.lifts.under) c.lifts.edits.once);
      higher = omega arith;
      grows = omega (arith, c.lifts.grows);
    }

pub root_unsaved : (told : Option Contents) (old m : Contents) (d h : ℕ) (before bytes : List ℕ) (pairs : List Pair) (c : CanRoot told old m d h before bytes pairs) → count c.node ≤ 32 → (length bytes ≤ 35810 → MayBeDead h told) → ⊥
root_unsaved told old m d h before bytes pairs c few dead = not_dead told h c.live.0 m c.is c.live.1 (dead (spelled_short c.node bytes (over_fits m d c.node pairs c.lifts.under c.lifts.over c.sorted.fits) few c.spelled))

pub root_unread : (told : Option Contents) (old m : Contents) (d h : ℕ) (before bytes : List ℕ) (pairs : List Pair) (c : CanRoot told old m d h before bytes pairs) → 33 ≤ count c.node → AreNoNode bytes → ⊥
root_unread told old m d h before bytes pairs c low none = none (is_leaf c.node) (entries c.node) (are_node c.node bytes (over_fits m d c.node pairs c.lifts.under c.lifts.over c.sorted.fits) c.spelled) (omega (arith, entries_count c.node, low))

pub root_halved : (told : Option Contents) (old m : Contents) (d h : ℕ) (before bytes front back : List ℕ) (pairs : List Pair) (c : CanRoot told old m d h before bytes pairs) → 33 ≤ count c.node → FrontHalf bytes front → BackHalf bytes back → Halved m d c.node pairs c.lifts.under front back
root_halved told old m d h before bytes front back pairs c low fh bh = halved m d c.node pairs c.lifts.under bytes front back c.lifts.over c.sorted.fits c.spelled low (omega (arith, c.few)) fh bh

pub handle_live : (m : Contents) (h : ℕ) (content : List ℕ) (us : List ℕ) → content_of h m ≡ Some content → Live m us → Live m (h ∷ us)
handle_live m h content us held live n some none = ⊎_elim
    (λ same. let clash : Some content ≡ None = sym held ∙ ap (λ (k : ℕ). content_of k m) (sym same) ∙ none in absurd (cc (clash)))
    (λ ne. live n (omega (arith, some, times_there n h us ne)) none)
    (cases_eq n h)

-- one handle more
added : (old m : Contents) (a : ℕ) (content : List ℕ) (before us : List ℕ) → Edits old m before us → Live m us → content_of a m ≡ None → Edits old (with_content a content m) before (a ∷ us)
added old m a content before us e live dead = edits_then old m (with_content a content m) before us (a ∷ us) e
    (edits_in m (with_content a content m) [] (a ∷ []) us us (a ∷ us) (edit_create m a content dead) live (λ n. omega arith) (λ n. omega arith) e.once)

reordered : (old new : Contents) (before us ts : List ℕ) → Edits old new before us → ((n : ℕ) → times n ts ≡ times n us) → Edits old new before ts
reordered old new before us ts e same = record { rest = λ n. ap (λ (k : ℕ). unless k (content_of n new)) (same n) ∙ e.rest n; once = λ n. omega (arith, same n, e.once n) }

-- the handle of a root is live and none of the two new ones
live_apart : (m : Contents) (h a : ℕ) (content : List ℕ) → content_of h m ≡ Some content → content_of a m ≡ None → h ≡ a → ⊥
live_apart m h a content held dead same = let clash : Some content ≡ None = sym held ∙ ap (λ (k : ℕ). content_of k m) same ∙ dead in absurd (cc (clash))

-- the root's handle after two new nodes were made
pub held_after : (m : Contents) (h a b : ℕ) (content front back : List ℕ) → content_of h m ≡ Some content → content_of a m ≡ None → content_of b (with_content a front m) ≡ None → content_of h (with_content b back (with_content a front m)) ≡ Some content
held_after m h a b content front back held dead dead_b =
    let one : content_of h (with_content a front m) ≡ Some content = put_apart h a front m (live_apart m h a content held dead) ∙ held in
    put_apart h b back (with_content a front m) (live_apart (with_content a front m) h b content one dead_b) ∙ one

-- a root that was cut in two, below a new inner node
grown : (now : Option Contents) (old m : Contents) (d h a b : ℕ) (before under : List ℕ) (content : List ℕ) (node : Node) (pairs : List Pair) (front back root : List ℕ) (v : Halved m d node pairs under front back) → Edits old m before (h ∷ under) → IsOver m d node pairs under → length under + 1 ≤ length before + d → content_of h m ≡ Some content → h < 2 ^ 64 → a < 2 ^ 64 → b < 2 ^ 64 → content_of a m ≡ None → content_of b (with_content a (spelling v.cut.left) m) ≡ None → root ≡ spelling (Inner (child_of (part_at a v.cut.ps v.cut.us) ∷ child_of (part_at b v.cut.qs v.cut.ts) ∷ [])) → now ≡ Some (with_content h root (with_content b (spelling v.cut.right) (with_content a (spelling v.cut.left) m))) → IsSorted pairs → HoldsTree now old h (d + 1) before pairs
grown now old m d h a b before under content node pairs front back root v e over grows held low low_a low_b dead_a dead_b root_is now_is sorted =
    let c : Cut m d v.half node pairs under = v.cut in
    let left : List ℕ = spelling c.left in
    let right : List ℕ = spelling c.right in
    let m1 : Contents = with_content a left m in
    let m2 : Contents = with_content b right m1 in
    let top : Node = Inner (child_of (part_at a c.ps c.us) ∷ child_of (part_at b c.qs c.ts) ∷ []) in
    let m3 : Contents = with_content h (spelling top) m2 in
    let sum : (n : ℕ) → times n under ≡ times n c.us + times n c.ts = λ n. ap (times n) c.under_is ∙ times_append n c.us c.ts in
    let live : Live m (h ∷ under) = handle_live m h content under held (over_live m d node pairs under over) in
    let e1 : Edits old m1 before (a ∷ h ∷ under) = added old m a left before (h ∷ under) e live dead_a in
    let live1 : Live m1 (a ∷ h ∷ under) = put_live m a left (h ∷ under) live in
    let e2 : Edits old m2 before (b ∷ a ∷ h ∷ under) = added old m1 b right before (a ∷ h ∷ under) e1 live1 dead_b in
    let after : List ℕ = h ∷ ((a ∷ c.us) ++ ((b ∷ c.ts) ++ [])) in
    let e3 : Edits old m2 before after = reordered old m2 before (b ∷ a ∷ h ∷ under) after e2 (λ n. omega (arith, sum n, times_append n c.us ((b ∷ c.ts) ++ []), times_append n c.ts [])) in
    let e4 : Edits old m3 before after = edits_then old m2 m3 before after after e3 (edit_put m2 h (spelling top) after (times_here h ((a ∷ c.us) ++ ((b ∷ c.ts) ++ []))) e3.once) in
    let no_a : times a (h ∷ under) ≡ 0 = dead_apart m a (h ∷ under) live dead_a (times a (h ∷ under)) refl in
    let no_b : times b (a ∷ h ∷ under) ≡ 0 = dead_apart m1 b (a ∷ h ∷ under) live1 dead_b (times b (a ∷ h ∷ under)) refl in
    let a_us : times a c.us ≡ 0 = omega (arith, no_a, sum a) in
    let a_ts : times a c.ts ≡ 0 = omega (arith, no_a, sum a) in
    let b_left : times b (a ∷ c.us) ≡ 0 = omega (arith, no_b, sum b) in
    let b_ts : times b c.ts ≡ 0 = omega (arith, no_b, sum b) in
    let h_all : times h ((a ∷ c.us) ++ ((b ∷ c.ts) ++ [])) ≡ 0 = apart_once h ((a ∷ c.us) ++ ((b ∷ c.ts) ++ [])) (e3.once h) in
    let h_left : times h (a ∷ c.us) ≡ 0 = omega (arith, h_all, times_append h (a ∷ c.us) ((b ∷ c.ts) ++ [])) in
    let h_right : times h (b ∷ c.ts) ≡ 0 = omega (arith, h_all, times_append h (a ∷ c.us) ((b ∷ c.ts) ++ []), times_append h (b ∷ c.ts) []) in
    let left1 : IsNode (IsOver m1 d) m1 16 (part_at a c.ps c.us) = node_put m d 16 a c.left c.ps c.us c.over_left a_us low_a (omega (arith, c.left_count, v.low)) (omega (arith, c.left_count, v.high)) in
    let left2 : IsNode (IsOver m2 d) m2 16 (part_at a c.ps c.us) = node_moved m1 m2 d 16 (over_moved m1 m2 d) (part_at a c.ps c.us) left1 (put_agrees m1 b right (a ∷ c.us) b_left) in
    let left3 : IsNode (IsOver m3 d) m3 16 (part_at a c.ps c.us) = node_moved m2 m3 d 16 (over_moved m2 m3 d) (part_at a c.ps c.us) left2 (put_agrees m2 h (spelling top) (a ∷ c.us) h_left) in
    let right1 : IsOver m1 d c.right c.qs c.ts = over_moved m m1 d c.right c.qs c.ts c.over_right (put_agrees m a left c.ts a_ts) in
    let right2 : IsNode (IsOver m2 d) m2 16 (part_at b c.qs c.ts) = node_put m1 d 16 b c.right c.qs c.ts right1 b_ts low_b (omega (arith, c.right_count, v.low_right)) (omega (arith, c.right_count, v.high_right)) in
    let right3 : IsNode (IsOver m3 d) m3 16 (part_at b c.qs c.ts) = node_moved m2 m3 d 16 (over_moved m2 m3 d) (part_at b c.qs c.ts) right2 (put_agrees m2 h (spelling top) (b ∷ c.ts) h_right) in
    record {
      new = m3;
      told = now_is ∙ ap (λ (x : List ℕ). Some (with_content h x m2)) root_is;
      levels_now = suc d + 1;
      footprint_now = after;
      tree = record {
        d = suc d;
        top = record {
          node = top;
          under = (a ∷ c.us) ++ ((b ∷ c.ts) ++ []);
          held = put_same h (spelling top) m2;
          handle = low;
          enough = omega arith;
          few = omega arith;
          over = record {
            parts = part_at a c.ps c.us ∷ part_at b c.qs c.ts ∷ [];
            each = (left3, (right3, tt));
            named = refl;
            all = c.pairs_are ∙ ap (λ (x : List Pair). c.ps ++ x) (sym (append-nil c.qs));
            takes = refl;
          };
          footprint = refl;
        };
        depth = refl;
        sorted = sorted;
        once = e3.once;
      };
      edits = e4;
      higher = omega arith;
      grows = omega (arith, grows, ap length c.under_is, length-append c.us c.ts, length-append c.us ((b ∷ c.ts) ++ []), length-append c.ts []);
    }

pub root_two : (told one two now : Option Contents) (old m : Contents) (d h a b : ℕ) (before bytes front back children root : List ℕ) (pairs : List Pair) (c : CanRoot told old m d h before bytes pairs) → 33 ≤ count c.node → FrontHalf bytes front → BackHalf bytes back → a < 2 ^ 64 → IfSome told (λ map. content_of a map ≡ None) → IfSome told (λ map. one ≡ Some (with_content a front map)) → b < 2 ^ 64 → IfSome one (λ map. content_of b map ≡ None) → IfSome one (λ map. two ≡ Some (with_content b back map)) → TwoOf front a back b children → root ≡ 1 ∷ 2 ∷ children → IfSome two (λ map. IfSome (content_of h map) (λ _. now ≡ Some (with_content h root map))) → HoldsTree now old h (d + 1) before pairs
root_two told one two now old m d h a b before bytes front back children root pairs c low fh bh low_a fresh_a made_a low_b fresh_b made_b named root_is put =
    let v : Halved m d c.node pairs c.lifts.under front back = root_halved told old m d h before bytes front back pairs c low fh bh in
    let dead_a : content_of a m ≡ None = rw c.is at fresh_a in
    let one_is : one ≡ Some (with_content a front m) = rw c.is at made_a in
    let dead_b : content_of b (with_content a front m) ≡ None = rw one_is at fresh_b in
    let two_is : two ≡ Some (with_content b back (with_content a front m)) = rw one_is at made_b in
    let held : content_of h (with_content b back (with_content a front m)) ≡ Some c.live.0 = held_after m h a b c.live.0 front back c.live.1 dead_a dead_b in
    let now_is : now ≡ Some (with_content h root (with_content b back (with_content a front m))) = was_put two now h root c.live.0 (with_content b back (with_content a front m)) two_is held put in
    let entries_are : children ≡ body (child_entry (child_of (part_at a v.cut.ps v.cut.us)) ∷ child_entry (child_of (part_at b v.cut.qs v.cut.ts)) ∷ []) =
    named (is_leaf c.node) (entries v.cut.left) (entries v.cut.right) v.left_node v.left_some v.right_node v.right_some
    ∙ ap (λ (x : Entry). body (x ∷ entry_of (entries v.cut.right) b ∷ [])) (part_entry m d a v.cut.left v.cut.ps v.cut.us v.cut.over_left)
    ∙ ap (λ (x : Entry). body (child_entry (child_of (part_at a v.cut.ps v.cut.us)) ∷ x ∷ [])) (part_entry m d b v.cut.right v.cut.qs v.cut.ts v.cut.over_right) in
    let whole : root ≡ spelling (Inner (child_of (part_at a v.cut.ps v.cut.us) ∷ child_of (part_at b v.cut.qs v.cut.ts) ∷ [])) = root_is ∙ ap (λ (x : List ℕ). 1 ∷ 2 ∷ x) entries_are in
    grown now old m d h a b before c.lifts.under c.live.0 c.node pairs front back root v c.lifts.edits c.lifts.over c.lifts.grows c.live.1 c.low low_a low_b dead_a
    (ap (λ (x : List ℕ). content_of b (with_content a x m)) (sym v.front_is) ∙ dead_b)
    whole
    (now_is ∙ ap (λ (x : List ℕ). Some (with_content h root (with_content b back (with_content a x m)))) v.front_is ∙ ap (λ (x : List ℕ). Some (with_content h root (with_content b x (with_content a (spelling v.cut.left) m)))) v.back_is)
    c.sorted

-- refusals on the way to a root that is cut in two
pub root_unmade : (told : Option Contents) (old m : Contents) (d h : ℕ) (before bytes front back : List ℕ) (pairs : List Pair) (c : CanRoot told old m d h before bytes pairs) → 33 ≤ count c.node → FrontHalf bytes front → BackHalf bytes back → (length front ≤ 35810 → told ≡ None) → ⊥
root_unmade told old m d h before bytes front back pairs c low fh bh none =
    let clash : Some m ≡ None = sym c.is ∙ none (root_halved told old m d h before bytes front back pairs c low fh bh).left_short in
    absurd (cc (clash))

pub root_unmade_two : (told one : Option Contents) (old m : Contents) (d h a : ℕ) (before bytes front back : List ℕ) (pairs : List Pair) (c : CanRoot told old m d h before bytes pairs) → 33 ≤ count c.node → FrontHalf bytes front → BackHalf bytes back → IfSome told (λ map. one ≡ Some (with_content a front map)) → (length back ≤ 35810 → one ≡ None) → ⊥
root_unmade_two told one old m d h a before bytes front back pairs c low fh bh made none =
    let one_is : one ≡ Some (with_content a front m) = rw c.is at made in
    let clash : Some (with_content a front m) ≡ None = sym one_is ∙ none (root_halved told old m d h before bytes front back pairs c low fh bh).right_short in
    absurd (cc (clash))

-- the entry of a part whose pairs fit
part_fits : (m : Contents) (d h : ℕ) (node : Node) (pairs : List Pair) (under : List ℕ) → IsOver m d node pairs under → AllByRecursion FitsPair pairs → IsEntry false (entry_of (entries node) h)
part_fits m d h node pairs under o fits = rw (part_entry m d h node pairs under o) (record { key = greatest_fits pairs fits; tail = refl })

pub root_unput : (told one two : Option Contents) (old m : Contents) (d h a b : ℕ) (before bytes front back children root : List ℕ) (pairs : List Pair) (c : CanRoot told old m d h before bytes pairs) → 33 ≤ count c.node → FrontHalf bytes front → BackHalf bytes back → IfSome told (λ map. content_of a map ≡ None) → IfSome told (λ map. one ≡ Some (with_content a front map)) → IfSome one (λ map. content_of b map ≡ None) → IfSome one (λ map. two ≡ Some (with_content b back map)) → TwoOf front a back b children → root ≡ 1 ∷ 2 ∷ children → (length root ≤ 35810 → MayBeDead h two) → ⊥
root_unput told one two old m d h a b before bytes front back children root pairs c low fh bh fresh_a made_a fresh_b made_b named root_is dead =
    let v : Halved m d c.node pairs c.lifts.under front back = root_halved told old m d h before bytes front back pairs c low fh bh in
    let dead_a : content_of a m ≡ None = rw c.is at fresh_a in
    let one_is : one ≡ Some (with_content a front m) = rw c.is at made_a in
    let dead_b : content_of b (with_content a front m) ≡ None = rw one_is at fresh_b in
    let two_is : two ≡ Some (with_content b back (with_content a front m)) = rw one_is at made_b in
    let held : content_of h (with_content b back (with_content a front m)) ≡ Some c.live.0 = held_after m h a b c.live.0 front back c.live.1 dead_a dead_b in
    let both : AllByRecursion FitsPair (v.cut.ps ++ v.cut.qs) = rw v.cut.pairs_are at c.sorted.fits in
    let left : IsEntry false (entry_of (entries v.cut.left) a) = part_fits m d a v.cut.left v.cut.ps v.cut.us v.cut.over_left (all_left FitsPair v.cut.ps v.cut.qs both) in
    let right : IsEntry false (entry_of (entries v.cut.right) b) = part_fits m d b v.cut.right v.cut.qs v.cut.ts v.cut.over_right (all_right FitsPair v.cut.ps v.cut.qs both) in
    let named_is : children ≡ body (entry_of (entries v.cut.left) a ∷ entry_of (entries v.cut.right) b ∷ []) = named (is_leaf c.node) (entries v.cut.left) (entries v.cut.right) v.left_node v.left_some v.right_node v.right_some in
    let long : length (body (entry_of (entries v.cut.left) a ∷ entry_of (entries v.cut.right) b ∷ [])) ≤ 1119 * 2 = body_long false (entry_of (entries v.cut.left) a ∷ entry_of (entries v.cut.right) b ∷ []) (left, (right, tt)) in
    not_dead two h c.live.0 (with_content b back (with_content a front m)) two_is held (dead (omega (arith, ap length root_is, ap length named_is, long)))
