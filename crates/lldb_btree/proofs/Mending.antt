-- Two neighbours that are stored together.
use Rattle.std.proofs.Common.{◌≡◌, ℕ, ◌+◌, ◌<◌, ◌≤◌, Bool, List, [], ◌∷◌, ◌++◌, length, Option, IfSome, Result, Ok, Err, IfOk, sym, ◌∙◌, arith, length-append}
use Rattle.lldb_base.specs.Contents.{Contents, content_of, AreContents}
use Rattle.lldb_base.specs.declared.trouble.Trouble.{Trouble}
use Rattle.lldb_btree.specs.declared.node.Pair.{Pair}
use Rattle.lldb_btree.specs.declared.store.Stored.{Stored}
use Rattle.lldb_btree.specs.Changes.{CanStore, IsStored}
use Rattle.lldb_btree.specs.Footprints.{times, Edits}
use Rattle.lldb_btree.specs.Nodes.{Entry, is_leaf, entries}
use Rattle.lldb_btree.specs.Pairs.{FitsPair}
use Rattle.lldb_btree.specs.Removal.{CanMend, IsLoose}
use Rattle.lldb_btree.specs.Splicing.{AreNode}
use Rattle.lldb_btree.specs.Trees.{footprint_of, IsCleared}
use Rattle.lldb_btree.proofs.Clearing.{Removed, removed_here}
use Rattle.lldb_btree.proofs.Edited.{Live, times_append, times_self, edits_then, edits_in, edit_stays}
use Rattle.lldb_btree.proofs.Joins.{Join, over_join}
use Rattle.lldb_btree.proofs.Lengths.{are_node, entries_count}
use Rattle.lldb_btree.proofs.Moved.{Agree, over_live, over_moved}
use Rattle.lldb_btree.proofs.Rooted.{handle_live, node_back}
use Rattle.lldb_btree.proofs.Standing.{all_both, over_fits}

-- two nodes were put together as bytes
abbrev pub BothRead : List ℕ → List ℕ → List ℕ → Type 0
BothRead first second all = (leaf : Bool) (es fs : List Entry) → AreNode leaf es first → AreNode leaf fs second → length es + length fs ≤ 64 → AreNode leaf (es ++ fs) all

pub loose_node : (m : Contents) (d handle : ℕ) (bytes : List ℕ) (pairs : List Pair) (under : List ℕ) (l : IsLoose m d handle bytes pairs under) → AreNode (is_leaf l.node) (entries l.node) bytes
loose_node m d handle bytes pairs under l = are_node l.node bytes (over_fits m d l.node pairs under l.over l.fits) l.spelled

mend_join : (told : Option Contents) (m : Contents) (d left right : ℕ) (first second : List ℕ) (ps qs : List Pair) (us ts : List ℕ) (c : CanMend told m d left right first second ps qs us ts) → Join m d c.one.node c.two.node ps qs us ts
mend_join told m d left right first second ps qs us ts c = over_join m d c.one.node c.two.node ps qs us ts c.one.over c.two.over

second_node : (told : Option Contents) (m : Contents) (d left right : ℕ) (first second : List ℕ) (ps qs : List Pair) (us ts : List ℕ) (c : CanMend told m d left right first second ps qs us ts) → AreNode (is_leaf c.one.node) (entries c.two.node) second
second_node told m d left right first second ps qs us ts c =
    let j = mend_join told m d left right first second ps qs us ts c in
    rw (sym j.alike) (loose_node m d right second qs ts c.two)

mend_few : (told : Option Contents) (m : Contents) (d left right : ℕ) (first second : List ℕ) (ps qs : List Pair) (us ts : List ℕ) (c : CanMend told m d left right first second ps qs us ts) → length (entries c.one.node) + length (entries c.two.node) ≤ 64
mend_few told m d left right first second ps qs us ts c = omega (arith, entries_count c.one.node, entries_count c.two.node, c.one.few, c.two.few)

-- nothing can be mended where its bytes are not put together
pub mend_unread : (told : Option Contents) (m : Contents) (d left right : ℕ) (first second : List ℕ) (ps qs : List Pair) (us ts : List ℕ) → CanMend told m d left right first second ps qs us ts → ((leaf : Bool) (es fs : List Entry) → AreNode leaf es first → AreNode leaf fs second → length es + length fs ≤ 64 → ⊥) → ⊥
mend_unread told m d left right first second ps qs us ts c none =
    none (is_leaf c.one.node) (entries c.one.node) (entries c.two.node) (loose_node m d left first ps us c.one) (second_node told m d left right first second ps qs us ts c) (mend_few told m d left right first second ps qs us ts c)

-- the right handle was removed
record Gone (told mid : Option Contents) (m : Contents) (d left right : ℕ) (all : List ℕ) (ps qs : List Pair) (us ts : List ℕ) : Type 0 where
  new : Contents
  edits : Edits m new ((left ∷ us) ++ (right ∷ ts)) (left ∷ (us ++ ts))
  store : CanStore mid new d left all (ps ++ qs) (us ++ ts)

mend_gone : (told mid : Option Contents) (m : Contents) (d left right : ℕ) (first second all : List ℕ) (ps qs : List Pair) (us ts : List ℕ) → CanMend told m d left right first second ps qs us ts → BothRead first second all → IfSome told AreContents → Removed told mid right → Gone told mid m d left right all ps qs us ts
mend_gone told mid m d left right first second all ps qs us ts c both ordered gone =
    let x : IsCleared mid m (right ∷ []) = removed_here told mid m right c.two.live.0 c.is c.two.live.1 ordered gone in
    let j : Join m d c.one.node c.two.node ps qs us ts = mend_join told m d left right first second ps qs us ts c in
    let whole : AreNode (is_leaf c.one.node) (entries c.one.node ++ entries c.two.node) all = both (is_leaf c.one.node) (entries c.one.node) (entries c.two.node) (loose_node m d left first ps us c.one) (second_node told m d left right first second ps qs us ts c) (mend_few told m d left right first second ps qs us ts c) in
    let sum : (n : ℕ) → times n ((left ∷ us) ++ (right ∷ ts)) ≡ times n (left ∷ us) + times n (right ∷ ts) = λ n. times_append n (left ∷ us) (right ∷ ts) in
    let below : (n : ℕ) → times n (us ++ ts) ≡ times n us + times n ts = λ n. times_append n us ts in
    let live_below : Live m (us ++ ts) = over_live m d j.node (ps ++ qs) (us ++ ts) j.over in
    let live : Live m (left ∷ (us ++ ts)) = handle_live m left c.one.live.0 (us ++ ts) c.one.live.1 live_below in
    let apart : (n : ℕ) → 0 < times n (us ++ ts) → times n (right ∷ []) ≡ 0 = λ n some. omega (arith, some, below n, sum n, c.once n) in
    let same : Agree m x.new (us ++ ts) = λ n some. edit_stays m x.new (right ∷ []) [] n x.edits (apart n some) (live_below n some) in
    let here : times left (right ∷ []) ≡ 0 = omega (arith, c.once left, sum left, times_self left us) in
    let stays : content_of left x.new ≡ content_of left m = edit_stays m x.new (right ∷ []) [] left x.edits here (live left (omega (arith, times_self left (us ++ ts)))) in
    record {
      new = x.new;
      edits = edits_in m x.new (right ∷ []) [] (left ∷ (us ++ ts)) ((left ∷ us) ++ (right ∷ ts)) (left ∷ (us ++ ts)) x.edits live (λ n. omega (arith, sum n, below n)) (λ n. omega arith) c.once;
      store = record {
        is = x.told;
        node = j.node;
        spelled = node_back j.node (is_leaf c.one.node) (entries c.one.node ++ entries c.two.node) all j.kind j.entries_are whole;
        over = over_moved m x.new d j.node (ps ++ qs) (us ++ ts) j.over same;
        once = λ n. omega (arith, below n, sum n, c.once n);
        live = (c.one.live.0, stays ∙ c.one.live.1);
        low = c.one.low;
        enough = omega (arith, j.many, c.enough);
        few = omega (arith, j.many, c.one.few, c.two.few);
        fits = all_both FitsPair ps qs c.one.fits c.two.fits;
      };
    }

pub if_ok_also : {T : Type 0} (P Q : T → Type 0) (r : Result T Trouble) → ((x : T) → P x → Q x) → IfOk r P → IfOk r Q
if_ok_also P Q (Ok x) f p = f x p
if_ok_also P Q (Err e) f p = tt

-- what stands where two nodes were stored as one
abbrev pub StoredAt : Option Contents → Option Contents → ℕ → List ℕ → Result Stored Trouble → Type 0
StoredAt mid now left all r = (m : Contents) (d : ℕ) (pairs : List Pair) (under : List ℕ) → CanStore mid m d left all pairs under → IfOk r (λ s. IsStored now m d 1 (left ∷ under) pairs s.count s.entries)

pub mended : (told mid now : Option Contents) (m : Contents) (d left right : ℕ) (first second all : List ℕ) (ps qs : List Pair) (us ts : List ℕ) (r : Result Stored Trouble) → CanMend told m d left right first second ps qs us ts → BothRead first second all → IfSome told AreContents → Removed told mid right → StoredAt mid now left all r → IfOk r (λ s. IsStored now m d 0 ((left ∷ us) ++ (right ∷ ts)) (ps ++ qs) s.count s.entries)
mended told mid now m d left right first second all ps qs us ts r c both ordered gone store =
    let g = mend_gone told mid m d left right first second all ps qs us ts c both ordered gone in
    if_ok_also (λ s. IsStored now g.new d 1 (left ∷ (us ++ ts)) (ps ++ qs) s.count s.entries) (λ s. IsStored now m d 0 ((left ∷ us) ++ (right ∷ ts)) (ps ++ qs) s.count s.entries) r
    (λ s i. record {
      new = i.new;
      told = i.told;
      children = i.children;
      becomes = record {
        parts = i.becomes.parts;
        each = i.becomes.each;
        named = i.becomes.named;
        all = i.becomes.all;
        edits = edits_then m g.new i.new ((left ∷ us) ++ (right ∷ ts)) (left ∷ (us ++ ts)) (footprint_of i.becomes.parts) g.edits i.becomes.edits;
        grows = omega (arith, i.becomes.grows, length-append us ts, length-append us (right ∷ ts));
      };
      counted = i.counted;
      spelled = i.spelled;
    })
    (store g.new d (ps ++ qs) (us ++ ts) g.store)

pub mend_unstored : (told mid : Option Contents) (m : Contents) (d left right : ℕ) (first second all : List ℕ) (ps qs : List Pair) (us ts : List ℕ) → CanMend told m d left right first second ps qs us ts → BothRead first second all → IfSome told AreContents → Removed told mid right → ((m : Contents) (d : ℕ) (pairs : List Pair) (under : List ℕ) → CanStore mid m d left all pairs under → ⊥) → ⊥
mend_unstored told mid m d left right first second all ps qs us ts c both ordered gone none =
    let g = mend_gone told mid m d left right first second all ps qs us ts c both ordered gone in
    none g.new d (ps ++ qs) (us ++ ts) g.store
