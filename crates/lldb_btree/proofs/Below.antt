-- One level of a set, by what was read of its node.
use Rattle.std.proofs.Common.{◌≡◌, ⊎_elim, ℕ, zero, suc, ◌+◌, ◌-◌, ◌*◌, ◌<◌, ◌≤◌, Bool, true, false, List, [], ◌∷◌, ◌++◌, length, map, Option, Some, Result, Ok, Err, IfOk, refl, sym, ap, ap₂, ◌∙◌, arith, length-append, append-nil}
use Rattle.std.specs.List.{AllByRecursion}
use Rattle.std.specs.Int.{to_be_bytes, w64}
use Rattle.std.proofs.lemmas.List.{map-append, append_cancel_right}
use Rattle.lldb_base.specs.Contents.{Contents}
use Rattle.lldb_base.specs.declared.trouble.Trouble.{Trouble}
use Rattle.lldb_btree.specs.declared.bound.Bound.TheVariants.{From}
use Rattle.lldb_btree.specs.declared.node.Child.{Child}
use Rattle.lldb_btree.specs.declared.node.Node.TheVariants.{Leaf, Inner}
use Rattle.lldb_btree.specs.declared.node.Pair.{Pair}
use Rattle.lldb_btree.specs.declared.set.Changed.{Changed}
use Rattle.lldb_btree.specs.Bounds.{is_ahead}
use Rattle.lldb_btree.specs.Changes.{Becomes, CanEdit, IsEdited, CanStore, IsStored}
use Rattle.lldb_btree.specs.Footprints.{times}
use Rattle.lldb_btree.specs.Nodes.{Entry, is_leaf, entries, body, spelling, pair_entry, child_entry, FitsChild}
use Rattle.lldb_btree.specs.Pairs.{FitsPair, Rises, keys_of, find, insert, delete}
use Rattle.lldb_btree.specs.Reading.{mark}
use Rattle.lldb_btree.specs.Splicing.{AddsNodes, AreNode, IsWay}
use Rattle.lldb_btree.specs.Trees.{Part, greatest, child_of, pairs_of, footprint_of, IsNode, IsOver}
use Rattle.lldb_btree.proofs.Ahead.{ahead_falls, none_pass, rises_left, rises_right}
use Rattle.lldb_btree.proofs.Deletes.{delete_past, delete_within, find_past, find_within}
use Rattle.lldb_btree.proofs.Edited.{times_append}
use Rattle.lldb_btree.proofs.Ends.{part_ends}
use Rattle.lldb_btree.proofs.Inserts.{insert_past, insert_within, insert_fits, insert_count}
use Rattle.lldb_btree.proofs.Lengths.{are_node, entries_count}
use Rattle.lldb_btree.proofs.Parents.{pairs_both, children_both, counts}
use Rattle.lldb_btree.proofs.Runs.{Runs, runs}
use Rattle.lldb_btree.proofs.Setting.{leaf_set, then_stored, can_store, inner_spelled, inner_set}
use Rattle.lldb_btree.proofs.Spelling.{handle_told}
use Rattle.lldb_btree.proofs.Standing.{all_left, all_right, all_both, over_fits, parts_count}
use Rattle.lldb_btree.proofs.Steps.{Got, walk_kept}
use Rattle.lldb_btree.proofs.Walking.{node_got, inner_fits, inner_some, some_pairs}

-- nothing stands below which a tree can be changed
abbrev pub NoEdit : Option Contents → ℕ → ℕ → Type 0
NoEdit told handle room = (m : Contents) (d least : ℕ) (p : Part) → CanEdit told m d least p handle room → ⊥

-- a node's head was read
abbrev pub HeadRead : List ℕ → Bool → ℕ → List ℕ → Type 0
HeadRead bytes leaf n rest = (l : Bool) (c : ℕ) (r : List ℕ) → bytes ≡ mark l ∷ c ∷ r → (leaf ≡ l) × (n ≡ c) × (rest ≡ r)

edit_node : (told : Option Contents) (handle room : ℕ) (bytes : List ℕ) → Got told handle bytes → (m : Contents) (d least : ℕ) (p : Part) (e : CanEdit told m d least p handle room) → AreNode (is_leaf e.walk.stands.node) (entries e.walk.stands.node) bytes
edit_node told handle room bytes got m d least p e = are_node e.walk.stands.node bytes (over_fits m d e.walk.stands.node p.pairs e.walk.stands.under e.walk.stands.over e.walk.sorted.fits) (node_got told m d least handle room p bytes e.walk got)

pub headless : (told : Option Contents) (handle room : ℕ) (bytes : List ℕ) → Got told handle bytes → ((l : Bool) (c : ℕ) (r : List ℕ) → bytes ≡ mark l ∷ c ∷ r → ⊥) → NoEdit told handle room
headless told handle room bytes got none m d least p e = none (is_leaf e.walk.stands.node) (length (entries e.walk.stands.node)) (body (entries e.walk.stands.node)) (edit_node told handle room bytes got m d least p e).is

pub too_many : (told : Option Contents) (handle room : ℕ) (bytes rest : List ℕ) (leaf : Bool) (n : ℕ) → Got told handle bytes → HeadRead bytes leaf n rest → 32 < n → NoEdit told handle room
too_many told handle room bytes rest leaf n got head big m d least p e =
    let h = head (is_leaf e.walk.stands.node) (length (entries e.walk.stands.node)) (body (entries e.walk.stands.node)) (edit_node told handle room bytes got m d least p e).is in
    absurd (omega (arith, h.1, big, entries_count e.walk.stands.node, e.walk.stands.few))

-- a leaf was read
abbrev pub LeafRead : ℕ → List ℕ → List Pair → Type 0
LeafRead n rest pairs = AllByRecursion FitsPair pairs × (length pairs ≡ n) × (rest ≡ body (map pair_entry pairs))

-- the children of an inner node were read
abbrev pub InnerRead : ℕ → List ℕ → List Child → Type 0
InnerRead n rest children = AllByRecursion FitsChild children × (0 < length children) × (length children ≡ n) × (rest ≡ body (map child_entry children))

pub as_leaf : (told : Option Contents) (handle room : ℕ) (bytes rest : List ℕ) (leaf : Bool) (n : ℕ) → Got told handle bytes → HeadRead bytes leaf n rest → (m : Contents) (least : ℕ) (p : Part) → CanEdit told m zero least p handle room → (leaf ≡ true) × LeafRead n rest p.pairs
as_leaf told handle room bytes rest leaf n got head m least p e =
    let is : bytes ≡ spelling (Leaf p.pairs) = node_got told m zero least handle room p bytes e.walk got ∙ ap spelling e.walk.stands.over.0 in
    let h = head true (length p.pairs) (body (map pair_entry p.pairs)) is in
    (h.0, (e.walk.sorted.fits, sym h.1, h.2))

pub as_inner : (told : Option Contents) (handle room : ℕ) (bytes rest : List ℕ) (leaf : Bool) (n : ℕ) → Got told handle bytes → HeadRead bytes leaf n rest → (m : Contents) (d least : ℕ) (p : Part) (e : CanEdit told m (suc d) least p handle room) → (leaf ≡ false) × InnerRead n rest (map child_of e.walk.stands.over.parts)
as_inner told handle room bytes rest leaf n got head m d least p e =
    let is : bytes ≡ spelling (Inner (map child_of e.walk.stands.over.parts)) = node_got told m (suc d) least handle room p bytes e.walk got ∙ ap spelling e.walk.stands.over.named in
    let h = head false (length (map child_of e.walk.stands.over.parts)) (body (map child_entry (map child_of e.walk.stands.over.parts))) is in
    (h.0, (inner_fits told m d least handle room p e.walk, inner_some told m d least handle room p e.walk, sym h.1, h.2))

pub clash : {X : Type 0} (leaf : Bool) → leaf ≡ true → leaf ≡ false → X
clash leaf a b = let e : true ≡ false = sym a ∙ b in absurd (cc (e))

if_ok : (P Q : Changed → Type 0) (r : Result Changed Trouble) → ((x : Changed) → P x → Q x) → IfOk r P → IfOk r Q
if_ok P Q (Ok x) f p = f x p
if_ok P Q (Err e) f p = tt

pub leaf_edited : (told now : Option Contents) (handle room : ℕ) (bytes rest : List ℕ) (leaf : Bool) (n : ℕ) (k v : List ℕ) (r : Result Changed Trouble) → Got told handle bytes → HeadRead bytes leaf n rest → leaf ≡ true → now ≡ told → ((pairs : List Pair) → AllByRecursion FitsPair pairs → length pairs ≡ n → rest ≡ body (map pair_entry pairs) → IfOk r (λ c. c.node ≡ spelling (Leaf (insert k v pairs)))) → (m : Contents) (d least : ℕ) (p : Part) → CanEdit told m d least p handle room → IfOk r (λ c. IsEdited now m d least p (insert k v p.pairs) c.node)
leaf_edited told now handle room bytes rest leaf n k v r got head on same set m zero least p e =
    let a = as_leaf told handle room bytes rest leaf n got head m least p e in
    if_ok (λ c. c.node ≡ spelling (Leaf (insert k v p.pairs))) (λ c. IsEdited now m zero least p (insert k v p.pairs) c.node) r (λ c is. leaf_set told now m least handle room p k v c.node e same is) (set p.pairs a.1.0 a.1.1 a.1.2)
leaf_edited told now handle room bytes rest leaf n k v r got head on same set m (suc d) least p e = clash leaf on (as_inner told handle room bytes rest leaf n got head m d least p e).0

pub leaf_ended : (told : Option Contents) (handle room : ℕ) (bytes rest : List ℕ) (leaf : Bool) (n : ℕ) (k v : List ℕ) (r : Result Changed Trouble) → Got told handle bytes → HeadRead bytes leaf n rest → leaf ≡ true → ((pairs : List Pair) → AllByRecursion FitsPair pairs → length pairs ≡ n → rest ≡ body (map pair_entry pairs) → IfOk r (λ c. c.ends ≡ true → greatest (insert k v pairs) ≡ k)) → (m : Contents) (d least : ℕ) (p : Part) → CanEdit told m d least p handle room → IfOk r (λ c. c.ends ≡ true → greatest (insert k v p.pairs) ≡ k)
leaf_ended told handle room bytes rest leaf n k v r got head on ends m zero least p e =
    let a = as_leaf told handle room bytes rest leaf n got head m least p e in
    ends p.pairs a.1.0 a.1.1 a.1.2
leaf_ended told handle room bytes rest leaf n k v r got head on ends m (suc d) least p e = clash leaf on (as_inner told handle room bytes rest leaf n got head m d least p e).0

pub leaf_refused : (told : Option Contents) (handle room : ℕ) (bytes rest : List ℕ) (leaf : Bool) (n : ℕ) → Got told handle bytes → HeadRead bytes leaf n rest → leaf ≡ true → ((pairs : List Pair) → AllByRecursion FitsPair pairs → length pairs ≡ n → rest ≡ body (map pair_entry pairs) → ⊥) → NoEdit told handle room
leaf_refused told handle room bytes rest leaf n got head on none m zero least p e =
    let a = as_leaf told handle room bytes rest leaf n got head m least p e in
    none p.pairs a.1.0 a.1.1 a.1.2
leaf_refused told handle room bytes rest leaf n got head on none m (suc d) least p e = clash leaf on (as_inner told handle room bytes rest leaf n got head m d least p e).0

-- the way on was read
abbrev pub WayRead : List ℕ → List ℕ → ℕ → List ℕ → ℕ → List ℕ → Type 0
WayRead k rest n front child back = (children : List Child) → AllByRecursion FitsChild children → 0 < length children → length children ≡ n → rest ≡ body (map child_entry children) → IsWay (is_ahead (From k)) children front child back

pub wayless : (told : Option Contents) (handle room : ℕ) (bytes rest : List ℕ) (leaf : Bool) (n : ℕ) → Got told handle bytes → HeadRead bytes leaf n rest → leaf ≡ false → ((children : List Child) → AllByRecursion FitsChild children → 0 < length children → length children ≡ n → rest ≡ body (map child_entry children) → ⊥) → NoEdit told handle room
wayless told handle room bytes rest leaf n got head off none m zero least p e = clash leaf (as_leaf told handle room bytes rest leaf n got head m least p e).0 off
wayless told handle room bytes rest leaf n got head off none m (suc d) least p e =
    let a = as_inner told handle room bytes rest leaf n got head m d least p e in
    none (map child_of e.walk.stands.over.parts) a.1.0 a.1.1 a.1.2 a.1.3

parts_past : (k : List ℕ) (l : List Part) → AllByRecursion (λ p. is_ahead (From k) (greatest p.pairs) ≡ false) l → Rises (keys_of (pairs_of l)) → AllByRecursion (λ p. is_ahead (From k) p.key ≡ false) (pairs_of l)
parts_past k [] a r = tt
parts_past k (p ∷ ps) a r = all_both (λ p. is_ahead (From k) p.key ≡ false) p.pairs (pairs_of ps) (none_pass (is_ahead (From k)) (ahead_falls (From k)) p.pairs (rises_left p.pairs (pairs_of ps) r) a.0) (parts_past k ps a.1 (rises_right p.pairs (pairs_of ps) r))

ends : (k v : List ℕ) (ps : List Pair) (r : List Part) → r ≡ [] → insert k v (ps ++ pairs_of r) ≡ insert k v ps ++ pairs_of r
ends k v ps [] e = ap (insert k v) (append-nil ps) ∙ sym (append-nil (insert k v ps))
ends k v ps (x ∷ r) e = absurd (cc (e))

ends_deleted : (k : List ℕ) (ps : List Pair) (r : List Part) → r ≡ [] → delete k (ps ++ pairs_of r) ≡ delete k ps ++ pairs_of r
ends_deleted k ps [] e = ap (delete k) (append-nil ps) ∙ sym (append-nil (delete k ps))
ends_deleted k ps (x ∷ r) e = absurd (cc (e))

ends_found : (k : List ℕ) (ps : List Pair) (r : List Part) → r ≡ [] → find k (ps ++ pairs_of r) ≡ find k ps
ends_found k ps [] e = ap (find k) (append-nil ps)
ends_found k ps (x ∷ r) e = absurd (cc (e))

-- the child below which a key is set or removed, among the parts of its parent
pub record Under (told : Option Contents) (m : Contents) (d room : ℕ) (k : List ℕ) (parts : List Part) (front : List ℕ) (child : ℕ) (back : List ℕ) : Type 0 where
  pub l : List Part
  pub q : Part
  pub r : List Part
  pub whole : parts ≡ l ++ (q ∷ r)
  pub edit : CanEdit told m d 16 q child (room - 1)
  pub inserted : (v : List ℕ) → insert k v (pairs_of parts) ≡ pairs_of l ++ (insert k v q.pairs ++ pairs_of r)
  pub deleted : delete k (pairs_of parts) ≡ pairs_of l ++ (delete k q.pairs ++ pairs_of r)
  pub found : find k (pairs_of parts) ≡ find k q.pairs
  pub front_is : front ≡ body (map child_entry (map child_of l))
  pub back_is : back ≡ body (map child_entry (map child_of r))

pub way_under : (told : Option Contents) (m : Contents) (d least handle room : ℕ) (p : Part) (k front back : List ℕ) (child : ℕ) (e : CanEdit told m (suc d) least p handle room) → IsWay (is_ahead (From k)) (map child_of e.walk.stands.over.parts) front child back → Under told m d room k e.walk.stands.over.parts front child back
way_under told m d least handle room p k front back child e w =
    let parts : List Part = e.walk.stands.over.parts in
    let ru : Runs (is_ahead (From k)) parts (child_entry w.child) w.rest = runs (is_ahead (From k)) parts (child_entry w.child) w.rest w.sought in
    let l : List Part = ru.before in
    let q : Part = ru.part in
    let r : List Part = ru.behind in
    let each : AllByRecursion (IsNode (IsOver m d) m 16) (l ++ (q ∷ r)) = rw ru.whole at e.walk.stands.over.each in
    let right : AllByRecursion (IsNode (IsOver m d) m 16) (q ∷ r) = all_right (IsNode (IsOver m d) m 16) l (q ∷ r) each in
    let pairs : pairs_of parts ≡ pairs_of l ++ (q.pairs ++ pairs_of r) = ap (λ (x : List Part). pairs_of x) ru.whole ∙ pairs_both l (q ∷ r) in
    let mine : p.pairs ≡ pairs_of l ++ (q.pairs ++ pairs_of r) = e.walk.stands.over.all ∙ pairs in
    let rises : Rises (keys_of (pairs_of l ++ (q.pairs ++ pairs_of r))) = rw mine at e.walk.sorted.rises in
    let fits : AllByRecursion FitsPair (pairs_of l ++ (q.pairs ++ pairs_of r)) = rw mine at e.walk.sorted.fits in
    let behind : AllByRecursion FitsPair (q.pairs ++ pairs_of r) = all_right FitsPair (pairs_of l) (q.pairs ++ pairs_of r) fits in
    let past = parts_past k l ru.past (rises_left (pairs_of l) (q.pairs ++ pairs_of r) rises) in
    let tails : to_be_bytes w64 w.child.handle ≡ to_be_bytes w64 q.handle = ap (λ (x : Entry). x.tail) ru.entry in
    let same : w.child.handle ≡ q.handle = handle_told w.child.handle q.handle w.low right.0.handle tails in
    let foot : p.footprint ≡ p.handle ∷ footprint_of (l ++ ((q ∷ []) ++ r)) = e.walk.stands.footprint ∙ ap (λ (us : List ℕ). p.handle ∷ us) (e.walk.stands.over.takes ∙ ap (λ (x : List Part). footprint_of x) ru.whole) in
    let entry_list : map child_entry (map child_of parts) ≡ map child_entry (map child_of l) ++ map child_entry (map child_of (q ∷ r)) = ap (λ (x : List Part). map child_entry (map child_of x)) ru.whole ∙ ap (λ (x : List Child). map child_entry x) (children_both l (q ∷ r)) ∙ map-append child_entry (map child_of l) (map child_of (q ∷ r)) in
    let last : child_entry w.child ∷ w.rest ≡ map child_entry (map child_of (q ∷ r)) = ap₂ (λ (x : Entry) (xs : List Entry). x ∷ xs) ru.entry ru.rest_is in
    let front_entries : w.before ≡ map child_entry (map child_of l) = append_cancel_right w.before (map child_entry (map child_of l)) (child_entry w.child ∷ w.rest) (sym w.whole ∙ entry_list ∙ ap (λ (x : List Entry). map child_entry (map child_of l) ++ x) (sym last)) in
    record {
      l = l;
      q = q;
      r = r;
      whole = ru.whole;
      edit = record {
        walk = record {
          is = e.walk.is;
          stands = right.0;
          here = sym same ∙ sym w.handle_is;
          within = omega (arith, e.walk.within);
          some = λ _. omega arith;
          sorted = record { rises = rises_left q.pairs (pairs_of r) (rises_right (pairs_of l) (q.pairs ++ pairs_of r) rises); fits = all_left FitsPair q.pairs (pairs_of r) behind };
        };
        once = λ n. omega (arith, e.once n, ap (times n) foot, counts n l (q ∷ []) r, times_append n q.footprint []);
      };
      inserted = λ v. ap (insert k v) pairs ∙ insert_past k v (pairs_of l) (q.pairs ++ pairs_of r) past ∙ ap (λ (x : List Pair). pairs_of l ++ x) (⊎_elim (λ at_end. insert_within k v q.pairs (pairs_of r) (some_pairs m d q right.0) at_end) (λ nil. ends k v q.pairs r nil) ru.here);
      deleted = ap (delete k) pairs ∙ delete_past k (pairs_of l) (q.pairs ++ pairs_of r) past ∙ ap (λ (x : List Pair). pairs_of l ++ x) (⊎_elim (λ at_end. delete_within k q.pairs (pairs_of r) (some_pairs m d q right.0) at_end) (λ nil. ends_deleted k q.pairs r nil) ru.here);
      found = ap (find k) pairs ∙ find_past k (pairs_of l) (q.pairs ++ pairs_of r) past ∙ ⊎_elim (λ at_end. find_within k q.pairs (pairs_of r) (some_pairs m d q right.0) at_end) (λ nil. ends_found k q.pairs r nil) ru.here;
      front_is = w.front_is ∙ ap body front_entries;
      back_is = w.back_is ∙ ap body ru.rest_is;
    }

-- a set goes on below a child, and what comes of it is an edit here
pub record Goes (read : Option Contents) (m : Contents) (d least room many : ℕ) (p : Part) (k front back : List ℕ) (child : ℕ) : Type 0 where
  pub low : ℕ
  pub one_more : d ≡ suc low
  pub q : Part
  pub edit : CanEdit read m low 16 q child (room - 1)
  pub ends : (v : List ℕ) → back ≡ [] → greatest (insert k v p.pairs) ≡ greatest (insert k v q.pairs)
  pub up : (v : List ℕ) (now : Option Contents) (new : Contents) (cs : List Child) (out all : List ℕ) (n : ℕ) → Becomes m new low (suc low) q.footprint cs (insert k v q.pairs) → now ≡ Some new → 1 ≤ length cs → length cs ≤ 2 → out ≡ body (map child_entry cs) → n + 1 ≡ many + length cs → all ≡ 1 ∷ n ∷ ((front ++ out) ++ back) → IsEdited now m d least p (insert k v p.pairs) all

-- the same below each node that may stand at a handle
abbrev pub AllGo : Option Contents → Option Contents → ℕ → ℕ → ℕ → List ℕ → List ℕ → List ℕ → ℕ → Type 0
AllGo told read handle room many k front back child = (m : Contents) (d least : ℕ) (p : Part) → CanEdit told m d least p handle room → Goes read m d least room many p k front back child

pub edit_kept : (told now : Option Contents) (m : Contents) (d least handle room : ℕ) (p : Part) → now ≡ told → CanEdit told m d least p handle room → CanEdit now m d least p handle room
edit_kept told now m d least handle room p same e = record { walk = walk_kept told now m d least handle room p same e.walk; once = e.once }

pub goes : (told read : Option Contents) (handle room : ℕ) (bytes rest : List ℕ) (leaf : Bool) (n : ℕ) (k front back : List ℕ) (child : ℕ) → Got told handle bytes → HeadRead bytes leaf n rest → leaf ≡ false → WayRead k rest n front child back → read ≡ told → AllGo told read handle room n k front back child
goes told read handle room bytes rest leaf n k front back child got head off way same m zero least p e = clash leaf (as_leaf told handle room bytes rest leaf n got head m least p e).0 off
goes told read handle room bytes rest leaf n k front back child got head off way same m (suc d) least p e =
    let a = as_inner told handle room bytes rest leaf n got head m d least p e in
    let u = way_under told m d least handle room p k front back child e (way (map child_of e.walk.stands.over.parts) a.1.0 a.1.1 a.1.2 a.1.3) in
    let had : length (map child_of e.walk.stands.over.parts) ≡ length (u.l ++ (u.q ∷ u.r)) = parts_count e.walk.stands.over.parts ∙ ap length u.whole in
    record {
      low = d;
      one_more = refl;
      q = u.q;
      edit = edit_kept told read m d 16 child (room - 1) u.q same u.edit;
      ends = λ v none. part_ends u.l u.r (insert k v p.pairs) (insert k v u.q.pairs) back (ap (insert k v) e.walk.stands.over.all ∙ u.inserted v) (omega (arith, (insert_count k v u.q.pairs).0, some_pairs m d u.q u.edit.walk.stands)) u.back_is none;
      up = λ v now new cs out all k2 b is low high out_is many all_is.
          inner_set told now m new d least handle room p k v e u.l u.q u.r cs u.whole b is (u.inserted v) low high all
          (inner_spelled u.l cs u.r k2 front out back all u.front_is out_is u.back_is
          (omega (arith, many, a.1.2, had, length-append u.l (u.q ∷ u.r), length-append (map child_of u.l) (cs ++ map child_of u.r), length-append cs (map child_of u.r), parts_count u.l, parts_count u.r))
          all_is);
    }

-- the child was changed in memory
abbrev pub BelowSet : Option Contents → Option Contents → ℕ → ℕ → List ℕ → List ℕ → List ℕ → Type 0
BelowSet read now child room k v node = (m : Contents) (d least : ℕ) (p : Part) → CanEdit read m d least p child room → IsEdited now m d least p (insert k v p.pairs) node

-- the key is the last one below the child
abbrev pub BelowEnds : Option Contents → ℕ → ℕ → List ℕ → List ℕ → Bool → Type 0
BelowEnds read child room k v ends = (m : Contents) (d least : ℕ) (p : Part) → CanEdit read m d least p child room → ends ≡ true → greatest (insert k v p.pairs) ≡ k

pub inner_ended : (told read : Option Contents) (handle room n : ℕ) (k v front back : List ℕ) (child : ℕ) (below ends : Bool) → AllGo told read handle room n k front back child → BelowEnds read child (room - 1) k v below → (ends ≡ true → (below ≡ true) × (back ≡ [])) → (m : Contents) (d least : ℕ) (p : Part) → CanEdit told m d least p handle room → ends ≡ true → greatest (insert k v p.pairs) ≡ k
inner_ended told read handle room n k v front back child below ends go last both m d least p e on =
    let g = go m d least p e in
    g.ends v (both on).1 ∙ last m g.low 16 g.q g.edit (both on).0

-- what stands where a child was stored
abbrev pub StoredBelow : Option Contents → Option Contents → ℕ → List ℕ → Bool → ℕ → List ℕ → List ℕ → Type 0
StoredBelow mid now child k ends found out node = (m : Contents) (d : ℕ) (pairs : List Pair) (under : List ℕ) → CanStore mid m d child node pairs under → (ends ≡ true → k ≡ greatest pairs) → IsStored now m d 1 (child ∷ under) pairs found out

pub below_refused : (told read : Option Contents) (handle room n : ℕ) (k front back : List ℕ) (child : ℕ) → AllGo told read handle room n k front back child → NoEdit read child (room - 1) → NoEdit told handle room
below_refused told read handle room n k front back child go none m d least p e =
    let g = go m d least p e in
    none m g.low 16 g.q g.edit

pub below_reads : (told read : Option Contents) (handle room n : ℕ) (k front back : List ℕ) (child : ℕ) → AllGo told read handle room n k front back child → (before mid after : ℕ) → mid ≤ before + 1 → ((m : Contents) (d least : ℕ) (p : Part) → CanEdit read m d least p child (room - 1) → after ≤ mid + (d + 1)) → (m : Contents) (d least : ℕ) (p : Part) → CanEdit told m d least p handle room → after ≤ before + (d + 1)
below_reads told read handle room n k front back child go before mid after step next m d least p e =
    let g = go m d least p e in
    omega (arith, g.one_more, step, next m g.low 16 g.q g.edit)

-- below the child two nodes less were added, and the child became two at most
pub below_grows : (told read : Option Contents) (handle room n : ℕ) (k front back : List ℕ) (child : ℕ) → AllGo told read handle room n k front back child → (before mid below after : ℕ) → mid ≡ before → after ≤ below + 2 * 35952 → ((m : Contents) (d least : ℕ) (p : Part) → CanEdit read m d least p child (room - 1) → AddsNodes (2 * d) mid below) → (m : Contents) (d least : ℕ) (p : Part) → CanEdit told m d least p handle room → AddsNodes (2 * d) before after
below_grows told read handle room n k front back child go before mid below after same last next m d least p e =
    let g = go m d least p e in
    omega (arith, g.one_more, same, last, next m g.low 16 g.q g.edit)

-- what can be stored of the child
storable : (read now : Option Contents) (m : Contents) (d child room : ℕ) (q : Part) (k v node : List ℕ) → length k ≤ 1100 → length v ≤ 16 → CanEdit read m d 16 q child room → (i : IsEdited now m d 16 q (insert k v q.pairs) node) → CanStore now i.new d child node (insert k v q.pairs) i.lifts.under
storable read now m d child room q k v node key value e i = can_store now m d child q (insert k v q.pairs) node e.walk.stands e.walk.here i (insert_fits k v q.pairs (key, value) e.walk.sorted.fits)

pub store_refused : (told read now : Option Contents) (handle room n : ℕ) (k v front back node : List ℕ) (child : ℕ) → length k ≤ 1100 → length v ≤ 16 → AllGo told read handle room n k front back child → BelowSet read now child (room - 1) k v node → ((m : Contents) (d : ℕ) (pairs : List Pair) (under : List ℕ) → CanStore now m d child node pairs under → ⊥) → NoEdit told handle room
store_refused told read now handle room n k v front back node child key value go below none m d least p e =
    let g = go m d least p e in
    let i = below m g.low 16 g.q g.edit in
    none i.new g.low (insert k v g.q.pairs) i.lifts.under (storable read now m g.low child (room - 1) g.q k v node key value g.edit i)

becomes_here : (old new : Contents) (d more h child : ℕ) (under : List ℕ) (cs : List Child) (pairs : List Pair) → h ≡ child → Becomes old new d more (child ∷ under) cs pairs → Becomes old new d more (h ∷ under) cs pairs
becomes_here old new d more h child under cs pairs same b = rw same b

pub inner_edited : (told read mid now : Option Contents) (handle room many : ℕ) (k v front back node out all : List ℕ) (child found n : ℕ) (ends : Bool) → length k ≤ 1100 → length v ≤ 16 → AllGo told read handle room many k front back child → BelowSet read mid child (room - 1) k v node → BelowEnds read child (room - 1) k v ends → StoredBelow mid now child k ends found out node → (1 ≤ found) × (found ≤ 2) → n + 1 ≡ many + found → all ≡ 1 ∷ n ∷ ((front ++ out) ++ back) → (m : Contents) (d least : ℕ) (p : Part) → CanEdit told m d least p handle room → IsEdited now m d least p (insert k v p.pairs) all
inner_edited told read mid now handle room many k v front back node out all child found n ends key value go below last store few count_is all_is m d least p e =
    let g = go m d least p e in
    let i = below m g.low 16 g.q g.edit in
    let s = store i.new g.low (insert k v g.q.pairs) i.lifts.under (storable read mid m g.low child (room - 1) g.q k v node key value g.edit i) (λ on. sym (last m g.low 16 g.q g.edit on)) in
    let b : Becomes i.new s.new g.low 1 (g.q.handle ∷ i.lifts.under) s.children (insert k v g.q.pairs) = becomes_here i.new s.new g.low 1 g.q.handle child i.lifts.under s.children (insert k v g.q.pairs) g.edit.walk.here s.becomes in
    let whole : Becomes m s.new g.low (suc g.low) g.q.footprint s.children (insert k v g.q.pairs) = then_stored m i.new s.new g.low g.low g.q.handle g.q.footprint i.node (insert k v g.q.pairs) s.children i.lifts b in
    g.up v now s.new s.children out all n whole s.told (omega (arith, few.0, s.counted)) (omega (arith, few.1, s.counted)) s.spelled (omega (arith, count_is, s.counted)) all_is
