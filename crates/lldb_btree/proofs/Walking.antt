-- A way down a tree, a level at a time.
use Rattle.std.proofs.Common.{◌≡◌, ℕ, suc, ◌-◌, ◌*◌, ◌^◌, ◌<◌, ◌≤◌, Bool, false, List, [], ◌∷◌, length, map, Option, Some, None, IfSome, refl, sym, ap, ◌∙◌, arith}
use Rattle.std.specs.Int.{to_be_bytes, w64}
use Rattle.std.specs.List.{AllByRecursion}
use Rattle.lldb_base.specs.Contents.{Contents, content_of}
use Rattle.lldb_base.specs.Heaps.{MayBeDead}
use Rattle.lldb_btree.specs.declared.node.Child.{Child}
use Rattle.lldb_btree.specs.declared.node.Pair.{Pair}
use Rattle.lldb_btree.specs.Bounds.{from_first}
use Rattle.lldb_btree.specs.Nodes.{Entry, child_entry, spelling, count, FitsChild}
use Rattle.lldb_btree.specs.Pairs.{FitsPair, first, Rises, keys_of}
use Rattle.lldb_btree.specs.Trees.{Part, child_of, pairs_of, IsNode, IsOver, IsTold, CanWalk, least_of}
use Rattle.std.proofs.Math.Nat.{one-le-pow}
use Rattle.std.proofs.lemmas.Nat.{mul-le}
use Rattle.lldb_btree.proofs.Ahead.{Falls, Leads, led}
use Rattle.lldb_btree.proofs.Levels.{over_size, tree_low}
use Rattle.lldb_btree.proofs.OneTree.{least_some}
use Rattle.lldb_btree.proofs.Spelling.{handle_told}
use Rattle.lldb_btree.proofs.Standing.{all_left, all_right, parts_fit}

-- the part below an inner node where a look-up goes on
pub record Descent (told : Option Contents) (m : Contents) (d : ℕ) (test : List ℕ → Bool) (pairs : List Pair) (handle room : ℕ) : Type 0 where
  pub part : Part
  pub walk : CanWalk told m d 16 part handle (room - 1)
  pub first_is : first test pairs ≡ first test part.pairs

-- what a read gave of a node from which one can walk
pub node_got : (told : Option Contents) (m : Contents) (d least handle room : ℕ) (p : Part) (bytes : List ℕ) (w : CanWalk told m d least p handle room) → IfSome told (λ map. IfSome (content_of handle map) (λ content. bytes ≡ content)) → bytes ≡ spelling w.stands.node
node_got told m d least handle room p bytes w got =
    let held : content_of handle m ≡ Some (spelling w.stands.node) = sym (ap (λ (h : ℕ). content_of h m) w.here) ∙ w.stands.held in
    let one : IfSome (content_of handle m) (λ content. bytes ≡ content) = rw w.is at got in
    rw held at one

-- where one can walk the handle is live
pub walk_live : (told : Option Contents) (m : Contents) (d least handle room : ℕ) (p : Part) → CanWalk told m d least p handle room → MayBeDead handle told → ⊥
walk_live told m d least handle room p w dead =
    let held : content_of handle m ≡ Some (spelling w.stands.node) = sym (ap (λ (h : ℕ). content_of h m) w.here) ∙ w.stands.held in
    let none : content_of handle m ≡ None = rw w.is at dead in
    let clash : Some (spelling w.stands.node) ≡ None = sym held ∙ none in
    absurd (cc)

pub inner_fits : (told : Option Contents) (m : Contents) (d least handle room : ℕ) (p : Part) (w : CanWalk told m (suc d) least p handle room) → AllByRecursion FitsChild (map child_of w.stands.over.parts)
inner_fits told m d least handle room p w = parts_fit m d w.stands.over.parts w.stands.over.each (rw w.stands.over.all at w.sorted.fits)

pub inner_some : (told : Option Contents) (m : Contents) (d least handle room : ℕ) (p : Part) (w : CanWalk told m (suc d) least p handle room) → 0 < length (map child_of w.stands.over.parts)
inner_some told m d least handle room p w =
    let n : count w.stands.node ≡ length (map child_of w.stands.over.parts) = ap count w.stands.over.named in
    let some : 0 < least = w.some (omega arith) in
    omega (arith, n, some, w.stands.enough)

pub some_pairs : (m : Contents) (d : ℕ) (p : Part) → IsNode (IsOver m d) m 16 p → 0 < length p.pairs
some_pairs m d p n =
    let s : 16 ^ d * count n.node ≤ length p.pairs = over_size m d n.node p.pairs n.under n.over in
    let one : 1 ≤ 16 ^ d = one-le-pow d 16 (omega arith) in
    omega (arith, s, mul-le 1 16 (16 ^ d) (count n.node) one n.enough)

-- a part that stands, with pairs that fit
abbrev Stands : Contents → ℕ → Part → Type 0
Stands m d p = IsNode (IsOver m d) m 16 p × AllByRecursion FitsPair p.pairs

all_stand : (m : Contents) (d : ℕ) (parts : List Part) → AllByRecursion (IsNode (IsOver m d) m 16) parts → AllByRecursion FitsPair (pairs_of parts) → AllByRecursion (Stands m d) parts
all_stand m d [] a f = tt
all_stand m d (p ∷ ps) a f = ((a.0, all_left FitsPair p.pairs (pairs_of ps) f), all_stand m d ps a.1 (all_right FitsPair p.pairs (pairs_of ps) f))

pub descend : (told : Option Contents) (m : Contents) (d least handle room : ℕ) (p : Part) (test : List ℕ → Bool) → Falls test → (w : CanWalk told m (suc d) least p handle room) → (to : ℕ) (child : Child) (rest : List Entry) → from_first false test (map child_entry (map child_of w.stands.over.parts)) ≡ child_entry child ∷ rest → child.handle < 2 ^ 64 → to ≡ child.handle → Descent told m d test p.pairs to room
descend told m d least handle room p test falls w to child rest found low is =
    let fits : AllByRecursion FitsPair (pairs_of w.stands.over.parts) = rw w.stands.over.all at w.sorted.fits in
    let rises : Rises (keys_of (pairs_of w.stands.over.parts)) = rw w.stands.over.all at w.sorted.rises in
    let l : Leads (Stands m d) test w.stands.over.parts (child_entry child) = led (Stands m d) test falls (λ q s. some_pairs m d q s.0) w.stands.over.parts (child_entry child) rest (all_stand m d w.stands.over.parts w.stands.over.each fits) rises found in
    let tails : to_be_bytes w64 child.handle ≡ to_be_bytes w64 l.part.handle = ap (λ (e : Entry). e.tail) l.is in
    let same : child.handle ≡ l.part.handle = handle_told child.handle l.part.handle low l.holds.0.handle tails in
    record {
      part = l.part;
      walk = record {
        is = w.is;
        stands = l.holds.0;
        here = sym same ∙ sym is;
        within = omega (arith, w.within);
        some = λ _. omega arith;
        sorted = record { rises = l.rises; fits = l.holds.1 };
      };
      first_is = ap (first test) w.stands.over.all ∙ l.first_is;
    }

-- from the root of a tree one can walk
pub from_root : (told : Option Contents) (handle levels : ℕ) (pairs : List Pair) (footprint : List ℕ) (t : IsTold told handle levels pairs footprint) → CanWalk told t.map t.tree.d (least_of t.tree.d) (record { handle = handle; pairs = pairs; footprint = footprint }) handle 17
from_root told handle levels pairs footprint t =
    let low : levels ≤ 17 = tree_low t.map handle levels pairs footprint t.tree in
    record {
      is = t.is;
      stands = t.tree.top;
      here = refl;
      within = omega (arith, low, t.tree.depth);
      some = least_some t.tree.d;
      sorted = t.tree.sorted;
    }
