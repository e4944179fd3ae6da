-- Two nodes in memory put together: pairs and handles go along.
use Rattle.std.proofs.Common.{◌≡◌, ℕ, zero, suc, ◌+◌, List, [], ◌++◌, map, refl, sym, ap, length-append}
use Rattle.std.specs.List.{AllByRecursion}
use Rattle.std.proofs.lemmas.List.{map-append}
use Rattle.lldb_base.specs.Contents.{Contents}
use Rattle.lldb_btree.specs.declared.node.Child.{Child}
use Rattle.lldb_btree.specs.declared.node.Node.{Node}
use Rattle.lldb_btree.specs.declared.node.Node.TheVariants.{Leaf, Inner}
use Rattle.lldb_btree.specs.declared.node.Pair.{Pair}
use Rattle.lldb_btree.specs.Nodes.{count, is_leaf, entries, pair_entry, child_entry}
use Rattle.lldb_btree.specs.Trees.{Part, child_of, pairs_of, footprint_of, IsNode, IsOver}
use Rattle.lldb_btree.proofs.Parents.{footprints_both, pairs_both, children_both}
use Rattle.lldb_btree.proofs.Standing.{all_both}

pub record Join (m : Contents) (d : ℕ) (left right : Node) (ps qs : List Pair) (us ts : List ℕ) : Type 0 where
  pub node : Node
  pub over : IsOver m d node (ps ++ qs) (us ++ ts)
  pub kind : is_leaf node ≡ is_leaf left
  pub alike : is_leaf right ≡ is_leaf left
  pub entries_are : entries node ≡ entries left ++ entries right
  pub many : count node ≡ count left + count right

join_leaves : (m : Contents) (ps qs : List Pair) → Join m zero (Leaf ps) (Leaf qs) ps qs [] []
join_leaves m ps qs = record {
  node = Leaf (ps ++ qs);
  over = (refl, refl);
  kind = refl;
  alike = refl;
  entries_are = map-append pair_entry ps qs;
  many = length-append ps qs;
}

join_inner : (m : Contents) (d : ℕ) (l r : List Part) → AllByRecursion (IsNode (IsOver m d) m 16) l → AllByRecursion (IsNode (IsOver m d) m 16) r → Join m (suc d) (Inner (map child_of l)) (Inner (map child_of r)) (pairs_of l) (pairs_of r) (footprint_of l) (footprint_of r)
join_inner m d l r a b = record {
  node = Inner (map child_of l ++ map child_of r);
  over = record {
    parts = l ++ r;
    each = all_both (IsNode (IsOver m d) m 16) l r a b;
    named = ap (λ (cs : List Child). Inner cs) (sym (children_both l r));
    all = sym (pairs_both l r);
    takes = sym (footprints_both l r);
  };
  kind = refl;
  alike = refl;
  entries_are = map-append child_entry (map child_of l) (map child_of r);
  many = length-append (map child_of l) (map child_of r);
}

pub over_join : (m : Contents) (d : ℕ) (left right : Node) (ps qs : List Pair) (us ts : List ℕ) → IsOver m d left ps us → IsOver m d right qs ts → Join m d left right ps qs us ts
over_join m zero left right ps qs us ts a b = rw (a.0, a.1, b.0, b.1) (join_leaves m ps qs)
over_join m (suc d) left right ps qs us ts a b = rw (a.named, a.all, a.takes, b.named, b.all, b.takes) (join_inner m d a.parts b.parts a.each b.each)
