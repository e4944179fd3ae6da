-- A node in memory cut in two: pairs and handles go along.
use Rattle.std.proofs.Common.{◌≡◌, ℕ, zero, suc, ◌-◌, ◌≤◌, List, [], ◌++◌, length, map, take, drop, refl, sym, ap, ◌∙◌, arith, length-drop}
use Rattle.std.specs.List.{AllByRecursion}
use Rattle.std.proofs.lemmas.List.{length-take-le, take-append-drop, take-map, drop-map}
use Rattle.lldb_base.specs.Contents.{Contents}
use Rattle.lldb_btree.specs.declared.node.Child.{Child}
use Rattle.lldb_btree.specs.declared.node.Node.{Node}
use Rattle.lldb_btree.specs.declared.node.Node.TheVariants.{Leaf, Inner}
use Rattle.lldb_btree.specs.declared.node.Pair.{Pair}
use Rattle.lldb_btree.specs.Nodes.{count, is_leaf, entries, pair_entry, child_entry}
use Rattle.lldb_btree.specs.Trees.{Part, child_of, pairs_of, footprint_of, IsNode, IsOver}
use Rattle.lldb_btree.proofs.Parents.{footprints_both, pairs_both}
use Rattle.lldb_btree.proofs.Standing.{all_left, all_right, parts_count}

pub record Cut (m : Contents) (d half : ℕ) (node : Node) (pairs : List Pair) (under : List ℕ) : Type 0 where
  pub left : Node
  pub right : Node
  pub ps : List Pair
  pub qs : List Pair
  pub us : List ℕ
  pub ts : List ℕ
  pub over_left : IsOver m d left ps us
  pub over_right : IsOver m d right qs ts
  pub pairs_are : pairs ≡ ps ++ qs
  pub under_is : under ≡ us ++ ts
  pub left_leaf : is_leaf left ≡ is_leaf node
  pub right_leaf : is_leaf right ≡ is_leaf node
  pub left_entries : entries left ≡ take half (entries node)
  pub right_entries : entries right ≡ drop half (entries node)
  pub left_count : count left ≡ half
  pub right_count : count right ≡ count node - half

cut_leaf : (m : Contents) (half : ℕ) (pairs : List Pair) → half ≤ length pairs → Cut m zero half (Leaf pairs) pairs []
cut_leaf m half pairs low =
    let len : length (take half pairs) ≡ half = length-take-le half pairs low in
    let more : length (drop half pairs) ≡ length pairs - half = length-drop half pairs in
    record {
      left = Leaf (take half pairs);
      right = Leaf (drop half pairs);
      ps = take half pairs;
      qs = drop half pairs;
      us = [];
      ts = [];
      over_left = (refl, refl);
      over_right = (refl, refl);
      pairs_are = sym (take-append-drop half pairs);
      under_is = refl;
      left_leaf = refl;
      right_leaf = refl;
      left_entries = sym (take-map pair_entry half pairs);
      right_entries = sym (drop-map pair_entry half pairs);
      left_count = len;
      right_count = more;
    }

cut_inner : (m : Contents) (d half : ℕ) (parts : List Part) → AllByRecursion (IsNode (IsOver m d) m 16) parts → half ≤ length parts → Cut m (suc d) half (Inner (map child_of parts)) (pairs_of parts) (footprint_of parts)
cut_inner m d half parts a low =
    let whole : take half parts ++ drop half parts ≡ parts = take-append-drop half parts in
    let each : AllByRecursion (IsNode (IsOver m d) m 16) (take half parts ++ drop half parts) = rw whole a in
    let many : length (map child_of parts) ≡ length parts = parts_count parts in
    let len : length (map child_of (take half parts)) ≡ half = parts_count (take half parts) ∙ length-take-le half parts low in
    let more : length (map child_of (drop half parts)) ≡ length (map child_of parts) - half = parts_count (drop half parts) ∙ length-drop half parts ∙ ap (λ (n : ℕ). n - half) (sym many) in
    record {
      left = Inner (map child_of (take half parts));
      right = Inner (map child_of (drop half parts));
      ps = pairs_of (take half parts);
      qs = pairs_of (drop half parts);
      us = footprint_of (take half parts);
      ts = footprint_of (drop half parts);
      over_left = record { parts = take half parts; each = all_left (IsNode (IsOver m d) m 16) (take half parts) (drop half parts) each; named = refl; all = refl; takes = refl };
      over_right = record { parts = drop half parts; each = all_right (IsNode (IsOver m d) m 16) (take half parts) (drop half parts) each; named = refl; all = refl; takes = refl };
      pairs_are = sym (ap (λ (x : List Part). pairs_of x) whole) ∙ pairs_both (take half parts) (drop half parts);
      under_is = sym (ap (λ (x : List Part). footprint_of x) whole) ∙ footprints_both (take half parts) (drop half parts);
      left_leaf = refl;
      right_leaf = refl;
      left_entries = sym (take-map child_entry half (map child_of parts) ∙ ap (λ (cs : List Child). map child_entry cs) (take-map child_of half parts));
      right_entries = sym (drop-map child_entry half (map child_of parts) ∙ ap (λ (cs : List Child). map child_entry cs) (drop-map child_of half parts));
      left_count = len;
      right_count = more;
    }

pub over_cut : (m : Contents) (d half : ℕ) (node : Node) (pairs : List Pair) (under : List ℕ) → IsOver m d node pairs under → half ≤ count node → Cut m d half node pairs under
over_cut m zero half node pairs under o low = rw (o.0, o.1) (cut_leaf m half pairs (rw o.0 at low))
over_cut m (suc d) half node pairs under o low =
    let many : count node ≡ length o.parts = ap count o.named ∙ parts_count o.parts in
    rw (o.named, o.all, o.takes) (cut_inner m d half o.parts o.each (omega (arith, low, many)))
