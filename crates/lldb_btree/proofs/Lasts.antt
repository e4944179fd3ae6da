-- The last key of a node's entries is the greatest under it.
use Rattle.std.proofs.Common.{◌≡◌, ℕ, zero, suc, ◌<◌, List, [], ◌∷◌, ◌++◌, length, map, refl, sym, ap, ◌∙◌, arith, length-append, append-nil}
use Rattle.std.specs.List.{AllByRecursion}
use Rattle.lldb_base.specs.Contents.{Contents}
use Rattle.lldb_btree.specs.declared.node.Node.{Node}
use Rattle.lldb_btree.specs.declared.node.Pair.{Pair}
use Rattle.lldb_btree.specs.Nodes.{entries, pair_entry, child_entry}
use Rattle.lldb_btree.specs.Splicing.{key_at_end}
use Rattle.lldb_btree.specs.Trees.{Part, greatest, child_of, pairs_of, IsNode, IsOver}
use Rattle.lldb_btree.proofs.Standing.{all_weaker}
use Rattle.lldb_btree.proofs.Walking.{some_pairs}

pub greatest_append : (xs ys : List Pair) → 0 < length ys → greatest (xs ++ ys) ≡ greatest ys
greatest_append [] ys some = refl
greatest_append (x ∷ []) [] some = absurd (omega (arith, some))
greatest_append (x ∷ []) (y ∷ ys) some = refl
greatest_append (x ∷ z ∷ xs) ys some = greatest_append (z ∷ xs) ys some

pub key_of_pairs : (ps : List Pair) → key_at_end (map pair_entry ps) ≡ greatest ps
key_of_pairs [] = refl
key_of_pairs (p ∷ []) = refl
key_of_pairs (p ∷ q ∷ ps) = key_of_pairs (q ∷ ps)

key_of_parts : (parts : List Part) → AllByRecursion (λ p. 0 < length p.pairs) parts → key_at_end (map child_entry (map child_of parts)) ≡ greatest (pairs_of parts)
key_of_parts [] a = refl
key_of_parts (p ∷ []) a = ap greatest (sym (append-nil p.pairs))
key_of_parts (p ∷ q ∷ ps) a =
    let some : 0 < length (q.pairs ++ pairs_of ps) = omega (arith, a.1.0, length-append q.pairs (pairs_of ps)) in
    key_of_parts (q ∷ ps) a.1 ∙ sym (greatest_append p.pairs (pairs_of (q ∷ ps)) some)

pub last_key_is : (m : Contents) (d : ℕ) (node : Node) (pairs : List Pair) (under : List ℕ) → IsOver m d node pairs under → key_at_end (entries node) ≡ greatest pairs
last_key_is m zero node pairs under o = rw o.0 (key_of_pairs pairs)
last_key_is m (suc d) node pairs under o = rw (o.named, o.all) (key_of_parts o.parts (all_weaker (IsNode (IsOver m d) m 16) (λ p. 0 < length p.pairs) (λ p n. some_pairs m d p n) o.parts o.each))
