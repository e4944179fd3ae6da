-- Nodes that stand fit, and lists whose members all do.
use Rattle.std.proofs.Common.{◌≡◌, ℕ, zero, suc, ◌≤◌, List, [], ◌∷◌, ◌++◌, length, map, refl, ap, arith}
use Rattle.std.specs.List.{AllByRecursion}
use Rattle.lldb_base.specs.Contents.{Contents}
use Rattle.lldb_btree.specs.declared.node.Node.{Node}
use Rattle.lldb_btree.specs.declared.node.Pair.{Pair}
use Rattle.lldb_btree.specs.Nodes.{FitsChild, Fits}
use Rattle.lldb_btree.specs.Pairs.{FitsPair}
use Rattle.lldb_btree.specs.Trees.{Part, greatest, child_of, pairs_of, IsNode, IsOver}

pub all_left : {X : Type 0} (P : X → Type 0) (xs ys : List X) → AllByRecursion P (xs ++ ys) → AllByRecursion P xs
all_left P [] ys a = tt
all_left P (x ∷ xs) ys a = (a.0, all_left P xs ys a.1)

pub all_right : {X : Type 0} (P : X → Type 0) (xs ys : List X) → AllByRecursion P (xs ++ ys) → AllByRecursion P ys
all_right P [] ys a = a
all_right P (x ∷ xs) ys a = all_right P xs ys a.1

pub all_both : {X : Type 0} (P : X → Type 0) (xs ys : List X) → AllByRecursion P xs → AllByRecursion P ys → AllByRecursion P (xs ++ ys)
all_both P [] ys a b = b
all_both P (x ∷ xs) ys a b = (a.0, all_both P xs ys a.1 b)

pub all_weaker : {X : Type 0} (P Q : X → Type 0) → ((x : X) → P x → Q x) → (xs : List X) → AllByRecursion P xs → AllByRecursion Q xs
all_weaker P Q f [] a = tt
all_weaker P Q f (x ∷ xs) a = (f x a.0, all_weaker P Q f xs a.1)

pub parts_count : (parts : List Part) → length (map child_of parts) ≡ length parts
parts_count [] = refl
parts_count (p ∷ ps) = ap (λ (n : ℕ). suc n) (parts_count ps)

pub greatest_fits : (ps : List Pair) → AllByRecursion FitsPair ps → length (greatest ps) ≤ 1100
greatest_fits [] a = omega arith
greatest_fits (p ∷ []) a = a.0.0
greatest_fits (p ∷ q ∷ ps) a = greatest_fits (q ∷ ps) a.1

pub parts_fit : (m : Contents) (d : ℕ) (parts : List Part) → AllByRecursion (IsNode (IsOver m d) m 16) parts → AllByRecursion FitsPair (pairs_of parts) → AllByRecursion FitsChild (map child_of parts)
parts_fit m d [] a f = tt
parts_fit m d (p ∷ ps) a f = ((greatest_fits p.pairs (all_left FitsPair p.pairs (pairs_of ps) f), a.0.handle), parts_fit m d ps a.1 (all_right FitsPair p.pairs (pairs_of ps) f))

-- a node over pairs that fit fits
pub over_fits : (m : Contents) (d : ℕ) (node : Node) (pairs : List Pair) (under : List ℕ) → IsOver m d node pairs under → AllByRecursion FitsPair pairs → Fits node
over_fits m zero node pairs under o f = rw o.0 f
over_fits m (suc d) node pairs under o f = rw o.named (parts_fit m d o.parts o.each (rw o.all at f))
