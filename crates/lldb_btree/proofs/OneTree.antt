-- There is one tree at most at a handle of a map.
use Rattle.std.proofs.Common.{◌≡◌, ℕ, zero, suc, ◌+◌, ◌<◌, List, [], ◌∷◌, length, map, Some, refl, sym, ap, ◌∙◌, arith}
use Rattle.std.specs.List.{AllByRecursion}
use Rattle.lldb_base.specs.Contents.{Contents, content_of}
use Rattle.lldb_btree.specs.declared.node.Child.{Child}
use Rattle.lldb_btree.specs.declared.node.Node.{Node}
use Rattle.lldb_btree.specs.declared.node.Node.TheVariants.{Leaf, Inner}
use Rattle.lldb_btree.specs.declared.node.Pair.{Pair}
use Rattle.lldb_btree.specs.Nodes.{spelling, count}
use Rattle.lldb_btree.specs.Pairs.{FitsPair}
use Rattle.lldb_btree.specs.Trees.{Part, child_of, pairs_of, footprint_of, IsNode, IsOver, IsTree, least_of}
use Rattle.lldb_btree.proofs.Spelling.{one_spelling}
use Rattle.lldb_btree.proofs.Standing.{all_left, all_right, over_fits, parts_count}

-- what is over one node at a level is over it at no other, and is the same
abbrev AreSame : Contents → ℕ → Type 0
AreSame m d = (e : ℕ) (a b : Node) (ps qs : List Pair) (us ts : List ℕ) → IsOver m d a ps us → IsOver m e b qs ts → a ≡ b → AllByRecursion FitsPair ps → AllByRecursion FitsPair qs → (0 < d → 0 < count a) → (d ≡ e) × (ps ≡ qs) × (us ≡ ts)

same_part : (p q : Part) → p.handle ≡ q.handle → p.pairs ≡ q.pairs → p.footprint ≡ q.footprint → p ≡ q
same_part p q h r f = λ i. record { handle = h i; pairs = r i; footprint = f i }

one_node : (m : Contents) (d e least most : ℕ) → AreSame m d → (p q : Part) → IsNode (IsOver m d) m least p → IsNode (IsOver m e) m most q → (0 < d → 0 < least) → p.handle ≡ q.handle → AllByRecursion FitsPair p.pairs → AllByRecursion FitsPair q.pairs → (d ≡ e) × (p ≡ q)
one_node m d e least most go p q a b some h f g =
    let both : Some (spelling a.node) ≡ Some (spelling b.node) = sym a.held ∙ ap (λ (n : ℕ). content_of n m) h ∙ b.held in
    let bytes : spelling a.node ≡ spelling b.node = cc (both) in
    let node : a.node ≡ b.node = one_spelling a.node b.node (over_fits m d a.node p.pairs a.under a.over f) (over_fits m e b.node q.pairs b.under b.over g) bytes in
    let r : (d ≡ e) × (p.pairs ≡ q.pairs) × (a.under ≡ b.under) = go e a.node b.node p.pairs q.pairs a.under b.under a.over b.over node f g (λ z. omega (arith, some z, a.enough)) in
    (r.0, same_part p q h r.1 (cc (a.footprint, b.footprint, h, r.2)))

one_parts : (m : Contents) (d e : ℕ) → AreSame m d → (ps qs : List Part) → AllByRecursion (IsNode (IsOver m d) m 16) ps → AllByRecursion (IsNode (IsOver m e) m 16) qs → map child_of ps ≡ map child_of qs → AllByRecursion FitsPair (pairs_of ps) → AllByRecursion FitsPair (pairs_of qs) → (ps ≡ qs) × (0 < length ps → d ≡ e)
one_parts m d e go [] [] a b c f g = (refl, λ z. absurd (omega (arith, z)))
one_parts m d e go [] (q ∷ qs) a b c f g = absurd (cc)
one_parts m d e go (p ∷ ps) [] a b c f g = absurd (cc)
one_parts m d e go (p ∷ ps) (q ∷ qs) a b c f g =
    let one : child_of p ≡ child_of q = cc (c) in
    let rest : map child_of ps ≡ map child_of qs = cc (c) in
    let h : p.handle ≡ q.handle = ap (λ (x : Child). x.handle) one in
    let r : (d ≡ e) × (p ≡ q) = one_node m d e 16 16 go p q a.0 b.0 (λ _. omega arith) h (all_left FitsPair p.pairs (pairs_of ps) f) (all_left FitsPair q.pairs (pairs_of qs) g) in
    let t : (ps ≡ qs) × (0 < length ps → d ≡ e) = one_parts m d e go ps qs a.1 b.1 rest (all_right FitsPair p.pairs (pairs_of ps) f) (all_right FitsPair q.pairs (pairs_of qs) g) in
    (cc (r.1, t.0), λ _. r.0)

pub one_over : (m : Contents) (d : ℕ) → AreSame m d
one_over m zero zero a b ps qs us ts o r same f g some =
    let both : Leaf ps ≡ Leaf qs = sym o.0 ∙ same ∙ r.0 in
    (refl, cc (both), o.1 ∙ sym r.1)
one_over m zero (suc e) a b ps qs us ts o r same f g some =
    let clash : Leaf ps ≡ Inner (map child_of r.parts) = sym o.0 ∙ same ∙ r.named in
    absurd (cc)
one_over m (suc d) zero a b ps qs us ts o r same f g some =
    let clash : Inner (map child_of o.parts) ≡ Leaf qs = sym o.named ∙ same ∙ r.0 in
    absurd (cc)
one_over m (suc d) (suc e) a b ps qs us ts o r same f g some =
    let both : Inner (map child_of o.parts) ≡ Inner (map child_of r.parts) = sym o.named ∙ same ∙ r.named in
    let children : map child_of o.parts ≡ map child_of r.parts = cc (both) in
    let n : count a ≡ length o.parts = ap count o.named ∙ parts_count o.parts in
    let t : (o.parts ≡ r.parts) × (0 < length o.parts → d ≡ e) = one_parts m d e (one_over m d) o.parts r.parts o.each r.each children (rw o.all at f) (rw r.all at g) in
    let k : 0 < length o.parts = omega (arith, n, some (omega arith)) in
    (ap (λ (x : ℕ). suc x) (t.1 k), o.all ∙ ap pairs_of t.0 ∙ sym r.all, o.takes ∙ ap footprint_of t.0 ∙ sym r.takes)

pub least_some : (d : ℕ) → 0 < d → 0 < least_of d
least_some zero z = z
least_some (suc d) z = omega arith

pub one_tree : (m : Contents) (h l k : ℕ) (ps qs : List Pair) (us ts : List ℕ) → IsTree m h l ps us → IsTree m h k qs ts → (l ≡ k) × (ps ≡ qs) × (us ≡ ts)
one_tree m h l k ps qs us ts a b =
    let r = one_node m a.d b.d (least_of a.d) (least_of b.d) (one_over m a.d) (record { handle = h; pairs = ps; footprint = us }) (record { handle = h; pairs = qs; footprint = ts }) a.top b.top (least_some a.d) refl a.sorted.fits b.sorted.fits in
    (a.depth ∙ ap (λ (n : ℕ). n + 1) r.0 ∙ sym b.depth, ap (λ (p : Part). p.pairs) r.1, ap (λ (p : Part). p.footprint) r.1)
