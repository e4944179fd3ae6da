-- How many pairs and handles a tree of so many levels has at least, and how many levels it has at most.
use Rattle.std.proofs.Common.{◌≡◌, ⊎_elim, ℕ, zero, suc, ◌+◌, ◌-◌, ◌*◌, ◌^◌, ◌<◌, ◌≤◌, max, Bool, true, false, cond, eqb, ◌||◌, List, [], ◌∷◌, length, refl, ap, ◌∙◌, arith, length-append, pow-suc, mul-le-mul_left}
use Rattle.std.proofs.Math.Nat.{pow-le-pow_right}
use Rattle.std.proofs.lemmas.Bool.Decides.{nat_tests, leb_tells}
use Rattle.std.proofs.lemmas.Map.Steps.{length-le_from_distinct_below}
use Rattle.std.specs.List.{AllByRecursion, IsDistinct, list_any}
use Rattle.lldb_base.specs.Contents.{Contents}
use Rattle.lldb_btree.specs.declared.node.Node.{Node}
use Rattle.lldb_btree.specs.declared.node.Pair.{Pair}
use Rattle.lldb_btree.specs.Footprints.{times}
use Rattle.lldb_btree.specs.Nodes.{count}
use Rattle.lldb_btree.specs.Trees.{Part, pairs_of, footprint_of, IsNode, IsOver, IsTree, least_of}
use Rattle.lldb_btree.proofs.Standing.{all_both, all_weaker, parts_count}

parts_size : (m : Contents) (d : ℕ) → ((node : Node) (pairs : List Pair) (under : List ℕ) → IsOver m d node pairs under → 16 ^ d * count node ≤ length pairs) → (parts : List Part) → AllByRecursion (IsNode (IsOver m d) m 16) parts → 16 ^ suc d * length parts ≤ length (pairs_of parts)
parts_size m d go [] a = omega arith
parts_size m d go (p ∷ ps) a =
    let one : 16 ^ d * count a.0.node ≤ length p.pairs = go a.0.node p.pairs a.0.under a.0.over in
    let full : 16 ^ d * 16 ≤ 16 ^ d * count a.0.node = mul-le-mul_left (16 ^ d) a.0.enough in
    let rest : 16 ^ suc d * length ps ≤ length (pairs_of ps) = parts_size m d go ps a.1 in
    let power : 16 ^ suc d ≡ 16 ^ d * 16 = pow-suc 16 d in
    omega (arith, power, one, full, rest, length-append p.pairs (pairs_of ps))

-- so many pairs at least stand under a node
pub over_size : (m : Contents) (d : ℕ) (node : Node) (pairs : List Pair) (under : List ℕ) → IsOver m d node pairs under → 16 ^ d * count node ≤ length pairs
over_size m zero node pairs under o =
    let n : count node ≡ length pairs = ap count o.0 in
    omega (arith, n)
over_size m (suc d) node pairs under o =
    let n : count node ≡ length o.parts = ap count o.named ∙ parts_count o.parts in
    let s : 16 ^ suc d * length o.parts ≤ length (pairs_of o.parts) = parts_size m d (over_size m d) o.parts o.each in
    rw (n, o.all) s

size_at : (m : Contents) (d levels : ℕ) (p : Part) → levels ≡ d + 1 → IsNode (IsOver m d) m (least_of d) p → 16 ^ (levels - 1) ≤ max 1 (length p.pairs)
size_at m zero levels p e n =
    let l : levels - 1 ≡ 0 = omega (arith, e) in
    rw l (omega arith)
size_at m (suc d) levels p e n =
    let l : levels - 1 ≡ suc d = omega (arith, e) in
    let s : 16 ^ suc d * count n.node ≤ length p.pairs = over_size m (suc d) n.node p.pairs n.under n.over in
    let two : 16 ^ suc d * 2 ≤ 16 ^ suc d * count n.node = mul-le-mul_left (16 ^ suc d) n.enough in
    rw l (omega (arith, s, two))

pub tree_size : (m : Contents) (h levels : ℕ) (pairs : List Pair) (us : List ℕ) → IsTree m h levels pairs us → 16 ^ (levels - 1) ≤ max 1 (length pairs)
tree_size m h levels pairs us t = size_at m t.d levels (record { handle = h; pairs = pairs; footprint = us }) t.depth t.top

all_handles : (k : ℕ) (parts : List Part) → AllByRecursion (λ p. k ≤ length p.footprint) parts → k * length parts ≤ length (footprint_of parts)
all_handles k [] a = omega arith
all_handles k (p ∷ ps) a =
    let rest : k * length ps ≤ length (footprint_of ps) = all_handles k ps a.1 in
    omega (arith, rest, a.0, length-append p.footprint (footprint_of ps))

-- so many handles at least are taken under an inner node
pub over_handles : (m : Contents) (d : ℕ) (node : Node) (pairs : List Pair) (under : List ℕ) → IsOver m (suc d) node pairs under → 16 ^ d * count node ≤ length under
over_handles m zero node pairs under o =
    let n : count node ≡ length o.parts = ap count o.named ∙ parts_count o.parts in
    let each : AllByRecursion (λ p. 1 ≤ length p.footprint) o.parts = all_weaker (IsNode (IsOver m zero) m 16) (λ p. 1 ≤ length p.footprint) (λ p a. omega (arith, ap length a.footprint)) o.parts o.each in
    let s : 1 * length o.parts ≤ length (footprint_of o.parts) = all_handles 1 o.parts each in
    omega (arith, n, s, ap length o.takes)
over_handles m (suc d) node pairs under o =
    let n : count node ≡ length o.parts = ap count o.named ∙ parts_count o.parts in
    let power : 16 ^ suc d ≡ 16 ^ d * 16 = pow-suc 16 d in
    let each : AllByRecursion (λ p. 16 ^ suc d ≤ length p.footprint) o.parts = all_weaker (IsNode (IsOver m (suc d)) m 16) (λ p. 16 ^ suc d ≤ length p.footprint) (λ p a. omega (arith, power, over_handles m d a.node p.pairs a.under a.over, mul-le-mul_left (16 ^ d) a.enough, ap length a.footprint)) o.parts o.each in
    let s : 16 ^ suc d * length o.parts ≤ length (footprint_of o.parts) = all_handles (16 ^ suc d) o.parts each in
    rw (n, o.takes) s

-- all handles have 64 bits
parts_low : (m : Contents) (d : ℕ) → ((node : Node) (pairs : List Pair) (under : List ℕ) → IsOver m d node pairs under → AllByRecursion (λ h. h < 2 ^ 64) under) → (parts : List Part) → AllByRecursion (IsNode (IsOver m d) m 16) parts → AllByRecursion (λ h. h < 2 ^ 64) (footprint_of parts)
parts_low m d go [] a = tt
parts_low m d go (p ∷ ps) a =
    let rest : AllByRecursion (λ h. h < 2 ^ 64) (footprint_of ps) = parts_low m d go ps a.1 in
    let here : AllByRecursion (λ h. h < 2 ^ 64) p.footprint = rw a.0.footprint (a.0.handle, go a.0.node p.pairs a.0.under a.0.over) in
    all_both (λ h. h < 2 ^ 64) p.footprint (footprint_of ps) here rest

over_low : (m : Contents) (d : ℕ) (node : Node) (pairs : List Pair) (under : List ℕ) → IsOver m d node pairs under → AllByRecursion (λ h. h < 2 ^ 64) under
over_low m zero node pairs under o = rw o.1 tt
over_low m (suc d) node pairs under o = rw o.takes (parts_low m d (over_low m d) o.parts o.each)

test_zero : (b : Bool) (k : ℕ) → cond b 1 0 + k ≡ 0 → (b ≡ false) × (k ≡ 0)
test_zero true k e = absurd (omega (arith, e))
test_zero false k e = (refl, omega (arith, e))

none_equal : (n : ℕ) (xs : List ℕ) → times n xs ≡ 0 → AllByRecursion (λ y. eqb n y ≡ false) xs
none_equal n [] e = tt
none_equal n (x ∷ xs) e =
    let t : (eqb n x ≡ false) × (times n xs ≡ 0) = test_zero (eqb n x) (times n xs) e in
    (t.0, none_equal n xs t.1)

test_full : (b : Bool) (k : ℕ) → b ≡ true → cond b 1 0 + k ≤ 1 → k ≡ 0
test_full true k is e = omega (arith, e)
test_full false k is e = absurd (cc)

distinct : (xs : List ℕ) → ((n : ℕ) → times n xs ≤ 1) → IsDistinct eqb xs
unfolding IsDistinct
distinct [] o = tt
distinct (x ∷ xs) o =
    let here : eqb x x ≡ true = grind (arith, nat_tests) in
    (none_equal x xs (test_full (eqb x x) (times x xs) here (o x)), distinct xs (λ n. omega (arith, o n)))

any_step : (q k x : ℕ) (rest : Bool) → x < k → (rest ≡ true → q < k) → (b : Bool) → eqb q x ≡ b → (b || rest) ≡ true → q < k
any_step q k x rest low more true is e =
    let same : q ≡ x = grind (arith, nat_tests) in
    omega (arith, same, low)
any_step q k x rest low more false is e = more e

any_low : (q k : ℕ) (xs : List ℕ) → AllByRecursion (λ h. h < k) xs → list_any (eqb q) xs ≡ true → q < k
any_low q k [] a e = absurd (cc)
any_low q k (x ∷ xs) a e = any_step q k x (list_any (eqb q) xs) a.0 (any_low q k xs a.1) (eqb q x) refl e

-- different handles of 64 bits are so many at most
pub few_handles : (xs : List ℕ) → AllByRecursion (λ h. h < 2 ^ 64) xs → ((n : ℕ) → times n xs ≤ 1) → length xs ≤ 2 ^ 64
few_handles xs low once = length-le_from_distinct_below xs (2 ^ 64) (distinct xs once) (λ q e. any_low q (2 ^ 64) xs low e)

low_at : (m : Contents) (d levels : ℕ) (p : Part) → levels ≡ d + 1 → IsNode (IsOver m d) m (least_of d) p → ((n : ℕ) → times n p.footprint ≤ 1) → levels ≤ 17
low_at m zero levels p e n once = omega (arith, e)
low_at m (suc d) levels p e n once =
    let all : AllByRecursion (λ h. h < 2 ^ 64) p.footprint = rw n.footprint (n.handle, over_low m (suc d) n.node p.pairs n.under n.over) in
    let most : length p.footprint ≤ 2 ^ 64 = few_handles p.footprint all once in
    let some : 16 ^ d * count n.node ≤ length n.under = over_handles m d n.node p.pairs n.under n.over in
    let two : 16 ^ d * 2 ≤ 16 ^ d * count n.node = mul-le-mul_left (16 ^ d) n.enough in
    let whole : length p.footprint ≡ length (p.handle ∷ n.under) = ap length n.footprint in
    ⊎_elim (λ low. omega (arith, e, low.1))
    (λ high. let large : 16 ^ 16 ≤ 16 ^ d = pow-le-pow_right {n = 16} (omega arith) {i = 16} {j = d} (omega (arith, high.1)) in absurd (omega (arith, large, most, some, two, whole)))
    (leb_tells d 15)

pub tree_low : (m : Contents) (h levels : ℕ) (pairs : List Pair) (us : List ℕ) → IsTree m h levels pairs us → levels ≤ 17
tree_low m h levels pairs us t = low_at m t.d levels (record { handle = h; pairs = pairs; footprint = us }) t.depth t.top t.once
