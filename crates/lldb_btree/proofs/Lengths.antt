-- How many bytes the entries of a node have at most.
use Rattle.std.proofs.Common.{◌≡◌, ℕ, suc, ◌*◌, ◌≤◌, Bool, true, false, List, [], ◌∷◌, ◌++◌, length, map, refl, sym, ap, ◌∙◌, arith, length-append, w16}
use Rattle.std.specs.List.{AllByRecursion}
use Rattle.std.specs.Int.{to_be_bytes}
use Rattle.lldb_btree.specs.Nodes.{Entry, entry_bytes, body, IsTail, IsEntry, is_leaf, entries, count, spelling, Fits, pair_entry, child_entry}
use Rattle.lldb_btree.specs.declared.node.Node.{Node}
use Rattle.lldb_btree.specs.declared.node.Node.TheVariants.{Leaf, Inner}
use Rattle.lldb_btree.specs.Reading.{mark}
use Rattle.lldb_btree.specs.Splicing.{AreNode}
use Rattle.lldb_btree.proofs.Spelling.{pairs_fit, children_fit}

tail_long : (leaf : Bool) (tail : List ℕ) → IsTail leaf tail → length tail ≤ 17
tail_long false tail a = omega (arith, a)
tail_long true tail a = omega (arith, a.1, ap length a.2)

entry_long : (leaf : Bool) (e : Entry) → IsEntry leaf e → length (entry_bytes e) ≤ 1119
unfolding entry_bytes
entry_long leaf e i =
    let two : length (to_be_bytes w16 (length e.key)) ≡ 2 = refl in
    omega (arith, two, length-append (to_be_bytes w16 (length e.key)) (e.key ++ e.tail), length-append e.key e.tail, i.key, tail_long leaf e.tail i.tail)

entry_some : (e : Entry) → 2 ≤ length (entry_bytes e)
unfolding entry_bytes
entry_some e =
    let two : length (to_be_bytes w16 (length e.key)) ≡ 2 = refl in
    omega (arith, two, length-append (to_be_bytes w16 (length e.key)) (e.key ++ e.tail))

-- entries without a byte are none
pub body_none : (es : List Entry) → body es ≡ [] → es ≡ []
body_none [] is = refl
body_none (e ∷ es) is = absurd (omega (arith, entry_some e, length-append (entry_bytes e) (body es), ap length is))

pub body_long : (leaf : Bool) (es : List Entry) → AllByRecursion (IsEntry leaf) es → length (body es) ≤ 1119 * length es
body_long leaf [] a = omega arith
body_long leaf (e ∷ es) a = omega (arith, entry_long leaf e a.0, body_long leaf es a.1, length-append (entry_bytes e) (body es))

pub many_of : {X : Type 0} (f : X → Entry) (xs : List X) → length (map f xs) ≡ length xs
many_of f [] = refl
many_of f (x ∷ xs) = ap (λ (n : ℕ). suc n) (many_of f xs)

pub entries_count : (node : Node) → length (entries node) ≡ count node
entries_count (Leaf pairs) = many_of pair_entry pairs
entries_count (Inner children) = many_of child_entry children

pub entries_fit : (node : Node) → Fits node → AllByRecursion (IsEntry (is_leaf node)) (entries node)
entries_fit (Leaf pairs) f = pairs_fit pairs f
entries_fit (Inner children) f = children_fit children f

pub spelled_by : (node : Node) → spelling node ≡ mark (is_leaf node) ∷ length (entries node) ∷ body (entries node)
spelled_by (Leaf pairs) = ap (λ (n : ℕ). 0 ∷ n ∷ body (map pair_entry pairs)) (sym (many_of pair_entry pairs))
spelled_by (Inner children) = ap (λ (n : ℕ). 1 ∷ n ∷ body (map child_entry children)) (sym (many_of child_entry children))

-- the bytes of a node that fits are those of its entries
pub are_node : (node : Node) (bytes : List ℕ) → Fits node → bytes ≡ spelling node → AreNode (is_leaf node) (entries node) bytes
are_node node bytes f is = record { fits = entries_fit node f; is = is ∙ spelled_by node }

-- a node of 32 entries at most can be written
pub spelled_short : (node : Node) (bytes : List ℕ) → Fits node → count node ≤ 32 → bytes ≡ spelling node → length bytes ≤ 35810
spelled_short node bytes f few is =
    omega (arith, few, entries_count node, body_long (is_leaf node) (entries node) (entries_fit node f), ap length (is ∙ spelled_by node))
