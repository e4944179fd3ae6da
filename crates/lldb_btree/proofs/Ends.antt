-- Where the key that is set is the last one of a node.
use Rattle.std.proofs.Common.{◌≡◌, ℕ, ◌<◌, List, [], ◌∷◌, ◌++◌, length, map, refl, sym, ap, ◌∙◌, append-nil}
use Rattle.lldb_btree.specs.declared.node.Pair.{Pair}
use Rattle.lldb_btree.specs.Nodes.{Entry, body, child_entry}
use Rattle.lldb_btree.specs.Pairs.{insert}
use Rattle.lldb_btree.specs.Splicing.{past_key, key_at_end}
use Rattle.lldb_btree.specs.Trees.{Part, greatest, child_of, pairs_of}
use Rattle.lldb_btree.proofs.Lasts.{greatest_append, key_of_pairs}
use Rattle.lldb_btree.proofs.Leaves.{sought, new_entry, splits}
use Rattle.lldb_btree.proofs.Lengths.{body_none}

key_added : (es : List Entry) (e : Entry) → key_at_end (es ++ (e ∷ [])) ≡ e.key
key_added [] e = refl
key_added (x ∷ []) e = refl
key_added (x ∷ y ∷ es) e = key_added (y ∷ es) e

-- in a leaf it is where no bytes stand behind it
pub leaf_ends : (k v : List ℕ) (pairs : List Pair) (back : List ℕ) → back ≡ body (past_key k (sought k pairs)) → back ≡ [] → greatest (insert k v pairs) ≡ k
leaf_ends k v pairs back is none =
    let s = splits k v pairs in
    let nil : past_key k (sought k pairs) ≡ [] = body_none (past_key k (sought k pairs)) (sym is ∙ none) in
    sym (key_of_pairs (insert k v pairs)) ∙ ap key_at_end (s.set ∙ ap (λ (t : List Entry). s.before ++ (new_entry k v ∷ t)) nil) ∙ key_added s.before (new_entry k v)

-- children without a byte are none
pub parts_nil : (r : List Part) → body (map child_entry (map child_of r)) ≡ [] → r ≡ []
parts_nil [] is = refl
parts_nil (x ∷ r) is =
    let nil : child_entry (child_of x) ∷ map child_entry (map child_of r) ≡ [] = body_none (map child_entry (map child_of (x ∷ r))) is in
    absurd (cc (nil))

-- above a part it is where it is the last one below, and no bytes stand behind the part's entry
pub part_ends : (l r : List Part) (all below : List Pair) (back : List ℕ) → all ≡ pairs_of l ++ (below ++ pairs_of r) → 0 < length below → back ≡ body (map child_entry (map child_of r)) → back ≡ [] → greatest all ≡ greatest below
part_ends l r all below back is some back_is none =
    let nil : pairs_of r ≡ [] = ap (λ (x : List Part). pairs_of x) (parts_nil r (sym back_is ∙ none)) in
    ap greatest (is ∙ ap (λ (x : List Pair). pairs_of l ++ (below ++ x)) nil ∙ ap (λ (x : List Pair). pairs_of l ++ x) (append-nil below)) ∙ greatest_append (pairs_of l) below some
