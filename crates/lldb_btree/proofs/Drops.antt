-- A key that is removed from a leaf, as entries and as bytes.
use Rattle.std.proofs.Common.{◌≡◌, ℕ, ◌+◌, ◌-◌, ◌<◌, ◌≤◌, true, List, [], ◌∷◌, ◌++◌, length, map, Some, None, refl, sym, ap, ◌∙◌, arith, append-nil, length-append}
use Rattle.std.specs.declared.cmp.Ordering.{Ordering}
use Rattle.std.specs.declared.cmp.Ordering.TheVariants.{Less, Equal, Greater}
use Rattle.std.specs.Ordering.{match_ordering}
use Rattle.lldb_btree.specs.declared.bound.Bound.TheVariants.{From}
use Rattle.lldb_btree.specs.declared.node.Pair.{Pair}
use Rattle.lldb_btree.specs.Bounds.{is_ahead}
use Rattle.lldb_btree.specs.Nodes.{Entry, body, pair_entry}
use Rattle.lldb_btree.specs.Pairs.{order, find, delete}
use Rattle.lldb_btree.specs.Reading.{IsSought}
use Rattle.lldb_btree.specs.Removal.{Has, IsTakenHere}
use Rattle.lldb_btree.specs.Splicing.{past_key}
use Rattle.lldb_btree.proofs.Leaves.{sought, sought_is, past_is}
use Rattle.lldb_btree.proofs.Lengths.{many_of}
use Rattle.lldb_btree.proofs.Placing.{FrontOf}
use Rattle.lldb_btree.proofs.Splices.{body_both}

-- the entries before the key, and what is left of those behind them
record Drops (k : List ℕ) (pairs : List Pair) : Type 0 where
  before : List Entry
  whole : map pair_entry pairs ≡ before ++ sought k pairs
  cut : map pair_entry (delete k pairs) ≡ before ++ past_key k (sought k pairs)
  has : length (past_key k (sought k pairs)) + 1 ≡ length (sought k pairs) → Has k pairs
  none : length (past_key k (sought k pairs)) ≡ length (sought k pairs) → find k pairs ≡ None

deleted : (k : List ℕ) (p : Pair) (ps : List Pair) (o : Ordering) → order k p.key ≡ o → delete k (p ∷ ps) ≡ match_ordering o (p ∷ ps) ps (p ∷ delete k ps)
deleted k p ps o is = ap (λ (x : Ordering). match_ordering x (p ∷ ps) ps (p ∷ delete k ps)) is

found_is : (k : List ℕ) (p : Pair) (ps : List Pair) (o : Ordering) → order k p.key ≡ o → find k (p ∷ ps) ≡ match_ordering o None (Some p.value) (find k ps)
found_is k p ps o is = ap (λ (x : Ordering). match_ordering x None (Some p.value) (find k ps)) is

drops_step : (k : List ℕ) (p : Pair) (ps : List Pair) → Drops k ps → (o : Ordering) → order k p.key ≡ o → Drops k (p ∷ ps)
drops_step k p ps on Less is =
    let s : sought k (p ∷ ps) ≡ pair_entry p ∷ map pair_entry ps = sought_is k p ps Less is in
    let t : past_key k (sought k (p ∷ ps)) ≡ pair_entry p ∷ map pair_entry ps = ap (past_key k) s ∙ past_is k p ps Less is in
    record {
      before = [];
      whole = sym s;
      cut = ap (λ (r : List Pair). map pair_entry r) (deleted k p ps Less is) ∙ sym t;
      has = λ n. absurd (omega (arith, n, ap length s, ap length t));
      none = λ n. found_is k p ps Less is;
    }
drops_step k p ps on Equal is =
    let s : sought k (p ∷ ps) ≡ pair_entry p ∷ map pair_entry ps = sought_is k p ps Equal is in
    let t : past_key k (sought k (p ∷ ps)) ≡ map pair_entry ps = ap (past_key k) s ∙ past_is k p ps Equal is in
    record {
      before = [];
      whole = sym s;
      cut = ap (λ (r : List Pair). map pair_entry r) (deleted k p ps Equal is) ∙ sym t;
      has = λ n. (p.value, found_is k p ps Equal is);
      none = λ n. absurd (omega (arith, n, ap length s, ap length t));
    }
drops_step k p ps on Greater is =
    let s : sought k (p ∷ ps) ≡ sought k ps = sought_is k p ps Greater is in
    let f : find k (p ∷ ps) ≡ find k ps = found_is k p ps Greater is in
    record {
      before = pair_entry p ∷ on.before;
      whole = ap (λ (r : List Entry). pair_entry p ∷ r) on.whole ∙ sym (ap (λ (r : List Entry). pair_entry p ∷ (on.before ++ r)) s);
      cut = ap (λ (r : List Pair). map pair_entry r) (deleted k p ps Greater is) ∙ ap (λ (r : List Entry). pair_entry p ∷ r) on.cut ∙ sym (ap (λ (r : List Entry). pair_entry p ∷ (on.before ++ past_key k r)) s);
      has = λ n.
          let h : Has k ps = on.has (omega (arith, n, ap length s, ap (λ (r : List Entry). length (past_key k r)) s)) in
          (h.0, f ∙ h.1);
      none = λ n. f ∙ on.none (omega (arith, n, ap length s, ap (λ (r : List Entry). length (past_key k r)) s));
    }

drops : (k : List ℕ) (pairs : List Pair) → Drops k pairs
drops k [] = record { before = []; whole = refl; cut = refl; has = λ n. absurd (omega (arith, n)); none = λ n. refl }
drops k (p ∷ ps) = drops_step k p ps (drops k ps) (order k p.key) refl

-- what stands behind a key in a leaf, and how many entries a pair with the key adds
abbrev pub PastRead : List ℕ → List Pair → ℕ → List ℕ → ℕ → Type 0
PastRead k pairs left back more = (back ≡ body (past_key k (sought k pairs))) × (left + more ≡ length (past_key k (sought k pairs)) + 1)

pub leaf_lacks : (k : List ℕ) (pairs : List Pair) (left more : ℕ) (rest back : List ℕ) → IsSought true (is_ahead (From k)) (map pair_entry pairs) rest left → PastRead k pairs left back more → 0 < more → more ≤ 1 → find k pairs ≡ None
leaf_lacks k pairs left more rest back found past some most = (drops k pairs).none (omega (arith, found.1, past.1, some, most))

pub leaf_dropped : (k : List ℕ) (pairs : List Pair) (n left more total : ℕ) (bytes rest front back all : List ℕ) → length pairs ≡ n → bytes ≡ body (map pair_entry pairs) → IsSought true (is_ahead (From k)) (map pair_entry pairs) rest left → PastRead k pairs left back more → more ≡ 0 → FrontOf bytes (length rest) front → total ≡ n - 1 → all ≡ 0 ∷ total ∷ ((front ++ back) ++ []) → IsTakenHere k pairs (Some all)
leaf_dropped k pairs n left more total bytes rest front back all len is found past none front_of total_is all_is =
    let s = drops k pairs in
    let tail : List Entry = past_key k (sought k pairs) in
    let one : length tail + 1 ≡ length (sought k pairs) = omega (arith, found.1, past.1, none) in
    let cut : bytes ≡ body s.before ++ body (sought k pairs) = is ∙ ap body s.whole ∙ body_both s.before (sought k pairs) in
    let f : front ≡ body s.before = front_of (body s.before) (body (sought k pairs)) cut (ap length (sym found.0)) in
    let left_body : body (map pair_entry (delete k pairs)) ≡ body s.before ++ body tail = ap body s.cut ∙ body_both s.before tail in
    let runs : (front ++ back) ++ [] ≡ body s.before ++ body tail = append-nil (front ++ back) ∙ ap (λ (x : List ℕ). x ++ back) f ∙ ap (λ (x : List ℕ). body s.before ++ x) past.0 in
    let had : length (map pair_entry pairs) ≡ length s.before + length (sought k pairs) = ap length s.whole ∙ length-append s.before (sought k pairs) in
    let has : length (map pair_entry (delete k pairs)) ≡ length s.before + length tail = ap length s.cut ∙ length-append s.before tail in
    let many : total ≡ length (delete k pairs) = omega (arith, len, one, total_is, had, has, many_of pair_entry pairs, many_of pair_entry (delete k pairs)) in
    (s.has one, all_is ∙ ap (λ (c : ℕ). 0 ∷ c ∷ ((front ++ back) ++ [])) many ∙ ap (λ (x : List ℕ). 0 ∷ length (delete k pairs) ∷ x) (runs ∙ sym left_body))
