-- A pair that is set in a leaf, as entries.
use Rattle.std.proofs.Common.{◌≡◌, ℕ, true, false, cond, ◌||◌, List, [], ◌∷◌, ◌++◌, map, refl, sym, ap, ◌∙◌}
use Rattle.std.specs.declared.cmp.Ordering.{Ordering}
use Rattle.std.specs.declared.cmp.Ordering.TheVariants.{Less, Equal, Greater}
use Rattle.std.specs.Ordering.{match_ordering}
use Rattle.lldb_btree.specs.declared.bound.Bound.TheVariants.{From}
use Rattle.lldb_btree.specs.declared.node.Pair.{Pair}
use Rattle.lldb_btree.specs.Bounds.{is_ahead, from_first}
use Rattle.lldb_btree.specs.Nodes.{Entry, pair_entry}
use Rattle.lldb_btree.specs.Pairs.{order, insert}
use Rattle.lldb_btree.specs.Splicing.{past_key}

abbrev pub sought : List ℕ → List Pair → List Entry
sought k pairs = from_first true (is_ahead (From k)) (map pair_entry pairs)

abbrev pub new_entry : List ℕ → List ℕ → Entry
new_entry k v = pair_entry (record { key = k; value = v })

-- the entries before the key, and what comes of those behind them
pub record Splits (k v : List ℕ) (pairs : List Pair) : Type 0 where
  pub before : List Entry
  pub whole : map pair_entry pairs ≡ before ++ sought k pairs
  pub set : map pair_entry (insert k v pairs) ≡ before ++ (new_entry k v ∷ past_key k (sought k pairs))

inserted : (k v : List ℕ) (p : Pair) (ps : List Pair) (o : Ordering) → order k p.key ≡ o → insert k v (p ∷ ps) ≡ match_ordering o (record { key = k; value = v } ∷ p ∷ ps) (record { key = k; value = v } ∷ ps) (p ∷ insert k v ps)
inserted k v p ps o is = ap (λ (x : Ordering). match_ordering x (record { key = k; value = v } ∷ p ∷ ps) (record { key = k; value = v } ∷ ps) (p ∷ insert k v ps)) is

pub sought_is : (k : List ℕ) (p : Pair) (ps : List Pair) (o : Ordering) → order k p.key ≡ o → sought k (p ∷ ps) ≡ cond (match_ordering o true true false || false) (pair_entry p ∷ map pair_entry ps) (sought k ps)
sought_is k p ps o is = ap (λ (x : Ordering). cond (match_ordering x true true false || false) (pair_entry p ∷ map pair_entry ps) (sought k ps)) is

pub past_is : (k : List ℕ) (p : Pair) (ps : List Pair) (o : Ordering) → order k p.key ≡ o → past_key k (pair_entry p ∷ map pair_entry ps) ≡ match_ordering o (pair_entry p ∷ map pair_entry ps) (map pair_entry ps) (pair_entry p ∷ map pair_entry ps)
past_is k p ps o is = ap (λ (x : Ordering). match_ordering x (pair_entry p ∷ map pair_entry ps) (map pair_entry ps) (pair_entry p ∷ map pair_entry ps)) is

splits_step : (k v : List ℕ) (p : Pair) (ps : List Pair) → Splits k v ps → (o : Ordering) → order k p.key ≡ o → Splits k v (p ∷ ps)
splits_step k v p ps on Less is = record {
  before = [];
  whole = sym (sought_is k p ps Less is);
  set = ap (λ (r : List Pair). map pair_entry r) (inserted k v p ps Less is) ∙ sym (ap (λ (r : List Entry). new_entry k v ∷ past_key k r) (sought_is k p ps Less is) ∙ ap (λ (r : List Entry). new_entry k v ∷ r) (past_is k p ps Less is));
}
splits_step k v p ps on Equal is = record {
  before = [];
  whole = sym (sought_is k p ps Equal is);
  set = ap (λ (r : List Pair). map pair_entry r) (inserted k v p ps Equal is) ∙ sym (ap (λ (r : List Entry). new_entry k v ∷ past_key k r) (sought_is k p ps Equal is) ∙ ap (λ (r : List Entry). new_entry k v ∷ r) (past_is k p ps Equal is));
}
splits_step k v p ps on Greater is = record {
  before = pair_entry p ∷ on.before;
  whole = ap (λ (r : List Entry). pair_entry p ∷ r) on.whole ∙ sym (ap (λ (r : List Entry). pair_entry p ∷ (on.before ++ r)) (sought_is k p ps Greater is));
  set = ap (λ (r : List Pair). map pair_entry r) (inserted k v p ps Greater is) ∙ ap (λ (r : List Entry). pair_entry p ∷ r) on.set ∙ sym (ap (λ (r : List Entry). pair_entry p ∷ (on.before ++ (new_entry k v ∷ past_key k r))) (sought_is k p ps Greater is));
}

pub splits : (k v : List ℕ) (pairs : List Pair) → Splits k v pairs
splits k v [] = record { before = []; whole = refl; set = refl }
splits k v (p ∷ ps) = splits_step k v p ps (splits k v ps) (order k p.key) refl
