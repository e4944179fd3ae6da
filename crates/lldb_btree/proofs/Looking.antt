-- What is found in a node: the first pair of a leaf, or the child of an inner node.
use Rattle.std.proofs.Common.{◌≡◌, ◌⊎◌, inl, inr, ℕ, ◌<◌, Bool, true, false, cond, ◌||◌, List, [], ◌∷◌, length, map, Some, None, refl, sym, ap, ◌∙◌, arith}
use Rattle.std.specs.List.{AllByRecursion}
use Rattle.std.specs.declared.cmp.Ordering.{Ordering}
use Rattle.std.specs.declared.cmp.Ordering.TheVariants.{Less, Equal, Greater}
use Rattle.std.specs.Ordering.{match_ordering}
use Rattle.lldb_btree.specs.declared.bound.Bound.TheVariants.{From}
use Rattle.lldb_btree.specs.declared.node.Child.{Child}
use Rattle.lldb_btree.specs.declared.node.Pair.{Pair}
use Rattle.lldb_btree.specs.Bounds.{is_ahead, is_empty, from_first}
use Rattle.lldb_btree.specs.Nodes.{Entry, pair_entry, child_entry, FitsChild}
use Rattle.lldb_btree.specs.Pairs.{order, find, first, value_in, FitsPair}

-- the first pair of a leaf that passes a test, with the entries behind it
pub record FirstPair (test : List ℕ → Bool) (pairs : List Pair) : Type 0 where
  pub pair : Pair
  pub rest : List Entry
  pub entries : from_first true test (map pair_entry pairs) ≡ pair_entry pair ∷ rest
  pub first_is : first test pairs ≡ Some pair
  pub fits : FitsPair pair

-- no pair of a leaf passes a test
pub record NoPair (test : List ℕ → Bool) (pairs : List Pair) : Type 0 where
  pub entries : from_first true test (map pair_entry pairs) ≡ []
  pub first_is : first test pairs ≡ None

-- the child where a search goes on, with the entries behind it
pub record FirstChild (test : List ℕ → Bool) (children : List Child) : Type 0 where
  pub child : Child
  pub rest : List Entry
  pub entries : from_first false test (map child_entry children) ≡ child_entry child ∷ rest
  pub fits : FitsChild child

in_leaf_step : (test : List ℕ → Bool) (p : Pair) (ps : List Pair) → FitsPair p → NoPair test ps ⊎ FirstPair test ps → (b : Bool) → test p.key ≡ b → NoPair test (p ∷ ps) ⊎ FirstPair test (p ∷ ps)
in_leaf_step test p ps f more true is = inr (record {
  pair = p;
  rest = map pair_entry ps;
  entries = ap (λ (b : Bool). cond (b || false) (pair_entry p ∷ map pair_entry ps) (from_first true test (map pair_entry ps))) is;
  first_is = ap (λ (b : Bool). cond b (Some p) (first test ps)) is;
  fits = f;
})
in_leaf_step test p ps f (inl none) false is = inl (record {
  entries = ap (λ (b : Bool). cond (b || false) (pair_entry p ∷ map pair_entry ps) (from_first true test (map pair_entry ps))) is ∙ none.entries;
  first_is = ap (λ (b : Bool). cond b (Some p) (first test ps)) is ∙ none.first_is;
})
in_leaf_step test p ps f (inr one) false is = inr (record {
  pair = one.pair;
  rest = one.rest;
  entries = ap (λ (b : Bool). cond (b || false) (pair_entry p ∷ map pair_entry ps) (from_first true test (map pair_entry ps))) is ∙ one.entries;
  first_is = ap (λ (b : Bool). cond b (Some p) (first test ps)) is ∙ one.first_is;
  fits = one.fits;
})

pub in_leaf : (test : List ℕ → Bool) (pairs : List Pair) → AllByRecursion FitsPair pairs → NoPair test pairs ⊎ FirstPair test pairs
in_leaf test [] a = inl (record { entries = refl; first_is = refl })
in_leaf test (p ∷ ps) a = in_leaf_step test p ps a.0 (in_leaf test ps a.1) (test p.key) refl

in_inner_step : (test : List ℕ → Bool) (c : Child) (cs : List Child) → FitsChild c → (0 < length cs → FirstChild test cs) → (b : Bool) → test c.key ≡ b → FirstChild test (c ∷ cs)
in_inner_step test c cs f more true is = record {
  child = c;
  rest = map child_entry cs;
  entries = ap (λ (b : Bool). cond (b || is_empty (map child_entry cs)) (child_entry c ∷ map child_entry cs) (from_first false test (map child_entry cs))) is;
  fits = f;
}
in_inner_step test c [] f more false is = record {
  child = c;
  rest = [];
  entries = ap (λ (b : Bool). cond (b || true) (child_entry c ∷ []) []) is;
  fits = f;
}
in_inner_step test c (d ∷ cs) f more false is =
    let on : FirstChild test (d ∷ cs) = more (omega arith) in
    record {
      child = on.child;
      rest = on.rest;
      entries = ap (λ (b : Bool). cond (b || false) (child_entry c ∷ map child_entry (d ∷ cs)) (from_first false test (map child_entry (d ∷ cs)))) is ∙ on.entries;
      fits = on.fits;
    }

pub in_inner : (test : List ℕ → Bool) (children : List Child) → AllByRecursion FitsChild children → 0 < length children → FirstChild test children
in_inner test [] a n = absurd (omega (arith, n))
in_inner test (c ∷ cs) a n = in_inner_step test c cs a.0 (in_inner test cs a.1) (test c.key) refl

found_step : (key : List ℕ) (p : Pair) (ps : List Pair) → find key ps ≡ value_in key (first (is_ahead (From key)) ps) → (o : Ordering) → order key p.key ≡ o → match_ordering o None (Some p.value) (find key ps) ≡ value_in key (cond (match_ordering o true true false) (Some p) (first (is_ahead (From key)) ps))
found_step key p ps more Less is = sym (ap (λ (o : Ordering). match_ordering o None (Some p.value) None) is)
found_step key p ps more Equal is = sym (ap (λ (o : Ordering). match_ordering o None (Some p.value) None) is)
found_step key p ps more Greater is = more

-- the value of a key is that of the first pair from the key on, where that pair has the key
pub found_first : (key : List ℕ) (pairs : List Pair) → find key pairs ≡ value_in key (first (is_ahead (From key)) pairs)
found_first key [] = refl
found_first key (p ∷ ps) = found_step key p ps (found_first key ps) (order key p.key) refl
