-- Where a pair that is set goes among pairs by rising key.
use Rattle.std.proofs.Common.{◌≡◌, ℕ, ◌+◌, ◌<◌, ◌≤◌, true, false, List, [], ◌∷◌, ◌++◌, length, refl, ap, arith}
use Rattle.std.specs.declared.cmp.Ordering.{Ordering}
use Rattle.std.specs.declared.cmp.Ordering.TheVariants.{Less, Equal, Greater}
use Rattle.std.specs.List.{AllByRecursion}
use Rattle.std.specs.Ordering.{match_ordering}
use Rattle.std.proofs.lemmas.Cmp.{nat_list_cmp_total}
use Rattle.std.proofs.lemmas.Map.Lookups.{exact_bytes}
use Rattle.lldb_btree.specs.declared.bound.Bound.TheVariants.{From}
use Rattle.lldb_btree.specs.declared.node.Pair.{Pair}
use Rattle.lldb_btree.specs.Bounds.{is_ahead}
use Rattle.lldb_btree.specs.Pairs.{order, Rises, keys_of, FitsPair, IsSorted, insert}
use Rattle.lldb_btree.specs.Trees.{greatest}
use Rattle.lldb_btree.proofs.Ahead.{back}

abbrev new_pair : List ℕ → List ℕ → Pair
new_pair k v = record { key = k; value = v }

abbrev placed : Ordering → List ℕ → List ℕ → Pair → List Pair → List Pair → List Pair
placed o k v p ps more = match_ordering o (new_pair k v ∷ p ∷ ps) (new_pair k v ∷ ps) (p ∷ more)

past_step : (k v : List ℕ) (p : Pair) (xs ys : List Pair) → insert k v (xs ++ ys) ≡ xs ++ insert k v ys → (o : Ordering) → match_ordering o true true false ≡ false → placed o k v p (xs ++ ys) (insert k v (xs ++ ys)) ≡ (p ∷ xs) ++ insert k v ys
past_step k v p xs ys more Less off = absurd (cc)
past_step k v p xs ys more Equal off = absurd (cc)
past_step k v p xs ys more Greater off = ap (λ (r : List Pair). p ∷ r) more

-- a key goes behind all that are below it
pub insert_past : (k v : List ℕ) (xs ys : List Pair) → AllByRecursion (λ p. is_ahead (From k) p.key ≡ false) xs → insert k v (xs ++ ys) ≡ xs ++ insert k v ys
insert_past k v [] ys a = refl
insert_past k v (p ∷ xs) ys a = past_step k v p xs ys (insert_past k v xs ys a.1) (order k p.key) a.0

last_step : (k v : List ℕ) (p : Pair) (ys : List Pair) → (o : Ordering) → match_ordering o true true false ≡ true → placed o k v p ys (insert k v ys) ≡ placed o k v p [] (insert k v []) ++ ys
last_step k v p ys Less on = refl
last_step k v p ys Equal on = refl
last_step k v p ys Greater on = absurd (cc)

within_step : (k v : List ℕ) (p : Pair) (xs ys : List Pair) → insert k v (xs ++ ys) ≡ insert k v xs ++ ys → (o : Ordering) → placed o k v p (xs ++ ys) (insert k v (xs ++ ys)) ≡ placed o k v p xs (insert k v xs) ++ ys
within_step k v p xs ys more Less = refl
within_step k v p xs ys more Equal = refl
within_step k v p xs ys more Greater = ap (λ (r : List Pair). p ∷ r) more

-- a key that is not above all of a run goes into it
pub insert_within : (k v : List ℕ) (xs ys : List Pair) → 0 < length xs → is_ahead (From k) (greatest xs) ≡ true → insert k v (xs ++ ys) ≡ insert k v xs ++ ys
insert_within k v [] ys some e = absurd (omega (arith, some))
insert_within k v (p ∷ []) ys some e = last_step k v p ys (order k p.key) e
insert_within k v (p ∷ q ∷ xs) ys some e = within_step k v p (q ∷ xs) ys (insert_within k v (q ∷ xs) ys (omega arith) e) (order k p.key)

above_step : (x k v : List ℕ) (p : Pair) (ps : List Pair) → order x k ≡ Less → order x p.key ≡ Less → AllByRecursion (λ other. order x other ≡ Less) (keys_of ps) → AllByRecursion (λ other. order x other ≡ Less) (keys_of (insert k v ps)) → (o : Ordering) → AllByRecursion (λ other. order x other ≡ Less) (keys_of (placed o k v p ps (insert k v ps)))
above_step x k v p ps low here rest more Less = (low, (here, rest))
above_step x k v p ps low here rest more Equal = (low, rest)
above_step x k v p ps low here rest more Greater = (here, more)

insert_above : (x k v : List ℕ) (ps : List Pair) → order x k ≡ Less → AllByRecursion (λ other. order x other ≡ Less) (keys_of ps) → AllByRecursion (λ other. order x other ≡ Less) (keys_of (insert k v ps))
insert_above x k v [] low a = (low, tt)
insert_above x k v (p ∷ ps) low a = above_step x k v p ps low a.0 a.1 (insert_above x k v ps low a.1) (order k p.key)

all_above : (k x : List ℕ) (keys : List (List ℕ)) → order k x ≡ Less → AllByRecursion (λ other. order x other ≡ Less) keys → AllByRecursion (λ other. order k other ≡ Less) keys
all_above k x [] low a = tt
all_above k x (y ∷ ys) low a = (nat_list_cmp_total.trans k x y low a.0, all_above k x ys low a.1)

rises_step : (k v : List ℕ) (p : Pair) (ps : List Pair) → Rises (keys_of (p ∷ ps)) → Rises (keys_of (insert k v ps)) → (o : Ordering) → order k p.key ≡ o → Rises (keys_of (placed o k v p ps (insert k v ps)))
rises_step k v p ps r more Less is = ((is, all_above k p.key (keys_of ps) is r.0), (r.0, r.1))
rises_step k v p ps r more Equal is =
    let same : k ≡ p.key = exact_bytes k p.key is in
    (rw same r.0, r.1)
rises_step k v p ps r more Greater is = (insert_above p.key k v ps (back k p.key is) r.0, more)

pub insert_rises : (k v : List ℕ) (ps : List Pair) → Rises (keys_of ps) → Rises (keys_of (insert k v ps))
insert_rises k v [] r = (tt, tt)
insert_rises k v (p ∷ ps) r = rises_step k v p ps r (insert_rises k v ps r.1) (order k p.key) refl

fits_step : (k v : List ℕ) (p : Pair) (ps : List Pair) → FitsPair (new_pair k v) → AllByRecursion FitsPair (p ∷ ps) → AllByRecursion FitsPair (insert k v ps) → (o : Ordering) → AllByRecursion FitsPair (placed o k v p ps (insert k v ps))
fits_step k v p ps f a more Less = (f, (a.0, a.1))
fits_step k v p ps f a more Equal = (f, a.1)
fits_step k v p ps f a more Greater = (a.0, more)

pub insert_fits : (k v : List ℕ) (ps : List Pair) → FitsPair (new_pair k v) → AllByRecursion FitsPair ps → AllByRecursion FitsPair (insert k v ps)
insert_fits k v [] f a = (f, tt)
insert_fits k v (p ∷ ps) f a = fits_step k v p ps f a (insert_fits k v ps f a.1) (order k p.key)

-- pairs stay sorted where one is set
pub insert_sorted : (k v : List ℕ) (ps : List Pair) → length k ≤ 1100 → length v ≤ 16 → IsSorted ps → IsSorted (insert k v ps)
insert_sorted k v ps key value s = record { rises = insert_rises k v ps s.rises; fits = insert_fits k v ps (key, value) s.fits }

count_step : (k v : List ℕ) (p : Pair) (ps : List Pair) → (length ps ≤ length (insert k v ps)) × (length (insert k v ps) ≤ length ps + 1) → (o : Ordering) → (length (p ∷ ps) ≤ length (placed o k v p ps (insert k v ps))) × (length (placed o k v p ps (insert k v ps)) ≤ length (p ∷ ps) + 1)
count_step k v p ps more Less = (omega arith, omega arith)
count_step k v p ps more Equal = (omega arith, omega arith)
count_step k v p ps more Greater = (omega (arith, more.0), omega (arith, more.1))

-- no pair is lost, and one at most is added
pub insert_count : (k v : List ℕ) (ps : List Pair) → (length ps ≤ length (insert k v ps)) × (length (insert k v ps) ≤ length ps + 1)
insert_count k v [] = (omega arith, omega arith)
insert_count k v (p ∷ ps) = count_step k v p ps (insert_count k v ps) (order k p.key)
