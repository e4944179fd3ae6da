-- Where a key that is removed stands among pairs by rising key.
use Rattle.std.proofs.Common.{◌≡◌, ℕ, ◌+◌, ◌<◌, ◌≤◌, true, false, List, [], ◌∷◌, ◌++◌, length, Option, Some, None, refl, ap, arith}
use Rattle.std.specs.declared.cmp.Ordering.{Ordering}
use Rattle.std.specs.declared.cmp.Ordering.TheVariants.{Less, Equal, Greater}
use Rattle.std.specs.List.{AllByRecursion}
use Rattle.std.specs.Ordering.{match_ordering}
use Rattle.lldb_btree.specs.declared.bound.Bound.TheVariants.{From}
use Rattle.lldb_btree.specs.declared.node.Pair.{Pair}
use Rattle.lldb_btree.specs.Bounds.{is_ahead}
use Rattle.lldb_btree.specs.Pairs.{order, Rises, keys_of, FitsPair, IsSorted, find, delete}
use Rattle.lldb_btree.specs.Trees.{greatest}

abbrev left_of : Ordering → Pair → List Pair → List Pair → List Pair
left_of o p ps more = match_ordering o (p ∷ ps) ps (p ∷ more)

abbrev value_of : Ordering → Pair → Option (List ℕ) → Option (List ℕ)
value_of o p more = match_ordering o None (Some p.value) more

past_step : (k : List ℕ) (p : Pair) (xs ys : List Pair) → delete k (xs ++ ys) ≡ xs ++ delete k ys → (o : Ordering) → match_ordering o true true false ≡ false → left_of o p (xs ++ ys) (delete k (xs ++ ys)) ≡ (p ∷ xs) ++ delete k ys
past_step k p xs ys more Less off = absurd (cc)
past_step k p xs ys more Equal off = absurd (cc)
past_step k p xs ys more Greater off = ap (λ (r : List Pair). p ∷ r) more

-- a key stands behind all that are below it
pub delete_past : (k : List ℕ) (xs ys : List Pair) → AllByRecursion (λ p. is_ahead (From k) p.key ≡ false) xs → delete k (xs ++ ys) ≡ xs ++ delete k ys
delete_past k [] ys a = refl
delete_past k (p ∷ xs) ys a = past_step k p xs ys (delete_past k xs ys a.1) (order k p.key) a.0

find_step : (p : Pair) (a b : Option (List ℕ)) → a ≡ b → (o : Ordering) → match_ordering o true true false ≡ false → value_of o p a ≡ b
find_step p a b more Less off = absurd (cc)
find_step p a b more Equal off = absurd (cc)
find_step p a b more Greater off = more

pub find_past : (k : List ℕ) (xs ys : List Pair) → AllByRecursion (λ p. is_ahead (From k) p.key ≡ false) xs → find k (xs ++ ys) ≡ find k ys
find_past k [] ys a = refl
find_past k (p ∷ xs) ys a = find_step p (find k (xs ++ ys)) (find k ys) (find_past k xs ys a.1) (order k p.key) a.0

last_step : (k : List ℕ) (p : Pair) (ys : List Pair) → (o : Ordering) → match_ordering o true true false ≡ true → left_of o p ys (delete k ys) ≡ left_of o p [] (delete k []) ++ ys
last_step k p ys Less on = refl
last_step k p ys Equal on = refl
last_step k p ys Greater on = absurd (cc)

within_step : (k : List ℕ) (p : Pair) (xs ys : List Pair) → delete k (xs ++ ys) ≡ delete k xs ++ ys → (o : Ordering) → left_of o p (xs ++ ys) (delete k (xs ++ ys)) ≡ left_of o p xs (delete k xs) ++ ys
within_step k p xs ys more Less = refl
within_step k p xs ys more Equal = refl
within_step k p xs ys more Greater = ap (λ (r : List Pair). p ∷ r) more

-- a key that is not above all of a run stands in it, or nowhere
pub delete_within : (k : List ℕ) (xs ys : List Pair) → 0 < length xs → is_ahead (From k) (greatest xs) ≡ true → delete k (xs ++ ys) ≡ delete k xs ++ ys
delete_within k [] ys some e = absurd (omega (arith, some))
delete_within k (p ∷ []) ys some e = last_step k p ys (order k p.key) e
delete_within k (p ∷ q ∷ xs) ys some e = within_step k p (q ∷ xs) ys (delete_within k (q ∷ xs) ys (omega arith) e) (order k p.key)

find_last : (p : Pair) (a b : Option (List ℕ)) → (o : Ordering) → match_ordering o true true false ≡ true → value_of o p a ≡ value_of o p b
find_last p a b Less on = refl
find_last p a b Equal on = refl
find_last p a b Greater on = absurd (cc)

pub find_within : (k : List ℕ) (xs ys : List Pair) → 0 < length xs → is_ahead (From k) (greatest xs) ≡ true → find k (xs ++ ys) ≡ find k xs
find_within k [] ys some e = absurd (omega (arith, some))
find_within k (p ∷ []) ys some e = find_last p (find k ys) (find k []) (order k p.key) e
find_within k (p ∷ q ∷ xs) ys some e = ap (λ (r : Option (List ℕ)). value_of (order k p.key) p r) (find_within k (q ∷ xs) ys (omega arith) e)

above_step : (x k : List ℕ) (p : Pair) (ps : List Pair) → order x p.key ≡ Less → AllByRecursion (λ other. order x other ≡ Less) (keys_of ps) → AllByRecursion (λ other. order x other ≡ Less) (keys_of (delete k ps)) → (o : Ordering) → AllByRecursion (λ other. order x other ≡ Less) (keys_of (left_of o p ps (delete k ps)))
above_step x k p ps here rest more Less = (here, rest)
above_step x k p ps here rest more Equal = rest
above_step x k p ps here rest more Greater = (here, more)

delete_above : (x k : List ℕ) (ps : List Pair) → AllByRecursion (λ other. order x other ≡ Less) (keys_of ps) → AllByRecursion (λ other. order x other ≡ Less) (keys_of (delete k ps))
delete_above x k [] a = tt
delete_above x k (p ∷ ps) a = above_step x k p ps a.0 a.1 (delete_above x k ps a.1) (order k p.key)

rises_step : (k : List ℕ) (p : Pair) (ps : List Pair) → Rises (keys_of (p ∷ ps)) → Rises (keys_of (delete k ps)) → (o : Ordering) → Rises (keys_of (left_of o p ps (delete k ps)))
rises_step k p ps r more Less = (r.0, r.1)
rises_step k p ps r more Equal = r.1
rises_step k p ps r more Greater = (delete_above p.key k ps r.0, more)

pub delete_rises : (k : List ℕ) (ps : List Pair) → Rises (keys_of ps) → Rises (keys_of (delete k ps))
delete_rises k [] r = tt
delete_rises k (p ∷ ps) r = rises_step k p ps r (delete_rises k ps r.1) (order k p.key)

fits_step : (k : List ℕ) (p : Pair) (ps : List Pair) → AllByRecursion FitsPair (p ∷ ps) → AllByRecursion FitsPair (delete k ps) → (o : Ordering) → AllByRecursion FitsPair (left_of o p ps (delete k ps))
fits_step k p ps a more Less = (a.0, a.1)
fits_step k p ps a more Equal = a.1
fits_step k p ps a more Greater = (a.0, more)

pub delete_fits : (k : List ℕ) (ps : List Pair) → AllByRecursion FitsPair ps → AllByRecursion FitsPair (delete k ps)
delete_fits k [] a = tt
delete_fits k (p ∷ ps) a = fits_step k p ps a (delete_fits k ps a.1) (order k p.key)

-- pairs stay sorted where a key is removed
pub delete_sorted : (k : List ℕ) (ps : List Pair) → IsSorted ps → IsSorted (delete k ps)
delete_sorted k ps s = record { rises = delete_rises k ps s.rises; fits = delete_fits k ps s.fits }

count_step : (k : List ℕ) (p : Pair) (ps : List Pair) → (length (delete k ps) ≤ length ps) × (length ps ≤ length (delete k ps) + 1) → (o : Ordering) → (length (left_of o p ps (delete k ps)) ≤ length (p ∷ ps)) × (length (p ∷ ps) ≤ length (left_of o p ps (delete k ps)) + 1)
count_step k p ps more Less = (omega arith, omega arith)
count_step k p ps more Equal = (omega arith, omega arith)
count_step k p ps more Greater = (omega (arith, more.0), omega (arith, more.1))

-- one pair at most is lost
pub delete_count : (k : List ℕ) (ps : List Pair) → (length (delete k ps) ≤ length ps) × (length ps ≤ length (delete k ps) + 1)
delete_count k [] = (omega arith, omega arith)
delete_count k (p ∷ ps) = count_step k p ps (delete_count k ps) (order k p.key)
