-- Pairs of a key and a value by rising key.
use Rattle.std.specs.Prelude.{◌≡◌, ℕ, ◌≤◌, Bool, true, false, cond, List, [], ◌∷◌, length, map, Option, Some, None}
use Rattle.std.specs.List.{AllByRecursion}
use Rattle.std.specs.declared.cmp.Ordering.{Ordering}
use Rattle.std.specs.declared.cmp.Ordering.TheVariants.{Less}
use Rattle.std.specs.Cmp.Lexicographic.{slice_cmp}
use Rattle.std.specs.Ordering.{nat_cmp, match_ordering}
use Rattle.lldb_btree.specs.declared.node.Pair.{Pair}

-- keys are in the order of their bytes: the first byte that differs decides, and a front comes first
abbrev pub order : List ℕ → List ℕ → Ordering
order = slice_cmp nat_cmp

-- each key is below those behind it
abbrev pub Rises : List (List ℕ) → Type 0
Rises [] = Unit {0}
Rises (key ∷ keys) = AllByRecursion (λ other. order key other ≡ Less) keys × Rises keys

-- the keys of pairs
abbrev pub keys_of : List Pair → List (List ℕ)
keys_of pairs = map (λ p. p.key) pairs

-- a pair as a tree holds it: a key of at most 1,100 bytes, a value of at most 16
abbrev pub FitsPair : Pair → Type 0
FitsPair p = (length p.key ≤ 1100) × (length p.value ≤ 16)

-- pairs as a tree holds them
pub record IsSorted (pairs : List Pair) : Type 0 where
  pub rises : Rises (keys_of pairs)
  pub fits : AllByRecursion FitsPair pairs

-- the value of a key
abbrev pub find : List ℕ → List Pair → Option (List ℕ)
find key [] = None
find key (p ∷ ps) = match_ordering (order key p.key) None (Some p.value) (find key ps)

-- the pairs with a value for a key, in place of the one that it had
abbrev pub insert : List ℕ → List ℕ → List Pair → List Pair
insert key value [] = record { key = key; value = value } ∷ []
insert key value (p ∷ ps) = match_ordering (order key p.key) (record { key = key; value = value } ∷ p ∷ ps) (record { key = key; value = value } ∷ ps) (p ∷ insert key value ps)

-- the pairs without a key
abbrev pub delete : List ℕ → List Pair → List Pair
delete key [] = []
delete key (p ∷ ps) = match_ordering (order key p.key) (p ∷ ps) ps (p ∷ delete key ps)

-- the first pair whose key passes a test
abbrev pub first : (List ℕ → Bool) → List Pair → Option Pair
first test [] = None
first test (p ∷ ps) = cond (test p.key) (Some p) (first test ps)

-- the value of a pair, where it has a key
abbrev pub value_in : List ℕ → Option Pair → Option (List ℕ)
value_in key None = None
value_in key (Some p) = match_ordering (order key p.key) None (Some p.value) None

-- an answer of yes gives this value, and one of no says that there is none
abbrev pub IsFound : Bool → Option (List ℕ) → List ℕ → Type 0
IsFound true answer value = answer ≡ Some value
IsFound false answer value = answer ≡ None

-- an answer of yes gives this pair, and one of no says that there is none
abbrev pub IsGiven : Bool → Option Pair → List ℕ → List ℕ → Type 0
IsGiven true answer key value = answer ≡ Some (record { key = key; value = value })
IsGiven false answer key value = answer ≡ None
