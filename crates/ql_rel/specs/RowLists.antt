-- Lists of rows that are cut.
use Rattle.std.specs.Prelude.{ℕ, List, drop, take, Option, Some, None}

-- a list without so many of its first members
abbrev pub without_first : {A : Type 0} → Option ℕ → List A → List A
without_first None xs = xs
without_first (Some n) xs = drop n xs

-- the first members of a list, so many at most
abbrev pub at_most : {A : Type 0} → Option ℕ → List A → List A
at_most None xs = xs
at_most (Some n) xs = take n xs

-- OFFSET drops members, and then LIMIT takes some
abbrev pub window : {A : Type 0} → (offset limit : Option ℕ) → List A → List A
window offset limit xs = at_most limit (without_first offset xs)
