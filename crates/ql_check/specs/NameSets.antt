-- Sets of names.
use Rattle.std.specs.Prelude.{◌≡◌, ℕ, List}
use Rattle.std.specs.Borrow.{Bor}
use Rattle.std.specs.BTreeSet.{BTreeSet, contains}
use Rattle.std.specs.Cmp.Lexicographic.{slice_cmp}
use Rattle.std.specs.Ordering.{nat_cmp}
use Rattle.ql_rel.specs.Names.{has_name}

-- the set has exactly these names
abbrev pub HoldsNames : BTreeSet (Bor (List ℕ)) → List (List ℕ) → Type 0
HoldsNames set names = (name : Bor (List ℕ)) → contains (λ a b. slice_cmp nat_cmp a.now b.now) set name ≡ has_name name.now names
