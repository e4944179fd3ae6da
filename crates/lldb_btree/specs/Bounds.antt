-- Where a look-up begins: a bound, and the keys that are ahead of it.
use Rattle.std.specs.Prelude.{ℕ, Bool, true, false, cond, ◌||◌, ◌&&◌, not, List, [], ◌∷◌}
use Rattle.std.specs.Ordering.{match_ordering}
use Rattle.lldb_btree.specs.declared.bound.Bound.{Bound}
use Rattle.lldb_btree.specs.declared.bound.Bound.TheVariants.{Start, From, After}
use Rattle.lldb_btree.specs.Nodes.{Entry}
use Rattle.lldb_btree.specs.Pairs.{order}

-- whether a key is ahead of a bound: every key of the start, a key and all above it, or all above a key alone
abbrev pub is_ahead : Bound → List ℕ → Bool
is_ahead Start key = true
is_ahead (From bound) key = match_ordering (order bound key) true true false
is_ahead (After bound) key = match_ordering (order bound key) true false false

abbrev pub is_empty : List Entry → Bool
is_empty [] = true
is_empty (e ∷ es) = false

-- the entries of a node from the first one on whose key passes a test; of an inner node the last one, where none does
abbrev pub from_first : Bool → (List ℕ → Bool) → List Entry → List Entry
from_first leaf test [] = []
from_first leaf test (e ∷ es) = cond (test e.key || (not leaf && is_empty es)) (e ∷ es) (from_first leaf test es)
