-- Reading and writing values one after the other, as a loop does.
use Rattle.std.proofs.Common.{◌≡◌, ℕ, suc, ◌+◌, ◌-◌, ◌^◌, ◌≤◌, ◌<◌, min, List, [], ◌∷◌, ◌++◌, sum_by, All, Option, Some, None, refl, sym, ap, ◌∙◌, append_assoc, arith}
use Rattle.std.specs.List.{AllByRecursion}
use Rattle.std.proofs.lemmas.List.{append-nil}
use Rattle.std.proofs.lemmas.List.Elements.{All-from_recursion}
use Rattle.ql_edge.specs.Answers.{IsSaid}
use Rattle.ql_value.specs.Length.{value_length, length_of_row}
use Rattle.ql_value.specs.Number.{IsValue}
use Rattle.ql_value.specs.RowReading.{◌>>=◌, stands_for, value_at, values_at}
use Rattle.ql_value.specs.Rows.{HasLength}
use Rattle.ql_value.specs.declared.fault.RowFault.{RowFault}
use Rattle.ql_value.specs.declared.fault.RowFault.TheVariants as fault
use Rattle.ql_value.specs.declared.value.Kind.{Kind}
use Rattle.ql_value.specs.declared.value.Value.{Value}
use Rattle.ql_value.specs.declared.value.Value.TheVariants as v

-- what was read before, and what is still read
abbrev pub with_front : List Value → Option (List Value × List ℕ) → Option (List Value × List ℕ)
with_front front read = read >>= λ x. Some (front ++ x.0, x.1)

regroup : (front : List Value) (n : Value) (read : Option (List Value × List ℕ)) → with_front front (read >>= λ x. Some (n ∷ x.0, x.1)) ≡ with_front (front ++ n ∷ []) read
regroup front n (Some x) = ap (λ (ns : List Value). Some (ns, x.1)) (simp append_assoc)
regroup front n None = refl

-- one value more was read
pub goes_on : (front : List Value) (kind : Kind) (kinds : List Kind) (bytes : List ℕ) (n : Value) (after : List ℕ) (total : Option (List Value × List ℕ)) → value_at kind bytes ≡ Some (n, after)
    → with_front front (values_at (kind ∷ kinds) bytes) ≡ total → with_front (front ++ n ∷ []) (values_at kinds after) ≡ total
unfolding values_at
goes_on front kind kinds bytes n after total h so_far =
    let one : with_front front (values_at (kind ∷ kinds) bytes) ≡ with_front (front ++ n ∷ []) (values_at kinds after) = rw h (regroup front n (values_at kinds after)) in
    sym one ∙ so_far

-- no value more was read
pub ends : (f : RowFault) (front : List Value) (kind : Kind) (kinds : List Kind) (bytes : List ℕ) (total : Option (List Value × List ℕ)) → IsSaid (value_at kind bytes) (stands_for f)
    → with_front front (values_at (kind ∷ kinds) bytes) ≡ total → IsSaid total (stands_for f)
unfolding values_at
ends fault.NoMemory front kind kinds bytes total h so_far = tt
ends fault.BadRow front kind kinds bytes total h so_far =
    let one : with_front front (values_at (kind ∷ kinds) bytes) ≡ None = rw h refl in
    sym so_far ∙ one

pub is_done : (front : List Value) (bytes : List ℕ) (total : Option (List Value × List ℕ)) → with_front front (values_at [] bytes) ≡ total → total ≡ Some (front, bytes)
unfolding values_at
is_done front bytes total so_far = sym so_far ∙ ap (λ (ns : List Value). Some (ns, bytes)) (append-nil front)
