-- The places that a name may mean, slot by slot.
use Rattle.std.proofs.Common.{◌≡◌, ℕ, suc, ◌+◌, Bool, true, false, ◌&&◌, if◌then◌else◌, List, [], ◌∷◌, ◌++◌, Option, refl, sym, ap, get_or, ◌<◌, ◌∙◌, append_assoc, drop, length, arith}
use Rattle.std.proofs.lemmas.List.{drop_more}
use Rattle.ql_syntax.specs.declared.scope.RowPlace.{RowPlace}
use Rattle.ql_syntax.specs.declared.scope.Slot.{Slot}
use Rattle.ql_syntax.specs.Scopes.{places_named, is_of_set, is_of_column}

one_or_none : (b : Bool) (f : RowPlace) (rest : List RowPlace) → (if b then f ∷ rest else rest) ≡ (if b then f ∷ [] else []) ++ rest
one_or_none true f rest = refl
one_or_none false f rest = refl

pub found_one : (set column : Option (List ℕ)) (at : ℕ) (s : Slot) (slots : List Slot) → places_named set column at (s ∷ slots) ≡ places_named set column at (s ∷ []) ++ places_named set column (suc at) slots
found_one set column at s slots = one_or_none (is_of_set set s && is_of_column column s) (record { at = at; typing = s.typing }) (places_named set column (suc at) slots)

pub next_place : (before : List RowPlace) (set column : Option (List ℕ)) (at : ℕ) (s : Slot) (slots : List Slot) → (before ++ places_named set column at (s ∷ [])) ++ places_named set column (suc at) slots ≡ before ++ places_named set column at (s ∷ slots)
next_place before set column at s slots = rw append_assoc (ap (λ list. before ++ list) (sym (found_one set column at s slots)))

-- the step of a search: the slots before the next one
pub turn_place : (set column : Option (List ℕ)) (all : List Slot) (i at next : ℕ) (x d : Slot) (before total : List RowPlace) → i < length all → x ≡ get_or all i d → next ≡ at + 1 → before ++ places_named set column at (drop i all) ≡ total → (before ++ places_named set column at (x ∷ [])) ++ places_named set column next (drop (i + 1) all) ≡ total
turn_place set column all i at next x d before total h e n w =
    let here : drop i all ≡ x ∷ drop (i + 1) all = drop_more all i d h ∙ ap (λ y. y ∷ drop (i + 1) all) (sym e) in
    let m : next ≡ suc at = omega (arith, n) in
    let back = ap (λ l. before ++ places_named set column at l) (sym here) in
    rw m (next_place before set column at x (drop (i + 1) all) ∙ back ∙ w)
