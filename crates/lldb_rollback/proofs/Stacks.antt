-- A stack as a list from its end.
use Rattle.std.proofs.Common.{◌≡◌, ℕ, List, [], ◌∷◌, ◌++◌, reverse}
use Rattle.std.proofs.lemmas.List.{reverse-append}

pub pushed : (items : List (List ℕ)) (top : List ℕ) → reverse (items ++ top ∷ []) ≡ top ∷ reverse items
pushed items top = reverse-append items (top ∷ [])
