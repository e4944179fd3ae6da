-- Saved maps, as a list from the end.
use Rattle.std.proofs.Common.{◌≡◌, List, length, get_or, arith, [], ◌∷◌, ◌++◌, reverse, map, ◌∙◌, ap}
use Rattle.std.proofs.lemmas.List.{reverse-append, length-reverse, map-append}

pub pushed : {X Y : Type 0} (f : X → Y) (items : List X) (top : X) → reverse (map f (items ++ top ∷ [])) ≡ f top ∷ reverse (map f items)
pushed f items top = ap reverse (map-append f items (top ∷ [])) ∙ reverse-append (map f items) (f top ∷ [])

-- a list of one
pub only_one : {X Y : Type 0} (f : X → Y) (items : List X) (top : X) → length (reverse (map f items)) ≡ 1 → get_or items 0 top ≡ top → reverse (map f items) ≡ f top ∷ []
only_one f [] top one here = absurd (cc)
only_one f (x ∷ []) top one here = ap (λ y. f y ∷ []) here
only_one f (x ∷ y ∷ xs) top one here = absurd (omega (arith, length-reverse (map f (x ∷ y ∷ xs)), one))
