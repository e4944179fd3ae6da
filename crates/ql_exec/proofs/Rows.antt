-- One thing more of a list whose members all have a property.
use Rattle.std.proofs.Common.{◌≡◌, ℕ, ◌+◌, ◌<◌, List, ◌∷◌, length, drop, get_or, sym, ap, subst, ◌∙◌}
use Rattle.std.proofs.lemmas.List.{drop_more}
use Rattle.std.specs.List.{AllByRecursion}

pub next_all : {A : Type 0} (P : A → Type 0) (xs : List A) (i : ℕ) (x d : A) → i < length xs → x ≡ get_or xs i d → AllByRecursion P (drop i xs) → P x × AllByRecursion P (drop (i + 1) xs)
next_all P xs i x d h e all =
    let here : drop i xs ≡ x ∷ drop (i + 1) xs = drop_more xs i d h ∙ ap (λ z. z ∷ drop (i + 1) xs) (sym e) in
    subst (AllByRecursion P) here all
