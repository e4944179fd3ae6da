-- Lists of few members.
use Rattle.std.proofs.Common.{◌≡◌, ◌<◌, ◌≤◌, List, [], ◌∷◌, length, get_or, refl, sym, ap, arith}

pub none_is : {A : Type 0} (xs : List A) → length xs < 1 → xs ≡ []
none_is [] h = refl
none_is (x ∷ xs) h = absurd (omega arith)

pub sole_is : {A : Type 0} (xs : List A) (x d : A) → 1 ≤ length xs → length xs < 2 → x ≡ get_or xs 0 d → xs ≡ x ∷ []
sole_is [] x d l h e = absurd (omega arith)
sole_is (y ∷ []) x d l h e = ap (λ z. z ∷ []) (sym e)
sole_is (y ∷ z ∷ xs) x d l h e = absurd (omega arith)
