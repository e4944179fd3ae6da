-- Answers that may be a refusal.
use Rattle.std.specs.Prelude.{ℕ, List, [], ◌∷◌, Result, Ok, Err}
use Rattle.ql_value.specs.declared.refusal.Refusal.{Refusal}

-- what is asked for, or the first refusal
abbrev pub Answer : Type 0 → Type 0
Answer A = Result A Refusal

-- a refusal that shows a name
abbrev pub refused_at : {A : Type 0} → ℕ → List ℕ → Answer A
refused_at number name = Err (record { number = number; name = name })

-- a refusal that shows no name
abbrev pub refused : {A : Type 0} → ℕ → Answer A
refused number = refused_at number []

-- what follows from an answer; a refusal stands
abbrev pub then_with : {A B : Type 0} → Answer A → (A → Answer B) → Answer B
then_with (Ok x) next = next x
then_with (Err r) next = Err r

-- several answers as one: the first refusal from left to right
abbrev pub all_of : {A : Type 0} → List (Answer A) → Answer (List A)
all_of [] = Ok []
all_of (first ∷ more) = then_with first (λ x. then_with (all_of more) (λ xs. Ok (x ∷ xs)))
