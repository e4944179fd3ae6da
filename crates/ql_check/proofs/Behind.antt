-- Things with names that are gathered one by one, each behind the names before it.
use Rattle.std.proofs.Common.{◌≡◌, ℕ, ◌+◌, ◌<◌, List, [], ◌∷◌, ◌++◌, length, map, take, drop, get_or, Result, Ok, Err, refl, sym, ap, subst, ◌∙◌, append_assoc}
use Rattle.std.specs.Prelude.{IsErrAnd}
use Rattle.std.proofs.lemmas.List.{drop_more, take_more}
use Rattle.ql_syntax.specs.Answers.{Answer, then_with}
use Rattle.ql_check_expr.specs.declared.fault.CheckFault.{CheckFault}
use Rattle.ql_check_expr.specs.declared.fault.CheckFault.TheVariants as fault
use Rattle.ql_check_expr.specs.Gives.{Gives}
use Rattle.ql_check_expr.proofs.Turns.{behind}

joined : {A : Type 0} (done : List A) (x : A) (rest : Answer (List A)) → behind done (then_with rest (λ xs. Ok (x ∷ xs))) ≡ behind (done ++ x ∷ []) rest
joined done x (Ok xs) = rw append_assoc refl
joined done x (Err r) = refl

names_behind : {X : Type 0} (name : X → List ℕ) (things : List X) (x : X) → map name (things ++ x ∷ []) ≡ map name things ++ name x ∷ []
names_behind name [] x = refl
names_behind name (a ∷ things) x = ap (λ (z : List (List ℕ)). name a ∷ z) (names_behind name things x)

-- the names of the things before the next one
pub names_more : {X : Type 0} (name : X → List ℕ) (things : List X) (i : ℕ) (x d : X) → i < length things → x ≡ get_or things i d → map name (take (i + 1) things) ≡ map name (take i things) ++ name x ∷ []
names_more name things i x d h e = ap (map name) (take_more things i d h ∙ ap (λ z. take i things ++ z ∷ []) (sym e)) ∙ names_behind name (take i things) x

-- one thing behind some names, and then those behind it
abbrev next_with : {X A : Type 0} → (X → List ℕ) → (List (List ℕ) → List X → Answer (List A)) → List (List ℕ) → X → List X → Answer A → Answer (List A)
next_with name all before x things a = then_with a (λ y. then_with (all (before ++ name x ∷ []) things) (λ ys. Ok (y ∷ ys)))

abbrev pub IsStepwise : {X A : Type 0} → (X → List ℕ) → (List (List ℕ) → X → Answer A) → (List (List ℕ) → List X → Answer (List A)) → Type 0
IsStepwise {X = X} name one all = (before : List (List ℕ)) (x : X) (things : List X) → all before (x ∷ things) ≡ next_with name all before x things (one before x)

module _ {X A : Type 0} (name : X → List ℕ) (one : List (List ℕ) → X → Answer A) (all : List (List ℕ) → List X → Answer (List A)) (steps : IsStepwise name one all)
    (things : List X) (i : ℕ) (x d : X) (h : i < length things) (e : x ≡ get_or things i d) where
  abbrev before : List (List ℕ)
  before = map name (take i things)

  -- the next one and those behind it
  from_here : all before (drop i things) ≡ next_with name all before x (drop (i + 1) things) (one before x)
  from_here = ap (all before) (drop_more things i d h ∙ ap (λ z. z ∷ drop (i + 1) things) (sym e)) ∙ steps before x (drop (i + 1) things)

  pub things_more : (list new : List A) (y : A) (total : Answer (List A)) → one before x ≡ Ok y → new ≡ list ++ y ∷ []
      → behind list (all before (drop i things)) ≡ total → behind new (all (map name (take (i + 1) things)) (drop (i + 1) things)) ≡ total
  things_more list new y total k n w =
      ap (λ l. behind l (all (map name (take (i + 1) things)) (drop (i + 1) things))) n
      ∙ ap (λ b. behind (list ++ y ∷ []) (all b (drop (i + 1) things))) (names_more name things i x d h e)
      ∙ sym (ap (behind list) from_here ∙ ap (λ a. behind list (next_with name all before x (drop (i + 1) things) a)) k ∙ joined list y (all (before ++ name x ∷ []) (drop (i + 1) things))) ∙ w

  refused_here : (list : List A) (f : CheckFault) (total : Answer (List A)) → Gives (one before x) (Err f) → behind list (all before (drop i things)) ≡ total → Gives total (Err f)
  refused_here list (fault.Refused r) total k w = sym w ∙ ap (behind list) from_here ∙ ap (λ a. behind list (next_with name all before x (drop (i + 1) things) a)) k
  refused_here list fault.NoMemory total k w = tt

  pub stops_here : (list : List A) (f : CheckFault) (result : Result (List A) CheckFault) (total : Answer (List A)) → Gives (one before x) (Err f) → IsErrAnd result (λ g. g ≡ f)
      → behind list (all before (drop i things)) ≡ total → Gives total result
  stops_here list f (Ok u) total k j w = absurd j
  stops_here list f (Err g) total k j w = subst (λ (z : CheckFault). Gives total (Err z)) (sym j) (refused_here list f total k w)
