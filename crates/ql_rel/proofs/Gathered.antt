-- Answers that are gathered one by one, for loops that push what each part gives.
use Rattle.std.proofs.Common.{◌≡◌, ℕ, ◌+◌, ◌<◌, List, [], ◌∷◌, ◌++◌, map, drop, get_or, length, Ok, Err, refl, sym, ap, subst, ◌∙◌, append_assoc, append-nil}
use Rattle.std.proofs.lemmas.List.{drop_more}
use Rattle.ql_value.specs.declared.refusal.Refusal.{Refusal}
use Rattle.ql_syntax.specs.Answers.{Answer, then_with, all_of}

-- answers for further things behind those that are there
abbrev pub behind : {A : Type 0} → List A → Answer (List A) → Answer (List A)
behind done rest = then_with rest (λ xs. Ok (done ++ xs))

joined : {A : Type 0} (done : List A) (x : A) (rest : Answer (List A)) → behind done (then_with rest (λ xs. Ok (x ∷ xs))) ≡ behind (done ++ x ∷ []) rest
joined done x (Ok xs) = rw append_assoc refl
joined done x (Err r) = refl

pub turn : {A : Type 0} (done : List A) (x : A) (first : Answer A) (rest : List (Answer A)) → first ≡ Ok x → behind done (all_of (first ∷ rest)) ≡ behind (done ++ x ∷ []) (all_of rest)
turn done x first rest e = rw e (joined done x (all_of rest))

pub stop : {A : Type 0} (done : List A) (r : Refusal) (first : Answer A) (rest : List (Answer A)) → first ≡ Err r → behind done (all_of (first ∷ rest)) ≡ Err r
stop done r first rest e = rw e refl

pub end : {A : Type 0} (done : List A) → behind done (all_of []) ≡ Ok done
end done = rw append-nil refl

-- one thing more of a list
pub turn_same : {X A : Type 0} (f : X → Answer A) (all : List X) (i : ℕ) (x d : X) (list new : List A) (y : A) (total : Answer (List A)) → i < length all → x ≡ get_or all i d → f x ≡ Ok y → new ≡ list ++ y ∷ [] → behind list (all_of (map f (drop i all))) ≡ total → behind new (all_of (map f (drop (i + 1) all))) ≡ total
turn_same f all i x d list new y total h e a n w =
    let here : drop i all ≡ x ∷ drop (i + 1) all = drop_more all i d h ∙ ap (λ z. z ∷ drop (i + 1) all) (sym e) in
    let before : behind list (all_of (map f (x ∷ drop (i + 1) all))) ≡ total = subst (λ l. behind list (all_of (map f l)) ≡ total) here w in
    subst (λ l. behind l (all_of (map f (drop (i + 1) all))) ≡ total) (sym n) (sym (turn list y (f x) (map f (drop (i + 1) all)) a) ∙ before)

-- the same where something is done to each thing first
pub turn_at : {X P A : Type 0} (f : P → Answer A) (j : X → P) (all : List X) (i : ℕ) (x d : X) (list new : List A) (y : A) (total : Answer (List A)) → i < length all → x ≡ get_or all i d → f (j x) ≡ Ok y → new ≡ list ++ y ∷ [] → behind list (all_of (map f (map j (drop i all)))) ≡ total → behind new (all_of (map f (map j (drop (i + 1) all)))) ≡ total
turn_at f j all i x d list new y total h e a n w =
    let here : drop i all ≡ x ∷ drop (i + 1) all = drop_more all i d h ∙ ap (λ z. z ∷ drop (i + 1) all) (sym e) in
    let before : behind list (all_of (map f (map j (x ∷ drop (i + 1) all)))) ≡ total = subst (λ l. behind list (all_of (map f (map j l))) ≡ total) here w in
    subst (λ l. behind l (all_of (map f (map j (drop (i + 1) all)))) ≡ total) (sym n) (sym (turn list y (f (j x)) (map f (map j (drop (i + 1) all))) a) ∙ before)
