-- Block comments, one byte after another.
use Rattle.std.proofs.Common.{◌≡◌, ℕ, ◌≤◌, List, [], ◌∷◌, ◌++◌, length, refl, sym, ◌∙◌, ap, arith}
use Rattle.std.specs.Prelude.{codes}
use Rattle.ql_lex.specs.Comments.{ClosesComment, NeverCloses}

-- no `*/` begins here
abbrev pub NoClose : List ℕ → Type 0
NoClose text = (behind : List ℕ) → text ≡ codes "*/" ++ behind → ⊥

-- however the comment goes on from `now`, it goes on so from `all`
pub record GoesOn (now all : List ℕ) : Type 0 where
  pub closes : (rest : List ℕ) → ClosesComment now rest → ClosesComment all rest
  pub never : NeverCloses now → NeverCloses all

pub goes_on_same : (all : List ℕ) → GoesOn all all
goes_on_same all = record { closes = λ rest h. h; never = λ h. h }

next_of : (now : List ℕ) (b : ℕ) (text rest : List ℕ) → now ≡ b ∷ text → NoClose now → (h : ClosesComment text rest) → (before behind : List ℕ) → now ≡ before ++ (codes "*/" ++ behind) → length (b ∷ h.inside) ≤ length before
next_of now b text rest e clear h [] behind q = absurd (clear behind q)
next_of now b text rest e clear h (x ∷ before) behind q =
    let both : b ∷ text ≡ x ∷ (before ++ (codes "*/" ++ behind)) = sym e ∙ q in
    let tail : text ≡ before ++ (codes "*/" ++ behind) = cc in
    let less = h.next before behind tail in
    omega (arith, less)

closes_later : (now : List ℕ) (b : ℕ) (text rest : List ℕ) → now ≡ b ∷ text → NoClose now → ClosesComment text rest → ClosesComment now rest
closes_later now b text rest e clear h =
    record { inside = b ∷ h.inside; whole = e ∙ ap (λ (x : List ℕ). b ∷ x) h.whole; next = next_of now b text rest e clear h }

never_later : (now : List ℕ) (b : ℕ) (text : List ℕ) → now ≡ b ∷ text → NoClose now → NeverCloses text → NeverCloses now
never_later now b text e clear h [] behind q = clear behind q
never_later now b text e clear h (x ∷ before) behind q =
    let both : b ∷ text ≡ x ∷ (before ++ (codes "*/" ++ behind)) = sym e ∙ q in
    let tail : text ≡ before ++ (codes "*/" ++ behind) = cc in
    h before behind tail

pub over_byte : (now all : List ℕ) (b : ℕ) (text : List ℕ) → GoesOn now all → now ≡ b ∷ text → NoClose now → GoesOn text all
over_byte now all b text g e clear =
    record { closes = λ rest h. g.closes rest (closes_later now b text rest e clear h); never = λ h. g.never (never_later now b text e clear h) }

first_close : (rest before behind now : List ℕ) → now ≡ codes "*/" ++ rest → now ≡ before ++ (codes "*/" ++ behind) → length {A = ℕ} [] ≤ length before
first_close rest before behind now e q = omega arith

closes_now : (now rest : List ℕ) → now ≡ codes "*/" ++ rest → ClosesComment now rest
closes_now now rest e = record { inside = []; whole = e; next = λ before behind q. first_close rest before behind now e q }

pub at_close : (now all rest : List ℕ) → GoesOn now all → now ≡ codes "*/" ++ rest → ClosesComment all rest
at_close now all rest g e = g.closes rest (closes_now now rest e)

never_empty : (now : List ℕ) → now ≡ [] → NeverCloses now
never_empty now e [] behind q = let both : [] ≡ codes "*/" ++ behind = sym e ∙ q in cc
never_empty now e (x ∷ before) behind q = let both : [] ≡ x ∷ (before ++ (codes "*/" ++ behind)) = sym e ∙ q in cc

pub at_end : (now all : List ℕ) → GoesOn now all → now ≡ [] → NeverCloses all
at_end now all g e = g.never (never_empty now e)

pub append_same_start : (xs ys us vs : List ℕ) → xs ++ us ≡ ys ++ vs → length xs ≡ length ys → xs ≡ ys
append_same_start [] [] us vs e l = refl
append_same_start [] (y ∷ ys) us vs e l = absurd (omega arith)
append_same_start (x ∷ xs) [] us vs e l = absurd (omega arith)
append_same_start (x ∷ xs) (y ∷ ys) us vs e l =
    let tail : xs ++ us ≡ ys ++ vs = cc in
    let head : x ≡ y = cc in
    let same = append_same_start xs ys us vs tail (omega arith) in
    cc

pub append_same_front : (xs ys us vs : List ℕ) → xs ++ us ≡ ys ++ vs → length xs ≡ length ys → us ≡ vs
append_same_front [] [] us vs e l = e
append_same_front [] (y ∷ ys) us vs e l = absurd (omega arith)
append_same_front (x ∷ xs) [] us vs e l = absurd (omega arith)
append_same_front (x ∷ xs) (y ∷ ys) us vs e l =
    let tail : xs ++ us ≡ ys ++ vs = cc in
    append_same_front xs ys us vs tail (omega arith)

-- what stands behind a comment is one thing
pub closes_once : (text rest other : List ℕ) → ClosesComment text rest → ClosesComment text other → rest ≡ other
closes_once text rest other h k =
    let some = h.next k.inside other k.whole in
    let more = k.next h.inside rest h.whole in
    let same : h.inside ++ (codes "*/" ++ rest) ≡ k.inside ++ (codes "*/" ++ other) = sym h.whole ∙ k.whole in
    let tail : codes "*/" ++ rest ≡ codes "*/" ++ other = append_same_front h.inside k.inside (codes "*/" ++ rest) (codes "*/" ++ other) same (omega (arith, some, more)) in
    cc

-- a comment that closes is not one that never does
pub closes_not_never : (text rest : List ℕ) → ClosesComment text rest → NeverCloses text → ⊥
closes_not_never text rest h k = k h.inside rest h.whole
