-- Lists by name: a member more, one less, and some of them.
use Rattle.std.proofs.Common.{◌≡◌, ℕ, zero, suc, ◌≤◌, Bool, true, false, cond, ◌||◌, List, [], ◌∷◌, length, map, filter, remove, refl, ap, ◌∙◌, arith}
use Rattle.std.proofs.lemmas.Cmp.{nat_list_cmp_total}
use Rattle.std.proofs.lemmas.Map.Text.{is_eq-slice_cmp}
use Rattle.std.specs.Cmp.Lexicographic.{slice_cmp}
use Rattle.std.specs.List.{list_any, AllByRecursion}
use Rattle.std.specs.declared.cmp.Ordering.{Ordering}
use Rattle.std.specs.declared.cmp.Ordering.TheVariants.{Less, Equal, Greater}
use Rattle.std.specs.Ordering.{nat_cmp, is_lt, is_eq, ordering_reverse}
use Rattle.std.specs.Str.{bytes_eq}
use Rattle.ql_rel.specs.Names.{comes_before, IsByName, has_name, placed}

-- neither of two tests passes
pub or_parts : (x y : Bool) → (x || y) ≡ false → (x ≡ false) × (y ≡ false)
or_parts true y e = absurd (cc)
or_parts false y e = (refl, e)

less_of : (o : Ordering) → is_lt o ≡ true → o ≡ Less
less_of Less e = refl
less_of Equal e = absurd (cc)
less_of Greater e = absurd (cc)

pub before_trans : (a b c : List ℕ) → comes_before a b ≡ true → comes_before b c ≡ true → comes_before a c ≡ true
before_trans a b c h k = ap is_lt (nat_list_cmp_total.trans a b c (less_of (slice_cmp nat_cmp a b) h) (less_of (slice_cmp nat_cmp b c) k))

swapped : (o p : Ordering) → p ≡ ordering_reverse o → is_lt o ≡ false → is_eq p ≡ false → is_lt p ≡ true
swapped Less p e h k = absurd (cc)
swapped Equal p e h k = let same : is_eq p ≡ true = ap is_eq e in absurd (cc)
swapped Greater p e h k = ap is_lt e

-- of two different names one comes before the other
pub before_other : (a b : List ℕ) → comes_before a b ≡ false → bytes_eq b a ≡ false → comes_before b a ≡ true
before_other a b h k = swapped (slice_cmp nat_cmp a b) (slice_cmp nat_cmp b a) (nat_list_cmp_total.antisymm b a) h (is_eq-slice_cmp b a ∙ k)

-- what holds of all members holds with one more
pub placed_all : {A : Type 0} (P : A → Type 0) (name : A → List ℕ) (x : A) (ys : List A) → P x → AllByRecursion P ys → AllByRecursion P (placed name x ys)
placed_all P name x [] p h = (p, tt)
placed_all P name x (y ∷ ys) p h =
    let rest = placed_all P name x ys p h.1 in
    elim (comes_before (name x) (name y)) as (λ b. AllByRecursion P (cond b (x ∷ y ∷ ys) (y ∷ placed name x ys))) [ true ↦ (p, h) | false ↦ (h.0, rest) ]

pub length_placed : {A : Type 0} (name : A → List ℕ) (x : A) (ys : List A) → length (placed name x ys) ≡ suc (length ys)
length_placed name x [] = refl
length_placed name x (y ∷ ys) =
    let rest = length_placed name x ys in
    elim (comes_before (name x) (name y)) as (λ b. length (cond b (x ∷ y ∷ ys) (y ∷ placed name x ys)) ≡ suc (suc (length ys))) [ true ↦ refl | false ↦ ap suc rest ]

pub map_placed : {A B : Type 0} (f : A → B) (name : B → List ℕ) (x : A) (ys : List A) → map f (placed (λ a. name (f a)) x ys) ≡ placed name (f x) (map f ys)
map_placed f name x [] = refl
map_placed {B = B} f name x (y ∷ ys) =
    let rest = map_placed f name x ys in
    elim (comes_before (name (f x)) (name (f y))) as (λ b. map f (cond b (x ∷ y ∷ ys) (y ∷ placed (λ a. name (f a)) x ys)) ≡ cond b (f x ∷ f y ∷ map f ys) (f y ∷ placed name (f x) (map f ys))) [
      | true ↦ refl
      | false ↦ ap (λ (zs : List B). f y ∷ zs) rest
    ]

or_swap : (a b c : Bool) → (a || (b || c)) ≡ (b || (a || c))
or_swap true true c = refl
or_swap true false c = refl
or_swap false true c = refl
or_swap false false c = refl

-- a test of some member, with one more
pub any_placed : {A : Type 0} (name : A → List ℕ) (q : A → Bool) (x : A) (ys : List A) → list_any q (placed name x ys) ≡ (q x || list_any q ys)
any_placed name q x [] = refl
any_placed name q x (y ∷ ys) =
    let rest = ap (λ b. q y || b) (any_placed name q x ys) ∙ or_swap (q y) (q x) (list_any q ys) in
    elim (comes_before (name x) (name y)) as (λ b. list_any q (cond b (x ∷ y ∷ ys) (y ∷ placed name x ys)) ≡ (q x || (q y || list_any q ys))) [ true ↦ refl | false ↦ rest ]

-- a list by name with one name more
placed_at : (a b : List ℕ) (bs : List (List ℕ)) (t : Bool) → comes_before a b ≡ t → has_name a (b ∷ bs) ≡ false → IsByName (b ∷ bs) → IsByName (cond t (a ∷ b ∷ bs) (b ∷ placed (λ n. n) a bs))
placed_at a b bs true e n h = (e, h)
placed_at a b [] false e n h = (before_other a b e (or_parts (bytes_eq b a) false n).0, tt)
placed_at a b (c ∷ cs) false e n h =
    let parts = or_parts (bytes_eq b a) (has_name a (c ∷ cs)) n in
    let first : comes_before b a ≡ true = before_other a b e parts.0 in
    let rest : (u : Bool) → comes_before a c ≡ u → IsByName (b ∷ cond u (a ∷ c ∷ cs) (c ∷ placed (λ n. n) a cs)) = elim [
      | true ↦ λ k. (first, (k, h.1))
      | false ↦ λ k. (h.0, placed_at a c cs false k parts.1 h.1)
    ] in
    rest (comes_before a c) refl

pub by_name_placed : (a : List ℕ) (bs : List (List ℕ)) → has_name a bs ≡ false → IsByName bs → IsByName (placed (λ n. n) a bs)
by_name_placed a [] n h = tt
by_name_placed a (b ∷ bs) n h = placed_at a b bs (comes_before a b) refl n h

-- each of the names comes after this one
abbrev After : List ℕ → List (List ℕ) → Type 0
After a bs = AllByRecursion (λ (b : List ℕ). comes_before a b ≡ true) bs

later : (a b : List ℕ) (cs : List (List ℕ)) → comes_before a b ≡ true → After b cs → After a cs
later a b [] e h = tt
later a b (c ∷ cs) e h = (before_trans a b c e h.0, later a b cs e h.1)

by_tail : (a : List ℕ) (bs : List (List ℕ)) → IsByName (a ∷ bs) → IsByName bs
by_tail a [] h = tt
by_tail a (b ∷ bs) h = h.1

after_all : (a : List ℕ) (bs : List (List ℕ)) → IsByName (a ∷ bs) → After a bs
after_all a [] h = tt
after_all a (b ∷ bs) h = (h.0, later a b bs h.0 (after_all b bs h.1))

from_all : (a : List ℕ) (bs : List (List ℕ)) → After a bs → IsByName bs → IsByName (a ∷ bs)
from_all a [] h k = tt
from_all a (b ∷ bs) h k = (h.0, k)

pub all_of_filter : {A : Type 0} (P : A → Type 0) (p : A → Bool) (xs : List A) → AllByRecursion P xs → AllByRecursion P (filter p xs)
all_of_filter P p [] h = tt
all_of_filter P p (x ∷ xs) h =
    let rest = all_of_filter P p xs h.1 in
    elim (p x) as (λ b. AllByRecursion P (cond b (x ∷ filter p xs) (filter p xs))) [ true ↦ (h.0, rest) | false ↦ rest ]

pub all_of_remove : {A : Type 0} (P : A → Type 0) (n : ℕ) (xs : List A) → AllByRecursion P xs → AllByRecursion P (remove xs n)
all_of_remove P zero [] h = tt
all_of_remove P (suc n) [] h = tt
all_of_remove P zero (x ∷ xs) h = h.1
all_of_remove P (suc n) (x ∷ xs) h = (h.0, all_of_remove P n xs h.1)

pub map_remove : {A B : Type 0} (f : A → B) (n : ℕ) (xs : List A) → map f (remove xs n) ≡ remove (map f xs) n
map_remove f zero [] = refl
map_remove f (suc n) [] = refl
map_remove f zero (x ∷ xs) = refl
map_remove {B = B} f (suc n) (x ∷ xs) = ap (λ (zs : List B). f x ∷ zs) (map_remove f n xs)

pub shorter_remove : {A : Type 0} (n : ℕ) (xs : List A) → length (remove xs n) ≤ length xs
shorter_remove zero [] = omega arith
shorter_remove (suc n) [] = omega arith
shorter_remove zero (x ∷ xs) = omega arith
shorter_remove (suc n) (x ∷ xs) = let rest = shorter_remove n xs in omega (arith, rest)

pub shorter_filter : {A : Type 0} (p : A → Bool) (xs : List A) → length (filter p xs) ≤ length xs
shorter_filter p [] = omega arith
shorter_filter p (x ∷ xs) =
    let rest = shorter_filter p xs in
    elim (p x) as (λ b. length (cond b (x ∷ filter p xs) (filter p xs)) ≤ suc (length xs)) [ true ↦ omega (arith, rest) | false ↦ omega (arith, rest) ]

after_filter : {A : Type 0} (name : A → List ℕ) (p : A → Bool) (a : List ℕ) (xs : List A) → After a (map name xs) → After a (map name (filter p xs))
after_filter name p a [] h = tt
after_filter name p a (x ∷ xs) h =
    let rest = after_filter name p a xs h.1 in
    elim (p x) as (λ b. After a (map name (cond b (x ∷ filter p xs) (filter p xs)))) [ true ↦ (h.0, rest) | false ↦ rest ]

pub by_name_filter : {A : Type 0} (name : A → List ℕ) (p : A → Bool) (xs : List A) → IsByName (map name xs) → IsByName (map name (filter p xs))
by_name_filter name p [] h = tt
by_name_filter name p (x ∷ xs) h =
    let rest = by_name_filter name p xs (by_tail (name x) (map name xs) h) in
    let after = after_filter name p (name x) xs (after_all (name x) (map name xs) h) in
    elim (p x) as (λ b. IsByName (map name (cond b (x ∷ filter p xs) (filter p xs)))) [ true ↦ from_all (name x) (map name (filter p xs)) after rest | false ↦ rest ]

pub by_name_remove : (n : ℕ) (names : List (List ℕ)) → IsByName names → IsByName (remove names n)
by_name_remove zero [] h = tt
by_name_remove (suc n) [] h = tt
by_name_remove zero (a ∷ names) h = by_tail a names h
by_name_remove (suc n) (a ∷ names) h =
    from_all a (remove names n) (all_of_remove (λ (b : List ℕ). comes_before a b ≡ true) n names (after_all a names h)) (by_name_remove n names (by_tail a names h))
