-- In a sound content each free block stands in the list of its class, and in no other.
use Rattle.std.proofs.Common.{◌≡◌, ℕ, zero, suc, ◌+◌, ◌/◌, ◌≤◌, ◌<◌, inl, inr, Bool, true, false, not, cond, ◌&&◌, List, [], ◌∷◌, Option, Some, None, refl, sym, ◌∙◌, subst, arith, nat_eq, nat_lt}
use Rattle.std.specs.List.{list_all}
use Rattle.std.proofs.lemmas.Bool.{and_parts, cond_both, eqb-true, eq-eqb, cases_order, cases_eq, ne_eqb, or_right, or_cases}
use Rattle.std.proofs.lemmas.Option.{option_and_then_some}
use Rattle.lldb_atoms.specs.Blocks.{Extent, Free, Tile, size}
use Rattle.lldb_atoms.specs.Rows.{extent_at, contains, are_distinct, are_spaced, ends_free, targets, are_used}
use Rattle.lldb_atoms.specs.Lists.{row_of, list_of, class_of, halvings, in_class, free_from, has_class, are_listed}
use Rattle.lldb_atoms.specs.Sound.{tiling, sound_tiling, is_sound_tiling}
use Rattle.lldb_atoms.specs.Laws.{IsListed}

halvings_most : (most n : ℕ) → halvings most n ≤ most
halvings_most zero n = omega arith
halvings_most (suc most) n =
    cond_both (nat_lt n 2) 0 (1 + halvings most (n / 2)) (λ k. k ≤ suc most) (λ test. omega arith) (λ test. let rest = halvings_most most (n / 2) in omega arith)

pub class_below : (atoms : ℕ) → class_of atoms < 16
unfolding class_of
class_below atoms = let most = halvings_most 15 atoms in omega arith

below : (k n : ℕ) → k < suc n → (k ≡ n → ⊥) → k < n
below k n low other =
    elim (cases_order k n) [
      | inl same ↦ absurd (other same)
      | inr order ↦ elim order [
        | inl less ↦ less
        | inr more ↦ absurd (omega arith)
      ]
    ]

-- each of the lists that are looked at
each_listed : (content : List ℕ) (tiles : List Tile) (n class : ℕ) → are_listed content tiles n ≡ true → class < n → has_class (row_of tiles) class (list_of content tiles class) ≡ true
each_listed content tiles zero class test low = absurd (omega arith)
each_listed content tiles (suc n) class test low =
    let parts = and_parts _ _ test in
    elim (cases_eq class n) [
      | inl same ↦ subst (λ k. has_class (row_of tiles) k (list_of content tiles k) ≡ true) (sym same) parts.1
      | inr other ↦ each_listed content tiles n class parts.0 (below class n low other)
    ]

-- what the test of a list says, where the list ends
pub record Holds (row : List Extent) (class : ℕ) (list : Option (List ℕ)) : Type 0 where
  pub atoms : List ℕ
  pub is : list ≡ Some atoms
  pub once : are_distinct atoms ≡ true
  pub inside : list_all (λ atom. in_class class (extent_at 8 row atom)) atoms ≡ true
  pub all : list_all (contains atoms) (free_from class 8 row) ≡ true

holds : (row : List Extent) (class : ℕ) (list : Option (List ℕ)) → has_class row class list ≡ true → Holds row class list
holds row class None test = absurd (cc)
holds row class (Some atoms) test =
    let one = and_parts _ _ test in
    let two = and_parts _ _ one.1 in
    record { atoms = atoms; is = refl; once = one.0; inside = two.0; all = two.1 }

-- a test that all pass, at one of them
at_member : (p : ℕ → Bool) (ns : List ℕ) (n : ℕ) → list_all p ns ≡ true → contains ns n ≡ true → p n ≡ true
at_member p [] n all member = absurd (cc)
at_member p (m ∷ ns) n all member =
    let parts = and_parts (p m) (list_all p ns) all in
    elim (or_cases (nat_eq n m) (contains ns n) member) [
      | inl same ↦ rw (eqb-true n m same) parts.0
      | inr later ↦ at_member p ns n parts.1 later
    ]

first_found : (f e : Extent) (o : Option Extent) (b : Bool) → b ≡ true → cond b (Some f) o ≡ Some e → f ≡ e
first_found f e o true is found = cc
first_found f e o false is found = absurd (cc)

later_found : (f e : Extent) (o : Option Extent) (b : Bool) → b ≡ false → cond b (Some f) o ≡ Some e → o ≡ Some e
later_found f e o false is found = found
later_found f e o true is found = absurd (cc)

either_way : (b : Bool) (n : ℕ) (ns : List ℕ) (m : ℕ) → contains ns m ≡ true → contains (cond b (n ∷ ns) ns) m ≡ true
either_way true n ns m member = or_right (nat_eq m n) (contains ns m) member
either_way false n ns m member = member

some_same : (a b : List ℕ) → Some a ≡ Some b → a ≡ b
some_same a b is = cc

-- a free block of a class is one of the free blocks of that class
free_member : (class from : ℕ) (row : List Extent) (atom : ℕ) (e : Extent) → extent_at from row atom ≡ Some e → in_class class (Some e) ≡ true → contains (free_from class from row) atom ≡ true
free_member class from [] atom e found is = absurd (cc)
free_member class from (f ∷ row) atom e found is =
    elim (cases_eq atom from) [
      | inl same ↦
          let here : f ≡ e = first_found f e (extent_at (from + size f) row atom) (nat_eq atom from) (eq-eqb atom from same) found in
          let test : in_class class (Some f) ≡ true = rw here is in
          rw (test, eq-eqb atom from same) refl
      | inr other ↦
          let later : extent_at (from + size f) row atom ≡ Some e = later_found f e (extent_at (from + size f) row atom) (nat_eq atom from) (ne_eqb atom from other) found in
          let rest = free_member class (from + size f) row atom e later is in
          either_way (in_class class (Some f)) from (free_from class (from + size f) row) atom rest
    ]

chosen_same : (b : Bool) (found tiles : List Tile) → cond b (Some found) None ≡ Some tiles → (b ≡ true) × (found ≡ tiles)
chosen_same true found tiles is = (refl, cc)
chosen_same false found tiles is = absurd (cc)

last_part : (a b c d e : Bool) → (a && (b && (c && (d && e)))) ≡ true → e ≡ true
last_part a b c d e test = (and_parts d e (and_parts c (d && e) (and_parts b (c && (d && e)) (and_parts a (b && (c && (d && e))) test).1).1).1).1

listed_found : (content : List ℕ) (found tiles : List Tile) → cond (is_sound_tiling content found) (Some found) None ≡ Some tiles → are_listed content tiles 16 ≡ true
listed_found content found tiles chosen =
    let c = chosen_same _ found tiles chosen in
    let row = row_of found in
    let last : are_listed content found 16 ≡ true = last_part (are_spaced false row) (not (ends_free false row)) (are_distinct (targets row)) (are_used row (targets row)) (are_listed content found 16) c.0 in
    subst (λ ts. are_listed content ts 16 ≡ true) c.1 last

in_lists : (content : List ℕ) (tiles : List Tile) → sound_tiling content ≡ Some tiles → are_listed content tiles 16 ≡ true
unfolding sound_tiling
in_lists content tiles sound =
    option_and_then_some _ (tiling content) tiles sound (λ found is chosen. listed_found content found tiles chosen)

pub free_listed : (content : List ℕ) (tiles : List Tile) (atom atoms : ℕ) → sound_tiling content ≡ Some tiles → extent_at 8 (row_of tiles) atom ≡ Some (Free atoms) → IsListed content tiles atom (class_of atoms)
free_listed content tiles atom atoms sound found =
    let h = holds (row_of tiles) (class_of atoms) (list_of content tiles (class_of atoms)) (each_listed content tiles 16 (class_of atoms) (in_lists content tiles sound) (class_below atoms)) in
    let member = free_member (class_of atoms) 8 (row_of tiles) atom (Free atoms) found (eq-eqb (class_of atoms) (class_of atoms) refl) in
    record { atoms = h.atoms; list = h.is; member = at_member (contains h.atoms) (free_from (class_of atoms) 8 (row_of tiles)) atom h.all member; once = h.once }

pub only_listed : (content : List ℕ) (tiles : List Tile) (atom atoms class : ℕ) → sound_tiling content ≡ Some tiles → extent_at 8 (row_of tiles) atom ≡ Some (Free atoms) → class < 16 → IsListed content tiles atom class → class ≡ class_of atoms
only_listed content tiles atom atoms class sound found low listed =
    let h = holds (row_of tiles) class (list_of content tiles class) (each_listed content tiles 16 class (in_lists content tiles sound) low) in
    let same : listed.atoms ≡ h.atoms = some_same listed.atoms h.atoms (sym listed.list ∙ h.is) in
    let member : contains h.atoms atom ≡ true = subst (λ ns. contains ns atom ≡ true) same listed.member in
    let is : in_class class (extent_at 8 (row_of tiles) atom) ≡ true = at_member (λ a. in_class class (extent_at 8 (row_of tiles) a)) h.atoms atom h.inside member in
    let P : Option Extent → Type 0 = λ o. in_class class o ≡ true in
    sym (eqb-true (class_of atoms) class (subst P found is))
