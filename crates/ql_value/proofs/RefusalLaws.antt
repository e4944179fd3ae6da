-- The laws of the words of refusals.
use Rattle.std.proofs.Common.{◌≡◌, ◌≢◌, ℕ, suc, Bool, true, false, ◌==◌, ◌&&◌, not, if◌then◌else◌, List, [], ◌∷◌, map, refl, sym, ap, ◌∙◌, arith, rules}
use Rattle.std.specs.Prelude.{AllPairs, Contains, codes}
use Rattle.std.specs.List.{AllByRecursion}
use Rattle.std.specs.Str.{bytes_eq}
use Rattle.std.proofs.lemmas.Bool.{eqb-true, and_parts}
use Rattle.std.proofs.lemmas.List.Elements.{All-from_recursion}
use Rattle.std.proofs.lemmas.List.Kept.{AllPairs-cons}
use Rattle.std.proofs.lemmas.Slice.Eq.{bytes_eq-Decides}
use Rattle.ql_value.specs.Refusal.{refusal_word}
use Rattle.ql_value.specs.RefusalLaws.{RefusalLaws, refusal_numbers}

-- no number of the list has the word of this one
abbrev is_apart : (ℕ → List ℕ) → ℕ → List ℕ → Bool
is_apart word n [] = true
is_apart word n (m ∷ ms) = not (bytes_eq (word n) (word m)) && is_apart word n ms

-- no two numbers of the list have one word
abbrev are_apart : (ℕ → List ℕ) → List ℕ → Bool
are_apart word [] = true
are_apart word (n ∷ ns) = is_apart word n ns && are_apart word ns

other_word : (v w : List ℕ) → not (bytes_eq v w) ≡ true → v ≢ w
other_word v w h e = let one : not true ≡ true = ap not (sym ((bytes_eq-Decides v w).1 e)) ∙ h in absurd (cc)

others : (word : ℕ → List ℕ) (n : ℕ) (ms : List ℕ) → is_apart word n ms ≡ true → AllByRecursion (λ m. word n ≢ word m) ms
others word n [] h = tt
others word n (m ∷ ms) h =
    let parts = and_parts (not (bytes_eq (word n) (word m))) (is_apart word n ms) h in
    (other_word (word n) (word m) parts.0, others word n ms parts.1)

all_apart : (word : ℕ → List ℕ) (ns : List ℕ) → are_apart word ns ≡ true → AllPairs (λ n m. word n ≢ word m) ns
all_apart word [] h = λ i j d before within. absurd (omega arith)
all_apart word (n ∷ ns) h =
    let parts = and_parts (is_apart word n ns) (are_apart word ns) h in
    AllPairs-cons (λ a b. word a ≢ word b) n ns (All-from_recursion _ ns (others word n ns parts.0)) (all_apart word ns parts.1)

-- a number, and its word
record Entry : Type 0 where
  number : ℕ
  word : List ℕ

abbrev word_in : List Entry → ℕ → List ℕ
word_in [] n = []
word_in (e ∷ es) n = if n == e.number then e.word else word_in es n

here_or_later : (n m : ℕ) (w v : List ℕ) (ms : List ℕ) (b : Bool) → (n == m) ≡ b → (if b then w else v) ≢ [] → (v ≢ [] → Contains ms n) → Contains (m ∷ ms) n
here_or_later n m w v ms true e h later = (0, omega arith, sym (eqb-true n m e))
here_or_later n m w v ms false e h later = let c = later h in (suc c.0, omega (arith, c.1), c.2)

listed : (es : List Entry) (n : ℕ) → word_in es n ≢ [] → Contains (map (λ e. e.number) es) n
listed [] n h = absurd (h refl)
listed (e ∷ es) n h = here_or_later n e.number e.word (word_in es n) (map (λ x. x.number) es) (n == e.number) refl h (listed es n)

entries : List Entry
entries =
    record { number = 1; word = codes "NoTable" } ∷ record { number = 2; word = codes "NoColumn" } ∷ record { number = 3; word = codes "Ambiguous" }
    ∷ record { number = 4; word = codes "Exists" } ∷ record { number = 5; word = codes "Type" } ∷ record { number = 6; word = codes "Count" }
    ∷ record { number = 7; word = codes "ConstantRange" } ∷ record { number = 8; word = codes "Aggregate" } ∷ record { number = 9; word = codes "Reserved" }
    ∷ record { number = 10; word = codes "Later" }
    ∷ record { number = 20; word = codes "Divide" } ∷ record { number = 21; word = codes "Range" } ∷ record { number = 22; word = codes "NegativeCount" }
    ∷ record { number = 33; word = codes "RowTooLong" } ∷ record { number = 34; word = codes "KeyTooLong" } ∷ record { number = 35; word = codes "IdsSpent" }
    ∷ record { number = 36; word = codes "TableLimit" } ∷ []

each_word : AllByRecursion (λ number. refusal_word number ≢ []) refusal_numbers
each_word = search rules

only_listed : (number : ℕ) → refusal_word number ≢ [] → Contains refusal_numbers number
unfolding entries
only_listed number h = listed entries number h

pub the_refusal_laws : RefusalLaws
the_refusal_laws = record {
  each = All-from_recursion (λ number. refusal_word number ≢ []) refusal_numbers each_word;
  apart = all_apart refusal_word refusal_numbers refl;
  only = only_listed;
}
