-- A printed number is a number, and it is worth what it was printed from.
use Rattle.std.proofs.Common.{◌≡◌, ℕ, zero, suc, ◌+◌, ◌-◌, ◌*◌, ◌^◌, ◌<◌, Bool, true, false, List, [], ◌∷◌, length, get_or, refl, ap, arith}
use Rattle.std.specs.Prelude.{◌==◌, ◌&&◌, nat_lt, nat_le, decimal}
use Rattle.std.specs.Char.{digit_value}
use Rattle.std.specs.Char as char
use Rattle.std.specs.List.{list_all}
use Rattle.std.proofs.lemmas.Bool.{eqb-true, lt-ltb, leb-true, le-leb}
use Rattle.std.proofs.lemmas.Fmt.{decimal_nonempty, decimal_digit, first_decimal, digits_decimal, digits_value-decimal}
use Rattle.std.proofs.lemmas.Str.{digit_value_digit}
use Rattle.std.proofs.lemmas.Str.Parse.{IsDigitsTest, FoldsDigits, IsNumeralModel, numerals_by_fold}
use Rattle.ql_lex.specs.Bytes.{is_digit}
use Rattle.ql_lex.specs.Numbers.{value_from, are_digits, base_of, digits_of, has_digits, number_value, is_number}

-- each byte is a decimal digit
abbrev pub are_decimal : List ℕ → Bool
are_decimal ds = list_all is_digit ds

pub both_true : (a b : Bool) → (a && b) ≡ true → (a ≡ true) × (b ≡ true)
both_true true b e = (refl, e)
both_true false b e = cc

and_true : (a b : Bool) → a ≡ true → b ≡ true → (a && b) ≡ true
and_true a b e f = rw (e, f) refl

digits_test : IsDigitsTest (λ ds. are_decimal ds ≡ true)
digits_test = record {
  empty = refl;
  parts = λ c cs e.
      let h = both_true (is_digit c) (are_decimal cs) e in
      let k = both_true (nat_le 48 c) (nat_le c 57) h.0 in
      ((leb-true 48 c k.0, leb-true c 57 k.1), h.1);
  more = λ c cs k e. and_true (is_digit c) (are_decimal cs) (and_true (nat_le 48 c) (nat_le c 57) (le-leb 48 c k.0) (le-leb c 57 k.1)) e;
}

folds : FoldsDigits (value_from 10)
folds = record {
  empty = λ n. refl;
  more = λ n c cs k. let e : digit_value c ≡ c - 48 = omega (arith, digit_value_digit c k) in ap (λ (d : ℕ). value_from 10 (n * 10 + d) cs) e;
}

model : IsNumeralModel (λ ds. are_decimal ds ≡ true) (value_from 10 0)
model = numerals_by_fold (λ ds. are_decimal ds ≡ true) digits_test (value_from 10) folds

pub decimal_digits : (n : ℕ) → n < 2 ^ 64 → are_decimal (decimal n) ≡ true
decimal_digits n l = digits_decimal model n l

-- decimal digits are digits in base 10
in_base : (ds : List ℕ) → are_decimal ds ≡ true → are_digits 10 ds ≡ true
in_base [] e = refl
in_base (c ∷ cs) e =
    let h = both_true (is_digit c) (are_decimal cs) e in
    let k = both_true (nat_le 48 c) (nat_le c 57) h.0 in
    let d = digit_value_digit c (leb-true 48 c k.0, leb-true c 57 k.1) in
    and_true (char.is_digit c 10) (are_digits 10 cs) (lt-ltb (digit_value c) 10 (omega (arith, d, leb-true c 57 k.1))) (in_base cs h.1)

-- what is read of digits of which the first is not 0
pub record IsNumberOf (n : ℕ) (ds : List ℕ) : Type 0 where
  pub worth : number_value ds ≡ n
  pub is : is_number ds ≡ true

not_zero : (ds : List ℕ) (n d : ℕ) (more : List ℕ) → ds ≡ d ∷ more → (d == 48) ≡ false → are_decimal ds ≡ true → value_from 10 0 ds ≡ n → n < 2 ^ 64 → IsNumberOf n ds
not_zero ds n d more s z e v l =
    let base : base_of ds ≡ 10 = rw (s, z) refl in
    let all : digits_of ds ≡ ds = rw (s, z) refl in
    let worth : number_value ds ≡ n = rw (base, all) v in
    let small : nat_lt (number_value ds) (2 ^ 64) ≡ true = lt-ltb (number_value ds) (2 ^ 64) (omega (arith, worth, l)) in
    let digits : are_digits (base_of ds) (digits_of ds) ≡ true = rw (base, all) (in_base ds e) in
    let some : has_digits (base_of ds) (digits_of ds) ≡ true = rw (base, all, s) refl in
    record { worth = worth; is = and_true _ _ (and_true _ _ digits some) small }

zero_again : (ds : List ℕ) → ds ≡ 48 ∷ [] → IsNumberOf 0 ds
zero_again ds e = rw e (record { worth = refl; is = refl })

differs : (a b : ℕ) (v : Bool) → (a == b) ≡ v → b < a → v ≡ false
differs a b true e l = absurd (omega (arith, eqb-true a b e, l))
differs a b false e l = refl

of_shape : (ds : List ℕ) (n : ℕ) → 0 < n → 0 < length ds → 48 < get_or ds 0 0 → are_decimal ds ≡ true → value_from 10 0 ds ≡ n → n < 2 ^ 64 → IsNumberOf n ds
of_shape [] n some long first e v l = absurd (omega (arith, long))
of_shape (d ∷ more) n some long first e v l = not_zero (d ∷ more) n d more refl (differs d 48 (d == 48) refl first) e v l

by_size : (n : ℕ) → n < 2 ^ 64 → IsNumberOf n (decimal n)
by_size zero l = zero_again (decimal zero) (decimal_digit zero (omega arith))
by_size (suc n) l = of_shape (decimal (suc n)) (suc n) (omega arith) (decimal_nonempty (suc n) l) (first_decimal (suc n) (omega arith) l) (decimal_digits (suc n) l) (digits_value-decimal model (suc n) l) l

-- a printed number is worth what it was printed from
pub number_again : (n : ℕ) → n < 2 ^ 64 → number_value (decimal n) ≡ n
number_again n l = (by_size n l).worth

-- a printed number is a number
pub number_is : (n : ℕ) → n < 2 ^ 64 → is_number (decimal n) ≡ true
number_is n l = (by_size n l).is
