-- Numbers in bytes read back.
use Rattle.std.proofs.Common.{◌≡◌, ℕ, zero, suc, ◌^◌, get_or, ◌<◌, ◌≤◌, List, [], ◌∷◌, ◌++◌, length, take, drop, refl, sym, ap, ◌∙◌, arith}
use Rattle.std.proofs.lemmas.List.{drop_at}
use Rattle.std.specs.Int.{from_be_bytes, w16, w64}
use Rattle.std.proofs.lemmas.Nat.{be_bytes_2, be_bytes_8}
use Rattle.byteorder.specs.Numbers.{length-bytes_high_first, big_number-reads_back}
use Rattle.lldb_atoms.specs.Numbers.{as_bytes, number_in}

pub length-as_bytes : (n x : ℕ) → length (as_bytes n x) ≡ n
unfolding as_bytes
length-as_bytes n x = length-bytes_high_first n x

-- bytes that begin with a number
pub reads_back : (n x : ℕ) (rest : List ℕ) → x < 256 ^ n → number_in n (as_bytes n x ++ rest) ≡ x
unfolding as_bytes number_in
reads_back n x rest low = big_number-reads_back n x rest low

pub behind : (n x : ℕ) (rest : List ℕ) → drop n (as_bytes n x ++ rest) ≡ rest
behind n x rest = drop_at (as_bytes n x) rest n (length-as_bytes n x)

-- the number that bytes spell is the only one
pub same_number : (n x y : ℕ) → x < 256 ^ n → y < 256 ^ n → as_bytes n x ≡ as_bytes n y → x ≡ y
same_number n x y low high same = sym (reads_back n x [] low) ∙ ap (λ (z : List ℕ). number_in n (z ++ [])) same ∙ reads_back n y [] high

-- two numbers of seven bytes, one behind the other
pub two_read : (p n : ℕ) (rest bytes : List ℕ) → bytes ≡ as_bytes 7 p ++ (as_bytes 7 n ++ rest) → p < 2 ^ 56 → n < 2 ^ 56
    → (number_in 7 bytes ≡ p) × (number_in 7 (drop 7 bytes) ≡ n)
two_read p n rest bytes is low high = (
  ap (number_in 7) is ∙ reads_back 7 p (as_bytes 7 n ++ rest) low,
  ap (λ (z : List ℕ). number_in 7 (drop 7 z)) is ∙ ap (number_in 7) (behind 7 p (as_bytes 7 n ++ rest)) ∙ reads_back 7 n rest high,
)

-- each of these is a byte
record AreBytes (bytes : List ℕ) : Type 0 where
  below : (i : ℕ) → get_or bytes i 0 < 256

none_below : AreBytes []
none_below = record { below = λ i. omega arith }

put_before : (x : ℕ) (xs : List ℕ) → x < 256 → ((i : ℕ) → get_or xs i 0 < 256) → (i : ℕ) → get_or (x ∷ xs) i 0 < 256
put_before x xs low rest zero = low
put_before x xs low rest (suc i) = rest i

one_below : (x : ℕ) (xs : List ℕ) → x < 256 → AreBytes xs → AreBytes (x ∷ xs)
one_below x xs low rest = record { below = put_before x xs low rest.below }

pub two_spelled : (bytes : List ℕ) (n : ℕ) → 2 ≤ length bytes → ((i : ℕ) → get_or bytes i 0 < 256) → n ≡ from_be_bytes w16 (get_or bytes 0 0 ∷ get_or bytes 1 0 ∷ []) → as_bytes 2 n ≡ take 2 bytes
unfolding as_bytes
two_spelled [] n long fits is = absurd (omega arith)
two_spelled (a ∷ []) n long fits is = absurd (omega arith)
two_spelled (a ∷ b ∷ rest) n long fits is = let bytes : AreBytes (a ∷ b ∷ []) = one_below a _ (fits 0) (one_below b _ (fits 1) none_below) in
    be_bytes_2 (a ∷ b ∷ []) n refl bytes.below is

pub seven_spelled : (bytes : List ℕ) (n : ℕ) → 7 ≤ length bytes → ((i : ℕ) → get_or bytes i 0 < 256)
    → n ≡ from_be_bytes w64 (0 ∷ get_or bytes 0 0 ∷ get_or bytes 1 0 ∷ get_or bytes 2 0 ∷ get_or bytes 3 0 ∷ get_or bytes 4 0 ∷ get_or bytes 5 0 ∷ get_or bytes 6 0 ∷ [])
    → as_bytes 7 n ≡ take 7 bytes
unfolding as_bytes
seven_spelled [] n long fits is = absurd (omega arith)
seven_spelled (a ∷ []) n long fits is = absurd (omega arith)
seven_spelled (a ∷ b ∷ []) n long fits is = absurd (omega arith)
seven_spelled (a ∷ b ∷ c ∷ []) n long fits is = absurd (omega arith)
seven_spelled (a ∷ b ∷ c ∷ d ∷ []) n long fits is = absurd (omega arith)
seven_spelled (a ∷ b ∷ c ∷ d ∷ e ∷ []) n long fits is = absurd (omega arith)
seven_spelled (a ∷ b ∷ c ∷ d ∷ e ∷ f ∷ []) n long fits is = absurd (omega arith)
seven_spelled (a ∷ b ∷ c ∷ d ∷ e ∷ f ∷ g ∷ rest) n long fits is =
    let bytes : AreBytes (0 ∷ a ∷ b ∷ c ∷ d ∷ e ∷ f ∷ g ∷ []) =
    one_below 0 _ (omega arith) (one_below a _ (fits 0) (one_below b _ (fits 1) (one_below c _ (fits 2) (one_below d _ (fits 3) (one_below e _ (fits 4) (one_below f _ (fits 5) (one_below g _ (fits 6) none_below))))))) in
    ap (drop 1) (be_bytes_8 (0 ∷ a ∷ b ∷ c ∷ d ∷ e ∷ f ∷ g ∷ []) n refl bytes.below is)
