-- Writing a piece within bytes that are put together from parts.
use Rattle.std.proofs.Common.{◌≡◌, ℕ, zero, suc, ◌+◌, ◌-◌, ◌*◌, ◌^◌, ◌<◌, ◌≤◌, List, ◌++◌, length, get_or, take, drop, refl, sym, ◌∙◌, ap, ap₂, arith, append_assoc, append-nil, length-append, length-take, length-drop, take-add, drop_at, take_at, drop-drop}
use Rattle.std.proofs.lemmas.List.{take-append-le, drop-append-le, take_all, drop_all, get_or_append_left, get_or-append_right, get_or-take, get_or-drop}
use Rattle.byteorder.specs.Endian.{big_from}
use Rattle.lldb_base.specs.Batch.{put}
use Rattle.lldb_atoms.specs.Numbers.{number_in}

same_from : (i n : ℕ) (xs ys : List ℕ) → ((k : ℕ) → k < i + n → get_or xs k 0 ≡ get_or ys k 0) → big_from i n xs ≡ big_from i n ys
same_from i zero xs ys same = refl
same_from i (suc n) xs ys same =
    ap₂ (λ (a b : ℕ). a * 256 ^ n + b) (same i (omega arith)) (same_from (suc i) n xs ys (λ k low. same k (omega (arith, low))))

-- a number is that of its bytes
pub same_number : (n : ℕ) (xs ys : List ℕ) → ((k : ℕ) → k < n → get_or xs k 0 ≡ get_or ys k 0) → number_in n xs ≡ number_in n ys
unfolding number_in
same_number n xs ys same = same_from 0 n xs ys (λ k low. same k (omega (arith, low)))

take_within : (a z : List ℕ) (j : ℕ) → take (length a + j) (a ++ z) ≡ a ++ take j z
take_within a z j =
    take-add (length a) j (a ++ z) ∙ ap₂ (λ (u v : List ℕ). u ++ take j v) (take_at a z (length a) refl) (drop_at a z (length a) refl)

drop_within : (a z : List ℕ) (j : ℕ) → drop (length a + j) (a ++ z) ≡ drop j z
drop_within a z j = sym (drop-drop j (length a) (a ++ z)) ∙ ap (drop j) (drop_at a z (length a) refl)

-- a piece behind a front
pub put_behind : (a z piece : List ℕ) (j : ℕ) → put (length a + j) piece (a ++ z) ≡ a ++ put j piece z
put_behind a z piece j =
    let tail : drop ((length a + j) + length piece) (a ++ z) ≡ drop (j + length piece) z = ap (λ (n : ℕ). drop n (a ++ z)) (omega arith) ∙ drop_within a z (j + length piece) in
    ap₂ (λ (u v : List ℕ). u ++ piece ++ v) (take_within a z j) tail ∙ ap (λ (u : List ℕ). u ++ drop (j + length piece) z) (append_assoc a (take j z) piece) ∙ append_assoc a (take j z ++ piece) (drop (j + length piece) z)

-- a piece within a front
pub put_front : (x y piece : List ℕ) (j : ℕ) → j + length piece ≤ length x → put j piece (x ++ y) ≡ put j piece x ++ y
put_front x y piece j within =
    ap₂ (λ (u v : List ℕ). u ++ piece ++ v) (take-append-le j x y (omega (arith, within))) (drop-append-le (j + length piece) x y within)
    ∙ sym (append_assoc (take j x ++ piece) (drop (j + length piece) x) y)

pub put_middle : (a x y piece : List ℕ) (j : ℕ) → j + length piece ≤ length x → put (length a + j) piece (a ++ (x ++ y)) ≡ a ++ (put j piece x ++ y)
put_middle a x y piece j within = put_behind a (x ++ y) piece j ∙ ap (λ (z : List ℕ). a ++ z) (put_front x y piece j within)

-- a piece at the front
pub put_start : (piece x : List ℕ) → put 0 piece x ≡ piece ++ drop (length piece) x
put_start piece x = ap (λ (n : ℕ). piece ++ drop n x) (omega arith)

-- a piece in the place of another of the same length
pub put_over : (a old new z : List ℕ) → length new ≡ length old → put (length a) new (a ++ (old ++ z)) ≡ a ++ (new ++ z)
put_over a old new z same =
    ap (λ (n : ℕ). put n new (a ++ (old ++ z))) (omega arith) ∙ put_behind a (old ++ z) new 0
    ∙ ap (λ (u : List ℕ). a ++ u) (put_start new (old ++ z))
    ∙ ap (λ (u : List ℕ). a ++ (new ++ u)) (ap (λ (n : ℕ). drop n (old ++ z)) same ∙ drop_at old z (length old) refl)

-- a piece in the place of all
pub put_whole : (piece x : List ℕ) → length piece ≡ length x → put 0 piece x ≡ piece
put_whole piece x same = put_start piece x ∙ ap (λ (u : List ℕ). piece ++ u) (drop_all (length piece) x (omega (arith, same))) ∙ append-nil piece

-- a piece at the end
pub put_end : (a piece : List ℕ) → put (length a) piece a ≡ a ++ piece
put_end a piece =
    ap₂ (λ (u v : List ℕ). u ++ piece ++ v) (take_all (length a) a (omega arith)) (drop_all (length a + length piece) a (omega arith)) ∙ append-nil (a ++ piece)

pub length_put : (at : ℕ) (piece bytes : List ℕ) → at + length piece ≤ length bytes → length (put at piece bytes) ≡ length bytes
length_put at piece bytes within = simp (length-append, length-take, length-drop) (omega (arith, within))

-- the bytes before, in and behind a piece
pub byte_before : (at : ℕ) (piece bytes : List ℕ) (i : ℕ) → at ≤ length bytes → i < at → get_or (put at piece bytes) i 0 ≡ get_or bytes i 0
byte_before at piece bytes i within before =
    let front : length (take at bytes) ≡ at = length-take at bytes ∙ omega (arith, within) in
    ap (λ (u : List ℕ). get_or u i 0) (append_assoc (take at bytes) piece (drop (at + length piece) bytes))
    ∙ get_or_append_left (take at bytes) (piece ++ drop (at + length piece) bytes) 0 i (omega (arith, front, before))
    ∙ get_or-take at bytes i 0 before

pub byte_behind : (at : ℕ) (piece bytes : List ℕ) (i : ℕ) → at ≤ length bytes → at + length piece ≤ i → get_or (put at piece bytes) i 0 ≡ get_or bytes i 0
byte_behind at piece bytes i within behind =
    let front : length (take at bytes) ≡ at = length-take at bytes ∙ omega (arith, within) in
    let whole : length (take at bytes ++ piece) ≡ at + length piece = length-append (take at bytes) piece ∙ omega (arith, front) in
    get_or-append_right (take at bytes ++ piece) (drop (at + length piece) bytes) (at + length piece) i 0 whole behind
    ∙ get_or-drop (at + length piece) bytes (i - (at + length piece)) 0
    ∙ ap (λ (n : ℕ). get_or bytes n 0) (omega (arith, behind))

pub drop_put : (at : ℕ) (piece bytes : List ℕ) → at ≤ length bytes → drop at (put at piece bytes) ≡ piece ++ drop (at + length piece) bytes
drop_put at piece bytes within =
    let front : length (take at bytes) ≡ at = length-take at bytes ∙ omega (arith, within) in
    ap (drop at) (append_assoc (take at bytes) piece (drop (at + length piece) bytes)) ∙ drop_at (take at bytes) (piece ++ drop (at + length piece) bytes) at front
