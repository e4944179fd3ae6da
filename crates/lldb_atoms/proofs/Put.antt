-- Pieces written one behind the other.
use Rattle.std.proofs.Common.{◌≡◌, ℕ, ◌+◌, ◌-◌, List, [], ◌∷◌, ◌++◌, length, take, drop, refl, sym, ap, ◌∙◌, length-append, arith}
use Rattle.std.proofs.lemmas.List.{take_at, drop-drop}
use Rattle.std.proofs.Math.Seq.{drop-append-add}
use Rattle.lldb_base.specs.Batch.{put}
use Rattle.lldb_atoms.specs.declared.block.Block.TheVariants as block
use Rattle.lldb_atoms.specs.Numbers.{as_bytes}
use Rattle.lldb_atoms.specs.Heads.{head_of}
use Rattle.lldb_atoms.proofs.AsBytes.{length-as_bytes}

-- behind what is written, the next piece
pub goes_on : (at size : ℕ) (done piece old now : List ℕ) → length done ≡ at → length piece ≡ size → now ≡ done ++ drop at old → put at piece now ≡ (done ++ piece) ++ drop (at + size) old
goes_on at size done piece old now here long is =
    let front : take at (done ++ drop at old) ≡ done = take_at done (drop at old) at here in
    let rest : drop (length done + length piece) (done ++ drop at old) ≡ drop (length piece) (drop at old) = drop-append-add done (drop at old) (length piece) in
    let after : drop (length piece) (drop at old) ≡ drop (at + length piece) old = drop-drop (length piece) at old in
    let place : at + length piece ≡ length done + length piece = ap (λ (n : ℕ). n + length piece) (sym here) in
    ap (put at piece) is
    ∙ ap (λ (z : List ℕ). (z ++ piece) ++ drop (at + length piece) (done ++ drop at old)) front
    ∙ ap (λ (z : List ℕ). (done ++ piece) ++ z) (ap (λ (n : ℕ). drop n (done ++ drop at old)) place ∙ rest ∙ after ∙ ap (λ (n : ℕ). drop (at + n) old) long)

pub begun : (piece old : List ℕ) → put 0 piece old ≡ piece ++ drop (length piece) old
begun piece old = ap (λ (n : ℕ). piece ++ drop n old) (omega arith)

-- the same in terms of what is there afterwards, a front of the bytes that are to be
next : (at size to : ℕ) (done piece old before now all : List ℕ) → to ≡ at + size → length done ≡ at → length piece ≡ size → before ≡ done ++ drop at old → now ≡ put at piece before → done ++ piece ≡ all → now ≡ all ++ drop to old
next at size to done piece old before now all sum here long is made same =
    made ∙ goes_on at size done piece old before here long is ∙ ap (λ (z : List ℕ). z ++ drop (at + size) old) same ∙ ap (λ (n : ℕ). all ++ drop n old) (sym sum)

first : (b : ℕ) (piece old now : List ℕ) → piece ≡ b ∷ [] → now ≡ put 0 piece old → now ≡ (b ∷ []) ++ drop 1 old
first b piece old now is made = made ∙ ap (λ (z : List ℕ). put 0 z old) is ∙ begun (b ∷ []) old

-- the length of a front of a head
front_long : (b n x : ℕ) → length ((b ∷ []) ++ as_bytes n x) ≡ 1 + n
front_long b n x = omega (arith, length-as_bytes n x)

-- what is written of each head, piece by piece
pub wrote_short : (n : ℕ) (piece old now : List ℕ) → piece ≡ n ∷ [] → now ≡ put 0 piece old → now ≡ head_of (block.Short n) ++ drop (length (head_of (block.Short n))) old
wrote_short n piece old now is made = first n piece old now is made

length_long : (n : ℕ) → length (head_of (block.Long n)) ≡ 3
length_long n = omega (arith, length-as_bytes 2 (n - 252))

pub wrote_long : (n : ℕ) (old one two : List ℕ) → one ≡ put 0 (252 ∷ []) old → two ≡ put 1 (as_bytes 2 (n - 252)) one → two ≡ head_of (block.Long n) ++ drop (length (head_of (block.Long n))) old
wrote_long n old one two first_is second_is =
    next 1 2 _ (252 ∷ []) (as_bytes 2 (n - 252)) old one two (head_of (block.Long n)) (length_long n) refl (length-as_bytes 2 (n - 252)) (first 252 _ old one refl first_is) second_is refl

length_relocated : (t : ℕ) → length (head_of (block.Relocated t)) ≡ 16
length_relocated t = simp length-append (omega (arith, length-as_bytes 7 t))

pub wrote_relocated : (t : ℕ) (old one two three : List ℕ) → one ≡ put 0 (253 ∷ []) old → two ≡ put 1 (as_bytes 7 t) one → three ≡ put 8 (0 ∷ 0 ∷ 0 ∷ 0 ∷ 0 ∷ 0 ∷ 0 ∷ 0 ∷ []) two
    → three ≡ head_of (block.Relocated t) ++ drop (length (head_of (block.Relocated t))) old
wrote_relocated t old one two three first_is second_is third_is =
    let two_done : two ≡ ((253 ∷ []) ++ as_bytes 7 t) ++ drop 8 old =
    next 1 7 8 (253 ∷ []) (as_bytes 7 t) old one two _ refl refl (length-as_bytes 7 t) (first 253 _ old one refl first_is) second_is refl in
    next 8 8 _ ((253 ∷ []) ++ as_bytes 7 t) (0 ∷ 0 ∷ 0 ∷ 0 ∷ 0 ∷ 0 ∷ 0 ∷ 0 ∷ []) old two three (head_of (block.Relocated t)) (length_relocated t) (front_long 253 7 t) refl two_done third_is refl

length_two : (b p n : ℕ) → length (((b ∷ []) ++ as_bytes 7 p) ++ as_bytes 7 n) ≡ 15
length_two b p n = simp length-append (omega (arith, length-as_bytes 7 p, length-as_bytes 7 n))

wrote_two : (b p n : ℕ) (old one two three : List ℕ) → one ≡ put 0 (b ∷ []) old → two ≡ put 1 (as_bytes 7 p) one → three ≡ put 8 (as_bytes 7 n) two → three ≡ (((b ∷ []) ++ as_bytes 7 p) ++ as_bytes 7 n) ++ drop 15 old
wrote_two b p n old one two three first_is second_is third_is =
    let two_done : two ≡ ((b ∷ []) ++ as_bytes 7 p) ++ drop 8 old =
    next 1 7 8 (b ∷ []) (as_bytes 7 p) old one two _ refl refl (length-as_bytes 7 p) (first b _ old one refl first_is) second_is refl in
    next 8 7 15 ((b ∷ []) ++ as_bytes 7 p) (as_bytes 7 n) old two three _ refl (front_long b 7 p) (length-as_bytes 7 n) two_done third_is refl

length_one : (p n : ℕ) → length (head_of (block.FreeOne p n)) ≡ 16
length_one p n = simp length-append (omega (arith, length-as_bytes 7 p, length-as_bytes 7 n))

pub wrote_one : (p n : ℕ) (old one two three four : List ℕ) → one ≡ put 0 (254 ∷ []) old → two ≡ put 1 (as_bytes 7 p) one → three ≡ put 8 (as_bytes 7 n) two → four ≡ put 15 (254 ∷ []) three
    → four ≡ head_of (block.FreeOne p n) ++ drop (length (head_of (block.FreeOne p n))) old
wrote_one p n old one two three four first_is second_is third_is fourth_is =
    next 15 1 _ (((254 ∷ []) ++ as_bytes 7 p) ++ as_bytes 7 n) (254 ∷ []) old three four (head_of (block.FreeOne p n)) (length_one p n) (length_two 254 p n) refl
    (wrote_two 254 p n old one two three first_is second_is third_is) fourth_is refl

length_free : (a p n : ℕ) → length (head_of (block.Free a p n)) ≡ 22
length_free a p n = simp length-append (omega (arith, length-as_bytes 7 a, length-as_bytes 7 p, length-as_bytes 7 n))

pub wrote_free : (a p n : ℕ) (old one two three four : List ℕ) → one ≡ put 0 (255 ∷ []) old → two ≡ put 1 (as_bytes 7 a) one → three ≡ put 8 (as_bytes 7 p) two → four ≡ put 15 (as_bytes 7 n) three
    → four ≡ head_of (block.Free a p n) ++ drop (length (head_of (block.Free a p n))) old
wrote_free a p n old one two three four first_is second_is third_is fourth_is =
    next 15 7 _ (((255 ∷ []) ++ as_bytes 7 a) ++ as_bytes 7 p) (as_bytes 7 n) old three four (head_of (block.Free a p n)) (length_free a p n) (length_two 255 a p) (length-as_bytes 7 n)
    (wrote_two 255 a p old one two three first_is second_is third_is) fourth_is refl
