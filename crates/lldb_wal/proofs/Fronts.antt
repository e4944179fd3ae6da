-- A front of bytes in which a longest piece would be whole says of the first piece what all the bytes say.
use Rattle.std.proofs.Common.{◌≡◌, ℕ, ◌+◌, ◌-◌, ◌^◌, ◌≤◌, ◌⊎◌, min, Bool, true, false, ◌&&◌, List, length, take, drop, refl, sym, ap, subst, ◌∙◌, arith, length-drop, length-take, inl, inr}
use Rattle.std.specs.Prelude.{nat_le}
use Rattle.std.specs.Int.{Width, w32, w64, byte_len, from_be_bytes}
use Rattle.std.proofs.lemmas.Bool.{cases_lt}
use Rattle.std.proofs.lemmas.Bool.Decides.{nat_tests}
use Rattle.std.proofs.lemmas.List.{drop-drop, drop-take, take-take, take_all}
use Rattle.lldb_base.specs.declared.batch.Piece.{Piece}
use Rattle.lldb_wal.specs.Fields.{number, has, may_begin, may_hold, may_become, is_place, is_length, is_whole, is_size, piece_at}
use Rattle.lldb_wal.specs.Log.{Stands, SpoilsPiece}
use Rattle.lldb_wal.specs.Parts.{IsFront, IsPart}

least : (a b : ℕ) → a ≤ b → min a b ≡ a
least a b within = omega (arith, within)

-- n bytes of a front from a place on are those of all the bytes
slice_front : (at n k : ℕ) (rest : List ℕ) → at + n ≤ k → take n (drop at (take k rest)) ≡ take n (drop at rest)
slice_front at n k rest within =
    let split : k ≡ at + (k - at) = omega (arith, within) in
    let cut : take n (drop at (take k rest)) ≡ take n (take (k - at) (drop at rest)) = ap (λ (m : ℕ). take n (drop at (take m rest))) split ∙ ap (λ (bs : List ℕ). take n bs) (drop-take at (k - at) rest) in
    cut ∙ take-take n (k - at) (drop at rest) (omega (arith, within))

fits : (n total : ℕ) → n ≤ total → nat_le n total ≡ true
fits n total within = grind (arith, nat_tests)

has_front : (n k : ℕ) (rest : List ℕ) → n ≤ k → k ≤ length rest → has n 0 (take k rest) ≡ has n 0 rest
has_front n k rest within inside =
    let few : length (take k rest) ≡ k = length-take k rest ∙ least k (length rest) inside in
    ap (λ (m : ℕ). nat_le (0 + n) m) few ∙ fits (0 + n) k (omega (arith, within)) ∙ sym (fits (0 + n) (length rest) (omega (arith, within, inside)))

pub number_front : (w : Width) (at k : ℕ) (rest : List ℕ) → at + byte_len w ≤ k → number w at (take k rest) ≡ number w at rest
number_front w at k rest within = ap (from_be_bytes w) (slice_front at (byte_len w) k rest within)

place_front : (size last k : ℕ) (rest : List ℕ) → 12 ≤ k → k ≤ length rest → is_place size last 0 (take k rest) ≡ is_place size last 0 rest
place_front size last k rest within inside =
    ap (λ (b : Bool). b && may_begin size last (number w64 0 (take k rest))) (has_front 8 k rest (omega (arith, within)) inside)
    ∙ ap (λ (n : ℕ). has 8 0 rest && may_begin size last n) (number_front w64 0 k rest (omega (arith, within)))

length_front : (k : ℕ) (rest : List ℕ) → 12 ≤ k → k ≤ length rest → is_length 0 (take k rest) ≡ is_length 0 rest
length_front k rest within inside =
    ap (λ (b : Bool). b && may_hold (number w64 0 (take k rest)) (number w32 8 (take k rest))) (has_front 12 k rest within inside)
    ∙ ap (λ (n : ℕ). has 12 0 rest && may_hold n (number w32 8 (take k rest))) (number_front w64 0 k rest (omega (arith, within)))
    ∙ ap (λ (n : ℕ). has 12 0 rest && may_hold (number w64 0 rest) n) (number_front w32 8 k rest (omega (arith, within)))

second : (a b : Bool) → (a && b) ≡ true → b ≡ true
second true b both = both
second false b both = absurd cc

first : (a b : Bool) → (a && b) ≡ true → a ≡ true
first true b both = refl
first false b both = absurd cc

held_under : (n most : ℕ) → nat_le n most ≡ true → n ≤ most
held_under n most kept = grind (arith, nat_tests)

-- a length that keeps its rules is at most 65,536
within_most : (rest : List ℕ) → is_length 0 rest ≡ true → number w32 8 rest ≤ 65536
within_most rest kept =
    let rules : may_hold (number w64 0 rest) (number w32 8 rest) ≡ true = second (has 12 0 rest) (may_hold (number w64 0 rest) (number w32 8 rest)) kept in
    held_under (number w32 8 rest) 65536 (second (nat_le 1 (number w32 8 rest)) (nat_le (number w32 8 rest) 65536) (first (nat_le 1 (number w32 8 rest) && nat_le (number w32 8 rest) 65536) (nat_le (number w64 0 rest + number w32 8 rest) (2 ^ 60 + 16)) rules))

whole_front : (k : ℕ) (rest : List ℕ) → 65548 ≤ k → k ≤ length rest → is_length 0 rest ≡ true → is_whole 0 (take k rest) ≡ is_whole 0 rest
whole_front k rest within inside kept =
    ap (λ (n : ℕ). has (12 + n) 0 (take k rest)) (number_front w32 8 k rest (omega (arith, within)))
    ∙ has_front (12 + number w32 8 rest) k rest (omega (arith, within, within_most rest kept)) inside

piece_front : (k : ℕ) (rest : List ℕ) → 65548 ≤ k → is_length 0 rest ≡ true → piece_at 0 (take k rest) ≡ piece_at 0 rest
piece_front k rest within kept =
    let same : take (number w32 8 rest) (drop 12 (take k rest)) ≡ take (number w32 8 rest) (drop 12 rest) = slice_front 12 (number w32 8 rest) k rest (omega (arith, within, within_most rest kept)) in
    rw (number_front w64 0 k rest (omega (arith, within)), number_front w32 8 k rest (omega (arith, within)), same) refl

front_cases : (front rest : List ℕ) → IsFront front rest → (front ≡ rest) ⊎ ((65548 ≤ length front) × (length front ≤ length rest))
front_cases front rest f =
    let short : length front ≡ min (length front) (length rest) = ap (λ (bs : List ℕ). length bs) f.is ∙ length-take (length front) rest in
    elim (cases_lt (length front) (length rest)) [
      | inl less ↦ inr (omega (arith, f.enough, less), omega (arith, less))
      | inr more ↦ inl (f.is ∙ take_all (length front) rest more)
    ]

long_stands : (size last : ℕ) (p : Piece) (k : ℕ) (rest : List ℕ) → 65548 ≤ k → k ≤ length rest → Stands size last p 0 (take k rest) → Stands size last p 0 rest
long_stands size last p k rest within inside s =
    let kept : is_length 0 rest ≡ true = sym (length_front k rest (omega (arith, within)) inside) ∙ s.length_kept in
    record {
      place_kept = sym (place_front size last k rest (omega (arith, within)) inside) ∙ s.place_kept;
      length_kept = kept;
      whole = sym (whole_front k rest within inside kept) ∙ s.whole;
      is = s.is ∙ piece_front k rest within kept;
    }

pub stands_front : (size last : ℕ) (p : Piece) (front rest : List ℕ) → IsFront front rest → Stands size last p 0 front → Stands size last p 0 rest
stands_front size last p front rest f s = elim (front_cases front rest f) [
  | inl same ↦ subst (λ (bs : List ℕ). Stands size last p 0 bs) same s
  | inr long ↦ long_stands size last p (length front) rest long.0 long.1 (subst (λ (bs : List ℕ). Stands size last p 0 bs) f.is s)
]

long_spoils : (size last place k : ℕ) (rest : List ℕ) → 65548 ≤ k → k ≤ length rest → SpoilsPiece size last 0 (take k rest) place → SpoilsPiece size last 0 rest place
long_spoils size last _ k rest within inside (SpoilsPiece.bad_place not) = SpoilsPiece.bad_place (sym (place_front size last k rest (omega (arith, within)) inside) ∙ not)
long_spoils size last _ k rest within inside (SpoilsPiece.bad_length kept not) =
    SpoilsPiece.bad_length (sym (place_front size last k rest (omega (arith, within)) inside) ∙ kept) (sym (length_front k rest (omega (arith, within)) inside) ∙ not)
long_spoils size last _ k rest within inside (SpoilsPiece.bad_bytes kept also not) =
    let held : is_length 0 rest ≡ true = sym (length_front k rest (omega (arith, within)) inside) ∙ also in
    SpoilsPiece.bad_bytes (sym (place_front size last k rest (omega (arith, within)) inside) ∙ kept) held (sym (whole_front k rest within inside held) ∙ not)

pub spoils_front : (size last place : ℕ) (front rest : List ℕ) → IsFront front rest → SpoilsPiece size last 0 front place → SpoilsPiece size last 0 rest place
spoils_front size last place front rest f s = elim (front_cases front rest f) [
  | inl same ↦ subst (λ (bs : List ℕ). SpoilsPiece size last 0 bs place) same s
  | inr long ↦ long_spoils size last place (length front) rest long.0 long.1 (subst (λ (bs : List ℕ). SpoilsPiece size last 0 bs place) f.is s)
]

-- what a part has from a place on is a front of what the log has from there on
pub part_front : (log part : List ℕ) (from at : ℕ) → IsPart log part from → from ≤ at → at ≤ from + length part → min (at + 65548) (length log) ≤ from + length part
    → IsFront (drop (at - from) part) (drop at log)
part_front log part from at p behind inside most =
    let rest : length (drop (at - from) part) ≡ length part - (at - from) = length-drop (at - from) part in
    let split : length part ≡ (at - from) + length (drop (at - from) part) = omega (arith, rest, behind, inside) in
    let whole : part ≡ take ((at - from) + length (drop (at - from) part)) (drop from log) = p.is ∙ ap (λ (n : ℕ). take n (drop from log)) split in
    let back : drop (at - from) part ≡ drop (at - from) (take ((at - from) + length (drop (at - from) part)) (drop from log)) = ap (λ (bs : List ℕ). drop (at - from) bs) whole in
    let joined : drop (at - from) (drop from log) ≡ drop at log = drop-drop (at - from) from log ∙ ap (λ (n : ℕ). drop n log) (omega (arith, behind)) in
    record {
      is = back ∙ drop-take (at - from) (length (drop (at - from) part)) (drop from log) ∙ ap (λ (bs : List ℕ). take (length (drop (at - from) part)) bs) joined;
      enough = omega (arith, rest, behind, inside, most, length-drop at log);
    }

pub all_front : (bytes rest : List ℕ) → bytes ≡ rest → IsFront bytes rest
all_front bytes rest same = let n : length bytes ≡ length rest = ap (λ (bs : List ℕ). length bs) same in record {
  is = same ∙ sym (take_all (length bytes) rest (omega (arith, n)));
  enough = omega (arith, n);
}

pub front_short : (front rest : List ℕ) → IsFront front rest → length front ≤ length rest
front_short front rest f =
    let short : length front ≡ min (length front) (length rest) = ap (λ (bs : List ℕ). length bs) f.is ∙ length-take (length front) rest in
    omega (arith, short)

pub number_of_front : (front rest : List ℕ) → IsFront front rest → 8 ≤ length front → number w64 0 front ≡ number w64 0 rest
number_of_front front rest f whole = ap (λ (bs : List ℕ). number w64 0 bs) f.is ∙ number_front w64 0 (length front) rest (omega (arith, whole))

long_size : (size last k : ℕ) (rest : List ℕ) → 65548 ≤ k → k ≤ length rest → is_size size last 0 (take k rest) ≡ is_size size last 0 rest
long_size size last k rest within inside =
    ap (λ (b : Bool). b && may_become size last (number w64 0 (take k rest))) (has_front 8 k rest (omega (arith, within)) inside)
    ∙ ap (λ (n : ℕ). has 8 0 rest && may_become size last n) (number_front w64 0 k rest (omega (arith, within)))

pub size_front : (size last : ℕ) (front rest : List ℕ) → IsFront front rest → is_size size last 0 front ≡ is_size size last 0 rest
size_front size last front rest f = elim (front_cases front rest f) [
  | inl same ↦ ap (is_size size last 0) same
  | inr long ↦ ap (is_size size last 0) f.is ∙ long_size size last (length front) rest long.0 long.1
]
