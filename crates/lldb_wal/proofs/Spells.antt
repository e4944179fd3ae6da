-- A batch that is spelled piece by piece.
use Rattle.std.proofs.Common.{◌≡◌, ℕ, ◌+◌, ◌*◌, ◌<◌, ◌≤◌, List, [], ◌∷◌, ◌++◌, length, drop, get_or, refl, sym, ap, subst, ◌∙◌, arith, append_assoc}
use Rattle.std.proofs.lemmas.List.{drop_more}
use Rattle.std.specs.Int.{w32, w64, to_be_bytes}
use Rattle.lldb_base.specs.declared.batch.Piece.{Piece}
use Rattle.lldb_base.specs.Batch.{Edits, IsBatch, AreRising, end_of, bytes_of, cost}
use Rattle.lldb_wal.specs.Spelling.{piece_bytes, pieces_bytes}

pub piece_added : (out first second third : List ℕ) (n k : ℕ) (bytes z : List ℕ) → first ≡ out ++ to_be_bytes w64 n → second ≡ first ++ to_be_bytes w32 k → third ≡ second ++ bytes → k ≡ length z → bytes ≡ z
    → third ≡ out ++ (to_be_bytes w64 n ++ to_be_bytes w32 (length z) ++ z)
piece_added out first second third n k bytes z p q r count same =
    let head : second ≡ out ++ (to_be_bytes w64 n ++ to_be_bytes w32 k) = q ∙ ap (λ (xs : List ℕ). xs ++ to_be_bytes w32 k) p ∙ append_assoc out (to_be_bytes w64 n) (to_be_bytes w32 k) in
    r ∙ ap (λ (xs : List ℕ). xs ++ bytes) head ∙ append_assoc out (to_be_bytes w64 n ++ to_be_bytes w32 k) bytes ∙ ap (λ (xs : List ℕ). out ++ (to_be_bytes w64 n ++ to_be_bytes w32 k ++ xs)) same
    ∙ ap (λ (m : ℕ). out ++ (to_be_bytes w64 n ++ to_be_bytes w32 m ++ z)) count

-- the piece of a turn, and those behind it
pub turn : (ps : List Piece) (i : ℕ) (p : Piece) → i < length ps → p ≡ get_or ps i p → drop i ps ≡ p ∷ drop (i + 1) ps
turn ps i p within is = drop_more ps i p within ∙ ap (λ (x : Piece). x ∷ drop (i + 1) ps) (sym is)

pub count_of_cost : (ps : List Piece) → 12 * length ps + bytes_of ps ≡ cost ps
count_of_cost [] = refl
count_of_cost (p ∷ ps) = let rest = count_of_cost ps in omega (arith, rest)

-- pieces that end by a place, and are short
abbrev pub AreShort : ℕ → List Piece → Type 0
AreShort most [] = Unit {0}
AreShort most (p ∷ ps) = (p.place + length p.bytes ≤ most) × (1 ≤ length p.bytes) × (length p.bytes ≤ 65536) × AreShort most ps

pub end_least : (start : ℕ) (ps : List Piece) → AreRising start ps → start ≤ end_of start ps
end_least start [] rising = omega arith
end_least start (p ∷ ps) rising = let rest = end_least (p.place + length p.bytes) ps rising.3 in omega (arith, rest, rising.0)

pub are_short : (start most : ℕ) (ps : List Piece) → AreRising start ps → end_of start ps ≤ most → AreShort most ps
are_short start most [] rising within = tt
are_short start most (p ∷ ps) rising within =
    (omega (arith, end_least (p.place + length p.bytes) ps rising.3, within), rising.1, rising.2, are_short (p.place + length p.bytes) most ps rising.3 within)

-- so many pieces are left to be spelled behind bytes
pub record Spells (shift most : ℕ) (head : List ℕ) (all left : List Piece) (out : List ℕ) : Type 0 where
  pub spelled : out ++ pieces_bytes shift left ≡ head ++ pieces_bytes shift all
  pub short : AreShort most left

pub first_spelled : (shift : ℕ) (batch : Edits) (ps : List Piece) (empty out : List ℕ) → IsBatch batch → ps ≡ batch.pieces → empty ≡ [] → out ≡ empty ++ to_be_bytes w64 (length ps) → Spells shift batch.size (to_be_bytes w64 (length ps)) ps ps out
first_spelled shift batch ps empty out made same none is = record {
  spelled = ap (λ (xs : List ℕ). xs ++ pieces_bytes shift ps) (is ∙ ap (λ (xs : List ℕ). xs ++ to_be_bytes w64 (length ps)) none);
  short = subst (λ (qs : List Piece). AreShort batch.size qs) (sym same) (are_short 0 batch.size batch.pieces made.rising made.within);
}

pub next_spelled : (shift most : ℕ) (head : List ℕ) (all : List Piece) (p : Piece) (old left : List Piece) (out now : List ℕ) → Spells shift most head all old out → old ≡ p ∷ left → now ≡ out ++ piece_bytes shift p → Spells shift most head all left now
next_spelled shift most head all p old left out now s split is = record {
  spelled = ap (λ (xs : List ℕ). xs ++ pieces_bytes shift left) is ∙ append_assoc out (piece_bytes shift p) (pieces_bytes shift left) ∙ ap (λ (ps : List Piece). out ++ pieces_bytes shift ps) (sym split) ∙ s.spelled;
  short = (subst (λ (ps : List Piece). AreShort most ps) split s.short).3;
}
