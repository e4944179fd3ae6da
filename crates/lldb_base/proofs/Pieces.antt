-- Pieces at rising places.
use Rattle.std.proofs.Common.{◌≡◌, ℕ, ◌+◌, ◌^◌, ◌<◌, ◌≤◌, max, List, [], ◌∷◌, ◌++◌, length, refl, arith, drop, get_or, sym, ◌∙◌, ap, subst}
use Rattle.std.proofs.lemmas.List.{drop_more}
use Rattle.lldb_base.specs.declared.batch.Piece.{Piece}
use Rattle.lldb_base.specs.Batch.{Edits, IsBatch, AreRising, end_of, bytes_of, cost, LeaveNoGap, CanTake, reach}

pub rising_push : (start : ℕ) (ps : List Piece) (p : Piece) → AreRising start ps → end_of start ps ≤ p.place → 1 ≤ length p.bytes → length p.bytes ≤ 65536 → AreRising start (ps ++ p ∷ [])
rising_push start [] p rising behind some most = (behind, some, most, tt)
rising_push start (q ∷ ps) p rising behind some most = (rising.0, rising.1, rising.2, rising_push (q.place + length q.bytes) ps p rising.3 behind some most)

pub end_push : (start : ℕ) (ps : List Piece) (p : Piece) → end_of start (ps ++ p ∷ []) ≡ p.place + length p.bytes
end_push start [] p = refl
end_push start (q ∷ ps) p = end_push (q.place + length q.bytes) ps p

pub cost_push : (ps : List Piece) (p : Piece) → cost (ps ++ p ∷ []) ≡ cost ps + length p.bytes + 12
cost_push [] p = omega arith
cost_push (q ∷ ps) p = let rest = cost_push ps p in omega (arith, rest)

pub bytes_within_cost : (ps : List Piece) → bytes_of ps ≤ cost ps
bytes_within_cost [] = omega arith
bytes_within_cost (p ∷ ps) = let rest = bytes_within_cost ps in omega (arith, rest)

-- a batch with a piece more is one
pub batch_push : (batch : Edits) (ps : List Piece) (size : ℕ) (p : Piece) → ◌≡◌ {A = Edits} (record { pieces = ps; size = size }) batch → IsBatch (record { pieces = ps; size = size }) → end_of 0 batch.pieces ≤ p.place → 1 ≤ length p.bytes → length p.bytes ≤ 65536 → p.place + length p.bytes ≤ batch.size → cost batch.pieces + length p.bytes + 12 ≤ 2 ^ 61 → IsBatch (record { pieces = ps ++ p ∷ []; size = size })
batch_push batch ps size p same made behind some most within room = record {
  rising = rising_push 0 ps p made.rising (subst (λ (b : Edits). end_of 0 b.pieces ≤ p.place) (sym same) behind) some most;
  within = rw (end_push 0 ps p) (subst (λ (b : Edits). p.place + length p.bytes ≤ b.size) (sym same) within);
  room = rw (cost_push ps p) (subst (λ (b : Edits). cost b.pieces + length p.bytes + 12 ≤ 2 ^ 61) (sym same) room);
}

-- what a batch reaches is no further than its pieces are long
pub reach_within : (floor shift size : ℕ) (ps : List Piece) → LeaveNoGap floor shift size ps → reach shift size ps ≤ size + cost ps
reach_within floor shift size [] gapless = omega arith
reach_within floor shift size (p ∷ ps) gapless = let rest = reach_within floor shift (max size (shift + p.place + length p.bytes)) ps gapless.2 in omega (arith, rest, gapless.1)

pub end_within : (floor shift size most : ℕ) (batch : Edits) → CanTake floor shift size batch → size ≤ most → shift + batch.size ≤ most + cost batch.pieces
end_within floor shift size most batch can within = let far = reach_within floor shift size batch.pieces can.gapless in omega (arith, far, can.covered, within)

-- a piece more is counted, and the count fits a batch's room
pub piece_counted : (before at : ℕ) (ps : List Piece) (p : Piece) → at < length ps → get_or ps at p ≡ p → before + bytes_of (drop at ps) ≡ bytes_of ps → cost ps ≤ 2 ^ 61 → before + length p.bytes < 2 ^ 64
piece_counted before at ps p within here counted room =
    let all = bytes_within_cost ps in
    let split : drop at ps ≡ p ∷ drop (at + 1) ps = drop_more ps at p within ∙ ap (λ (q : Piece). q ∷ drop (at + 1) ps) here in
    let sum : before + (length p.bytes + bytes_of (drop (at + 1) ps)) ≡ bytes_of ps = ap (λ (qs : List Piece). before + bytes_of qs) (sym split) ∙ counted in
    omega (arith, sum, room, all)
