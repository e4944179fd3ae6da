-- A batch that grows by a piece.
use Rattle.std.proofs.Common.{◌≡◌, ℕ, ◌+◌, ◌≤◌, max, List, [], ◌∷◌, ◌++◌, length, refl, arith, sym, ◌∙◌, ap, subst}
use Rattle.lldb_base.specs.declared.batch.Piece.{Piece}
use Rattle.lldb_base.specs.Batch.{Edits, CanTake, LeaveNoGap, cost, end_of, reach}
use Rattle.test_commits.specs.Grown.{IsGrown}

end_push : (start : ℕ) (ps : List Piece) (p : Piece) → end_of start (ps ++ p ∷ []) ≡ p.place + length p.bytes
end_push start [] p = refl
end_push start (q ∷ ps) p = end_push (q.place + length q.bytes) ps p

cost_push : (ps : List Piece) (p : Piece) → cost (ps ++ p ∷ []) ≡ cost ps + length p.bytes + 12
cost_push [] p = omega arith
cost_push (q ∷ ps) p = let rest = cost_push ps p in omega (arith, rest)

reach_push : (shift size : ℕ) (ps : List Piece) (p : Piece) → reach shift size (ps ++ p ∷ []) ≡ max (reach shift size ps) (shift + p.place + length p.bytes)
reach_push shift size [] p = refl
reach_push shift size (q ∷ ps) p = reach_push shift (max size (shift + q.place + length q.bytes)) ps p

gapless_push : (shift size : ℕ) (ps : List Piece) (p : Piece) → LeaveNoGap 16 shift size ps → 16 ≤ shift + p.place → shift + p.place ≤ reach shift size ps → LeaveNoGap 16 shift size (ps ++ p ∷ [])
gapless_push shift size [] p gapless floor within = (floor, within, tt)
gapless_push shift size (q ∷ ps) p gapless floor within = (gapless.0, gapless.1, gapless_push shift (max size (shift + q.place + length q.bytes)) ps p gapless.2 floor within)

-- with a piece more
pub grown_push : (shift size far end spent most : ℕ) (ps qs : List Piece) (p : Piece) → qs ≡ ps ++ p ∷ [] → most ≡ max far (shift + p.place + length p.bytes) → IsGrown shift size far end spent ps → 16 ≤ shift + p.place → shift + p.place ≤ far → IsGrown shift size most (p.place + length p.bytes) (spent + (length p.bytes + 12)) qs
grown_push shift size far end spent most ps qs p same reaches grown floor within = rw same (record {
  reaches = reaches ∙ ap (λ n. max n (shift + p.place + length p.bytes)) grown.reaches ∙ sym (reach_push shift size ps p);
  ends = sym (end_push 0 ps p);
  takes = let counted = cost_push ps p in omega (arith, counted, grown.takes);
  gapless = gapless_push shift size ps p grown.gapless floor (subst (λ n. shift + p.place ≤ n) grown.reaches within);
})

-- a batch that a content can take
pub grown_taken : (shift size far end spent : ℕ) (batch : Edits) → IsGrown shift size far end spent batch.pieces → 16 ≤ shift + batch.size → shift + batch.size ≤ far → CanTake 16 shift size batch
grown_taken shift size far end spent batch grown floor within = record {
  gapless = grown.gapless;
  floor_of_size = floor;
  covered = subst (λ n. shift + batch.size ≤ n) grown.reaches within;
}
