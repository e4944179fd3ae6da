-- What a log is by cases is what it is field by field.
use Rattle.std.proofs.Common.{◌≡◌, ◌≢◌, ℕ, suc, ◌+◌, ◌-◌, false, List, [], ◌∷◌, length, take, get_or, refl, ap, subst, ◌∙◌, arith, inl, inr}
use Rattle.std.specs.Prelude.{bytes_eq, nat_eq}
use Rattle.std.specs.Int.{w64}
use Rattle.std.proofs.lemmas.Bool.{cases_Bool, lt-ltb, le-ltb}
use Rattle.std.proofs.lemmas.Bool.Decides.{Decides-eqb}
use Rattle.std.proofs.lemmas.Slice.Eq.{bytes_eq-Decides}
use Rattle.lldb_base.specs.declared.batch.Piece.{Piece}
use Rattle.lldb_wal.specs.Fields.{number}
use Rattle.lldb_wal.specs.Log.{log_magic, Follow, SpoilsPiece, SpoilsEnd, IsUngated, IsLog}
use Rattle.lldb_wal.specs.States.{with_piece, end_state, pieces_state, log_state}
use Rattle.lldb_wal.specs.declared.state.LogState.{LogState}
use Rattle.lldb_wal.specs.declared.state.LogState.TheVariants.{Open, Faulty}

abbrev with_pieces : List Piece → LogState → LogState
with_pieces [] state = state
with_pieces (p ∷ ps) state = with_piece p (with_pieces ps state)

still_faulty : (ps : List Piece) (at : ℕ) → with_pieces ps (Faulty at) ≡ Faulty at
still_faulty [] at = refl
still_faulty (p ∷ ps) at = ap (with_piece p) (still_faulty ps at)

all_open : (ps : List Piece) (n : ℕ) → with_pieces ps (Open (record { pieces = []; size = n })) ≡ Open (record { pieces = ps; size = n })
all_open [] n = refl
all_open (p ∷ ps) n = ap (with_piece p) (all_open ps n)

-- so many numbers more as there are pieces
abbrev past : List Piece → ℕ → ℕ
past [] left = left
past (p ∷ ps) left = suc (past ps left)

past_is : (ps : List Piece) (left : ℕ) → past ps left ≡ length ps + left
past_is [] left = omega arith
past_is (p ∷ ps) left = let rest = past_is ps left in omega (arith, rest)

-- behind pieces that follow one another the log is what its rest is, with these pieces before
front_is : {size end next : ℕ} {log : List ℕ} {last at : ℕ} {ps : List Piece} → Follow size log end next last at ps → (left : ℕ)
    → pieces_state (past ps left) size last at log ≡ with_pieces ps (pieces_state left size end next log)
front_is Follow.no_more left = refl
front_is {size} {end} {next} {log} {last} {at} (Follow.one_more {p = p} {ps = ps} stands follow) left =
    rw (stands.place_kept, stands.length_kept, stands.whole)
    (subst (λ (q : Piece). with_piece q (pieces_state (past ps left) size (q.place + length q.bytes) (at + 12 + length q.bytes) log) ≡ with_piece p (with_pieces ps (pieces_state left size end next log)))
    stands.is (ap (with_piece p) (front_is follow left)))

piece_spoiled : {size last at place : ℕ} {log : List ℕ} → SpoilsPiece size last at log place → (left : ℕ) → pieces_state (suc left) size last at log ≡ Faulty place
piece_spoiled (SpoilsPiece.bad_place not) left = rw not refl
piece_spoiled (SpoilsPiece.bad_length kept not) left = rw (kept, not) refl
piece_spoiled (SpoilsPiece.bad_bytes kept also not) left = rw (kept, also, not) refl

end_spoiled : {size last at place : ℕ} {log : List ℕ} → SpoilsEnd size last at log place → end_state size last at log ≡ Faulty place
end_spoiled (SpoilsEnd.bad_size not) = rw not refl
end_spoiled {at = at} {log = log} (SpoilsEnd.bytes_behind kept more) = rw (kept, lt-ltb (at + 8) (length log) more) refl

pub differ : (xs ys : List ℕ) → xs ≢ ys → bytes_eq xs ys ≡ false
differ xs ys apart = elim (cases_Bool (bytes_eq xs ys)) [
  | inl same ↦ absurd (apart ((bytes_eq-Decides xs ys).0 same))
  | inr other ↦ other
]

pub unequal : (m n : ℕ) → m ≢ n → nat_eq m n ≡ false
unequal m n apart = elim (cases_Bool (nat_eq m n)) [
  | inl same ↦ absurd (apart ((Decides-eqb m n).0 same))
  | inr other ↦ other
]

-- a log whose gate is open is what its pieces are
gated : (size : ℕ) (log : List ℕ) → IsUngated log → log_state size log ≡ pieces_state (number w64 16 log) size 0 24 log
gated size log is = rw (le-ltb (length log) 32 is.long, (bytes_eq-Decides (take 15 log) log_magic).1 is.magic, (Decides-eqb (get_or log 15 0) 1).1 is.gate) refl

pub one_state : (size : ℕ) (log : List ℕ) (state : LogState) → IsLog size log state → log_state size log ≡ state
one_state size log state (IsLog.too_short few) = rw (lt-ltb (length log) 32 few) refl
one_state size log state (IsLog.shut long magic gate) =
    rw (le-ltb (length log) 32 long, (bytes_eq-Decides (take 15 log) log_magic).1 magic, unequal (get_or log 15 0) 1 gate) refl
one_state size log state (IsLog.nameless long magic) = rw (le-ltb (length log) 32 long, differ (take 15 log) log_magic magic) refl
one_state size log state (IsLog.holds {at = at} {batch = batch} is count follow kept whole new) =
    let all : number w64 16 log ≡ past batch.pieces 0 = omega (arith, count, past_is batch.pieces 0) in
    gated size log is ∙ ap (λ n. pieces_state n size 0 24 log) all ∙ front_is follow 0
    ∙ rw (kept, le-ltb (at + 8) (length log) (omega (arith, whole)), ← new) (all_open batch.pieces batch.size)
one_state size log state (IsLog.bad_piece {place = place} {ps = ps} is few follow spoils) =
    let all : number w64 16 log ≡ past ps (suc (number w64 16 log - length ps - 1)) = omega (arith, few, past_is ps (suc (number w64 16 log - length ps - 1))) in
    gated size log is ∙ ap (λ n. pieces_state n size 0 24 log) all ∙ front_is follow (suc (number w64 16 log - length ps - 1))
    ∙ ap (with_pieces ps) (piece_spoiled spoils (number w64 16 log - length ps - 1)) ∙ still_faulty ps place
one_state size log state (IsLog.bad_end {place = place} {ps = ps} is count follow spoils) =
    let all : number w64 16 log ≡ past ps 0 = omega (arith, count, past_is ps 0) in
    gated size log is ∙ ap (λ n. pieces_state n size 0 24 log) all ∙ front_is follow 0
    ∙ ap (with_pieces ps) (end_spoiled spoils) ∙ still_faulty ps place
