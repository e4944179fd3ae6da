-- A batch byte by byte.
use Rattle.std.proofs.Common.{◌≡◌, ℕ, ◌+◌, ◌-◌, ◌<◌, ◌≤◌, ◌⊎◌, inl, inr, true, false, List, [], ◌∷◌, ◌++◌, length, take, drop, get_or, None, refl, arith, length-append, length-take, ◌∙◌, ap}
use Rattle.std.specs.Option.{unwrap_or}
use Rattle.std.proofs.lemmas.Bool.{cases_lt}
use Rattle.std.proofs.lemmas.List.{get_or_append_left, get_or-append_right, get_or-take, get_or-drop}
use Rattle.lldb_base.specs.declared.batch.Piece.{Piece}
use Rattle.lldb_base.specs.Batch.{Edits, put, written, applied, AreRising, IsBatch, LeaveNoGap, CanTake, covers, byte_at}
use Rattle.lldb_base.proofs.Puts.{length_put}

-- a place is before a piece, in it, or behind it
covers_true : (shift i : ℕ) (p : Piece) → shift + p.place ≤ i → i < shift + p.place + length p.bytes → covers shift i p ≡ true
covers_true shift i p from to = grind (arith, from, to)

covers_before : (shift i : ℕ) (p : Piece) → i < shift + p.place → covers shift i p ≡ false
covers_before shift i p before = grind (arith, before)

covers_behind : (shift i : ℕ) (p : Piece) → shift + p.place + length p.bytes ≤ i → covers shift i p ≡ false
covers_behind shift i p behind = grind (arith, behind)

none_before : (shift i start : ℕ) (ps : List Piece) → AreRising start ps → i < shift + start → byte_at shift i ps ≡ None
none_before shift i start [] rising before = refl
none_before shift i start (p ∷ ps) rising before =
    rw (covers_before shift i p (omega (arith, before, rising.0)))
    (none_before shift i (p.place + length p.bytes) ps rising.3 (omega (arith, before, rising.0)))

put_before : (at i : ℕ) (piece bytes : List ℕ) → at ≤ length bytes → i < at → get_or (put at piece bytes) i 0 ≡ get_or bytes i 0
put_before at i piece bytes within before =
    let front : length (take at bytes) ≡ at = length-take at bytes ∙ omega (arith, within) in
    get_or_append_left (take at bytes ++ piece) (drop (at + length piece) bytes) 0 i (rw (length-append (take at bytes) piece) (omega (arith, front, before)))
    ∙ get_or_append_left (take at bytes) piece 0 i (omega (arith, front, before))
    ∙ get_or-take at bytes i 0 before

put_within : (at i : ℕ) (piece bytes : List ℕ) → at ≤ length bytes → at ≤ i → i < at + length piece → get_or (put at piece bytes) i 0 ≡ get_or piece (i - at) 0
put_within at i piece bytes within from to =
    let front : length (take at bytes) ≡ at = length-take at bytes ∙ omega (arith, within) in
    get_or_append_left (take at bytes ++ piece) (drop (at + length piece) bytes) 0 i (rw (length-append (take at bytes) piece) (omega (arith, front, to)))
    ∙ get_or-append_right (take at bytes) piece at i 0 front from

put_behind : (at i : ℕ) (piece bytes : List ℕ) → at ≤ length bytes → at + length piece ≤ i → get_or (put at piece bytes) i 0 ≡ get_or bytes i 0
put_behind at i piece bytes within behind =
    let front : length (take at bytes ++ piece) ≡ at + length piece = length-append (take at bytes) piece ∙ ap (λ n. n + length piece) (length-take at bytes ∙ omega (arith, within)) in
    get_or-append_right (take at bytes ++ piece) (drop (at + length piece) bytes) (at + length piece) i 0 front behind
    ∙ get_or-drop (at + length piece) bytes (i - (at + length piece)) 0
    ∙ ap (λ n. get_or bytes n 0) (omega (arith, behind))

three_ways : (at n i : ℕ) → (i < at) ⊎ ((at ≤ i) × (i < at + n)) ⊎ (at + n ≤ i)
three_ways at n i =
    elim (cases_lt i at) [
      | inl before ↦ inl before
      | inr from ↦ elim (cases_lt i (at + n)) [ inl to ↦ inr (inl (from, to)) | inr behind ↦ inr (inr behind) ]
    ]

here : (shift i : ℕ) (p : Piece) (ps : List Piece) (bytes : List ℕ) (next : ℕ) → next ≡ p.place + length p.bytes → AreRising next ps → shift + p.place ≤ length bytes → (i < shift + p.place) ⊎ ((shift + p.place ≤ i) × (i < shift + p.place + length p.bytes)) ⊎ (shift + p.place + length p.bytes ≤ i) → unwrap_or (byte_at shift i ps) (get_or (put (shift + p.place) p.bytes bytes) i 0) ≡ unwrap_or (byte_at shift i (p ∷ ps)) (get_or bytes i 0)
here shift i p ps bytes next is rising within (inl before) =
    rw (covers_before shift i p before, put_before (shift + p.place) i p.bytes bytes within before) refl
here shift i p ps bytes next is rising within (inr (inl (from, to))) =
    rw (covers_true shift i p from to, none_before shift i next ps rising (omega (arith, to, is)), put_within (shift + p.place) i p.bytes bytes within from to) refl
here shift i p ps bytes next is rising within (inr (inr behind)) =
    rw (covers_behind shift i p behind, put_behind (shift + p.place) i p.bytes bytes within behind) refl

written_at : (floor shift start i : ℕ) (ps : List Piece) (bytes : List ℕ) → AreRising start ps → LeaveNoGap floor shift (length bytes) ps → get_or (written shift ps bytes) i 0 ≡ unwrap_or (byte_at shift i ps) (get_or bytes i 0)
written_at floor shift start i [] bytes rising gapless = refl
written_at floor shift start i (p ∷ ps) bytes rising gapless =
    let now = length_put (shift + p.place) p.bytes bytes gapless.1 in
    let rest = written_at floor shift (p.place + length p.bytes) i ps (put (shift + p.place) p.bytes bytes) rising.3 (rw now gapless.2) in
    rest ∙ here shift i p ps bytes (p.place + length p.bytes) refl rising.3 gapless.1 (three_ways (shift + p.place) (length p.bytes) i)

pub applied_at : (floor shift : ℕ) (batch : Edits) (bytes : List ℕ) (i : ℕ) → IsBatch batch → CanTake floor shift (length bytes) batch → i < shift + batch.size → get_or (applied shift batch bytes) i 0 ≡ unwrap_or (byte_at shift i batch.pieces) (get_or bytes i 0)
applied_at floor shift batch bytes i made can within =
    get_or-take (shift + batch.size) (written shift batch.pieces bytes) i 0 within
    ∙ written_at floor shift 0 i batch.pieces bytes made.rising can.gapless
