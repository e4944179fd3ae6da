-- A piece over bytes, and several in turn.
use Rattle.std.proofs.Common.{◌≡◌, ℕ, ◌+◌, ◌≤◌, max, List, [], ◌∷◌, length, take, refl, arith, length-append, length-take, length-drop, ◌∙◌, ap}
use Rattle.std.proofs.lemmas.List.{take_all}
use Rattle.lldb_base.specs.declared.batch.Piece.{Piece}
use Rattle.lldb_base.specs.Batch.{Edits, put, written, applied, LeaveNoGap, CanTake, reach}

pub length_put : (at : ℕ) (piece bytes : List ℕ) → at ≤ length bytes → length (put at piece bytes) ≡ max (length bytes) (at + length piece)
length_put at piece bytes within = simp (length-append, length-take, length-drop) (omega (arith, within))

-- so many pieces are left to be written over `now`, and then the bytes are those after all of them
pub record Writes (shift : ℕ) (all : List Piece) (bytes : List ℕ) (left : List Piece) (now : List ℕ) : Type 0 where
  pub content : written shift left now ≡ written shift all bytes
  pub gapless : LeaveNoGap 0 shift (length now) left
  pub far : reach shift (length now) left ≡ reach shift (length bytes) all

pub next_piece : (shift : ℕ) (all : List Piece) (bytes : List ℕ) (p : Piece) (left : List Piece) (now : List ℕ) → Writes shift all bytes (p ∷ left) now → Writes shift all bytes left (put (shift + p.place) p.bytes now)
next_piece shift all bytes p left now w =
    let e = length_put (shift + p.place) p.bytes now w.gapless.1 in
    record { content = w.content; gapless = rw e w.gapless.2; far = rw e w.far }

pub length_written : (floor shift : ℕ) (ps : List Piece) (bytes : List ℕ) → LeaveNoGap floor shift (length bytes) ps → length (written shift ps bytes) ≡ reach shift (length bytes) ps
length_written floor shift [] bytes gapless = refl
length_written floor shift (p ∷ ps) bytes gapless =
    let e = length_put (shift + p.place) p.bytes bytes gapless.1 in
    length_written floor shift ps (put (shift + p.place) p.bytes bytes) (rw e gapless.2) ∙ ap (λ n. reach shift n ps) e

pub length_applied : (floor shift : ℕ) (batch : Edits) (bytes : List ℕ) → CanTake floor shift (length bytes) batch → length (applied shift batch bytes) ≡ shift + batch.size
length_applied floor shift batch bytes can =
    let far = length_written floor shift batch.pieces bytes can.gapless in
    length-take (shift + batch.size) (written shift batch.pieces bytes) ∙ omega (arith, far, can.covered)

-- a batch without pieces and of the same length changes nothing
pub idle_applied : (shift : ℕ) (batch : Edits) (bytes : List ℕ) → batch.pieces ≡ [] → shift + batch.size ≡ length bytes → applied shift batch bytes ≡ bytes
idle_applied shift batch bytes none same = ap (λ (ps : List Piece). take (shift + batch.size) (written shift ps bytes)) none ∙ take_all (shift + batch.size) bytes (omega (arith, same))
