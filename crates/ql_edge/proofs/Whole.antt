-- A text that is shown piece by piece is shown whole.
use Rattle.std.proofs.Common.{◌≡◌, ℕ, ◌+◌, ◌-◌, List, length, take, drop, Some, None, refl, arith, append_assoc, length-drop, take-add}
use Rattle.std.proofs.lemmas.List.{take_all}
use Rattle.ql_edge.specs.Told.{Told, with_shown, with_warned}

-- the slice from a place to the end
rest : (at : ℕ) (text : List ℕ) → take (length text - at) (drop at text) ≡ drop at text
rest at text = take_all _ _ (omega (arith, length-drop at text))

pub with_shown_more : (at n : ℕ) (text : List ℕ) (told : Told) → with_shown (take n (take (length text - at) (drop at text))) (with_shown (take at text) told) ≡ with_shown (take (at + n) text) told
with_shown_more at n text None = refl
with_shown_more at n text (Some t) = rw (rest at text, append_assoc, ← take-add at n text) refl

pub with_warned_more : (at n : ℕ) (text : List ℕ) (told : Told) → with_warned (take n (take (length text - at) (drop at text))) (with_warned (take at text) told) ≡ with_warned (take (at + n) text) told
with_warned_more at n text None = refl
with_warned_more at n text (Some t) = rw (rest at text, append_assoc, ← take-add at n text) refl
