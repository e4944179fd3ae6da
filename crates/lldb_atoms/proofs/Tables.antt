-- The table of lists reads back.
use Rattle.std.proofs.Common.{◌≡◌, ℕ, zero, suc, ◌+◌, ◌*◌, ◌^◌, ◌<◌, List, [], ◌∷◌, ◌++◌, length, drop, slice_index, flat_map, sym, ap, ◌∙◌, append_assoc, arith}
use Rattle.std.proofs.lemmas.List.{drop-drop}
use Rattle.lldb_atoms.specs.Numbers.{as_bytes, number_in}
use Rattle.lldb_atoms.specs.Lists.{list_head}
use Rattle.lldb_atoms.proofs.AsBytes.{reads_back, behind}

number_at : (heads rest : List ℕ) (class : ℕ) → ((i : ℕ) → slice_index heads i < 2 ^ 64) → class < length heads → number_in 8 (drop (8 * class) (flat_map (as_bytes 8) heads ++ rest)) ≡ slice_index heads class
number_at [] rest class fits low = absurd (omega arith)
number_at (h ∷ hs) rest zero fits low =
    ap (number_in 8) (append_assoc (as_bytes 8 h) (flat_map (as_bytes 8) hs) rest) ∙ reads_back 8 h (flat_map (as_bytes 8) hs ++ rest) (fits 0)
number_at (h ∷ hs) rest (suc class) fits low =
    let others : List ℕ = flat_map (as_bytes 8) hs ++ rest in
    let place : 8 * suc class ≡ 8 + 8 * class = omega arith in
    let after : drop 8 ((as_bytes 8 h ++ flat_map (as_bytes 8) hs) ++ rest) ≡ others =
    ap (drop 8) (append_assoc (as_bytes 8 h) (flat_map (as_bytes 8) hs) rest) ∙ behind 8 h others in
    ap (λ k. number_in 8 (drop k ((as_bytes 8 h ++ flat_map (as_bytes 8) hs) ++ rest))) place
    ∙ ap (number_in 8) (sym (drop-drop (8 * class) 8 ((as_bytes 8 h ++ flat_map (as_bytes 8) hs) ++ rest)))
    ∙ ap (λ z. number_in 8 (drop (8 * class) z)) after
    ∙ number_at hs rest class (λ i. fits (suc i)) (omega arith)

pub table_read : (heads rest : List ℕ) (class : ℕ) → ((i : ℕ) → slice_index heads i < 2 ^ 64) → class < length heads → list_head (flat_map (as_bytes 8) heads ++ rest) class ≡ slice_index heads class
unfolding list_head
table_read heads rest class fits low = number_at heads rest class fits low
