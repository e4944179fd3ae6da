-- The slices of a run.
use Rattle.std.proofs.Common.{◌≡◌, ℕ, ◌+◌, ◌-◌, List, ◌∷◌, length, take, drop, refl, arith, add-one}
use Rattle.std.proofs.lemmas.List.{take_all, length-drop}
use Rattle.std.specs.List.{prefix_len}
use Rattle.ql_lex.specs.Bytes.{is_in_word}
use Rattle.ql_lex.specs.Pieces.{word_of}

pub from_there : (n : ℕ) (s : List ℕ) → take (length s - n) (drop n s) ≡ drop n s
from_there n s = take_all (length s - n) (drop n s) (omega (arith, length-drop n s))

pub word_front : (b len : ℕ) (text z : List ℕ) → z ≡ b ∷ text → len ≡ prefix_len is_in_word text → take (len + 1) z ≡ word_of b text
word_front b len text z e l = rw (e, add-one, l) refl
