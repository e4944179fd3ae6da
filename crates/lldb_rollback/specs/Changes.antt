-- What differs between two contents.
use Rattle.std.specs.Prelude.{◌≢◌, ℕ, List, [], ◌∷◌, length, take, drop}
use Rattle.lldb_base.specs.declared.batch.Piece.{Piece}

-- each piece differs from the bytes at its place
abbrev pub AreChanged : List ℕ → List Piece → Type 0
AreChanged old [] = Unit {0}
AreChanged old (p ∷ ps) = (take (length p.bytes) (drop p.place old) ≢ p.bytes) × AreChanged old ps
