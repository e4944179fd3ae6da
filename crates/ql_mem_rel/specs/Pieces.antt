-- The rows of a table in pieces.
use Rattle.std.specs.Prelude.{ℕ, zero, suc, ◌<◌, length, if◌then◌else◌, nat_lt, List, [], ◌∷◌, flat_map}
use Rattle.ql_rel.specs.declared.db.Row.{Row}

-- the rows of all pieces in order
abbrev pub rows_of : List (List Row) → List Row
rows_of pieces = flat_map (λ (piece : List Row). piece) pieces

-- no piece is empty
abbrev pub AllFilled : List (List Row) → Type 0
AllFilled [] = Unit {0}
AllFilled (piece ∷ pieces) = (0 < length piece) × AllFilled pieces

-- no piece but the one at a place is empty
abbrev pub AllFilledBut : ℕ → List (List Row) → Type 0
AllFilledBut place [] = Unit {0}
AllFilledBut zero (piece ∷ pieces) = AllFilled pieces
AllFilledBut (suc place) (piece ∷ pieces) = (0 < length piece) × AllFilledBut place pieces

-- the id of the last row, or 0 where there is none
abbrev pub end_id : List Row → ℕ
end_id [] = 0
end_id (row ∷ []) = row.id
end_id (row ∷ next ∷ rows) = end_id (next ∷ rows)

-- the place of the first piece whose last row has an id over a number, or the number of pieces
abbrev pub piece_after : ℕ → List (List Row) → ℕ
piece_after id [] = 0
piece_after id (piece ∷ pieces) = if nat_lt id (end_id piece) then 0 else suc (piece_after id pieces)
