-- The words for refusals.
use Rattle.std.specs.Prelude.{ℕ, List, [], ◌==◌, if◌then◌else◌, codes}

-- the word for a refusal's number
abbrev pub refusal_word : ℕ → List ℕ
refusal_word number =
    if number == 1 then codes "NoTable" else
    if number == 2 then codes "NoColumn" else
    if number == 3 then codes "Ambiguous" else
    if number == 4 then codes "Exists" else
    if number == 5 then codes "Type" else
    if number == 6 then codes "Count" else
    if number == 7 then codes "ConstantRange" else
    if number == 8 then codes "Aggregate" else
    if number == 9 then codes "Reserved" else
    if number == 10 then codes "Later" else
    if number == 20 then codes "Divide" else
    if number == 21 then codes "Range" else
    if number == 22 then codes "NegativeCount" else
    if number == 33 then codes "RowTooLong" else
    if number == 34 then codes "KeyTooLong" else
    if number == 35 then codes "IdsSpent" else
    if number == 36 then codes "TableLimit" else []
