-- What LIMIT and OFFSET leave of a few rows.
use Rattle.std.proofs.Common.{◌≡◌, ℕ, pos, negsuc, List, [], ◌∷◌, Some, None, Ok, refl}
use Rattle.ql_value.specs.declared.value.Kind.TheVariants as k
use Rattle.ql_value.specs.declared.value.Value.{Value}
use Rattle.ql_value.specs.declared.value.Value.TheVariants as v
use Rattle.ql_syntax.specs.Answers.{refused}
use Rattle.ql_rel.specs.RowLists.{window}
use Rattle.ql_rel.specs.SelectRows.{count_in, count_of, filtered}

-- a row of one number
abbrev one : ℕ → List Value
one n = v.Int k.Int8 (pos n) ∷ []

abbrev rows : List (List Value)
rows = one 3 ∷ one 1 ∷ one 4 ∷ one 2 ∷ []

-- without WHERE all rows are left
all_left : filtered None rows ≡ Ok rows
all_left = refl

-- OFFSET goes before LIMIT; both may be over the number of rows
second_third : window (Some 1) (Some 2) rows ≡ one 1 ∷ one 4 ∷ []
second_third = refl

none_shown : window None (Some 0) rows ≡ []
none_shown = refl

past_all : window (Some 9) (Some 9) rows ≡ []
past_all = refl

-- a count that is NULL or is not there, and one under 0
limit_null : count_in v.Null ≡ Ok None
limit_null = refl

limit_absent : count_of None ≡ Ok None
limit_absent = refl

limit_two : count_in (v.Int k.Int8 (pos 2)) ≡ Ok (Some 2)
limit_two = refl

limit_negative : count_in (v.Int k.Int8 (negsuc 0)) ≡ refused 22
limit_negative = refl
