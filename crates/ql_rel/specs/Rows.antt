-- The values of expressions at a row, and a row as it is shown.
use Rattle.std.specs.Prelude.{ℕ, Bool, true, false, List, [], ◌∷◌, ◌++◌, codes, flat_map, map, Option, Some, None, Ok}
use Rattle.ql_value.specs.Print.{printed}
use Rattle.ql_value.specs.declared.refusal.TheConstants.{LATER, DIVIDE, RANGE, NEGATIVE_COUNT}
use Rattle.ql_value.specs.declared.value.Value.{Value}
use Rattle.ql_value.specs.declared.value.Value.TheVariants as v
use Rattle.ql_syntax.specs.Values.{Outcome, gives, refuses, means_nothing, divide, range, negative_count, value_at}
use Rattle.ql_syntax.specs.declared.typed.Typed.{Typed}
use Rattle.ql_syntax.specs.Answers.{Answer, refused, then_with, all_of}

-- the values of a row but the first, each behind a comma and a space
abbrev pub more_values : List Value → List ℕ
more_values row = flat_map (λ x. codes ", " ++ printed x) row

-- the values of a row
abbrev pub values_text : List Value → List ℕ
values_text [] = []
values_text (x ∷ row) = printed x ++ more_values row

-- a row, as it is shown
abbrev pub row_line : List Value → List ℕ
row_line row = values_text row ++ codes "\n"

-- what an expression comes to as an answer; what has no meaning yet comes later
abbrev pub answer_of : Outcome → Answer Value
answer_of (gives x) = Ok x
answer_of (refuses divide) = refused DIVIDE
answer_of (refuses range) = refused RANGE
answer_of (refuses negative_count) = refused NEGATIVE_COUNT
answer_of means_nothing = refused LATER

-- the values of expressions at a row, or the first refusal, from left to right
abbrev pub values_of : List Value → List Typed → Answer (List Value)
values_of row exprs = all_of (map (λ e. answer_of (value_at row e)) exprs)

-- the value is true
abbrev pub is_true : Value → Bool
is_true (v.Bool b) = b
is_true _ = false

-- whether WHERE means a row: without a condition it means every row, else those for which it is true
abbrev pub is_meant : Option Typed → List Value → Answer Bool
is_meant None row = Ok true
is_meant (Some filter) row = then_with (answer_of (value_at row filter)) (λ x. Ok (is_true x))
