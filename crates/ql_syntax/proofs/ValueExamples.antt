-- A few values, computed by the definitions.
use Rattle.std.proofs.Common.{◌≡◌, ℤ, pos, negsuc, true, false, List, [], ◌∷◌, refl, sym, ap, ◌∙◌}
use Rattle.ql_value.specs.declared.operator.BinOp.{BinOp}
use Rattle.ql_value.specs.declared.operator.BinOp.TheVariants as op
use Rattle.ql_value.specs.declared.operator.UnOp.TheVariants as un
use Rattle.ql_value.specs.declared.value.Kind.TheVariants as k
use Rattle.ql_value.specs.declared.value.Value.{Value}
use Rattle.ql_value.specs.declared.value.Value.TheVariants as v
use Rattle.ql_syntax.specs.declared.syntax.Function.TheVariants as f
use Rattle.ql_syntax.specs.declared.typed.Typed.TheVariants as t
use Rattle.ql_syntax.specs.declared.typed.Typed.TheOpen.{Typed-F}
use Rattle.ql_syntax.specs.declared.typed.Typed.TheFolds.{fold-roll-Typed}
use Rattle.ql_syntax.specs.Values.{Outcome, Step, gives, refuses, divide, range, negative_count, chained, linked, prefixed, narrow_to, convert_to, called, is_in, contains, value_at, value_step, link_step}
use Rattle.ql_syntax.specs.declared.typing.Typing.TheVariants.{OnlyNull, OfKind, Ill}
use Rattle.ql_syntax.specs.Typing.{operator_type, chain_type, call_type}

abbrev int : ℤ → Value
int z = v.Int k.Int64 z

abbrev step : BinOp → Outcome → Step
step o part = record { op = o; part = part }

-- `8 - 2 - 1` from left to right
left_to_right : chained (int (pos 8)) (step op.Sub (gives (int (pos 2))) ∷ step op.Sub (gives (int (pos 1))) ∷ []) ≡ gives (int (pos 5))
left_to_right = refl

-- `-7 / 2` and `-7 % 2`
truncated : linked op.Div (int (negsuc 6)) (gives (int (pos 2))) ≡ gives (int (negsuc 2))
truncated = refl

rest : linked op.Rem (int (negsuc 6)) (gives (int (pos 2))) ≡ gives (int (negsuc 0))
rest = refl

-- `int8(127) + 1`, `1 / 0` and `1 << -1`
wraps : linked op.Add (v.Int k.Int8 (pos 127)) (gives (v.Int k.Int8 (pos 1))) ≡ gives (v.Int k.Int8 (negsuc 127))
wraps = refl

by_zero : linked op.Div (int (pos 1)) (gives (int (pos 0))) ≡ refuses divide
by_zero = refl

below_zero : linked op.Shl (int (pos 1)) (gives (int (negsuc 0))) ≡ refuses negative_count
below_zero = refl

-- the refusal of the left side comes before that of the right one, and a NULL does not hide the right one
after_null : linked op.Add v.Null (refuses divide) ≡ refuses divide
after_null = refl

-- `NULL && false`, `NULL || true`, `NULL == NULL`
false_both : linked op.Both v.Null (gives (v.Bool false)) ≡ gives (v.Bool false)
false_both = refl

true_either : linked op.Either v.Null (gives (v.Bool true)) ≡ gives (v.Bool true)
true_either = refl

null_equal : linked op.Eq v.Null (gives v.Null) ≡ gives v.Null
null_equal = refl

-- the right side is not evaluated where the left one decides, and is where it does not
decided : linked op.Both (v.Bool false) (refuses divide) ≡ gives (v.Bool false)
decided = refl

undecided : linked op.Both v.Null (refuses divide) ≡ refuses divide
undecided = refl

-- `- ^0` is -(-1), and not ^(-0)
last_first : prefixed (un.Minus ∷ un.Flip ∷ []) (int (pos 0)) ≡ gives (int (pos 1))
last_first = refl

-- `^uint8(0)` and `-int8(-128)`
all_bits : prefixed (un.Flip ∷ []) (v.Int k.Uint8 (pos 0)) ≡ gives (v.Int k.Uint8 (pos 255))
all_bits = refl

least : prefixed (un.Minus ∷ []) (v.Int k.Int8 (negsuc 127)) ≡ gives (v.Int k.Int8 (negsuc 127))
least = refl

-- 200 as an int8: a conversion keeps the low bits, an untyped number is refused
low_bits : convert_to k.Int8 (int (pos 200)) ≡ gives (v.Int k.Int8 (negsuc 55))
low_bits = refl

outside : narrow_to k.Int8 (int (pos 200)) ≡ refuses range
outside = refl

-- `coalesce(NULL, 3, 1 / 0)`
first_value : called f.Coalesce (gives v.Null ∷ gives (int (pos 3)) ∷ refuses divide ∷ []) ≡ gives (int (pos 3))
first_value = refl

-- `5 IN (1, NULL)` and `5 IN (5, 1 / 0)`
perhaps_in : is_in (int (pos 5)) (gives (int (pos 1)) ∷ gives v.Null ∷ []) ≡ gives v.Null
perhaps_in = refl

surely_in : is_in (int (pos 5)) (gives (int (pos 5)) ∷ refuses divide ∷ []) ≡ gives (v.Bool true)
surely_in = refl

-- `contains("abc", "bc")`, and the empty string stands in every string
in_the_middle : contains (97 ∷ 98 ∷ 99 ∷ []) (98 ∷ 99 ∷ []) ≡ true
in_the_middle = refl

empty_part : contains [] [] ≡ true
empty_part = refl

-- a place of the row, as an expression
second_place : value_at (v.Null ∷ v.Bool true ∷ []) (t.Place 1) ≡ gives (v.Bool true)
second_place =
    let row : List Value = v.Null ∷ v.Bool true ∷ [] in
    ap (value_at row) (sym (t.rolls-Place 1)) ∙ fold-roll-Typed Outcome Step (value_step row) link_step (Typed-F.Place 1)

-- `a == b == true` compares a truth, `a + 1` wants one kind, and `NULL` meets every kind
truth_compared : chain_type (OfKind k.Int8) (record { op = op.Eq; part = OfKind k.Int8 } ∷ record { op = op.Eq; part = OfKind k.Bool } ∷ []) ≡ OfKind k.Bool
truth_compared = refl

two_kinds : operator_type op.Add (OfKind k.Int8) (OfKind k.Int64) ≡ Ill
two_kinds = refl

any_count : operator_type op.Shl (OfKind k.Int8) (OfKind k.Uint64) ≡ OfKind k.Int8
any_count = refl

null_meets : call_type f.Coalesce (OnlyNull ∷ OfKind k.Text ∷ []) ≡ OfKind k.Text
null_meets = refl
