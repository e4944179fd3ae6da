-- The value of a typed expression at a row.
use Rattle.std.specs.Prelude.{ℕ, zero, suc, ℤ, pos, negsuc, Bool, true, false, ◌||◌, not, nat_eq, if◌then◌else◌, List, [], ◌∷◌, length, map, Result, Ok, Err}
use Rattle.std.specs.declared.cmp.Ordering.{Ordering}
use Rattle.std.specs.declared.cmp.Ordering.TheVariants.{Less, Equal, Greater}
use Rattle.std.specs.List.{starts_with, ends_with}
use Rattle.ql_value.specs.Arith.{arith_of, on_numbers}
use Rattle.ql_value.specs.Convert.{converted, fitted}
use Rattle.ql_value.specs.Number.{wrapped}
use Rattle.ql_value.specs.Order.{compared}
use Rattle.ql_value.specs.declared.fault.ValueFault.{ValueFault}
use Rattle.ql_value.specs.declared.fault.ValueFault.TheVariants as fault
use Rattle.ql_value.specs.declared.operator.BinOp.{BinOp}
use Rattle.ql_value.specs.declared.operator.BinOp.TheVariants as op
use Rattle.ql_value.specs.declared.operator.UnOp.{UnOp}
use Rattle.ql_value.specs.declared.operator.UnOp.TheVariants as un
use Rattle.ql_value.specs.declared.value.Kind.{Kind}
use Rattle.ql_value.specs.declared.value.Kind.TheVariants as k
use Rattle.ql_value.specs.declared.value.Value.{Value}
use Rattle.ql_value.specs.declared.value.Value.TheVariants as v
use Rattle.ql_syntax.specs.declared.syntax.Function.{Function}
use Rattle.ql_syntax.specs.declared.syntax.Function.TheVariants as f
use Rattle.ql_syntax.specs.declared.typed.Typed.{Typed}
use Rattle.ql_syntax.specs.declared.typed.TypedLink.{TypedLink}
use Rattle.ql_syntax.specs.declared.typed.Typed.TheOpen.{Typed-F, TypedLink-F}
use Rattle.ql_syntax.specs.declared.typed.Typed.TheFolds.{fold-Typed, fold-TypedLink}
use Rattle.ql_value.specs.Kinds.{is_integer, is_truth, is_byte_list}

-- why an expression has no value: a divisor is 0, a number is outside the kind that it meets, a shift count is negative
pub data Refused : Type 0 where
  divide : Refused
  range : Refused
  negative_count : Refused

-- what an expression comes to; where an operator meets a value that it does not take, it means nothing
pub data Outcome : Type 0 where
  gives : Value → Outcome
  refuses : Refused → Outcome
  means_nothing : Outcome

-- it comes to a value or a refusal
abbrev pub IsMeant : Outcome → Type 0
IsMeant (gives _) = Unit {0}
IsMeant (refuses _) = Unit {0}
IsMeant means_nothing = ⊥

-- what follows from the value of a part; a refusal stands
abbrev pub then_from : Outcome → (Value → Outcome) → Outcome
then_from (gives x) next = next x
then_from (refuses r) next = refuses r
then_from means_nothing next = means_nothing

-- what an operation of arithmetic or a fit gave
abbrev pub outcome_of : Result Value ValueFault → Outcome
outcome_of (Ok x) = gives x
outcome_of (Err fault.Divide) = refuses divide
outcome_of (Err fault.Range) = refuses range
outcome_of (Err fault.NegativeCount) = refuses negative_count
outcome_of (Err fault.NoMemory) = means_nothing

-- the value is NULL
abbrev pub is_null : Value → Bool
is_null v.Null = true
is_null _ = false

-- strings are joined by `+` alone
abbrev pub joins : BinOp → Bool
joins op.Add = true
joins _ = false

-- what an operator of arithmetic takes: a NULL beside anything, two numbers, or two strings
abbrev pub are_operands : BinOp → Value → Value → Bool
are_operands o v.Null _ = true
are_operands o _ v.Null = true
are_operands o (v.Int _ _) (v.Int _ _) = true
are_operands o (v.Text _) (v.Text _) = joins o
are_operands o _ _ = false

-- an operator of arithmetic on two values
abbrev pub calculated : BinOp → Value → Value → Outcome
calculated o x y = if are_operands o x y then outcome_of (arith_of o x y) else means_nothing

-- whether a comparison holds of values that stand in this order
abbrev pub holds : BinOp → Ordering → Bool
holds op.Eq Equal = true
holds op.Ne Less = true
holds op.Ne Greater = true
holds op.Lt Less = true
holds op.Le Less = true
holds op.Le Equal = true
holds op.Gt Greater = true
holds op.Ge Greater = true
holds op.Ge Equal = true
holds _ _ = false

-- a comparison of two values: a NULL on either side gives NULL
abbrev pub comparison : BinOp → Value → Value → Value
comparison o v.Null _ = v.Null
comparison o _ v.Null = v.Null
comparison o x y = v.Bool (holds o (compared x y))

-- true, false or NULL
abbrev pub truth : Value → Outcome
truth v.Null = gives v.Null
truth (v.Bool b) = gives (v.Bool b)
truth _ = means_nothing

-- `&&` by Kleene's table
abbrev pub both : Value → Value → Outcome
both (v.Bool true) y = truth y
both (v.Bool false) y = gives (v.Bool false)
both v.Null (v.Bool true) = gives v.Null
both v.Null y = truth y
both _ _ = means_nothing

-- `||` by Kleene's table
abbrev pub either : Value → Value → Outcome
either (v.Bool true) y = gives (v.Bool true)
either (v.Bool false) y = truth y
either v.Null (v.Bool false) = gives v.Null
either v.Null y = truth y
either _ _ = means_nothing

-- an operator on the values of its two sides; LIKE has no meaning yet
abbrev pub operated : BinOp → Value → Value → Outcome
operated op.Eq x y = gives (comparison op.Eq x y)
operated op.Ne x y = gives (comparison op.Ne x y)
operated op.Lt x y = gives (comparison op.Lt x y)
operated op.Le x y = gives (comparison op.Le x y)
operated op.Gt x y = gives (comparison op.Gt x y)
operated op.Ge x y = gives (comparison op.Ge x y)
operated op.Both x y = both x y
operated op.Either x y = either x y
operated op.Like x y = means_nothing
operated o x y = calculated o x y

-- the left side decides alone: false of `&&`, and true of `||`
abbrev pub decides : BinOp → Value → Bool
decides op.Both (v.Bool b) = not b
decides op.Either (v.Bool b) = b
decides _ _ = false

-- an operator on the value of its left side and the right side: where the left one decides, the right one is not evaluated
abbrev pub linked : BinOp → Value → Outcome → Outcome
linked o x right = if decides o x then gives x else then_from right (operated o x)

-- an operator of a chain, and what the part behind it comes to
pub record Step : Type 0 where
  pub op : BinOp
  pub part : Outcome

-- a chain, from left to right, behind a value
abbrev pub chained : Value → List Step → Outcome
chained x [] = gives x
chained x (s ∷ steps) = then_from (linked s.op x s.part) (λ y. chained y steps)

-- an operator before a truth
abbrev pub prefix_truth : UnOp → Bool → Outcome
prefix_truth un.Not b = gives (v.Bool (not b))
prefix_truth _ b = means_nothing

-- an operator before a number: `-x` is `0 - x`, and `^x` is `m ^ x` where all bits of m are set
abbrev pub prefix_number : UnOp → Kind → ℤ → Outcome
prefix_number un.Plus kind z = gives (v.Int kind z)
prefix_number un.Minus kind z = outcome_of (on_numbers op.Sub kind (pos 0) z)
prefix_number un.Flip kind z = outcome_of (on_numbers op.Xor kind (negsuc 0) z)
prefix_number un.Not kind z = means_nothing

-- an operator before a value: NULL stays NULL
abbrev pub prefix : UnOp → Value → Outcome
prefix o v.Null = gives v.Null
prefix o (v.Bool b) = prefix_truth o b
prefix o (v.Int kind z) = prefix_number o kind z
prefix o _ = means_nothing

-- operators before a value: the last one, which stands next to it, comes first
abbrev pub prefixed : List UnOp → Value → Outcome
prefixed [] x = gives x
prefixed (o ∷ ops) x = then_from (prefixed ops x) (prefix o)

-- a conversion takes NULL and a value of the same group of kinds
abbrev pub is_convertible : Kind → Value → Bool
is_convertible kind v.Null = true
is_convertible kind (v.Bool _) = is_truth kind
is_convertible kind (v.Int _ _) = is_integer kind
is_convertible kind (v.Text _) = is_byte_list kind
is_convertible kind (v.Blob _) = is_byte_list kind

-- a conversion of a value to a kind
abbrev pub convert_to : Kind → Value → Outcome
convert_to kind x = if is_convertible kind x then gives (converted kind x) else means_nothing

-- a number as one of an integer kind that it met: a refusal where it is none of that kind
abbrev pub narrow_to : Kind → Value → Outcome
narrow_to kind v.Null = gives v.Null
narrow_to kind (v.Int _ z) = if is_integer kind then outcome_of (fitted kind z) else means_nothing
narrow_to kind _ = means_nothing

-- a number of bytes as an int64, modulo 2 ^ 64 as every number
abbrev pub length_number : ℕ → Outcome
length_number n = gives (v.Int k.Int64 (wrapped k.Int64 (pos n)))

-- the length of a string or a blob in bytes
abbrev pub length_of : Value → Outcome
length_of v.Null = gives v.Null
length_of (v.Text bytes) = length_number (length bytes)
length_of (v.Blob bytes) = length_number (length bytes)
length_of _ = means_nothing

-- the second list stands at the front of the first
abbrev pub has_prefix : List ℕ → List ℕ → Bool
has_prefix bytes part = starts_with nat_eq bytes part

-- the second list stands at the end of the first
abbrev pub has_suffix : List ℕ → List ℕ → Bool
has_suffix bytes part = ends_with nat_eq bytes part

-- the second list stands in the first
abbrev pub contains : List ℕ → List ℕ → Bool
contains [] part = has_prefix [] part
contains (b ∷ bytes) part = has_prefix (b ∷ bytes) part || contains bytes part

-- a question to two strings
abbrev pub asked : (List ℕ → List ℕ → Bool) → Value → Value → Outcome
asked test v.Null _ = gives v.Null
asked test _ v.Null = gives v.Null
asked test (v.Text a) (v.Text b) = gives (v.Bool (test a b))
asked test _ _ = means_nothing

-- a question to two parts: both are evaluated first, left then right
abbrev pub asked_of : (List ℕ → List ℕ → Bool) → List Outcome → Outcome
asked_of test (left ∷ right ∷ []) = then_from left (λ x. then_from right (asked test x))
asked_of test _ = means_nothing

-- the first value that is not NULL; no part behind it is evaluated
abbrev pub coalesced : List Outcome → Outcome
coalesced [] = gives v.Null
coalesced (part ∷ parts) = then_from part (λ x. if is_null x then coalesced parts else gives x)

-- the length of a part
abbrev pub measured : List Outcome → Outcome
measured (part ∷ []) = then_from part length_of
measured _ = means_nothing

-- the call of a function
abbrev pub called : Function → List Outcome → Outcome
called f.Len parts = measured parts
called f.Contains parts = asked_of contains parts
called f.HasPrefix parts = asked_of has_prefix parts
called f.HasSuffix parts = asked_of has_suffix parts
called f.Coalesce parts = coalesced parts
called _ parts = means_nothing

-- `a == b`, where a is a value
abbrev pub equals : Value → Outcome → Outcome
equals a part = then_from part (operated op.Eq a)

-- `|| (a == b)`
abbrev pub or_equals : Value → Outcome → Step
or_equals a part = record { op = op.Either; part = equals a part }

-- `a IN (x, y)` is `(a == x) || (a == y)`
abbrev pub is_in : Value → List Outcome → Outcome
is_in a [] = gives (v.Bool false)
is_in a (part ∷ parts) = then_from (equals a part) (λ first. chained first (map (or_equals a) parts))

-- the value at a place of the row
abbrev pub at_place : List Value → ℕ → Outcome
at_place [] at = means_nothing
at_place (x ∷ row) zero = gives x
at_place (x ∷ row) (suc at) = at_place row at

-- one expression, with what its parts come to in their place; an aggregate means nothing outside a group
abbrev pub value_step : List Value → Typed-F Outcome Step → Outcome
value_step row (Typed-F.Constant x) = gives x
value_step row (Typed-F.Place at) = at_place row at
value_step row (Typed-F.Chain first rest) = then_from first (λ x. chained x rest)
value_step row (Typed-F.Unary ops part) = then_from part (prefixed ops)
value_step row (Typed-F.Convert kind part) = then_from part (convert_to kind)
value_step row (Typed-F.Narrow kind part) = then_from part (narrow_to kind)
value_step row (Typed-F.Call function parts) = called function parts
value_step row (Typed-F.Aggregate _ _ _) = means_nothing
value_step row (Typed-F.IsIn part list) = then_from part (λ a. is_in a list)
value_step row (Typed-F.IsNull part) = then_from part (λ x. gives (v.Bool (is_null x)))

-- a link, with what its part comes to
abbrev pub link_step : TypedLink-F Outcome Step → Step
link_step l = record { op = l.op; part = l.part }

-- what an expression comes to at a row
abbrev pub value_at : List Value → Typed → Outcome
value_at row = fold-Typed Outcome Step (value_step row) link_step

-- an operator of a chain, and what the part behind it comes to at a row
abbrev pub step_at : List Value → TypedLink → Step
step_at row = fold-TypedLink Outcome Step (value_step row) link_step

-- what several parts come to at a row
abbrev pub values_at : List Value → List Typed → List Outcome
values_at row parts = map (value_at row) parts

-- the same of the links of a chain
abbrev pub steps_at : List Value → List TypedLink → List Step
steps_at row links = map (step_at row) links
