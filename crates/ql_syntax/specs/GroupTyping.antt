-- The type of a typed expression in a group of rows whose values have known types.
use Rattle.std.specs.Prelude.{Bool, true, false, not, List, Option, Some, None, option_map}
use Rattle.ql_value.specs.Kinds.{is_integer, is_truth}
use Rattle.ql_value.specs.declared.value.Kind.TheVariants as k
use Rattle.ql_syntax.specs.declared.syntax.Function.{Function}
use Rattle.ql_syntax.specs.declared.syntax.Function.TheVariants as f
use Rattle.ql_syntax.specs.declared.typed.Typed.{Typed, map-Typed}
use Rattle.ql_syntax.specs.declared.typed.Typed.TheOpen.{Typed-F, TypedLink-F}
use Rattle.ql_syntax.specs.declared.typed.Typed.TheFolds.{fold-Typed}
use Rattle.ql_syntax.specs.declared.typing.Typing.{Typing}
use Rattle.ql_syntax.specs.declared.typing.Typing.TheVariants.{OnlyNull, OfKind, Ill}
use Rattle.ql_syntax.specs.Typing.{among, given_type, meet, StepType, type_step}

-- the type of values, int64 where they are all NULL
abbrev pub or_int64 : Typing → Typing
or_int64 OnlyNull = OfKind k.Int64
or_int64 type = type

-- the operand and the result of an aggregate, from the type of its part at a row; `count` alone may have no part
abbrev pub aggregate_type : Function → Option Typing → Typing
aggregate_type f.Count None = OfKind k.Int64
aggregate_type f.Count (Some type) = given_type type (OfKind k.Int64)
aggregate_type f.Sum (Some type) = or_int64 (among is_integer type)
aggregate_type f.Avg (Some type) = or_int64 (among is_integer type)
aggregate_type f.Min (Some type) = or_int64 (among (λ kind. not (is_truth kind)) type)
aggregate_type f.Max (Some type) = or_int64 (among (λ kind. not (is_truth kind)) type)
aggregate_type _ _ = Ill

-- one expression, by whether an aggregate may stand in it: where one may, it has its kind, which is what its function gives of its part; and in that none may stand
abbrev pub group_step : List Typing → Typed-F (Bool → Typing) (Bool → StepType) → Bool → Typing
group_step types (Typed-F.Aggregate function kind part) true = meet (OfKind kind) (aggregate_type function (option_map (λ type. type false) part))
group_step types x may = type_step types (map-Typed (Bool → Typing) (Bool → StepType) Typing StepType (λ type. type may) (λ link. link may) x)

-- a link, with the type of its part
abbrev pub group_link : TypedLink-F (Bool → Typing) (Bool → StepType) → Bool → StepType
group_link l may = record { op = l.op; part = l.part may }

-- the type of an expression by whether an aggregate may stand in it; where none may, it is that at a row
abbrev pub type_by : Bool → List Typing → Typed → Typing
type_by may types e = fold-Typed (Bool → Typing) (Bool → StepType) (group_step types) group_link e may

-- the type of an expression of a group
abbrev pub type_in_group : List Typing → Typed → Typing
type_in_group types e = type_by true types e
