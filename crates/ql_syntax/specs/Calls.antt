-- Conversions and the calls of functions.
use Rattle.std.specs.Prelude.{ℕ, ◌==◌, nat_lt, length, Bool, true, false, not, if◌then◌else◌, List, [], ◌∷◌, Option, Some, None, Ok}
use Rattle.ql_value.specs.declared.refusal.TheConstants.{COUNT, AGGREGATE}
use Rattle.ql_value.specs.declared.value.Kind.{Kind}
use Rattle.ql_value.specs.declared.value.Kind.TheVariants as k
use Rattle.ql_syntax.specs.declared.syntax.Function.{Function}
use Rattle.ql_syntax.specs.declared.syntax.Function.TheVariants as f
use Rattle.ql_syntax.specs.declared.typed.Typed.{Typed}
use Rattle.ql_syntax.specs.declared.typed.Typed.TheVariants as t
use Rattle.ql_value.specs.Kinds.{is_integer, is_truth}
use Rattle.ql_syntax.specs.declared.typing.Typing.TheVariants.{OfKind}
use Rattle.ql_syntax.specs.Functions.{takes}
use Rattle.ql_syntax.specs.Typing.{among, given_type, converts, call_type}
use Rattle.ql_syntax.specs.declared.checked.Literal.{Literal}
use Rattle.ql_syntax.specs.declared.checked.Checked.{Checked}
use Rattle.ql_syntax.specs.Answers.{Answer, refused, then_with}
use Rattle.ql_syntax.specs.Checked.{of_type, literal_in, kind_or_int64, require_type}
use Rattle.ql_syntax.specs.Operands.{first_kind, meet_each, types, trees}

-- a conversion by the table
abbrev pub convert_by_table : Kind → Checked → Answer Checked
convert_by_table kind c = then_with (require_type (given_type (among (converts kind) c.typing) (OfKind kind))) (λ type. Ok (of_type type (t.Convert kind c.tree)))

-- a conversion to an integer kind of a literal
abbrev pub convert_literal : Kind → Option Literal → Checked → Answer Checked
convert_literal kind (Some l) c = literal_in kind l
convert_literal kind None c = convert_by_table kind c

-- a conversion; a literal has to be within an integer kind
abbrev pub convert_to : Kind → Checked → Answer Checked
convert_to kind c = if is_integer kind then convert_literal kind c.literal c else convert_by_table kind c

-- a call by the table
abbrev pub call_by_table : Function → List Checked → Answer Checked
call_by_table function parts = then_with (require_type (call_type function (types parts))) (λ type. Ok (of_type type (t.Call function (trees parts))))

-- coalesce: all parts have one kind
abbrev pub coalesce_of : List Checked → Answer Checked
coalesce_of parts = then_with (meet_each (first_kind parts) parts) (λ met. call_by_table f.Coalesce met)

-- a call with the right number of parts
abbrev pub row_value : Function → List Checked → Answer Checked
row_value f.Coalesce parts = coalesce_of parts
row_value function parts = call_by_table function parts

-- functions of a row but id
abbrev pub row_call : Function → List Checked → Answer Checked
row_call function parts = if takes function (length parts) then row_value function parts else refused COUNT

-- an aggregate of a kind
abbrev pub aggregate : Function → Kind → Option Typed → Checked
aggregate function kind part = of_type (OfKind kind) (t.Aggregate function kind part)

-- the first part, if there is one
abbrev pub first_part : List Checked → Option Checked
first_part [] = None
first_part (c ∷ parts) = Some c

-- `count` of a part, or of rows
abbrev pub count_of : Option Checked → Checked
count_of None = aggregate f.Count k.Int64 None
count_of (Some c) = aggregate f.Count k.Int64 (Some c.tree)

-- an aggregate of values of kinds that pass the test: it has their kind, int64 where they are all NULL
abbrev pub aggregate_first : Function → (Kind → Bool) → Option Checked → Answer Checked
aggregate_first function test None = refused COUNT
aggregate_first function test (Some c) = then_with (require_type (among test c.typing)) (λ type. Ok (aggregate function (kind_or_int64 type) (Some c.tree)))

-- an aggregate of its part; `count(*)` has none
abbrev pub group_value : Function → Option Checked → Answer Checked
group_value f.Count part = Ok (count_of part)
group_value f.Sum part = aggregate_first f.Sum is_integer part
group_value f.Avg part = aggregate_first f.Avg is_integer part
group_value f.Min part = aggregate_first f.Min (λ kind. not (is_truth kind)) part
group_value f.Max part = aggregate_first f.Max (λ kind. not (is_truth kind)) part
group_value _ part = refused COUNT

-- aggregates
abbrev pub group_call : Function → List Checked → Answer Checked
group_call function parts = if takes function (length parts) then group_value function (first_part parts) else refused COUNT

-- an aggregate stands where one may stand, and not inside another
abbrev pub allowed_call : Bool → Function → List Checked → Answer Checked
allowed_call true function parts = group_call function parts
allowed_call false function parts = refused AGGREGATE
