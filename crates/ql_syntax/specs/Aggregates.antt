-- Aggregates, and whether one stands in a typed expression.
use Rattle.std.specs.Prelude.{Bool, true, false, ◌||◌, List, [], ◌∷◌, map}
use Rattle.ql_syntax.specs.declared.syntax.Function.{Function}
use Rattle.ql_syntax.specs.declared.syntax.Function.TheVariants as f
use Rattle.ql_syntax.specs.declared.typed.Typed.{Typed}
use Rattle.ql_syntax.specs.declared.typed.Typed.TheOpen.{Typed-F, TypedLink-F}
use Rattle.ql_syntax.specs.declared.typed.Typed.TheFolds.{fold-Typed, fold-TypedLink}
use Rattle.ql_syntax.specs.declared.typed.TypedLink.{TypedLink}

-- the function is an aggregate, which gives a value of the rows of a group
abbrev pub is_aggregate : Function → Bool
is_aggregate f.Count = true
is_aggregate f.Sum = true
is_aggregate f.Avg = true
is_aggregate f.Min = true
is_aggregate f.Max = true
is_aggregate _ = false

-- one of them is true
abbrev pub is_any : List Bool → Bool
is_any [] = false
is_any (b ∷ more) = b || is_any more

-- a typed expression of one layer, by whether one stands in its parts
abbrev pub aggregate_step : Typed-F Bool Bool → Bool
aggregate_step (Typed-F.Chain first rest) = first || is_any rest
aggregate_step (Typed-F.Unary ops part) = part
aggregate_step (Typed-F.Convert kind part) = part
aggregate_step (Typed-F.Narrow kind part) = part
aggregate_step (Typed-F.Call function parts) = is_any parts
aggregate_step (Typed-F.Aggregate function kind part) = true
aggregate_step (Typed-F.IsIn part list) = part || is_any list
aggregate_step (Typed-F.IsNull part) = part
aggregate_step _ = false

abbrev pub aggregate_link : TypedLink-F Bool Bool → Bool
aggregate_link l = l.part

-- an aggregate stands in the typed expression
abbrev pub has_aggregate : Typed → Bool
has_aggregate = fold-Typed Bool Bool aggregate_step aggregate_link

abbrev pub link_has_aggregate : TypedLink → Bool
link_has_aggregate = fold-TypedLink Bool Bool aggregate_step aggregate_link

-- one stands in one of several typed expressions
abbrev pub any_aggregate : List Typed → Bool
any_aggregate parts = is_any (map has_aggregate parts)
