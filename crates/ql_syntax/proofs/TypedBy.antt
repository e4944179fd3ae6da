-- The types of resolved expressions, by whether an aggregate may stand in them.
use Rattle.std.proofs.Common.{◌≡◌, ℕ, Bool, true, false, List, Some, None, map, sym, ap, ◌∙◌}
use Rattle.std.proofs.lemmas.Simd.{map-map}
use Rattle.ql_value.specs.declared.operator.BinOp.{BinOp}
use Rattle.ql_value.specs.declared.operator.UnOp.{UnOp}
use Rattle.ql_value.specs.declared.value.Kind.{Kind}
use Rattle.ql_value.specs.declared.value.Value.{Value}
use Rattle.ql_syntax.specs.declared.syntax.Function.{Function}
use Rattle.ql_syntax.specs.declared.typed.Typed.{Typed, map-Typed, roll-Typed}
use Rattle.ql_syntax.specs.declared.typed.Typed.TheVariants as t
use Rattle.ql_syntax.specs.declared.typed.Typed.TheOpen.{Typed-F, TypedLink-F}
use Rattle.ql_syntax.specs.declared.typed.Typed.TheFolds.{fold-Typed, fold-TypedLink, fold-roll-Typed, fold-roll-TypedLink}
use Rattle.ql_syntax.specs.declared.typed.TypedLink.{TypedLink, roll-TypedLink}
use Rattle.ql_syntax.specs.declared.typing.Typing.{Typing}
use Rattle.ql_syntax.specs.declared.typing.Typing.TheVariants.{OfKind}
use Rattle.ql_syntax.specs.Typing.{among, given_type, meet, truth_of, meet_all, StepType, chain_type, prefixed_type, converts, call_type, constant_type, place_type}
use Rattle.ql_value.specs.Kinds.{is_integer}
use Rattle.ql_syntax.specs.GroupTyping.{aggregate_type, group_step, group_link, type_by}

-- both types of an expression, and of a link
abbrev pub types_of : List Typing → Typed → Bool → Typing
types_of types = fold-Typed (Bool → Typing) (Bool → StepType) (group_step types) group_link

abbrev pub links_of : List Typing → TypedLink → Bool → StepType
links_of types = fold-TypedLink (Bool → Typing) (Bool → StepType) (group_step types) group_link

abbrev pub link_by : Bool → List Typing → TypedLink → StepType
link_by may types l = links_of types l may

module _ (may : Bool) (types : List Typing) where
  pub by_roll : (z : Typed-F Typed TypedLink) → type_by may types (roll-Typed z) ≡ group_step types (map-Typed Typed TypedLink (Bool → Typing) (Bool → StepType) (types_of types) (links_of types) z) may
  by_roll z = ap (λ f. f may) (fold-roll-Typed (Bool → Typing) (Bool → StepType) (group_step types) group_link z)

  pub by_link_roll : (z : TypedLink-F Typed TypedLink) → link_by may types (roll-TypedLink z) ≡ record { op = z.op; part = type_by may types z.part }
  by_link_roll z = ap (λ f. f may) (fold-roll-TypedLink (Bool → Typing) (Bool → StepType) (group_step types) group_link z)

  parts_by : (parts : List Typed) → map (λ type. type may) (map (types_of types) parts) ≡ map (type_by may types) parts
  parts_by parts = map-map (λ type. type may) (types_of types) parts

  pub by_constant : (x : Value) → type_by may types (t.Constant x) ≡ constant_type x
  by_constant x = ap (type_by may types) (sym (t.rolls-Constant x)) ∙ by_roll (Typed-F.Constant x)

  pub by_place : (at : ℕ) → type_by may types (t.Place at) ≡ place_type types at
  by_place at = ap (type_by may types) (sym (t.rolls-Place at)) ∙ by_roll (Typed-F.Place at)

  pub by_chain : (first : Typed) (rest : List TypedLink) → type_by may types (t.Chain first rest) ≡ chain_type (type_by may types first) (map (link_by may types) rest)
  by_chain first rest = ap (type_by may types) (sym (t.rolls-Chain first rest)) ∙ by_roll (Typed-F.Chain first rest) ∙ ap (chain_type (type_by may types first)) (map-map (λ l. l may) (links_of types) rest)

  pub by_unary : (ops : List UnOp) (part : Typed) → type_by may types (t.Unary ops part) ≡ prefixed_type ops (type_by may types part)
  by_unary ops part = ap (type_by may types) (sym (t.rolls-Unary ops part)) ∙ by_roll (Typed-F.Unary ops part)

  pub by_convert : (kind : Kind) (part : Typed) → type_by may types (t.Convert kind part) ≡ given_type (among (converts kind) (type_by may types part)) (OfKind kind)
  by_convert kind part = ap (type_by may types) (sym (t.rolls-Convert kind part)) ∙ by_roll (Typed-F.Convert kind part)

  pub by_narrow : (kind : Kind) (part : Typed) → type_by may types (t.Narrow kind part) ≡ given_type (among is_integer (type_by may types part)) (among is_integer (OfKind kind))
  by_narrow kind part = ap (type_by may types) (sym (t.rolls-Narrow kind part)) ∙ by_roll (Typed-F.Narrow kind part)

  pub by_call : (function : Function) (parts : List Typed) → type_by may types (t.Call function parts) ≡ call_type function (map (type_by may types) parts)
  by_call function parts = ap (type_by may types) (sym (t.rolls-Call function parts)) ∙ by_roll (Typed-F.Call function parts) ∙ ap (call_type function) (parts_by parts)

  pub by_in : (part : Typed) (list : List Typed) → type_by may types (t.IsIn part list) ≡ truth_of (meet_all (type_by may types part) (map (type_by may types) list))
  by_in part list = ap (type_by may types) (sym (t.rolls-IsIn part list)) ∙ by_roll (Typed-F.IsIn part list) ∙ ap (λ ts. truth_of (meet_all (type_by may types part) ts)) (parts_by list)

  pub by_is_null : (part : Typed) → type_by may types (t.IsNull part) ≡ truth_of (type_by may types part)
  by_is_null part = ap (type_by may types) (sym (t.rolls-IsNull part)) ∙ by_roll (Typed-F.IsNull part)

  pub by_link : (o : BinOp) (part : Typed) → link_by may types (roll-TypedLink (record { op = o; part = part })) ≡ record { op = o; part = type_by may types part }
  by_link o part = by_link_roll (record { op = o; part = part })

-- an aggregate, where one may stand
pub by_rows : (types : List Typing) (function : Function) (kind : Kind) → type_by true types (t.Aggregate function kind None) ≡ meet (OfKind kind) (aggregate_type function None)
by_rows types function kind = ap (type_by true types) (sym (t.rolls-Aggregate function kind None)) ∙ by_roll true types (Typed-F.Aggregate function kind None)

pub by_aggregate : (types : List Typing) (function : Function) (kind : Kind) (part : Typed) → type_by true types (t.Aggregate function kind (Some part)) ≡ meet (OfKind kind) (aggregate_type function (Some (type_by false types part)))
by_aggregate types function kind part = ap (type_by true types) (sym (t.rolls-Aggregate function kind (Some part))) ∙ by_roll true types (Typed-F.Aggregate function kind (Some part))
