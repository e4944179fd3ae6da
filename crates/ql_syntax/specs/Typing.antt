-- The type of a typed expression at a row whose values have known types.
use Rattle.std.specs.Prelude.{◌≡◌, ℕ, zero, suc, Bool, ◌||◌, ◌&&◌, not, if◌then◌else◌, List, [], ◌∷◌}
use Rattle.ql_value.specs.Number.{HasKind, has_number}
use Rattle.ql_value.specs.declared.operator.BinOp.{BinOp}
use Rattle.ql_value.specs.declared.operator.BinOp.TheVariants as op
use Rattle.ql_value.specs.declared.operator.UnOp.{UnOp}
use Rattle.ql_value.specs.declared.operator.UnOp.TheVariants as un
use Rattle.ql_value.specs.declared.value.Kind.{Kind}
use Rattle.ql_value.specs.declared.value.Kind.TheVariants as k
use Rattle.ql_value.specs.declared.value.Value.{Value}
use Rattle.ql_value.specs.declared.value.Value.TheVariants as v
use Rattle.ql_syntax.specs.declared.syntax.Function.{Function}
use Rattle.ql_syntax.specs.declared.syntax.Function.TheVariants as f
use Rattle.ql_syntax.specs.declared.typing.Typing.{Typing}
use Rattle.ql_syntax.specs.declared.typing.Typing.TheVariants.{OnlyNull, OfKind, Ill}
use Rattle.ql_syntax.specs.declared.typed.Typed.{Typed}
use Rattle.ql_syntax.specs.declared.typed.Typed.TheOpen.{Typed-F, TypedLink-F}
use Rattle.ql_syntax.specs.declared.typed.Typed.TheFolds.{fold-Typed}
use Rattle.ql_value.specs.Kinds.{is_integer, is_truth, is_text, is_byte_list, same_kind}

-- it has a type
abbrev pub IsTyped : Typing → Type 0
IsTyped OnlyNull = Unit {0}
IsTyped (OfKind _) = Unit {0}
IsTyped Ill = ⊥

-- the value is of the type
abbrev pub HasType : Typing → Value → Type 0
HasType OnlyNull x = x ≡ v.Null
HasType (OfKind kind) x = HasKind kind x
HasType Ill x = ⊥

-- each value of the row is of the type at its place
abbrev pub FitsRow : List Typing → List Value → Type 0
FitsRow [] [] = Unit {0}
FitsRow (t ∷ types) (x ∷ row) = HasType t x × FitsRow types row
FitsRow _ _ = ⊥

-- the type, where its kind passes the test; NULL passes every test
abbrev pub among : (Kind → Bool) → Typing → Typing
among test OnlyNull = OnlyNull
among test (OfKind kind) = if test kind then OfKind kind else Ill
among test Ill = Ill

-- the second type, where there is a first one
abbrev pub given_type : Typing → Typing → Typing
given_type Ill t = Ill
given_type _ t = t

-- the one type of two parts: NULL meets every kind
abbrev pub meet : Typing → Typing → Typing
meet Ill _ = Ill
meet _ Ill = Ill
meet OnlyNull t = t
meet s OnlyNull = s
meet (OfKind a) (OfKind b) = if same_kind a b then OfKind a else Ill

-- the one type of a part and further parts
abbrev pub meet_all : Typing → List Typing → Typing
meet_all t [] = t
meet_all t (u ∷ types) = meet_all (meet t u) types

-- a truth, where there is a type
abbrev pub truth_of : Typing → Typing
truth_of t = given_type t (OfKind k.Bool)

-- the operands and the result of an operator between two parts; LIKE has none yet
abbrev pub operator_type : BinOp → Typing → Typing → Typing
operator_type op.Add s t = among (λ kind. is_integer kind || is_text kind) (meet s t)
operator_type op.Shl s t = given_type (among is_integer t) (among is_integer s)
operator_type op.Shr s t = given_type (among is_integer t) (among is_integer s)
operator_type op.Eq s t = truth_of (meet s t)
operator_type op.Ne s t = truth_of (meet s t)
operator_type op.Lt s t = truth_of (among (λ kind. not (is_truth kind)) (meet s t))
operator_type op.Le s t = truth_of (among (λ kind. not (is_truth kind)) (meet s t))
operator_type op.Gt s t = truth_of (among (λ kind. not (is_truth kind)) (meet s t))
operator_type op.Ge s t = truth_of (among (λ kind. not (is_truth kind)) (meet s t))
operator_type op.Both s t = truth_of (among is_truth (meet s t))
operator_type op.Either s t = truth_of (among is_truth (meet s t))
operator_type op.Like s t = Ill
operator_type _ s t = among is_integer (meet s t)

-- an operator of a chain, and the type of the part behind it
pub record StepType : Type 0 where
  pub op : BinOp
  pub part : Typing

-- a chain, from left to right
abbrev pub chain_type : Typing → List StepType → Typing
chain_type t [] = t
chain_type t (s ∷ steps) = chain_type (operator_type s.op t s.part) steps

-- what an operator before a part takes, which is what it gives
abbrev pub prefix_type : UnOp → Typing → Typing
prefix_type un.Not t = among is_truth t
prefix_type _ t = among is_integer t

-- operators before a part: the last one comes first
abbrev pub prefixed_type : List UnOp → Typing → Typing
prefixed_type [] t = t
prefixed_type (o ∷ ops) t = prefix_type o (prefixed_type ops t)

-- a conversion stays within truths, within numbers, or within strings and blobs
abbrev pub converts : Kind → Kind → Bool
converts to from = is_truth to && is_truth from || is_integer to && is_integer from || is_byte_list to && is_byte_list from

-- the call of a function
abbrev pub call_type : Function → List Typing → Typing
call_type f.Len (t ∷ []) = given_type (among is_byte_list t) (OfKind k.Int64)
call_type f.Contains (s ∷ t ∷ []) = truth_of (among is_text (meet s t))
call_type f.HasPrefix (s ∷ t ∷ []) = truth_of (among is_text (meet s t))
call_type f.HasSuffix (s ∷ t ∷ []) = truth_of (among is_text (meet s t))
call_type f.Coalesce (t ∷ types) = meet_all t types
call_type _ _ = Ill

-- a constant is NULL or a value of its kind
abbrev pub constant_type : Value → Typing
constant_type v.Null = OnlyNull
constant_type (v.Bool _) = OfKind k.Bool
constant_type (v.Int kind z) = if is_integer kind && has_number kind z then OfKind kind else Ill
constant_type (v.Text _) = OfKind k.Text
constant_type (v.Blob _) = OfKind k.Blob

-- the type at a place of the row
abbrev pub place_type : List Typing → ℕ → Typing
place_type [] at = Ill
place_type (t ∷ types) zero = t
place_type (t ∷ types) (suc at) = place_type types at

-- one expression, with the types of its parts in their place; an aggregate has none outside a group
abbrev pub type_step : List Typing → Typed-F Typing StepType → Typing
type_step types (Typed-F.Constant x) = constant_type x
type_step types (Typed-F.Place at) = place_type types at
type_step types (Typed-F.Chain first rest) = chain_type first rest
type_step types (Typed-F.Unary ops part) = prefixed_type ops part
type_step types (Typed-F.Convert kind part) = given_type (among (converts kind) part) (OfKind kind)
type_step types (Typed-F.Narrow kind part) = given_type (among is_integer part) (among is_integer (OfKind kind))
type_step types (Typed-F.Call function parts) = call_type function parts
type_step types (Typed-F.Aggregate _ _ _) = Ill
type_step types (Typed-F.IsIn part list) = truth_of (meet_all part list)
type_step types (Typed-F.IsNull part) = truth_of part

-- a link, with the type of its part
abbrev pub link_type : TypedLink-F Typing StepType → StepType
link_type l = record { op = l.op; part = l.part }

-- the type of an expression at rows whose values have these types
abbrev pub type_of : List Typing → Typed → Typing
type_of types = fold-Typed Typing StepType (type_step types) link_type

-- for some types of the row's values the expression has a type
pub record WellTyped (row : List Value) (e : Typed) : Type 0 where
  pub types : List Typing
  pub fits : FitsRow types row
  pub typed : IsTyped (type_of types e)
