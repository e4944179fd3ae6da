-- What is known of an expression whose names are resolved.
use Rattle.std.specs.Prelude.{ℤ, pos, neg_ℤ, Bool, false, ◌&&◌, if◌then◌else◌, Option, Some, None, Ok}
use Rattle.ql_value.specs.Number.{has_number, wrapped}
use Rattle.ql_value.specs.declared.value.Kind.{Kind}
use Rattle.ql_value.specs.declared.value.Kind.TheVariants as k
use Rattle.ql_value.specs.declared.value.Value.TheVariants as v
use Rattle.ql_value.specs.declared.refusal.TheConstants.{TYPE, CONSTANT_RANGE}
use Rattle.ql_syntax.specs.declared.typed.Typed.{Typed}
use Rattle.ql_syntax.specs.declared.typed.Typed.TheVariants as t
use Rattle.ql_value.specs.Kinds.{is_integer, same_kind}
use Rattle.ql_syntax.specs.declared.typing.Typing.{Typing}
use Rattle.ql_syntax.specs.declared.typing.Typing.TheVariants.{OfKind, Ill}
use Rattle.ql_syntax.specs.declared.checked.Literal.{Literal}
use Rattle.ql_syntax.specs.declared.checked.Checked.{Checked}
use Rattle.ql_syntax.specs.Answers.{Answer, refused}

-- the number that it means
abbrev pub number_of : Literal → ℤ
number_of l = if l.minus then neg_ℤ (pos l.size) else pos l.size

-- an expression that is no literal, by whether it is untyped
abbrev pub no_literal : Bool → Typing → Typed → Checked
no_literal untyped type tree = record { literal = None; untyped = untyped; typing = type; tree = tree }

-- an expression that has a type of its own
abbrev pub of_type : Typing → Typed → Checked
of_type type tree = no_literal false type tree

-- the kind of a literal that meets none: int64, or uint64 where it is outside
abbrev pub literal_kind : ℤ → Kind
literal_kind z = if has_number k.Int64 z then k.Int64 else k.Uint64

-- a literal: it is untyped within int64; a minus before a number over 2^63 is modulo 2^64
abbrev pub literal_of : Literal → Checked
literal_of l =
    let z = number_of l in
    let kind = literal_kind z in
    record { literal = Some l; untyped = has_number k.Int64 z; typing = OfKind kind; tree = t.Constant (v.Int kind (wrapped kind z)) }

-- the same expression in brackets, which is no literal
abbrev pub in_brackets : Checked → Checked
in_brackets c = no_literal c.untyped c.typing c.tree

-- a literal as a number of an integer kind: 7 where it is outside
abbrev pub literal_in : Kind → Literal → Answer Checked
literal_in kind l =
    if has_number kind (number_of l) then Ok (of_type (OfKind kind) (t.Constant (v.Int kind (number_of l)))) else refused CONSTANT_RANGE

-- a value computed in int64 as one of an integer kind: it may be outside when it is evaluated
abbrev pub narrow : Kind → Typed → Typed
narrow kind tree = if same_kind kind k.Int64 then tree else t.Narrow kind tree

-- an untyped expression that meets an integer kind takes it
abbrev pub take_kind : Kind → Option Literal → Typed → Answer Checked
take_kind kind (Some l) tree = literal_in kind l
take_kind kind None tree = Ok (of_type (OfKind kind) (narrow kind tree))

-- whether the type is an integer kind
abbrev pub is_number_type : Typing → Bool
is_number_type (OfKind kind) = is_integer kind
is_number_type _ = false

-- the kind of the type, or int64 where it has none
abbrev pub kind_or_int64 : Typing → Kind
kind_or_int64 (OfKind kind) = kind
kind_or_int64 _ = k.Int64

-- an expression beside one of a type: it takes that kind if it is untyped and the kind is an integer kind
abbrev pub meet_type : Typing → Checked → Answer Checked
meet_type type c = if c.untyped && is_number_type type then take_kind (kind_or_int64 type) c.literal c.tree else Ok c

-- the type, where the table of operators has one
abbrev pub require_type : Typing → Answer Typing
require_type Ill = refused TYPE
require_type type = Ok type
