-- Operators: what their sides meet, and their types.
use Rattle.std.specs.Prelude.{Bool, true, false, ◌&&◌, not, if◌then◌else◌, List, [], ◌∷◌, ◌++◌, map, Option, Some, None, Ok}
use Rattle.ql_value.specs.declared.operator.BinOp.{BinOp}
use Rattle.ql_value.specs.declared.operator.BinOp.TheVariants as op
use Rattle.ql_value.specs.declared.operator.UnOp.{UnOp}
use Rattle.ql_value.specs.declared.operator.UnOp.TheVariants as un
use Rattle.ql_value.specs.declared.refusal.TheConstants.{LATER}
use Rattle.ql_value.specs.declared.value.Kind.TheVariants as k
use Rattle.ql_syntax.specs.declared.typed.Typed.{Typed, out-Typed}
use Rattle.ql_syntax.specs.declared.typed.Typed.TheOpen.{Typed-F}
use Rattle.ql_syntax.specs.declared.typed.Typed.TheVariants as t
use Rattle.ql_syntax.specs.declared.typed.TypedLink.{TypedLink, roll-TypedLink}
use Rattle.ql_value.specs.Kinds.{is_truth}
use Rattle.ql_syntax.specs.declared.typing.Typing.{Typing}
use Rattle.ql_syntax.specs.declared.typing.Typing.TheVariants.{OnlyNull, OfKind}
use Rattle.ql_syntax.specs.Typing.{among, meet_all, truth_of, operator_type, prefixed_type}
use Rattle.ql_syntax.specs.declared.checked.Literal.{Literal}
use Rattle.ql_syntax.specs.declared.checked.Checked.{Checked}
use Rattle.ql_syntax.specs.Answers.{Answer, refused, then_with, all_of}
use Rattle.ql_syntax.specs.Checked.{no_literal, of_type, literal_of, meet_type, require_type}

-- the operators whose untyped side meets the kind of the other side: those of levels 5 and 4 but the shifts, and the comparisons
abbrev pub shares_kind : BinOp → Bool
shares_kind op.Shl = false
shares_kind op.Shr = false
shares_kind op.Both = false
shares_kind op.Either = false
shares_kind op.Like = false
shares_kind _ = true

-- the operators of levels 5 and 4, from which untyped expressions are built
abbrev pub is_arithmetic : BinOp → Bool
is_arithmetic op.Eq = false
is_arithmetic op.Ne = false
is_arithmetic op.Lt = false
is_arithmetic op.Le = false
is_arithmetic op.Gt = false
is_arithmetic op.Ge = false
is_arithmetic op.Both = false
is_arithmetic op.Either = false
is_arithmetic op.Like = false
is_arithmetic _ = true

-- an operator of a chain, and the resolved part behind it
abbrev pub link : BinOp → Typed → TypedLink
link o part = roll-TypedLink (record { op = o; part = part })

-- an operator between two resolved parts
abbrev pub pair : Typed → BinOp → Typed → Typed
pair left o right = t.Chain left (link o right ∷ [])

-- an operator behind a resolved part, by its layer: a chain stays flat
abbrev pub behind_layer : Typed-F Typed TypedLink → Typed → BinOp → Typed → Typed
behind_layer (Typed-F.Chain first rest) left o right = t.Chain first (rest ++ link o right ∷ [])
behind_layer _ left o right = pair left o right

-- a resolved part with a further operator behind it
abbrev pub longer_chain : Typed → BinOp → Typed → Typed
longer_chain left o right = behind_layer (out-Typed left) left o right

-- two sides whose kinds are settled, by the table of operators
abbrev pub by_table : BinOp → Bool → Checked → Checked → Answer Checked
by_table o untyped left right =
    then_with (require_type (operator_type o left.typing right.typing)) (λ type. Ok (no_literal untyped type (longer_chain left.tree o right.tree)))

-- the operator is LIKE
abbrev pub is_like : BinOp → Bool
is_like op.Like = true
is_like _ = false

-- the untyped one of two sides meets the kind of the other
abbrev pub meet_sides : BinOp → Checked → Checked → Answer Checked
meet_sides o left right = then_with (meet_type right.typing left) (λ a. then_with (meet_type left.typing right) (by_table o false a))

-- an operator between two sides: LIKE is not built yet; two untyped sides stay untyped under an operator of levels 5 and 4, and are int64 under another
abbrev pub operation : BinOp → Checked → Checked → Answer Checked
operation o left right =
    if is_like o then refused LATER
    else (if left.untyped && right.untyped then by_table o (is_arithmetic o) left right
    else (if shares_kind o then meet_sides o left right else by_table o false left right))

-- an operator of a chain, and the answer for the part behind it
pub record Step : Type 0 where
  pub op : BinOp
  pub part : Answer Checked

-- a step behind what is known of all before it
abbrev pub add_step : Checked → Step → Answer Checked
add_step c s = then_with s.part (operation s.op c)

-- a chain, from left to right
abbrev pub add_steps : Checked → List Step → Answer Checked
add_steps c [] = Ok c
add_steps c (s ∷ steps) = then_with (add_step c s) (λ d. add_steps d steps)

-- the last operator is a minus
abbrev pub ends_with_minus : List UnOp → Bool
ends_with_minus [] = false
ends_with_minus (un.Minus ∷ []) = true
ends_with_minus (o ∷ []) = false
ends_with_minus (o ∷ p ∷ ops) = ends_with_minus (p ∷ ops)

-- all operators but the last
abbrev pub but_last : List UnOp → List UnOp
but_last [] = []
but_last (o ∷ []) = []
but_last (o ∷ p ∷ ops) = o ∷ but_last (p ∷ ops)

-- operators before a part, by the table of operators; an untyped part stays untyped
abbrev pub ops_by_table : List UnOp → Checked → Answer Checked
ops_by_table ops c = then_with (require_type (prefixed_type ops c.typing)) (λ type. Ok (no_literal c.untyped type (t.Unary ops c.tree)))

-- operators, or none, before a part whose literal, if it is one, has its minus
abbrev pub ops_before : List UnOp → Checked → Answer Checked
ops_before [] c = Ok c
ops_before (o ∷ ops) c = ops_by_table (o ∷ ops) c

-- operators before a part: a minus directly before a literal belongs to it
abbrev pub apply_ops_by : List UnOp → Option Literal → Checked → Answer Checked
apply_ops_by ops None c = ops_before ops c
apply_ops_by ops (Some l) c =
    if ends_with_minus ops && not l.minus then ops_before (but_last ops) (literal_of (record { minus = true; size = l.size })) else ops_before ops c

abbrev pub apply_ops : List UnOp → Checked → Answer Checked
apply_ops ops c = apply_ops_by ops c.literal c

-- the kind of the first part that has one
abbrev pub kind_before : Bool → Typing → Typing → Typing
kind_before false (OfKind kind) more = OfKind kind
kind_before _ _ more = more

abbrev pub first_kind : List Checked → Typing
first_kind [] = OnlyNull
first_kind (c ∷ parts) = kind_before c.untyped c.typing (first_kind parts)

-- each part meets the type
abbrev pub meet_each : Typing → List Checked → Answer (List Checked)
meet_each type parts = all_of (map (meet_type type) parts)

-- the types and the trees of parts
abbrev pub types : List Checked → List Typing
types parts = map (λ c. c.typing) parts

abbrev pub trees : List Checked → List Typed
trees parts = map (λ c. c.tree) parts

-- a truth, or with NOT its opposite
abbrev pub truth : Bool → Typed → Checked
truth false tree = of_type (OfKind k.Bool) tree
truth true tree = of_type (OfKind k.Bool) (t.Unary (un.Not ∷ []) tree)

-- `a IN (x, y)`: all parts have one kind
abbrev pub in_list : Bool → Checked → List Checked → Answer Checked
in_list negated part list =
    let type = first_kind (part ∷ list) in
    then_with (meet_type type part) (λ a. then_with (meet_each type list) (λ xs.
    then_with (require_type (truth_of (meet_all a.typing (types xs)))) (λ _. Ok (truth negated (t.IsIn a.tree (trees xs))))))

-- `(a >= x) && (a <= y)`
abbrev pub between_tree : Typed → Typed → Typed → Typed
between_tree a low high = pair (pair a op.Ge low) op.Both (pair a op.Le high)

-- `a BETWEEN x AND y`: all parts have one kind, and not that of truths
abbrev pub between : Bool → Checked → Checked → Checked → Answer Checked
between negated part low high =
    let type = first_kind (part ∷ low ∷ high ∷ []) in
    then_with (meet_type type part) (λ a. then_with (meet_type type low) (λ x. then_with (meet_type type high) (λ y.
    then_with (require_type (truth_of (among (λ kind. not (is_truth kind)) (meet_all a.typing (x.typing ∷ y.typing ∷ []))))) (λ _. Ok (truth negated (between_tree a.tree x.tree y.tree))))))

-- `a IS NULL`
abbrev pub null_test : Bool → Checked → Checked
null_test negated part = truth negated (t.IsNull part.tree)
