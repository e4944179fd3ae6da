-- A few types and refusals, computed by the definitions. Each part is given by what is said of it.
use Rattle.std.proofs.Common.{◌≡◌, ℕ, ℤ, pos, negsuc, Bool, true, false, List, [], ◌∷◌, ◌++◌, Some, None, Ok, ◌+◌, ◌^◌, ◌-◌, refl, ap, ◌∙◌}
use Rattle.std.specs.Prelude.{codes}
use Rattle.ql_value.specs.declared.operator.BinOp.{BinOp}
use Rattle.ql_value.specs.declared.operator.BinOp.TheVariants as op
use Rattle.ql_value.specs.declared.operator.UnOp.{UnOp}
use Rattle.ql_value.specs.declared.operator.UnOp.TheVariants as un
use Rattle.ql_value.specs.declared.value.Kind.{Kind}
use Rattle.ql_value.specs.declared.value.Kind.TheVariants as k
use Rattle.ql_value.specs.declared.value.Value.{Value}
use Rattle.ql_value.specs.declared.value.Value.TheVariants as v
use Rattle.ql_syntax.specs.declared.syntax.Expr.TheOpen.{Expr-F}
use Rattle.ql_syntax.specs.declared.syntax.Function.{Function}
use Rattle.ql_syntax.specs.declared.syntax.Function.TheVariants as f
use Rattle.ql_syntax.specs.declared.typed.Typed.{Typed}
use Rattle.ql_syntax.specs.declared.typed.Typed.TheVariants as t
use Rattle.ql_syntax.specs.declared.typed.TypedLink.{TypedLink}
use Rattle.ql_syntax.specs.declared.typing.Typing.{Typing}
use Rattle.ql_syntax.specs.declared.typing.Typing.TheVariants.{OnlyNull, OfKind}
use Rattle.ql_syntax.specs.declared.checked.Checked.{Checked}
use Rattle.ql_syntax.specs.declared.scope.Slot.{Slot}
use Rattle.ql_syntax.specs.declared.scope.Scope.{Scope}
use Rattle.ql_syntax.specs.Answers.{Answer, refused, refused_at}
use Rattle.ql_syntax.specs.Checked.{of_type}
use Rattle.ql_syntax.specs.Operands.{link, behind_layer, longer_chain}
use Rattle.ql_syntax.specs.Resolving.{Judged, expr_step}

-- the id and the columns of a record set
abbrev id_of : List ℕ → Slot
id_of set = record { set = Some set; column = None; typing = OfKind k.Int64 }

abbrev column_of : List ℕ → List ℕ → Kind → Slot
column_of set name kind = record { set = Some set; column = Some name; typing = OfKind kind }

-- no record set; `t (a int8, s string)`; and `t` beside `u (a int64)`
abbrev nothing : Scope
nothing = record { row = []; fields = []; hides = false }

abbrev table : List Slot
table = id_of (codes "t") ∷ column_of (codes "t") (codes "a") k.Int8 ∷ column_of (codes "t") (codes "s") k.Text ∷ []

abbrev one : Scope
one = record { row = table; fields = []; hides = false }

abbrev two : Scope
two = record { row = table ++ (id_of (codes "u") ∷ column_of (codes "u") (codes "a") k.Int64 ∷ []); fields = []; hides = false }

-- one field that is named `a`, behind a row that is hidden
abbrev behind : Scope
behind = record { row = table; fields = record { set = None; column = Some (codes "a"); typing = OfKind k.Text } ∷ []; hides = true }

module _ (scope : Scope) where
  abbrev number : ℕ → Judged
  number n = expr_step scope (Expr-F.Number n)

  abbrev minus : ℕ → Judged
  minus n = expr_step scope (Expr-F.Unary (un.Minus ∷ []) (number n))

  abbrev signed : List UnOp → Judged → Judged
  signed ops part = expr_step scope (Expr-F.Unary ops part)

  abbrev text : List ℕ → Judged
  text bytes = expr_step scope (Expr-F.Text bytes)

  abbrev null : Judged
  null = expr_step scope Expr-F.Null

  abbrev name : List ℕ → Judged
  name column = expr_step scope (Expr-F.Column None column)

  abbrev qualified : List ℕ → List ℕ → Judged
  qualified set column = expr_step scope (Expr-F.Column (Some set) column)

  abbrev brackets : Judged → Judged
  brackets part = expr_step scope (Expr-F.Paren part)

  abbrev pair : Judged → BinOp → Judged → Judged
  pair left o right = expr_step scope (Expr-F.Chain left (record { op = o; part = right } ∷ []))

  abbrev three : Judged → BinOp → Judged → BinOp → Judged → Judged
  three a o b p c = expr_step scope (Expr-F.Chain a (record { op = o; part = b } ∷ record { op = p; part = c } ∷ []))

  abbrev as_kind : Kind → Judged → Judged
  as_kind kind part = expr_step scope (Expr-F.Convert kind part)

  abbrev int8 : ℕ → Judged
  int8 n = as_kind k.Int8 (number n)

  abbrev int16 : ℕ → Judged
  int16 n = as_kind k.Int16 (number n)

  abbrev truth : Bool → Judged
  truth b = expr_step scope (Expr-F.Truth b)

  abbrev blob : List ℕ → Judged
  blob bytes = as_kind k.Blob (text bytes)

  abbrev of : Function → List Judged → Judged
  of function parts = expr_step scope (Expr-F.Call function false parts)

  abbrev among : Judged → List Judged → Judged
  among part list = expr_step scope (Expr-F.IsIn false part list)

  abbrev not_among : Judged → List Judged → Judged
  not_among part list = expr_step scope (Expr-F.IsIn true part list)

  abbrev in_select : Judged → Judged
  in_select part = expr_step scope (Expr-F.IsInSelect false part tt)

  abbrev from_to : Judged → Judged → Judged → Judged
  from_to part low high = expr_step scope (Expr-F.IsBetween false part low high)

  abbrev null_test : Judged → Judged
  null_test part = expr_step scope (Expr-F.IsNull false part)

abbrev at_row : Judged → Answer Checked
at_row j = j.answer false

abbrev in_field : Judged → Answer Checked
in_field j = j.answer true

abbrev constant : Kind → ℤ → Typed
constant kind z = t.Constant (v.Int kind z)

abbrev untyped : Typed → Answer Checked
untyped tree = Ok (record { literal = None; untyped = true; typing = OfKind k.Int64; tree = tree })

abbrev typed : Typing → Typed → Answer Checked
typed type tree = Ok (of_type type tree)

abbrev chain_of : Typed → BinOp → Typed → Typed
chain_of a o b = t.Chain a (link o b ∷ [])

abbrev text_tree : List ℕ → Typed
text_tree b = t.Constant (v.Text b)

-- an operator behind a constant, behind a part that took a kind, and behind a chain
behind_constant : (x : Value) (o : BinOp) (right : Typed) → longer_chain (t.Constant x) o right ≡ chain_of (t.Constant x) o right
behind_constant x o right = ap (λ z. behind_layer z (t.Constant x) o right) (t.outs-Constant x)

behind_narrow : (kind : Kind) (part : Typed) (o : BinOp) (right : Typed) → longer_chain (t.Narrow kind part) o right ≡ chain_of (t.Narrow kind part) o right
behind_narrow kind part o right = ap (λ z. behind_layer z (t.Narrow kind part) o right) (t.outs-Narrow kind part)

behind_chain : (first : Typed) (rest : List TypedLink) (o : BinOp) (right : Typed) → longer_chain (t.Chain first rest) o right ≡ t.Chain first (rest ++ link o right ∷ [])
behind_chain first rest o right = ap (λ z. behind_layer z (t.Chain first rest) o right) (t.outs-Chain first rest)

-- `(1 + "a") + nosuch`: what is wrong within comes first
inner_first : at_row (pair nothing (brackets nothing (pair nothing (number nothing 1) op.Add (text nothing (codes "a")))) op.Add (name nothing (codes "nosuch"))) ≡ refused 5
inner_first = refl

-- `nosuch LIKE "a"`: the operands come before LIKE
name_before_like : at_row (pair nothing (name nothing (codes "nosuch")) op.Like (text nothing (codes "a"))) ≡ refused_at 2 (codes "nosuch")
name_before_like = refl

like_later : at_row (pair nothing (number nothing 1) op.Like (text nothing (codes "a"))) ≡ refused 10
like_later = refl

-- `1 LIKE nosuch`: the right side too; and `nosuch IN (SELECT ..)`, `1 IN (SELECT ..)`
both_before_like : at_row (pair nothing (number nothing 1) op.Like (name nothing (codes "nosuch"))) ≡ refused_at 2 (codes "nosuch")
both_before_like = refl

name_before_select : at_row (in_select nothing (name nothing (codes "nosuch"))) ≡ refused_at 2 (codes "nosuch")
name_before_select = refl

select_later : at_row (in_select nothing (number nothing 1)) ≡ refused 10
select_later = refl

-- `uint8(300)`, `uint64(-1)` and `int8(-18446744073709551615)`; `int8((300))` keeps the low bits
outside : at_row (as_kind nothing k.Uint8 (number nothing 300)) ≡ refused 7
outside = refl

below : at_row (as_kind nothing k.Uint64 (minus nothing 1)) ≡ refused 7
below = refl

far_below : at_row (as_kind nothing k.Int8 (minus nothing (2 ^ 64 - 1))) ≡ refused 7
far_below = refl

low_bits : at_row (as_kind nothing k.Int8 (brackets nothing (number nothing 300))) ≡ typed (OfKind k.Int8) (t.Convert k.Int8 (constant k.Int64 (pos 300)))
low_bits = refl

-- `bool(1)` and `string(1)` are 5, `blob("a")` is a blob
no_truth : at_row (as_kind nothing k.Bool (number nothing 1)) ≡ refused 5
no_truth = refl

no_text : at_row (as_kind nothing k.Text (number nothing 1)) ≡ refused 5
no_text = refl

to_blob : at_row (blob nothing (codes "a")) ≡ typed (OfKind k.Blob) (t.Convert k.Blob (text_tree (codes "a")))
to_blob = refl

-- `300 + int8(1)`, `int8(1) + -129` and `int8(1) == 300` are 7, `int8(1) + -128` is fine
literal_before : at_row (pair nothing (number nothing 300) op.Add (int8 nothing 1)) ≡ refused 7
literal_before = refl

minus_meets : at_row (pair nothing (int8 nothing 1) op.Add (minus nothing 129)) ≡ refused 7
minus_meets = refl

least_meets : at_row (pair nothing (int8 nothing 1) op.Add (minus nothing 128)) ≡ typed (OfKind k.Int8) (chain_of (constant k.Int8 (pos 1)) op.Add (constant k.Int8 (negsuc 127)))
least_meets = ap (typed (OfKind k.Int8)) (behind_constant (v.Int k.Int8 (pos 1)) op.Add (constant k.Int8 (negsuc 127)))

compared_meets : at_row (pair nothing (int8 nothing 1) op.Eq (number nothing 300)) ≡ refused 7
compared_meets = refl

-- `int8(1) + 300` is 7, `int8(1) + (300)`, `int8(1) + +300`, `int8(1) + - -300` and `int8(1) + (100 + 100)` are judged when they are evaluated
literal_meets : at_row (pair nothing (int8 nothing 1) op.Add (number nothing 300)) ≡ refused 7
literal_meets = refl

brackets_meet : at_row (pair nothing (int8 nothing 1) op.Add (brackets nothing (number nothing 300))) ≡ typed (OfKind k.Int8) (chain_of (constant k.Int8 (pos 1)) op.Add (t.Narrow k.Int8 (constant k.Int64 (pos 300))))
brackets_meet = ap (typed (OfKind k.Int8)) (behind_constant (v.Int k.Int8 (pos 1)) op.Add (t.Narrow k.Int8 (constant k.Int64 (pos 300))))

plus_meets : at_row (pair nothing (int8 nothing 1) op.Add (signed nothing (un.Plus ∷ []) (number nothing 300))) ≡ typed (OfKind k.Int8) (chain_of (constant k.Int8 (pos 1)) op.Add (t.Narrow k.Int8 (t.Unary (un.Plus ∷ []) (constant k.Int64 (pos 300)))))
plus_meets = ap (typed (OfKind k.Int8)) (behind_constant (v.Int k.Int8 (pos 1)) op.Add (t.Narrow k.Int8 (t.Unary (un.Plus ∷ []) (constant k.Int64 (pos 300)))))

two_signs_meet : at_row (pair nothing (int8 nothing 1) op.Add (signed nothing (un.Minus ∷ un.Minus ∷ []) (number nothing 300))) ≡ typed (OfKind k.Int8) (chain_of (constant k.Int8 (pos 1)) op.Add (t.Narrow k.Int8 (t.Unary (un.Minus ∷ []) (constant k.Int64 (negsuc 299)))))
two_signs_meet = ap (typed (OfKind k.Int8)) (behind_constant (v.Int k.Int8 (pos 1)) op.Add (t.Narrow k.Int8 (t.Unary (un.Minus ∷ []) (constant k.Int64 (negsuc 299)))))

sum_meets : at_row (pair nothing (int8 nothing 1) op.Add (brackets nothing (pair nothing (number nothing 100) op.Add (number nothing 100)))) ≡ typed (OfKind k.Int8) (chain_of (constant k.Int8 (pos 1)) op.Add (t.Narrow k.Int8 (chain_of (constant k.Int64 (pos 100)) op.Add (constant k.Int64 (pos 100)))))
sum_meets =
    let hundred = constant k.Int64 (pos 100) in
    ap (λ x. typed (OfKind k.Int8) (longer_chain (constant k.Int8 (pos 1)) op.Add (t.Narrow k.Int8 x))) (behind_constant (v.Int k.Int64 (pos 100)) op.Add hundred)
    ∙ ap (typed (OfKind k.Int8)) (behind_constant (v.Int k.Int8 (pos 1)) op.Add (t.Narrow k.Int8 (chain_of hundred op.Add hundred)))

-- in `1 + 2 + int8(3)` all that stands before meets int8, in `int8(3) + 1 + 2` each literal
whole_meets : at_row (three nothing (number nothing 1) op.Add (number nothing 2) op.Add (int8 nothing 3)) ≡ typed (OfKind k.Int8) (chain_of (t.Narrow k.Int8 (chain_of (constant k.Int64 (pos 1)) op.Add (constant k.Int64 (pos 2)))) op.Add (constant k.Int8 (pos 3)))
whole_meets =
    let three = constant k.Int8 (pos 3) in
    ap (λ x. typed (OfKind k.Int8) (longer_chain (t.Narrow k.Int8 x) op.Add three)) (behind_constant (v.Int k.Int64 (pos 1)) op.Add (constant k.Int64 (pos 2)))
    ∙ ap (typed (OfKind k.Int8)) (behind_narrow k.Int8 (chain_of (constant k.Int64 (pos 1)) op.Add (constant k.Int64 (pos 2))) op.Add three)

each_meets : at_row (three nothing (int8 nothing 3) op.Add (number nothing 1) op.Add (number nothing 2)) ≡ typed (OfKind k.Int8) (t.Chain (constant k.Int8 (pos 3)) (link op.Add (constant k.Int8 (pos 1)) ∷ link op.Add (constant k.Int8 (pos 2)) ∷ []))
each_meets =
    let two = constant k.Int8 (pos 2) in
    ap (λ x. typed (OfKind k.Int8) (longer_chain x op.Add two)) (behind_constant (v.Int k.Int8 (pos 3)) op.Add (constant k.Int8 (pos 1)))
    ∙ ap (typed (OfKind k.Int8)) (behind_chain (constant k.Int8 (pos 3)) (link op.Add (constant k.Int8 (pos 1)) ∷ []) op.Add two)

-- `(int8(3) + 1) + 2` is the same chain, and `int8(3) + (1 + 2)` is not
brackets_before : at_row (pair nothing (brackets nothing (pair nothing (int8 nothing 3) op.Add (number nothing 1))) op.Add (number nothing 2)) ≡ at_row (three nothing (int8 nothing 3) op.Add (number nothing 1) op.Add (number nothing 2))
brackets_before = refl

-- `1 << -1` is untyped and fine here; `1 << uint8(3)` is int64
shift : at_row (pair nothing (number nothing 1) op.Shl (minus nothing 1)) ≡ untyped (chain_of (constant k.Int64 (pos 1)) op.Shl (constant k.Int64 (negsuc 0)))
shift = ap untyped (behind_constant (v.Int k.Int64 (pos 1)) op.Shl (constant k.Int64 (negsuc 0)))

typed_count : at_row (pair nothing (number nothing 1) op.Shl (as_kind nothing k.Uint8 (number nothing 3))) ≡ typed (OfKind k.Int64) (chain_of (constant k.Int64 (pos 1)) op.Shl (constant k.Uint8 (pos 3)))
typed_count = ap (typed (OfKind k.Int64)) (behind_constant (v.Int k.Int64 (pos 1)) op.Shl (constant k.Uint8 (pos 3)))

-- `int8(1) << 300`: a count meets no kind
count_alone : at_row (pair nothing (int8 nothing 1) op.Shl (number nothing 300)) ≡ typed (OfKind k.Int8) (chain_of (constant k.Int8 (pos 1)) op.Shl (constant k.Int64 (pos 300)))
count_alone = ap (typed (OfKind k.Int8)) (behind_constant (v.Int k.Int8 (pos 1)) op.Shl (constant k.Int64 (pos 300)))

-- two untyped sides of a comparison are int64: `1 < 300`
untyped_compared : at_row (pair nothing (number nothing 1) op.Lt (number nothing 300)) ≡ typed (OfKind k.Bool) (chain_of (constant k.Int64 (pos 1)) op.Lt (constant k.Int64 (pos 300)))
untyped_compared = ap (typed (OfKind k.Bool)) (behind_constant (v.Int k.Int64 (pos 1)) op.Lt (constant k.Int64 (pos 300)))

-- `NULL + 1` is int64; `1 == "a"` and `true < false` are 5
null_beside : at_row (pair nothing (null nothing) op.Add (number nothing 1)) ≡ typed (OfKind k.Int64) (chain_of (t.Constant v.Null) op.Add (constant k.Int64 (pos 1)))
null_beside = ap (typed (OfKind k.Int64)) (behind_constant v.Null op.Add (constant k.Int64 (pos 1)))

two_sorts : at_row (pair nothing (number nothing 1) op.Eq (text nothing (codes "a"))) ≡ refused 5
two_sorts = refl

no_order : at_row (pair nothing (truth nothing true) op.Lt (truth nothing false)) ≡ refused 5
no_order = refl

-- `true == false` is fine; `1 && true`, `blob("a") + blob("b")`, `!1` and `-"a"` are 5; `"a" + "b"` is a string, and `!NULL` NULL
truths_equal : at_row (pair nothing (truth nothing true) op.Eq (truth nothing false)) ≡ typed (OfKind k.Bool) (chain_of (t.Constant (v.Bool true)) op.Eq (t.Constant (v.Bool false)))
truths_equal = ap (typed (OfKind k.Bool)) (behind_constant (v.Bool true) op.Eq (t.Constant (v.Bool false)))

number_and : at_row (pair nothing (number nothing 1) op.Both (truth nothing true)) ≡ refused 5
number_and = refl

two_blobs : at_row (pair nothing (blob nothing (codes "a")) op.Add (blob nothing (codes "b"))) ≡ refused 5
two_blobs = refl

not_number : at_row (signed nothing (un.Not ∷ []) (number nothing 1)) ≡ refused 5
not_number = refl

minus_text : at_row (signed nothing (un.Minus ∷ []) (text nothing (codes "a"))) ≡ refused 5
minus_text = refl

two_texts : at_row (pair nothing (text nothing (codes "a")) op.Add (text nothing (codes "b"))) ≡ typed (OfKind k.Text) (chain_of (text_tree (codes "a")) op.Add (text_tree (codes "b")))
two_texts = ap (typed (OfKind k.Text)) (behind_constant (v.Text (codes "a")) op.Add (text_tree (codes "b")))

not_null : at_row (signed nothing (un.Not ∷ []) (null nothing)) ≡ typed OnlyNull (t.Unary (un.Not ∷ []) (t.Constant v.Null))
not_null = refl

-- `-9223372036854775808` is untyped, `9223372036854775808` a uint64, and `- -9223372036854775808` minus the first
least : at_row (minus nothing (2 ^ 63)) ≡ Ok (record { literal = Some (record { minus = true; size = 2 ^ 63 }); untyped = true; typing = OfKind k.Int64; tree = constant k.Int64 (negsuc (2 ^ 63 - 1)) })
least = refl

large : at_row (brackets nothing (number nothing (2 ^ 63))) ≡ typed (OfKind k.Uint64) (constant k.Uint64 (pos (2 ^ 63)))
large = refl

two_signs : at_row (signed nothing (un.Minus ∷ un.Minus ∷ []) (number nothing (2 ^ 63))) ≡ untyped (t.Unary (un.Minus ∷ []) (constant k.Int64 (negsuc (2 ^ 63 - 1))))
two_signs = refl

-- `-9223372036854775809` is minus a uint64, and `1 - 9223372036854775808` a difference of two
beyond : at_row (brackets nothing (minus nothing (2 ^ 63 + 1))) ≡ typed (OfKind k.Uint64) (constant k.Uint64 (pos (2 ^ 63 - 1)))
beyond = refl

less_large : at_row (pair nothing (number nothing 1) op.Sub (number nothing (2 ^ 63))) ≡ typed (OfKind k.Uint64) (chain_of (constant k.Uint64 (pos 1)) op.Sub (constant k.Uint64 (pos (2 ^ 63))))
less_large = ap (typed (OfKind k.Uint64)) (behind_constant (v.Int k.Uint64 (pos 1)) op.Sub (constant k.Uint64 (pos (2 ^ 63))))

-- `coalesce(1, 300, int8(2))` is 7 and `coalesce(1, 300)` an int64; `coalesce()` is 6
parts_meet : at_row (of nothing f.Coalesce (number nothing 1 ∷ number nothing 300 ∷ int8 nothing 2 ∷ [])) ≡ refused 7
parts_meet = refl

parts_alone : at_row (of nothing f.Coalesce (number nothing 1 ∷ number nothing 300 ∷ [])) ≡ typed (OfKind k.Int64) (t.Call f.Coalesce (constant k.Int64 (pos 1) ∷ constant k.Int64 (pos 300) ∷ []))
parts_alone = refl

no_parts : at_row (of nothing f.Coalesce []) ≡ refused 6
no_parts = refl

-- `300 IN (int8(1), "a")`: 7 comes before 5; `true BETWEEN true AND true` is 5
range_first : at_row (among nothing (number nothing 300) (int8 nothing 1 ∷ text nothing (codes "a") ∷ [])) ≡ refused 7
range_first = refl

no_range : at_row (from_to nothing (truth nothing true) (truth nothing true) (truth nothing true)) ≡ refused 5
no_range = refl

-- `300 IN ("a", int8(1))` is 5, since the first part that has a kind is a string; `true NOT IN (false)` is fine
text_first : at_row (among nothing (number nothing 300) (text nothing (codes "a") ∷ int8 nothing 1 ∷ [])) ≡ refused 5
text_first = refl

truth_in : at_row (not_among nothing (truth nothing true) (truth nothing false ∷ [])) ≡ typed (OfKind k.Bool) (t.Unary (un.Not ∷ []) (t.IsIn (t.Constant (v.Bool true)) (t.Constant (v.Bool false) ∷ [])))
truth_in = refl

-- `2 BETWEEN int8(1) AND 3` is `(2 >= 1) && (2 <= 3)`; `int8(1) BETWEEN 300 AND int16(5)` is 7, and `1 IS NULL` fine
two_bounds : at_row (from_to nothing (number nothing 2) (int8 nothing 1) (number nothing 3)) ≡ typed (OfKind k.Bool) (chain_of (chain_of (constant k.Int8 (pos 2)) op.Ge (constant k.Int8 (pos 1))) op.Both (chain_of (constant k.Int8 (pos 2)) op.Le (constant k.Int8 (pos 3))))
two_bounds = refl

part_first : at_row (from_to nothing (int8 nothing 1) (number nothing 300) (int16 nothing 5)) ≡ refused 7
part_first = refl

is_null : at_row (null_test nothing (number nothing 1)) ≡ typed (OfKind k.Bool) (t.IsNull (constant k.Int64 (pos 1)))
is_null = refl

-- `len("a")` is an int64, `len(1)` 5, `len()` 6, and `len(nosuch, 1)` 2; `contains("a", NULL)` is a bool, and `contains("a", 1)` 5
length_of_text : at_row (of nothing f.Len (text nothing (codes "a") ∷ [])) ≡ typed (OfKind k.Int64) (t.Call f.Len (text_tree (codes "a") ∷ []))
length_of_text = refl

length_of_number : at_row (of nothing f.Len (number nothing 1 ∷ [])) ≡ refused 5
length_of_number = refl

no_length : at_row (of nothing f.Len []) ≡ refused 6
no_length = refl

name_before_count : at_row (of nothing f.Len (name nothing (codes "nosuch") ∷ number nothing 1 ∷ [])) ≡ refused_at 2 (codes "nosuch")
name_before_count = refl

null_stands_in : at_row (of nothing f.Contains (text nothing (codes "a") ∷ null nothing ∷ [])) ≡ typed (OfKind k.Bool) (t.Call f.Contains (text_tree (codes "a") ∷ t.Constant v.Null ∷ []))
null_stands_in = refl

number_stands_in : at_row (of nothing f.Contains (text nothing (codes "a") ∷ number nothing 1 ∷ [])) ≡ refused 5
number_stands_in = refl

-- `a`, `t.a`, `t.b`, `u.a` over one table; `a` over two that have it, and `s`
own_column : at_row (name one (codes "a")) ≡ typed (OfKind k.Int8) (t.Place 1)
own_column = refl

its_column : at_row (qualified one (codes "t") (codes "s")) ≡ typed (OfKind k.Text) (t.Place 2)
its_column = refl

no_column : at_row (qualified one (codes "t") (codes "b")) ≡ refused_at 2 (codes "t.b")
no_column = refl

no_set : at_row (qualified one (codes "u") (codes "a")) ≡ refused_at 2 (codes "u.a")
no_set = refl

two_columns : at_row (name two (codes "a")) ≡ refused_at 3 (codes "a")
two_columns = refl

only_column : at_row (name two (codes "s")) ≡ typed (OfKind k.Text) (t.Place 2)
only_column = refl

-- a field comes first, and a hidden row is not seen
field_first : at_row (name behind (codes "a")) ≡ typed (OfKind k.Text) (t.Place 3)
field_first = refl

hidden : at_row (of behind f.Id []) ≡ refused_at 2 (codes "id")
hidden = refl

-- `id()` over none, one and two record sets; `id(u)`, `id(w)`, `id(1)`, `id(t.a)`, `id(s, s)`, `id(s, nosuch)`
no_id : at_row (of nothing f.Id []) ≡ refused_at 2 (codes "id")
no_id = refl

own_id : at_row (of one f.Id []) ≡ typed (OfKind k.Int64) (t.Place 0)
own_id = refl

two_ids : at_row (of two f.Id []) ≡ refused_at 3 (codes "id")
two_ids = refl

its_id : at_row (of two f.Id (name two (codes "u") ∷ [])) ≡ typed (OfKind k.Int64) (t.Place 3)
its_id = refl

no_such_id : at_row (of two f.Id (name two (codes "w") ∷ [])) ≡ refused_at 2 (codes "w")
no_such_id = refl

no_name : at_row (of one f.Id (number one 1 ∷ [])) ≡ refused 5
no_name = refl

no_set_name : at_row (of one f.Id (qualified one (codes "t") (codes "a") ∷ [])) ≡ refused 5
no_set_name = refl

name_before_names : at_row (of two f.Id (name two (codes "s") ∷ name two (codes "nosuch") ∷ [])) ≡ refused_at 2 (codes "nosuch")
name_before_names = refl

two_names : at_row (of two f.Id (name two (codes "s") ∷ name two (codes "s") ∷ [])) ≡ refused 6
two_names = refl

-- `sum(nosuch)` in a filter is 2, `sum(a)` 8; in a field it is that of int8, `sum(count(1) + nosuch)` is 8, `sum(NULL)` an int64
its_name_first : at_row (of one f.Sum (name one (codes "nosuch") ∷ [])) ≡ refused_at 2 (codes "nosuch")
its_name_first = refl

misplaced : at_row (of one f.Sum (name one (codes "a") ∷ [])) ≡ refused 8
misplaced = refl

sum_of_column : in_field (of one f.Sum (name one (codes "a") ∷ [])) ≡ typed (OfKind k.Int8) (t.Aggregate f.Sum k.Int8 (Some (t.Place 1)))
sum_of_column = refl

one_inside : in_field (of one f.Sum (pair one (of one f.Count (number one 1 ∷ [])) op.Add (name one (codes "nosuch")) ∷ [])) ≡ refused 8
one_inside = refl

sum_of_null : in_field (of one f.Sum (null one ∷ [])) ≡ typed (OfKind k.Int64) (t.Aggregate f.Sum k.Int64 (Some (t.Constant v.Null)))
sum_of_null = refl

-- `sum(count(nosuch))` is 2, and `sum()` in a filter 8 before 6
inner_name_first : in_field (of one f.Sum (of one f.Count (name one (codes "nosuch") ∷ []) ∷ [])) ≡ refused_at 2 (codes "nosuch")
inner_name_first = refl

misplaced_first : at_row (of one f.Sum []) ≡ refused 8
misplaced_first = refl

-- `count()`, `count(s)`, `count(a, a)`; `sum(s)` and `min(true)` are 5
rows_counted : in_field (of one f.Count []) ≡ typed (OfKind k.Int64) (t.Aggregate f.Count k.Int64 None)
rows_counted = refl

values_counted : in_field (of one f.Count (name one (codes "s") ∷ [])) ≡ typed (OfKind k.Int64) (t.Aggregate f.Count k.Int64 (Some (t.Place 2)))
values_counted = refl

two_counted : in_field (of one f.Count (name one (codes "a") ∷ name one (codes "a") ∷ [])) ≡ refused 6
two_counted = refl

sum_of_text : in_field (of one f.Sum (name one (codes "s") ∷ [])) ≡ refused 5
sum_of_text = refl

least_truth : in_field (of one f.Min (truth one true ∷ [])) ≡ refused 5
least_truth = refl
