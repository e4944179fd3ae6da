-- Operators before a part, taken from the last one on.
use Rattle.std.proofs.Common.{◌≡◌, ◌<◌, ◌≤◌, List, [], ◌∷◌, ◌++◌, length, refl, ap, Ok, arith}
use Rattle.ql_value.specs.declared.operator.UnOp.{UnOp}
use Rattle.ql_syntax.specs.declared.typing.Typing.{Typing}
use Rattle.ql_syntax.specs.Typing.{prefix_type, prefixed_type}
use Rattle.ql_syntax.specs.declared.checked.Checked.{Checked}
use Rattle.ql_syntax.specs.Operands.{ends_with_minus, but_last, ops_before, ops_by_table}

pub none_before : (ops : List UnOp) (c : Checked) → length ops ≤ 0 → ops_before ops c ≡ Ok c
none_before [] c h = refl
none_before (o ∷ ops) c h = absurd (omega (arith, h))

pub some_before : (ops : List UnOp) (c : Checked) → 0 < length ops → ops_before ops c ≡ ops_by_table ops c
some_before [] c h = absurd (omega (arith, h))
some_before (o ∷ ops) c h = refl

pub last_prefix : (front : List UnOp) (o : UnOp) (t : Typing) → prefixed_type (front ++ o ∷ []) t ≡ prefixed_type front (prefix_type o t)
last_prefix [] o t = refl
last_prefix (p ∷ front) o t = ap (prefix_type p) (last_prefix front o t)

pub minus_last : (front : List UnOp) (o : UnOp) → ends_with_minus (front ++ o ∷ []) ≡ ends_with_minus (o ∷ [])
minus_last [] o = refl
minus_last (p ∷ []) o = refl
minus_last (p ∷ q ∷ front) o = minus_last (q ∷ front) o

pub front_last : (front : List UnOp) (o : UnOp) → but_last (front ++ o ∷ []) ≡ front
front_last [] o = refl
front_last (p ∷ []) o = refl
front_last (p ∷ q ∷ front) o = ap (λ ops. p ∷ ops) (front_last (q ∷ front) o)
