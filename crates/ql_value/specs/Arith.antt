-- What the operators of arithmetic give.
use Rattle.std.specs.Prelude.{ℕ, ◌-◌, ◌^◌, ℤ, pos, negsuc, ◌+ℤ◌, ◌-ℤ◌, ◌*ℤ◌, int_lt, int_div, int_rem, unsigned_abs, nat_lt, ◌==◌, bit_and, bit_or, bit_xor, ◌++◌, if◌then◌else◌, Option, None, Some, Result, Ok, Err}
use Rattle.std.specs.Int.{int_div_euclid}
use Rattle.ql_value.specs.declared.value.Kind.{Kind}
use Rattle.ql_value.specs.declared.value.Value.{Value}
use Rattle.ql_value.specs.declared.value.Value.TheVariants as v
use Rattle.ql_value.specs.declared.operator.BinOp.{BinOp}
use Rattle.ql_value.specs.declared.operator.BinOp.TheVariants as op
use Rattle.ql_value.specs.declared.fault.ValueFault.{ValueFault}
use Rattle.ql_value.specs.declared.fault.ValueFault.TheVariants as fault
use Rattle.ql_value.specs.Number.{width, residue, wrapped}

-- the operators of the two levels that bind most
abbrev pub IsArithmetic : BinOp → Type 0
IsArithmetic op.Mul = Unit {0}
IsArithmetic op.Div = Unit {0}
IsArithmetic op.Rem = Unit {0}
IsArithmetic op.Shl = Unit {0}
IsArithmetic op.Shr = Unit {0}
IsArithmetic op.And = Unit {0}
IsArithmetic op.AndNot = Unit {0}
IsArithmetic op.Add = Unit {0}
IsArithmetic op.Sub = Unit {0}
IsArithmetic op.Or = Unit {0}
IsArithmetic op.Xor = Unit {0}
IsArithmetic _ = ⊥

-- strings are joined by `+` alone
abbrev pub IsJoin : BinOp → Type 0
IsJoin op.Add = Unit {0}
IsJoin _ = ⊥

-- what the operator takes: a NULL beside anything, two numbers, or two strings
abbrev pub AreOperands : BinOp → Value → Value → Type 0
AreOperands o v.Null _ = Unit {0}
AreOperands o _ v.Null = Unit {0}
AreOperands o (v.Int _ _) (v.Int _ _) = IsArithmetic o
AreOperands o (v.Text _) (v.Text _) = IsJoin o
AreOperands o _ _ = ⊥

-- the bits of the number that are not set
abbrev pub flipped : Kind → ℤ → ℕ
flipped kind z = 2 ^ width kind - 1 - residue kind z

-- a shift to the left of that many bits: from the width on none is left
abbrev pub shifted_left : ℕ → ℤ → ℕ → ℤ
shifted_left bits z count = if nat_lt count bits then z *ℤ pos (2 ^ count) else pos 0

-- a shift to the right, rounded down: from the width on only the sign is left
abbrev pub shifted_right : ℕ → ℤ → ℕ → ℤ
shifted_right bits z count = if nat_lt count bits then int_div_euclid z (pos (2 ^ count)) else (if int_lt z (pos 0) then negsuc 0 else pos 0)

-- the number as a value of the kind
abbrev pub number : Kind → ℤ → Result Value ValueFault
number kind z = Ok (v.Int kind (wrapped kind z))

-- the second part where the divisor is not 0
abbrev pub divided : ℤ → Result Value ValueFault → Result Value ValueFault
divided divisor outcome = if unsigned_abs divisor == 0 then Err fault.Divide else outcome

-- the second part where the count is not negative
abbrev pub shifted : ℤ → Result Value ValueFault → Result Value ValueFault
shifted count outcome = if int_lt count (pos 0) then Err fault.NegativeCount else outcome

-- an operator on two numbers, the first of this kind
abbrev pub on_numbers : BinOp → Kind → ℤ → ℤ → Result Value ValueFault
on_numbers op.Mul kind a b = number kind (a *ℤ b)
on_numbers op.Div kind a b = divided b (number kind (int_div a b))
on_numbers op.Rem kind a b = divided b (number kind (int_rem a b))
on_numbers op.Shl kind a b = shifted b (number kind (shifted_left (width kind) a (unsigned_abs b)))
on_numbers op.Shr kind a b = shifted b (number kind (shifted_right (width kind) a (unsigned_abs b)))
on_numbers op.And kind a b = number kind (pos (bit_and (residue kind a) (residue kind b)))
on_numbers op.AndNot kind a b = number kind (pos (bit_and (residue kind a) (flipped kind b)))
on_numbers op.Add kind a b = number kind (a +ℤ b)
on_numbers op.Sub kind a b = number kind (a -ℤ b)
on_numbers op.Or kind a b = number kind (pos (bit_or (residue kind a) (residue kind b)))
on_numbers op.Xor kind a b = number kind (pos (bit_xor (residue kind a) (residue kind b)))
on_numbers _ kind a b = Ok v.Null

-- an operator on two values: a NULL on either side gives NULL
abbrev pub arith_of : BinOp → Value → Value → Result Value ValueFault
arith_of o v.Null _ = Ok v.Null
arith_of o _ v.Null = Ok v.Null
arith_of o (v.Int kind a) (v.Int _ b) = on_numbers o kind a b
arith_of o (v.Text a) (v.Text b) = Ok (v.Text (a ++ b))
arith_of o _ _ = Ok v.Null

-- the outcome that a fault stands for, and none for want of memory
abbrev pub stands_for : ValueFault → Option (Result Value ValueFault)
stands_for fault.NoMemory = None
stands_for f = Some (Err f)

-- the two are strings, the only values whose operators take memory
abbrev pub AreTexts : Value → Value → Type 0
AreTexts (v.Text _) (v.Text _) = Unit {0}
AreTexts _ _ = ⊥
