-- Laws by which a reader checks the definition of arithmetic.
use Rattle.std.specs.Prelude.{◌≡◌, ◌≢◌, ℕ, ◌+◌, ◌-◌, ◌%◌, ◌^◌, ◌<◌, min, max, ℤ, pos, ◌+ℤ◌, ◌-ℤ◌, ◌*ℤ◌, ◌≤ℤ◌, unsigned_abs, Result, Ok}
use Rattle.std.specs.Int.{bit_at, int_div_euclid}
use Rattle.ql_value.specs.declared.value.Kind.{Kind}
use Rattle.ql_value.specs.declared.value.Value.{Value}
use Rattle.ql_value.specs.declared.value.Value.TheVariants as v
use Rattle.ql_value.specs.declared.operator.BinOp.{BinOp}
use Rattle.ql_value.specs.declared.operator.BinOp.TheVariants as op
use Rattle.ql_value.specs.declared.fault.ValueFault.{ValueFault}
use Rattle.ql_value.specs.Number.{IsInteger, HasNumber, width, residue}
use Rattle.ql_value.specs.Arith.{arith_of}

-- r is one of the kind's numbers, and equal to z modulo 2 to the kind's width
pub record IsNumberFor (kind : Kind) (z r : ℤ) : Type 0 where
  pub of_kind : HasNumber kind r
  pub times : ℤ
  pub equal : z ≡ r +ℤ times *ℤ pos (2 ^ width kind)

-- the outcome is the only number of the kind that is equal to z modulo 2 to the kind's width
pub record IsOnlyNumber (kind : Kind) (z : ℤ) (outcome : Result Value ValueFault) : Type 0 where
  pub number : ℤ
  pub gives : outcome ≡ Ok (v.Int kind number)
  pub stands : IsNumberFor kind z number
  pub only : (r : ℤ) → IsNumberFor kind z r → r ≡ number

-- q and r are the quotient of a by b, rounded toward zero, and its rest, which has the sign of a
pub record IsTruncated (a b q r : ℤ) : Type 0 where
  pub whole : q *ℤ b +ℤ r ≡ a
  pub smaller : unsigned_abs r < unsigned_abs b
  pub not_below : pos 0 ≤ℤ a → pos 0 ≤ℤ r
  pub not_above : a ≤ℤ pos 0 → r ≤ℤ pos 0

-- the outcome is a number of the kind whose bits, in two's complement, are these
pub record HasBits (kind : Kind) (bit : ℕ → ℕ) (outcome : Result Value ValueFault) : Type 0 where
  pub number : ℤ
  pub gives : outcome ≡ Ok (v.Int kind number)
  pub of_kind : HasNumber kind number
  pub each : (i : ℕ) → i < width kind → bit_at (residue kind number) i ≡ bit i

-- bit i of a number of the kind
abbrev pub bit_of : Kind → ℤ → ℕ → ℕ
bit_of kind z i = bit_at (residue kind z) i

-- an operator on two numbers of one kind
abbrev pub at_kind : Kind → BinOp → ℤ → ℤ → Result Value ValueFault
at_kind kind o a b = arith_of o (v.Int kind a) (v.Int kind b)

-- `/` gives the kind's number for the quotient, and `%` the rest
pub record IsDivided (kind : Kind) (a b : ℤ) : Type 0 where
  pub q : ℤ
  pub r : ℤ
  pub truncated : IsTruncated a b q r
  pub quotient : IsOnlyNumber kind q (at_kind kind op.Div a b)
  pub rest : at_kind kind op.Rem a b ≡ Ok (v.Int kind r)

-- what the operators give on numbers of an integer kind
pub record ArithLaws (kind : Kind) : Type 0 where
  pub product : (a b : ℤ) → IsOnlyNumber kind (a *ℤ b) (at_kind kind op.Mul a b)
  pub sum : (a b : ℤ) → IsOnlyNumber kind (a +ℤ b) (at_kind kind op.Add a b)
  pub difference : (a b : ℤ) → IsOnlyNumber kind (a -ℤ b) (at_kind kind op.Sub a b)
  pub shift_left : (a : ℤ) (count : ℕ) → IsOnlyNumber kind (a *ℤ pos (2 ^ count)) (at_kind kind op.Shl a (pos count))
  pub shift_right : (a : ℤ) (count : ℕ) → HasNumber kind a → at_kind kind op.Shr a (pos count) ≡ Ok (v.Int kind (int_div_euclid a (pos (2 ^ count))))
  pub division : (a b : ℤ) → HasNumber kind a → b ≢ pos 0 → IsDivided kind a b
  pub both : (a b : ℤ) → HasBits kind (λ i. min (bit_of kind a i) (bit_of kind b i)) (at_kind kind op.And a b)
  pub first_alone : (a b : ℤ) → HasBits kind (λ i. min (bit_of kind a i) (1 - bit_of kind b i)) (at_kind kind op.AndNot a b)
  pub either : (a b : ℤ) → HasBits kind (λ i. max (bit_of kind a i) (bit_of kind b i)) (at_kind kind op.Or a b)
  pub one : (a b : ℤ) → HasBits kind (λ i. (bit_of kind a i + bit_of kind b i) % 2) (at_kind kind op.Xor a b)

-- the laws at each integer kind
abbrev pub ArithIsExact : Type 0
ArithIsExact = (kind : Kind) → IsInteger kind → ArithLaws kind
