use Rattle.std.proofs.Common.{arith}
use Rattle.ql_lex.proofs.NumberLemmas.{too_large}
use Rattle.ql_lex.proofs.numbers.value_from.Goals as goal

pub returns-in_err-checked_mul : goal.returns-in_err-checked_mul
returns-in_err-checked_mul c =
    rw c.from_residual.ensures (too_large c.args.base c.loop-d.value _ c.args.digits.now c.loop-d.d-index c.requires (omega arith) c.loop-d.invariant (omega (arith, c.in_err-checked_mul.ensures)))

pub returns-in_err-value : goal.returns-in_err-value
returns-in_err-value c =
    rw c.from_residual-in_err-value.ensures (too_large c.args.base c.loop-d.value _ c.args.digits.now c.loop-d.d-index c.requires (omega arith) c.loop-d.invariant (omega (arith, c.in_ok-checked_mul.ensures, c.in_err-value.ensures, c.digit_of.ensures)))
