use Rattle.std.proofs.Common.{◌≡◌, drop}
use Rattle.ql_lex.specs.Numbers.{value_from}
use Rattle.ql_lex.proofs.numbers.value_from.Given as goal

abbrev pub invariant-loop-d : goal.invariant-loop-d
invariant-loop-d l = value_from l.base l.value (drop l.d-index l.digits) ≡ value_from l.base l.fn.so_far l.fn.digits
