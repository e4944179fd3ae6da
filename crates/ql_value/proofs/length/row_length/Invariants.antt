use Rattle.std.proofs.Common.{◌≡◌, ◌+◌, take, sum_by}
use Rattle.ql_value.specs.Length.{value_length, capped}
use Rattle.ql_value.proofs.length.row_length.Given as goal

abbrev pub invariant-loop-value : goal.invariant-loop-value
invariant-loop-value l = l.total ≡ capped (2 + sum_by value_length (take l.value-index l.value-items))
