use Rattle.std.proofs.Common.{◌≡◌, ◌++◌, length, take}
use Rattle.std.specs.List.{flat_map}
use Rattle.std.specs.Int.{w16, to_be_bytes}
use Rattle.ql_value.specs.Rows.{value_bytes}
use Rattle.ql_value.proofs.row.encode_row.Given as goal

abbrev pub invariant-loop-value : goal.invariant-loop-value
invariant-loop-value l = l.out ≡ to_be_bytes w16 (length l.values) ++ flat_map value_bytes (take l.value-index l.values)
