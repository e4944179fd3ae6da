use Rattle.std.proofs.Common.{◌≡◌, drop}
use Rattle.ql_value.specs.RowReading.{values_at}
use Rattle.ql_value.proofs.RowLoop.{with_front}
use Rattle.ql_value.proofs.row_reading.read_values.Given as goal

abbrev pub invariant-loop-kind : goal.invariant-loop-kind
invariant-loop-kind l = with_front l.values (values_at (drop l.kind-index l.kinds) l.rest) ≡ values_at l.kinds l.bytes
