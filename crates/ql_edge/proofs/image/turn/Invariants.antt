use Rattle.std.proofs.Common.{◌≡◌, take, map}
use Rattle.ql_edge.specs.Events.{complement}
use Rattle.ql_edge.proofs.image.turn.Given as goal

abbrev pub invariant-loop-byte : goal.invariant-loop-byte
invariant-loop-byte l = l.copy ≡ map complement (take l.byte-index l.bytes)
