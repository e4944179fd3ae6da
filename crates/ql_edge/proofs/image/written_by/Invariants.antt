use Rattle.std.proofs.Common.{◌≡◌, ◌+◌, ◌-◌, ◌^◌, ◌≤◌, min, drop}
use Rattle.ql_edge.specs.Events.{pieces_of}
use Rattle.ql_edge.proofs.image.written_by.Given as goal

abbrev pub invariant-loop-event : goal.invariant-loop-event
invariant-loop-event l = record {
  sum : min (l.written + pieces_of (drop l.event-index l.events)) (2 ^ 64 - 1) ≡ min (pieces_of l.events) (2 ^ 64 - 1);
  most : l.written ≤ 2 ^ 64 - 1;
}
