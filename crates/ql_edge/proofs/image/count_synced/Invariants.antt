use Rattle.std.proofs.Common.{◌≡◌, ◌≤◌, length}
use Rattle.ql_edge.specs.Events.{steps_of, synced_calls}
use Rattle.ql_edge.proofs.image.count_synced.Given as goal

abbrev pub invariant-loop-last : goal.invariant-loop-last
invariant-loop-last l = record {
  within : length l.rest ≤ length l.events;
  rest : synced_calls (steps_of l.which l.rest) ≡ synced_calls (steps_of l.which l.events);
}

abbrev pub decreases-loop-last : goal.decreases-loop-last
decreases-loop-last l = length l.rest
