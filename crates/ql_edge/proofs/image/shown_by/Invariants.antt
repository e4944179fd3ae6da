use Rattle.std.proofs.Common.{◌≡◌, drop}
use Rattle.ql_edge.specs.Events.{shown_after}
use Rattle.ql_edge.proofs.image.shown_by.Given as goal

abbrev pub invariant-loop-event : goal.invariant-loop-event
invariant-loop-event l = shown_after l.shown (drop l.event-index l.events) ≡ shown_after 0 l.events
