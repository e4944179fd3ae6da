use Rattle.std.proofs.Common.{drop}
use Rattle.ql_edge.proofs.Plays.{Plays}
use Rattle.ql_edge.proofs.image.play.Given as goal

abbrev pub invariant-loop-event : goal.invariant-loop-event
invariant-loop-event l = Plays l.turns l.which l.events l.fn.file (drop l.event-index l.events) l.file
