use Rattle.std.proofs.Common.{◌≡◌, ◌+◌, ◌-◌, ◌≤◌, length}
use Rattle.ql_edge.specs.Frame.{Keeps}
use Rattle.ql_shell.specs.Comes.{longest_script}
use Rattle.ql_shell.specs.Run.{AddsPiece}
use Rattle.ql_shell.proofs.reading.read_pieces.Given as goal

abbrev pub invariant-pieces : goal.invariant-pieces
invariant-pieces g l = record {
  within : length l.source ≤ longest_script + 1;
  script : AddsPiece l.fn.source l.source (g.M.Shows.left l.fn.machine) (g.M.Shows.left l.machine);
  frame : Keeps g.M.Shows.told g.M.Shows.fixed l.fn.machine l.machine;
  faults : g.M.Shows.faults l.machine ≡ g.M.Shows.faults l.fn.machine;
}

abbrev pub decreases-pieces : goal.decreases-pieces
decreases-pieces g l = longest_script + 1 - length l.source
