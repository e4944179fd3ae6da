use Rattle.std.proofs.Common.{◌≡◌, ◌-◌, ◌≤◌, length, take}
use Rattle.ql_edge.specs.Frame.{Keeps}
use Rattle.ql_edge.specs.Told.{with_shown}
use Rattle.ql_edge.proofs.shows.show_all.Given as goal

abbrev pub invariant-loop-at : goal.invariant-loop-at
invariant-loop-at g l = record {
  within : l.at ≤ length l.text;
  told : g.S.Shows.told l.to ≡ with_shown (take l.at l.text) (g.S.Shows.told l.fn.to);
  same : g.S.Shows.same l.fn.to l.to;
  frame : Keeps g.S.Shows.left g.S.Shows.fixed l.fn.to l.to;
  faults : g.S.Shows.faults l.to ≡ g.S.Shows.faults l.fn.to;
}

abbrev pub decreases-loop-at : goal.decreases-loop-at
decreases-loop-at g l = length l.text - l.at
