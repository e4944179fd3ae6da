use Rattle.std.proofs.Common.{◌≡◌, ◌+◌, ◌-◌, ◌≤◌, IfSome}
use Rattle.lldb_alloc.specs.Frames.{KeepsLevels, KeepsContent, KeepsStops}
use Rattle.lldb_alloc.specs.Room.{Walks}
use Rattle.lldb_alloc.proofs.room.first_fit.Given as goal

abbrev pub invariant-walk : goal.invariant-walk
invariant-walk g l = record {
  left : l.left ≤ l.most + 1;
  content : KeepsContent g.F.Filer.content g.F.Filer.size_of l.fn.filer l.filer;
  frame : KeepsLevels g.F.Filer.saved g.F.Filer.saved_sizes g.F.Filer.limit_of g.F.Filer.is_sound g.F.Shows.told g.F.Shows.left g.F.Shows.fixed l.fn.filer l.filer;
  stops : KeepsStops g.F.Filer.content g.F.Filer.saved g.F.Filer.may_leave g.F.Filer.moment g.F.Filer.left_since g.F.Shows.told l.fn.filer l.filer;
  faults : g.F.Shows.faults l.filer ≡ g.F.Shows.faults l.fn.filer;
  walks : IfSome (g.F.Filer.content l.fn.filer) (Walks l.class l.wanted (l.most + 1 - l.left) l.here);
}

abbrev pub decreases-walk : goal.decreases-walk
decreases-walk g l = l.left
