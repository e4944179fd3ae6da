use Rattle.std.proofs.Common.{◌≡◌, ℕ, ◌-◌, ◌<◌, ◌≤◌, IfSome}
use Rattle.lldb_atoms.specs.Lists.{list_head}
use Rattle.lldb_alloc.specs.Frames.{KeepsLevels, KeepsContent, KeepsStops}
use Rattle.lldb_alloc.proofs.room.first_from.Given as goal

abbrev pub invariant-lists : goal.invariant-lists
invariant-lists g l = record {
  from : l.from ≤ l.class;
  most : l.class ≤ 16;
  content : KeepsContent g.F.Filer.content g.F.Filer.size_of l.fn.filer l.filer;
  frame : KeepsLevels g.F.Filer.saved g.F.Filer.saved_sizes g.F.Filer.limit_of g.F.Filer.is_sound g.F.Shows.told g.F.Shows.left g.F.Shows.fixed l.fn.filer l.filer;
  stops : KeepsStops g.F.Filer.content g.F.Filer.saved g.F.Filer.may_leave g.F.Filer.moment g.F.Filer.left_since g.F.Shows.told l.fn.filer l.filer;
  faults : g.F.Shows.faults l.filer ≡ g.F.Shows.faults l.fn.filer;
  empty : IfSome (g.F.Filer.content l.fn.filer) (λ c. (class : ℕ) → l.from ≤ class → class < l.class → list_head c class ≡ 0);
}

abbrev pub decreases-lists : goal.decreases-lists
decreases-lists g l = 16 - l.class
