use Rattle.std.proofs.Common.{◌≡◌, IfSome}
use Rattle.lldb_verify.specs.Reads.{OnlyReads, Holds}
use Rattle.lldb_verify.proofs.Meets.{Walks}
use Rattle.lldb_verify.proofs.lists.follow_from.Given as goal

abbrev pub invariant-walk : goal.invariant-walk
invariant-walk g l = record {
  walks : Walks (g.F.Filer.content l.fn.filer) l.class (g.F.Filer.size_of l.fn.filer) l.first l.fn.scratch l.most l.before l.atom l.scratch;
  holds : IfSome (g.F.Filer.content l.filer) (Holds l.near);
  count : l.scratch.count ≡ l.fn.scratch.count;
  frame : OnlyReads g.F.Filer.content g.F.Filer.size_of g.F.Filer.saved g.F.Filer.saved_sizes g.F.Filer.limit_of g.F.Filer.is_sound g.F.Shows.told g.F.Shows.left g.F.Shows.fixed l.fn.filer l.filer;
  faults : g.F.Shows.faults l.filer ≡ g.F.Shows.faults l.fn.filer;
}

abbrev pub decreases-walk : goal.decreases-walk
decreases-walk g l = l.most
