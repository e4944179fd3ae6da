use Rattle.std.proofs.Common.{◌-◌, ◌≡◌, ◌≤◌, IsTrue, length, IfSome}
use Rattle.lldb_verify.specs.Logs.{has_room}
use Rattle.lldb_verify.specs.Reads.{OnlyReads, Holds}
use Rattle.lldb_verify.proofs.Sweeps.{Swept}
use Rattle.lldb_verify.proofs.unlisted.pass_unlisted.Given as goal

abbrev pub invariant-walk : goal.invariant-walk
invariant-walk g l = record {
  within : l.atom ≤ l.atoms;
  swept : Swept (g.F.Filer.content l.fn.filer) l.scratch ((goal.FaultLog-dyn g (l.fn.log.vtable, l.fn.log.value)).list l.fn.log.value) l.atom ((goal.FaultLog-dyn g (l.log.vtable, l.log.value)).list l.log.value);
  holds : IfSome (g.F.Filer.content l.filer) (Holds l.window);
  room : IsTrue (has_room ((goal.FaultLog-dyn g (l.log.vtable, l.log.value)).bound l.log.value) (length ((goal.FaultLog-dyn g (l.log.vtable, l.log.value)).list l.log.value)));
  bound : ((goal.FaultLog-dyn g (l.log.vtable, l.log.value)).bound l.log.value) ≡ ((goal.FaultLog-dyn g (l.fn.log.vtable, l.fn.log.value)).bound l.fn.log.value);
  frame : OnlyReads g.F.Filer.content g.F.Filer.size_of g.F.Filer.saved g.F.Filer.saved_sizes g.F.Filer.limit_of g.F.Filer.is_sound g.F.Shows.told g.F.Shows.left g.F.Shows.fixed l.fn.filer l.filer;
  faults : g.F.Shows.faults l.filer ≡ g.F.Shows.faults l.fn.filer;
}

abbrev pub decreases-walk : goal.decreases-walk
decreases-walk g l = l.atoms - l.atom
