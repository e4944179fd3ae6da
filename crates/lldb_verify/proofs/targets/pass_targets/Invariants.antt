use Rattle.std.proofs.Common.{◌-◌, ◌≡◌, ◌≤◌, ◌++◌, [], IsTrue, length, IfSome}
use Rattle.lldb_atoms.specs.Lists.{row_of}
use Rattle.lldb_verify.specs.Findings.{of_targets}
use Rattle.lldb_verify.specs.Logs.{has_room}
use Rattle.lldb_verify.specs.Reads.{OnlyReads, Holds}
use Rattle.lldb_verify.specs.Passes.{blocks_from, Aiming}
use Rattle.lldb_verify.proofs.targets.pass_targets.Given as goal

abbrev pub invariant-walk : goal.invariant-walk
invariant-walk g l = record {
  within : l.atom ≤ l.atoms;
  ahead : IfSome (g.F.Filer.content l.fn.filer) (λ c. Aiming c (((goal.FaultLog-dyn g (l.fn.log.vtable, l.fn.log.value)).list l.fn.log.value) ++ of_targets (row_of (blocks_from c 8)) [] 8 (row_of (blocks_from c 8))) l.atom l.scratch ((goal.FaultLog-dyn g (l.log.vtable, l.log.value)).list l.log.value));
  holds : IfSome (g.F.Filer.content l.filer) (Holds l.window);
  near : IfSome (g.F.Filer.content l.filer) (Holds l.near);
  count : l.scratch.count ≡ l.fn.scratch.count;
  room : IsTrue (has_room ((goal.FaultLog-dyn g (l.log.vtable, l.log.value)).bound l.log.value) (length ((goal.FaultLog-dyn g (l.log.vtable, l.log.value)).list l.log.value)));
  bound : ((goal.FaultLog-dyn g (l.log.vtable, l.log.value)).bound l.log.value) ≡ ((goal.FaultLog-dyn g (l.fn.log.vtable, l.fn.log.value)).bound l.fn.log.value);
  frame : OnlyReads g.F.Filer.content g.F.Filer.size_of g.F.Filer.saved g.F.Filer.saved_sizes g.F.Filer.limit_of g.F.Filer.is_sound g.F.Shows.told g.F.Shows.left g.F.Shows.fixed l.fn.filer l.filer;
  faults : g.F.Shows.faults l.filer ≡ g.F.Shows.faults l.fn.filer;
}

abbrev pub decreases-walk : goal.decreases-walk
decreases-walk g l = l.atoms - l.atom
