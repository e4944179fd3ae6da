use Rattle.std.proofs.Common.{Some, length, refl, ap}
use Rattle.ql_edge.specs.Disk.{Files}
use Rattle.ql_edge.specs.Events.{on_both}
use Rattle.ql_edge.specs.MemMachine.{texts_of}
use Rattle.ql_edge.specs.declared.event.Step.TheVariants as step
use Rattle.ql_edge.proofs.Machines.{at_error, counted_either, caused_by, reshown_kept, time_next_old, time_same_old, time_kept, stops_kept, stops_attached, stable_attached, alike_told, alike_left}
use Rattle.ql_edge.proofs.memory.MemMachineVolume.attach.Goals as goal

pub returns-then-refuses-clause-files : goal.returns-then-refuses-clause-files
returns-then-refuses-clause-files c = ap (λ (f : Files). Some f) c.fail.ensures.stays.files

pub returns-then-refuses-clause-stops : goal.returns-then-refuses-clause-stops
returns-then-refuses-clause-stops c = c.fail.ensures.same.volume.stops

pub returns-then-refuses-clause-time : goal.returns-then-refuses-clause-time
returns-then-refuses-clause-time c = time_same_old c.args.self.now c.fail.new.self c.fail.ensures.same c.fail.ensures.stays.texts

pub returns-then-refuses-clause-frame : goal.returns-then-refuses-clause-frame
returns-then-refuses-clause-frame c = (alike_told c.args.self.now c.fail.new.self c.fail.ensures.stays, alike_left c.args.self.now c.fail.new.self c.fail.ensures.stays)

pub returns-then-refuses-clause-cause : goal.returns-then-refuses-clause-cause
returns-then-refuses-clause-cause c = caused_by Unit c.fail.result _ _ c.fail.ensures.cause

pub returns-then-refuses-clause-counts : goal.returns-then-refuses-clause-counts
returns-then-refuses-clause-counts c = record { calls = c.fail.ensures.calls; plan = c.fail.ensures.stays.plan }

pub returns-in_err-sync_both-clause-stops : goal.returns-in_err-sync_both-clause-stops
returns-in_err-sync_both-clause-stops c = stops_kept _ _ _ _ c.sync_both.ensures.first c.in_err-sync_both.ensures.refused

pub returns-in_err-sync_both-clause-time : goal.returns-in_err-sync_both-clause-time
returns-in_err-sync_both-clause-time c = time_kept _ _ _ _ _ (texts_of c.args.self.now) c.sync_both.ensures.first c.in_err-sync_both.ensures.refused

pub returns-in_err-sync_both-clause-refused : goal.returns-in_err-sync_both-clause-refused
returns-in_err-sync_both-clause-refused c = at_error _ _ (reshown_kept _ _ refl c.sync_both.ensures.files c.sync_both.ensures.first refl c.in_err-sync_both.ensures.refused)

pub returns-clause-stable : goal.returns-clause-stable
returns-clause-stable c = rw c.sync_both.ensures.files (stable_attached c.len.result _ _ _ _ _ _ c.sync_both.ensures.first c.in_ok-sync_both.ensures.noted c.args.self.now.disk.data_read c.args.self.now.disk.log_read)

pub returns-clause-stops : goal.returns-clause-stops
returns-clause-stops c = stops_attached c.len.result _ _ _ _ c.sync_both.ensures.first c.in_ok-sync_both.ensures.noted c.args.self.now.disk.data_valid c.args.self.now.disk.log_valid

pub returns-clause-time : goal.returns-clause-time
returns-clause-time c = time_next_old _ _ _ _ (on_both step.Synced c.len.result) (texts_of c.args.self.now) c.sync_both.ensures.first c.in_ok-sync_both.ensures.noted c.len.ensures (stops_attached c.len.result _ _ _ _ c.sync_both.ensures.first c.in_ok-sync_both.ensures.noted c.args.self.now.disk.data_valid c.args.self.now.disk.log_valid)

pub invariant_of-self-2-clause-counted : goal.invariant_of-self-2-clause-counted
invariant_of-self-2-clause-counted c = counted_either c.sync_both.result _ _ (on_both step.Synced c.len.result) (length c.args.self.now.shown) c.sync_both.ensures.noted c.sync_both.ensures.refused c.len.ensures c.args.self.now.counted
