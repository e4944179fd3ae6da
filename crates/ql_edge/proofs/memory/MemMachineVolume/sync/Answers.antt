use Rattle.std.proofs.Common.{Some, length, refl, sym, ◌∙◌, ap}
use Rattle.ql_edge.specs.Disk.{Files, file_of, other_of}
use Rattle.ql_edge.specs.Events.{on_file}
use Rattle.ql_edge.specs.MemMachine.{texts_of}
use Rattle.ql_edge.specs.declared.event.Step.TheVariants as step
use Rattle.ql_edge.proofs.Machines.{shown_on, counted_either, caused_by, reshown_kept, time_next_old, time_same_old, time_kept, stops_kept, stops_synced, durable_synced, read_of, valid_of, alike_told, alike_left, alike_other}
use Rattle.ql_edge.proofs.memory.MemMachineVolume.sync.Goals as goal

pub invariant_of-self-clause-counted : goal.invariant_of-self-clause-counted
invariant_of-self-clause-counted c = counted_either c.sync.result _ _ (on_file c.args.which step.Synced c.len.result) (length c.args.self.now.shown) c.sync.ensures.noted c.sync.ensures.refused (shown_on c.args.which step.Synced c.len.result ∙ c.len.ensures) c.args.self.now.counted

pub returns-then-refuses-clause-other : goal.returns-then-refuses-clause-other
returns-then-refuses-clause-other c = alike_other c.args.which c.args.self.now c.fail.new.self c.fail.ensures.stays

pub returns-then-refuses-clause-stops : goal.returns-then-refuses-clause-stops
returns-then-refuses-clause-stops c = c.fail.ensures.same.volume.stops

pub returns-then-refuses-clause-time : goal.returns-then-refuses-clause-time
returns-then-refuses-clause-time c = time_same_old c.args.self.now c.fail.new.self c.fail.ensures.same c.fail.ensures.stays.texts

pub returns-then-refuses-clause-frame : goal.returns-then-refuses-clause-frame
returns-then-refuses-clause-frame c = (alike_told c.args.self.now c.fail.new.self c.fail.ensures.stays, alike_left c.args.self.now c.fail.new.self c.fail.ensures.stays, refl, c.fail.ensures.stays.name)

pub returns-then-refuses-clause-cause : goal.returns-then-refuses-clause-cause
returns-then-refuses-clause-cause c = caused_by Unit c.fail.result _ _ c.fail.ensures.cause

pub returns-then-refuses-clause-counts : goal.returns-then-refuses-clause-counts
returns-then-refuses-clause-counts c = record { calls = c.fail.ensures.calls; plan = c.fail.ensures.stays.plan }

pub returns-in_err-sync-clause-other : goal.returns-in_err-sync-clause-other
returns-in_err-sync-clause-other c = ap (λ (f : Files). Some (other_of c.args.which f)) c.sync.ensures.files

pub returns-in_err-sync-clause-stops : goal.returns-in_err-sync-clause-stops
returns-in_err-sync-clause-stops c = stops_kept _ _ _ _ c.sync.ensures.first c.in_err-sync.ensures.refused

pub returns-in_err-sync-clause-time : goal.returns-in_err-sync-clause-time
returns-in_err-sync-clause-time c = time_kept _ _ _ _ _ (texts_of c.args.self.now) c.sync.ensures.first c.in_err-sync.ensures.refused

pub returns-in_err-sync-clause-nothing : goal.returns-in_err-sync-clause-nothing
returns-in_err-sync-clause-nothing c = λ _. reshown_kept _ _ refl c.sync.ensures.files c.sync.ensures.first refl c.in_err-sync.ensures.refused

pub returns-clause-stops : goal.returns-clause-stops
returns-clause-stops c = stops_synced c.args.which c.len.result _ _ _ _ c.sync.ensures.first c.in_ok-sync.ensures.noted (valid_of c.args.which c.args.self.now.disk)

pub returns-clause-time : goal.returns-clause-time
returns-clause-time c = time_next_old _ _ _ _ (on_file c.args.which step.Synced c.len.result) (texts_of c.args.self.now) c.sync.ensures.first c.in_ok-sync.ensures.noted (shown_on c.args.which step.Synced c.len.result ∙ c.len.ensures) (stops_synced c.args.which c.len.result _ _ _ _ c.sync.ensures.first c.in_ok-sync.ensures.noted (valid_of c.args.which c.args.self.now.disk))

pub returns-clause-durable : goal.returns-clause-durable
returns-clause-durable c = durable_synced c.args.which c.len.result _ _ _ _ _ c.sync.ensures.first c.in_ok-sync.ensures.noted (read_of c.args.which c.args.self.now.disk ∙ ap (file_of c.args.which) (sym c.sync.ensures.files))
