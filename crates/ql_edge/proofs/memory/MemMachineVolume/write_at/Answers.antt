use Rattle.std.proofs.Common.{Some, length, refl, ◌∙◌, ap}
use Rattle.ql_edge.specs.Disk.{Files, other_of}
use Rattle.ql_edge.specs.Events.{on_file}
use Rattle.ql_edge.specs.MemMachine.{texts_of}
use Rattle.ql_edge.specs.declared.event.Step.TheVariants as step
use Rattle.ql_edge.proofs.Machines.{shown_on, counted_either, caused_by, reshown_kept, time_next, time_same, time_kept, torn_same, stops_kept, stops_wrote, alike_told, alike_left, alike_other}
use Rattle.ql_edge.proofs.memory.MemMachineVolume.write_at.Goals as goal

pub invariant_of-self-clause-counted : goal.invariant_of-self-clause-counted
invariant_of-self-clause-counted c = counted_either c.write.result _ _ (on_file c.args.which (step.Wrote c.args.at c.args.piece.now) c.len.result) (length c.args.self.now.shown) c.write.ensures.noted c.write.ensures.refused (shown_on c.args.which (step.Wrote c.args.at c.args.piece.now) c.len.result ∙ c.len.ensures) c.args.self.now.counted

pub returns-then-refuses-clause-other : goal.returns-then-refuses-clause-other
returns-then-refuses-clause-other c = alike_other c.args.which c.args.self.now c.fail.new.self c.fail.ensures.stays

pub returns-then-refuses-clause-stops : goal.returns-then-refuses-clause-stops
returns-then-refuses-clause-stops c = torn_same c.args.which c.args.at (length c.args.piece.now) _ _ c.fail.ensures.same.volume.stops

pub returns-then-refuses-clause-time : goal.returns-then-refuses-clause-time
returns-then-refuses-clause-time c = time_same c.args.self.now c.fail.new.self c.fail.ensures.same c.fail.ensures.stays.texts

pub returns-then-refuses-clause-frame : goal.returns-then-refuses-clause-frame
returns-then-refuses-clause-frame c = (alike_told c.args.self.now c.fail.new.self c.fail.ensures.stays, alike_left c.args.self.now c.fail.new.self c.fail.ensures.stays, refl, c.fail.ensures.stays.name)

pub returns-then-refuses-clause-cause : goal.returns-then-refuses-clause-cause
returns-then-refuses-clause-cause c = caused_by Unit c.fail.result _ _ c.fail.ensures.cause

pub returns-then-refuses-clause-counts : goal.returns-then-refuses-clause-counts
returns-then-refuses-clause-counts c = record { calls = c.fail.ensures.calls; plan = c.fail.ensures.stays.plan }

pub returns-in_err-write-clause-other : goal.returns-in_err-write-clause-other
returns-in_err-write-clause-other c = ap (λ (f : Files). Some (other_of c.args.which f)) c.in_err-write.ensures.files

pub returns-in_err-write-clause-stops : goal.returns-in_err-write-clause-stops
returns-in_err-write-clause-stops c = torn_same c.args.which c.args.at (length c.args.piece.now) _ _ (stops_kept _ _ _ _ c.write.ensures.first c.in_err-write.ensures.refused)

pub returns-in_err-write-clause-time : goal.returns-in_err-write-clause-time
returns-in_err-write-clause-time c = time_kept _ _ _ _ _ (texts_of c.args.self.now) c.write.ensures.first c.in_err-write.ensures.refused

pub returns-in_err-write-clause-nothing : goal.returns-in_err-write-clause-nothing
returns-in_err-write-clause-nothing c = λ _. reshown_kept _ _ refl c.in_err-write.ensures.files c.write.ensures.first refl c.in_err-write.ensures.refused

pub returns-clause-stops : goal.returns-clause-stops
returns-clause-stops c = stops_wrote c.args.which c.args.at c.len.result c.args.piece.now _ _ _ _ c.write.ensures.first c.in_ok-write.ensures.noted

pub returns-clause-time : goal.returns-clause-time
returns-clause-time c = time_next _ _ _ _ (on_file c.args.which (step.Wrote c.args.at c.args.piece.now) c.len.result) (texts_of c.args.self.now) c.write.ensures.first c.in_ok-write.ensures.noted (shown_on c.args.which (step.Wrote c.args.at c.args.piece.now) c.len.result ∙ c.len.ensures)
