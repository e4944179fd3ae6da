use Rattle.std.proofs.Common.{refl}
use Rattle.ql_edge.proofs.Machines.{caused_by, alike_told, alike_left}
use Rattle.ql_edge.proofs.memory.MemMachineVolume.read_at.Goals as goal

pub returns-then-refuses-clause-frame : goal.returns-then-refuses-clause-frame
returns-then-refuses-clause-frame c = (alike_told c.args.self.now c.fail.new.self c.fail.ensures.stays, alike_left c.args.self.now c.fail.new.self c.fail.ensures.stays, refl, c.fail.ensures.stays.name)

pub returns-then-refuses-clause-cause : goal.returns-then-refuses-clause-cause
returns-then-refuses-clause-cause c = caused_by Unit c.fail.result _ _ c.fail.ensures.cause

pub returns-then-refuses-clause-counts : goal.returns-then-refuses-clause-counts
returns-then-refuses-clause-counts c = record { calls = c.fail.ensures.calls; plan = c.fail.ensures.stays.plan }

pub returns-in_err-note-clause-frame : goal.returns-in_err-note-clause-frame
returns-in_err-note-clause-frame c = (alike_told c.args.self.now c.note.new.self c.note.ensures.stays, alike_left c.args.self.now c.note.new.self c.note.ensures.stays, refl, c.note.ensures.stays.name)

pub returns-clause-frame : goal.returns-clause-frame
returns-clause-frame c = (alike_told c.args.self.now c.note.new.self c.note.ensures.stays, alike_left c.args.self.now c.note.new.self c.note.ensures.stays, refl, c.note.ensures.stays.name)

pub returns-clause-counts : goal.returns-clause-counts
returns-clause-counts c = record { calls = c.in_ok-note.ensures.ok; plan = c.note.ensures.stays.plan }
