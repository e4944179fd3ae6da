use Rattle.std.proofs.Common.{◌≡◌, ℕ, option_map, Option, subst, sym}
use Rattle.std.specs.Prelude.{IfSome, OnOk}
use Rattle.ql_edge.specs.Disk.{Files}
use Rattle.lldb_wal.specs.Fault.{IsCausedFault, Judges}
use Rattle.lldb_wal.specs.Opened.{settled}
use Rattle.lldb_wal.specs.Opening.{opening}
use Rattle.lldb_wal.proofs.Opened.{same_before, unwritten_then}
use Rattle.lldb_wal.proofs.Settled.{same_self}
use Rattle.lldb_wal.proofs.Tidied.{durable_after}
use Rattle.lldb_wal.proofs.Times.{adds_weaker, adds_read, adds_then}
use Rattle.lldb_wal.proofs.settling.settle.Goals as goal

pub returns-in_err-found-clause-stops : goal.returns-in_err-found-clause-stops
returns-in_err-found-clause-stops g c = λ d left. same_self c.args.magic.now (g.V.Volume.files c.args.volume.now) (g.V.Volume.may_leave c.args.volume.now) d c.requires.durable ((g.met.V.Volume.same_volume c.args.volume.now c.read_files.new.volume c.in_err-found.ensures.same).1.stops d left)

pub returns-in_err-found-clause-time : goal.returns-in_err-found-clause-time
returns-in_err-found-clause-time g c = adds_weaker (adds_read (g.met.V.Volume.same_volume c.args.volume.now c.read_files.new.volume c.in_err-found.ensures.same).1 c.in_err-found.ensures.frame.0) (λ d left. same_self c.args.magic.now (g.V.Volume.files c.args.volume.now) (g.V.Volume.may_leave c.args.volume.now) d c.requires.durable ((g.met.V.Volume.same_volume c.args.volume.now c.read_files.new.volume c.in_err-found.ensures.same).1.stops d left))

pub carry_out-requires-clause-found : goal.carry_out-requires-clause-found
carry_out-requires-clause-found g c = subst (λ (o : Option Files). IfSome o (λ f. c.in_ok-found.found ≡ opening c.args.magic.now f.0 f.1)) (sym (g.met.V.Volume.same_volume c.args.volume.now c.read_files.new.volume c.in_ok-found.ensures.same).1.held) c.in_ok-found.ensures.found

pub carry_out-requires-clause-durable : goal.carry_out-requires-clause-durable
carry_out-requires-clause-durable g c = durable_after (g.V.Volume.files c.args.volume.now) _ (g.V.Volume.may_leave c.args.volume.now) _ (g.met.V.Volume.same_volume c.args.volume.now c.read_files.new.volume c.in_ok-found.ensures.same).1.held (g.met.V.Volume.same_volume c.args.volume.now c.read_files.new.volume c.in_ok-found.ensures.same).1.stops c.requires.durable

pub returns-clause-settled : goal.returns-clause-settled
returns-clause-settled g c = subst (λ (o : Option Files). OnOk c.carry_out.result (g.V.Volume.files c.carry_out.new.volume ≡ option_map (settled c.args.magic.now) o)) (g.met.V.Volume.same_volume c.args.volume.now c.read_files.new.volume c.in_ok-found.ensures.same).1.held c.carry_out.ensures.settled

pub returns-clause-judges : goal.returns-clause-judges
returns-clause-judges g c = subst (λ (o : Option Files). Judges c.args.magic.now o c.carry_out.result) (g.met.V.Volume.same_volume c.args.volume.now c.read_files.new.volume c.in_ok-found.ensures.same).1.held c.carry_out.ensures.judges

pub returns-clause-unwritten : goal.returns-clause-unwritten
returns-clause-unwritten g c = unwritten_then c.carry_out.result _ _ c.carry_out.ensures.unwritten (λ same. g.met.V.Shows.same_transitive _ _ _ c.in_ok-found.ensures.same same)

pub returns-clause-stops : goal.returns-clause-stops
returns-clause-stops g c = λ d left. same_before c.args.magic.now (g.V.Volume.files c.args.volume.now) _ d (g.met.V.Volume.same_volume c.args.volume.now c.read_files.new.volume c.in_ok-found.ensures.same).1.held (c.carry_out.ensures.stops d left)

pub returns-clause-time : goal.returns-clause-time
returns-clause-time g c = adds_then (adds_read (g.met.V.Volume.same_volume c.args.volume.now c.read_files.new.volume c.in_ok-found.ensures.same).1 c.in_ok-found.ensures.frame.0) c.carry_out.ensures.time c.in_ok-found.ensures.frame.0 (λ d left. same_self c.args.magic.now (g.V.Volume.files c.args.volume.now) (g.V.Volume.may_leave c.args.volume.now) d c.requires.durable ((g.met.V.Volume.same_volume c.args.volume.now c.read_files.new.volume c.in_ok-found.ensures.same).1.stops d left)) (λ d left. same_before c.args.magic.now (g.V.Volume.files c.args.volume.now) _ d (g.met.V.Volume.same_volume c.args.volume.now c.read_files.new.volume c.in_ok-found.ensures.same).1.held left)

pub returns-clause-cause : goal.returns-clause-cause
returns-clause-cause g c = subst (λ (n : ℕ). IsCausedFault c.carry_out.result n (g.V.Shows.faults c.carry_out.new.volume)) c.in_ok-found.ensures.cause c.carry_out.ensures.cause
