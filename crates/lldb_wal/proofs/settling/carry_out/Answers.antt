use Rattle.lldb_wal.specs.declared.state.Opening.TheVariants.{New, Closed, Open, NotDatabase, BadLog}
use Rattle.lldb_wal.proofs.Opened.{found_as, opens_new, opens_closed, opens_open}
use Rattle.lldb_wal.proofs.Settled.{same_self}
use Rattle.lldb_wal.proofs.Times.{adds_none}
use Rattle.lldb_wal.proofs.settling.carry_out.Goals as goal

pub make-requires-clause-found : goal.make-requires-clause-found
make-requires-clause-found g c = found_as c.args.magic.now c.args.found New (g.V.Volume.files c.args.volume.now) c.requires.found c.in-New.is

pub close-requires-clause-found : goal.close-requires-clause-found
close-requires-clause-found g c = found_as c.args.magic.now c.args.found Closed (g.V.Volume.files c.args.volume.now) c.requires.found c.in-Closed.is

pub recover-requires-clause-found : goal.recover-requires-clause-found
recover-requires-clause-found g c = found_as c.args.magic.now c.args.found (Open c.in-Open.batch) (g.V.Volume.files c.args.volume.now) c.requires.found c.in-Open.is

pub returns-in_ok-make-in-New-clause-judges : goal.returns-in_ok-make-in-New-clause-judges
returns-in_ok-make-in-New-clause-judges g c = opens_new c.args.magic.now (g.V.Volume.files c.args.volume.now) (found_as c.args.magic.now c.args.found New (g.V.Volume.files c.args.volume.now) c.requires.found c.in-New.is)

pub returns-in_ok-close-in-Closed-clause-judges : goal.returns-in_ok-close-in-Closed-clause-judges
returns-in_ok-close-in-Closed-clause-judges g c = opens_closed c.args.magic.now (g.V.Volume.files c.args.volume.now) (found_as c.args.magic.now c.args.found Closed (g.V.Volume.files c.args.volume.now) c.requires.found c.in-Closed.is)

pub returns-in_ok-recover-in-Open-clause-judges : goal.returns-in_ok-recover-in-Open-clause-judges
returns-in_ok-recover-in-Open-clause-judges g c = opens_open c.args.magic.now c.in-Open.batch (g.V.Volume.files c.args.volume.now) (found_as c.args.magic.now c.args.found (Open c.in-Open.batch) (g.V.Volume.files c.args.volume.now) c.requires.found c.in-Open.is)

pub returns-in-NotDatabase-clause-judges : goal.returns-in-NotDatabase-clause-judges
returns-in-NotDatabase-clause-judges g c = found_as c.args.magic.now c.args.found NotDatabase (g.V.Volume.files c.args.volume.now) c.requires.found c.in-NotDatabase.is

pub returns-in-NotDatabase-clause-stops : goal.returns-in-NotDatabase-clause-stops
returns-in-NotDatabase-clause-stops g c = λ d left. same_self c.args.magic.now (g.V.Volume.files c.args.volume.now) (g.V.Volume.may_leave c.args.volume.now) d c.requires.durable left

pub returns-in-NotDatabase-clause-time : goal.returns-in-NotDatabase-clause-time
returns-in-NotDatabase-clause-time g c = adds_none

pub returns-in-NotDatabase-clause-unwritten : goal.returns-in-NotDatabase-clause-unwritten
returns-in-NotDatabase-clause-unwritten g c = g.met.V.Shows.same_reflexive _

pub returns-in-BadLog-clause-judges : goal.returns-in-BadLog-clause-judges
returns-in-BadLog-clause-judges g c = found_as c.args.magic.now c.args.found (BadLog c.in-BadLog.at) (g.V.Volume.files c.args.volume.now) c.requires.found c.in-BadLog.is

pub returns-in-BadLog-clause-stops : goal.returns-in-BadLog-clause-stops
returns-in-BadLog-clause-stops g c = λ d left. same_self c.args.magic.now (g.V.Volume.files c.args.volume.now) (g.V.Volume.may_leave c.args.volume.now) d c.requires.durable left

pub returns-in-BadLog-clause-time : goal.returns-in-BadLog-clause-time
returns-in-BadLog-clause-time g c = adds_none

pub returns-in-BadLog-clause-unwritten : goal.returns-in-BadLog-clause-unwritten
returns-in-BadLog-clause-unwritten g c = g.met.V.Shows.same_reflexive _
