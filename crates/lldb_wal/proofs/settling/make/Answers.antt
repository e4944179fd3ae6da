use Rattle.lldb_wal.proofs.Created.{new_same}
use Rattle.lldb_wal.proofs.Opened.{new_settled}
use Rattle.lldb_wal.proofs.Times.{adds_weaker}
use Rattle.lldb_wal.proofs.settling.make.Goals as goal

pub returns-in_err-create-clause-stops : goal.returns-in_err-create-clause-stops
returns-in_err-create-clause-stops g c = λ d left. new_same c.args.magic.now (g.V.Volume.files c.args.volume.now) d c.requires.found (c.in_err-create.ensures.stops d left)

pub returns-in_err-create-clause-time : goal.returns-in_err-create-clause-time
returns-in_err-create-clause-time g c = adds_weaker c.in_err-create.ensures.time (λ d left. new_same c.args.magic.now (g.V.Volume.files c.args.volume.now) d c.requires.found left)

pub returns-clause-stops : goal.returns-clause-stops
returns-clause-stops g c = λ d left. new_same c.args.magic.now (g.V.Volume.files c.args.volume.now) d c.requires.found (c.in_ok-create.ensures.stops d left)

pub returns-clause-time : goal.returns-clause-time
returns-clause-time g c = adds_weaker c.in_ok-create.ensures.time (λ d left. new_same c.args.magic.now (g.V.Volume.files c.args.volume.now) d c.requires.found left)

pub returns-clause-settled : goal.returns-clause-settled
returns-clause-settled g c = new_settled c.args.magic.now (g.V.Volume.files c.args.volume.now) _ c.requires.found c.in_ok-create.ensures.created
