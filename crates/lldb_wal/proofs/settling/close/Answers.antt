use Rattle.lldb_wal.proofs.Settled.{tidied_kept, found_closed, closed_settled}
use Rattle.lldb_wal.proofs.Times.{adds_weaker}
use Rattle.lldb_wal.proofs.settling.close.Goals as goal

pub tidy_log-requires-clause-closed : goal.tidy_log-requires-clause-closed
tidy_log-requires-clause-closed g c = found_closed c.args.magic.now (g.V.Volume.files c.args.volume.now) c.requires.sixteen c.requires.found

pub returns-in_err-tidy_log-clause-stops : goal.returns-in_err-tidy_log-clause-stops
returns-in_err-tidy_log-clause-stops g c = λ d left. tidied_kept c.args.magic.now (g.V.Volume.files c.args.volume.now) d c.requires.sixteen c.requires.found (c.in_err-tidy_log.ensures.stops d left)

pub returns-in_err-tidy_log-clause-time : goal.returns-in_err-tidy_log-clause-time
returns-in_err-tidy_log-clause-time g c = adds_weaker c.in_err-tidy_log.ensures.time (λ d left. tidied_kept c.args.magic.now (g.V.Volume.files c.args.volume.now) d c.requires.sixteen c.requires.found left)

pub returns-clause-stops : goal.returns-clause-stops
returns-clause-stops g c = λ d left. tidied_kept c.args.magic.now (g.V.Volume.files c.args.volume.now) d c.requires.sixteen c.requires.found (c.in_ok-tidy_log.ensures.stops d left)

pub returns-clause-time : goal.returns-clause-time
returns-clause-time g c = adds_weaker c.in_ok-tidy_log.ensures.time (λ d left. tidied_kept c.args.magic.now (g.V.Volume.files c.args.volume.now) d c.requires.sixteen c.requires.found left)

pub returns-clause-settled : goal.returns-clause-settled
returns-clause-settled g c = closed_settled c.args.magic.now (g.V.Volume.files c.args.volume.now) _ c.requires.sixteen c.requires.found c.in_ok-tidy_log.ensures.tidied
