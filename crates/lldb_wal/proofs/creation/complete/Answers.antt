use Rattle.lldb_wal.proofs.Created.{written_closed, tidied_created, completed_made}
use Rattle.lldb_wal.proofs.Times.{adds_then}
use Rattle.lldb_wal.proofs.creation.complete.Goals as goal

pub tidy_log-requires-clause-closed : goal.tidy_log-requires-clause-closed
tidy_log-requires-clause-closed g c = written_closed c.args.magic.now (g.V.Volume.files c.args.volume.now) _ c.requires.unmade c.in_ok-write_magic.ensures.written

pub returns-in_err-tidy_log-clause-stops : goal.returns-in_err-tidy_log-clause-stops
returns-in_err-tidy_log-clause-stops g c = λ d left. tidied_created c.args.magic.now (g.V.Volume.files c.args.volume.now) _ d c.requires.sixteen c.in_ok-write_magic.ensures.written (c.in_err-tidy_log.ensures.stops d left)

pub returns-in_err-tidy_log-clause-time : goal.returns-in_err-tidy_log-clause-time
returns-in_err-tidy_log-clause-time g c = adds_then c.in_ok-write_magic.ensures.time c.in_err-tidy_log.ensures.time c.in_ok-write_magic.ensures.frame.0 (λ d left. left) (λ d left. tidied_created c.args.magic.now (g.V.Volume.files c.args.volume.now) _ d c.requires.sixteen c.in_ok-write_magic.ensures.written left)

pub returns-clause-stops : goal.returns-clause-stops
returns-clause-stops g c = λ d left. tidied_created c.args.magic.now (g.V.Volume.files c.args.volume.now) _ d c.requires.sixteen c.in_ok-write_magic.ensures.written (c.in_ok-tidy_log.ensures.stops d left)

pub returns-clause-time : goal.returns-clause-time
returns-clause-time g c = adds_then c.in_ok-write_magic.ensures.time c.in_ok-tidy_log.ensures.time c.in_ok-write_magic.ensures.frame.0 (λ d left. left) (λ d left. tidied_created c.args.magic.now (g.V.Volume.files c.args.volume.now) _ d c.requires.sixteen c.in_ok-write_magic.ensures.written left)

pub returns-clause-created : goal.returns-clause-created
returns-clause-created g c = completed_made c.args.magic.now (g.V.Volume.files c.args.volume.now) _ _ c.in_ok-write_magic.ensures.written c.in_ok-tidy_log.ensures.tidied
