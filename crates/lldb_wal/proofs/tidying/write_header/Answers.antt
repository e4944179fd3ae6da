use Rattle.std.proofs.Common.{List, ℕ}
use Rattle.ql_edge.specs.Disk.{put}
use Rattle.lldb_wal.specs.Spelling.{log_header}
use Rattle.lldb_wal.proofs.Tidied.{tidy_write, tidy_stable}
use Rattle.lldb_wal.proofs.Times.{adds_weaker}
use Rattle.lldb_wal.proofs.tidying.write_header.Goals as goal

pub returns-in_err-write_synced-clause-stops : goal.returns-in_err-write_synced-clause-stops
returns-in_err-write_synced-clause-stops g c = λ d left. tidy_write (g.V.Volume.files c.args.volume.now) (g.V.Volume.may_leave c.args.volume.now) d c.requires.short c.requires.durable (c.in_err-write_synced.ensures.stops d left)

pub returns-in_err-write_synced-clause-time : goal.returns-in_err-write_synced-clause-time
returns-in_err-write_synced-clause-time g c = adds_weaker c.in_err-write_synced.ensures.time (λ d left. tidy_write (g.V.Volume.files c.args.volume.now) (g.V.Volume.may_leave c.args.volume.now) d c.requires.short c.requires.durable (left))

pub returns-clause-stops : goal.returns-clause-stops
returns-clause-stops g c = λ d left. tidy_write (g.V.Volume.files c.args.volume.now) (g.V.Volume.may_leave c.args.volume.now) d c.requires.short c.requires.durable (c.in_ok-write_synced.ensures.stops d left)

pub returns-clause-time : goal.returns-clause-time
returns-clause-time g c = adds_weaker c.in_ok-write_synced.ensures.time (λ d left. tidy_write (g.V.Volume.files c.args.volume.now) (g.V.Volume.may_leave c.args.volume.now) d c.requires.short c.requires.durable (left))

pub returns-clause-durable : goal.returns-clause-durable
returns-clause-durable g c = tidy_stable (λ (l : List ℕ). put 0 (log_header 0) l) (g.V.Volume.files c.args.volume.now) _ _ c.in_ok-write_synced.ensures.written (λ d left. tidy_write (g.V.Volume.files c.args.volume.now) (g.V.Volume.may_leave c.args.volume.now) d c.requires.short c.requires.durable (c.in_ok-write_synced.ensures.stops d left)) c.in_ok-write_synced.ensures.durable
