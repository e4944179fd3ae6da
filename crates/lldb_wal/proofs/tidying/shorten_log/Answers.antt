use Rattle.std.proofs.Common.{take, ◌∙◌}
use Rattle.lldb_wal.proofs.Tidied.{tidy_cut, tidy_stable, long_within}
use Rattle.lldb_wal.proofs.Times.{adds_weaker, adds_then}
use Rattle.lldb_wal.proofs.tidying.shorten_log.Goals as goal

pub cut-requires-clause-within : goal.cut-requires-clause-within
cut-requires-clause-within g c = long_within (g.V.Volume.files c.args.volume.now) c.requires.long

pub returns-in_err-cut-clause-stops : goal.returns-in_err-cut-clause-stops
returns-in_err-cut-clause-stops g c = λ d left. tidy_cut (g.V.Volume.files c.args.volume.now) (g.V.Volume.may_leave c.args.volume.now) d c.requires.closed c.requires.long c.requires.durable (c.in_err-cut.ensures.stops d left)

pub returns-in_err-cut-clause-time : goal.returns-in_err-cut-clause-time
returns-in_err-cut-clause-time g c = adds_weaker c.in_err-cut.ensures.time (λ d left. tidy_cut (g.V.Volume.files c.args.volume.now) (g.V.Volume.may_leave c.args.volume.now) d c.requires.closed c.requires.long c.requires.durable (c.in_err-cut.ensures.stops d left))

pub returns-in_err-sync-clause-stops : goal.returns-in_err-sync-clause-stops
returns-in_err-sync-clause-stops g c = λ d left. tidy_cut (g.V.Volume.files c.args.volume.now) (g.V.Volume.may_leave c.args.volume.now) d c.requires.closed c.requires.long c.requires.durable (c.in_ok-cut.ensures.stops d (c.in_err-sync.ensures.stops d left))

pub returns-in_err-sync-clause-time : goal.returns-in_err-sync-clause-time
returns-in_err-sync-clause-time g c = adds_then c.in_ok-cut.ensures.time c.in_err-sync.ensures.time c.in_ok-cut.ensures.frame.0
    (λ d left. tidy_cut (g.V.Volume.files c.args.volume.now) (g.V.Volume.may_leave c.args.volume.now) d c.requires.closed c.requires.long c.requires.durable (c.in_ok-cut.ensures.stops d left)) (λ d left. tidy_cut (g.V.Volume.files c.args.volume.now) (g.V.Volume.may_leave c.args.volume.now) d c.requires.closed c.requires.long c.requires.durable (c.in_ok-cut.ensures.stops d left))

pub returns-clause-durable : goal.returns-clause-durable
returns-clause-durable g c = tidy_stable (take 16) (g.V.Volume.files c.args.volume.now) _ _ (c.in_ok-sync.ensures.files ∙ c.in_ok-cut.ensures.cut) (λ d left. tidy_cut (g.V.Volume.files c.args.volume.now) (g.V.Volume.may_leave c.args.volume.now) d c.requires.closed c.requires.long c.requires.durable (c.in_ok-cut.ensures.stops d (c.in_ok-sync.ensures.stops d left))) c.in_ok-sync.ensures.durable

pub returns-clause-stops : goal.returns-clause-stops
returns-clause-stops g c = λ d left. tidy_cut (g.V.Volume.files c.args.volume.now) (g.V.Volume.may_leave c.args.volume.now) d c.requires.closed c.requires.long c.requires.durable (c.in_ok-cut.ensures.stops d (c.in_ok-sync.ensures.stops d left))

pub returns-clause-time : goal.returns-clause-time
returns-clause-time g c = adds_then c.in_ok-cut.ensures.time c.in_ok-sync.ensures.time c.in_ok-cut.ensures.frame.0
    (λ d left. tidy_cut (g.V.Volume.files c.args.volume.now) (g.V.Volume.may_leave c.args.volume.now) d c.requires.closed c.requires.long c.requires.durable (c.in_ok-cut.ensures.stops d left)) (λ d left. tidy_cut (g.V.Volume.files c.args.volume.now) (g.V.Volume.may_leave c.args.volume.now) d c.requires.closed c.requires.long c.requires.durable (c.in_ok-cut.ensures.stops d left))
