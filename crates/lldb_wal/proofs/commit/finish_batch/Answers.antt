use Rattle.lldb_wal.proofs.OldOrNew.{can_hold, completed_new, closed_new, open_magic, open_gate, all_stored}
use Rattle.lldb_wal.proofs.Times.{adds_weaker, adds_then}
use Rattle.lldb_wal.proofs.commit.finish_batch.Goals as goal

pub returns-in_err-apply_batch-clause-stops : goal.returns-in_err-apply_batch-clause-stops
returns-in_err-apply_batch-clause-stops g c = λ d left. completed_new c.args.shift c.args.batch.now (g.V.Volume.files c.args.volume.now) d (can_hold c.args.shift c.args.batch.now (g.V.Volume.files c.args.volume.now) c.in_err-apply_batch.ensures.made c.requires.end c.requires.takes c.requires.long c.requires.within) c.requires.open (c.in_err-apply_batch.ensures.stops d left)

pub returns-in_err-apply_batch-clause-time : goal.returns-in_err-apply_batch-clause-time
returns-in_err-apply_batch-clause-time g c = adds_weaker c.in_err-apply_batch.ensures.time (λ d left. completed_new c.args.shift c.args.batch.now (g.V.Volume.files c.args.volume.now) d (can_hold c.args.shift c.args.batch.now (g.V.Volume.files c.args.volume.now) c.in_err-apply_batch.ensures.made c.requires.end c.requires.takes c.requires.long c.requires.within) c.requires.open left)

pub close_log-requires-clause-magic : goal.close_log-requires-clause-magic
close_log-requires-clause-magic g c = open_magic c.args.shift c.args.batch.now (g.V.Volume.files c.args.volume.now) _ c.requires.open c.in_ok-apply_batch.ensures.applied

pub close_log-requires-clause-gate : goal.close_log-requires-clause-gate
close_log-requires-clause-gate g c = open_gate c.args.shift c.args.batch.now (g.V.Volume.files c.args.volume.now) _ c.requires.open c.in_ok-apply_batch.ensures.applied

pub returns-in_err-close_log-clause-stops : goal.returns-in_err-close_log-clause-stops
returns-in_err-close_log-clause-stops g c = λ d left. closed_new c.args.shift c.args.batch.now (g.V.Volume.files c.args.volume.now) _ d (can_hold c.args.shift c.args.batch.now (g.V.Volume.files c.args.volume.now) c.in_ok-apply_batch.ensures.made c.requires.end c.requires.takes c.requires.long c.requires.within) c.requires.open c.in_ok-apply_batch.ensures.applied (c.in_err-close_log.ensures.stops d left)

pub returns-in_err-close_log-clause-time : goal.returns-in_err-close_log-clause-time
returns-in_err-close_log-clause-time g c =
    adds_then c.in_ok-apply_batch.ensures.time c.in_err-close_log.ensures.time c.in_ok-apply_batch.ensures.frame.0 (λ d left. completed_new c.args.shift c.args.batch.now (g.V.Volume.files c.args.volume.now) d (can_hold c.args.shift c.args.batch.now (g.V.Volume.files c.args.volume.now) c.in_ok-apply_batch.ensures.made c.requires.end c.requires.takes c.requires.long c.requires.within) c.requires.open left)
    (λ d left. closed_new c.args.shift c.args.batch.now (g.V.Volume.files c.args.volume.now) _ d (can_hold c.args.shift c.args.batch.now (g.V.Volume.files c.args.volume.now) c.in_ok-apply_batch.ensures.made c.requires.end c.requires.takes c.requires.long c.requires.within) c.requires.open c.in_ok-apply_batch.ensures.applied left)

pub returns-clause-stored : goal.returns-clause-stored
returns-clause-stored g c = all_stored c.args.shift c.args.batch.now (g.V.Volume.files c.args.volume.now) _ _ c.in_ok-apply_batch.ensures.applied c.in_ok-close_log.ensures.closed

pub returns-clause-stops : goal.returns-clause-stops
returns-clause-stops g c = λ d left. closed_new c.args.shift c.args.batch.now (g.V.Volume.files c.args.volume.now) _ d (can_hold c.args.shift c.args.batch.now (g.V.Volume.files c.args.volume.now) c.in_ok-apply_batch.ensures.made c.requires.end c.requires.takes c.requires.long c.requires.within) c.requires.open c.in_ok-apply_batch.ensures.applied (c.in_ok-close_log.ensures.stops d left)

pub returns-clause-time : goal.returns-clause-time
returns-clause-time g c =
    adds_then c.in_ok-apply_batch.ensures.time c.in_ok-close_log.ensures.time c.in_ok-apply_batch.ensures.frame.0 (λ d left. completed_new c.args.shift c.args.batch.now (g.V.Volume.files c.args.volume.now) d (can_hold c.args.shift c.args.batch.now (g.V.Volume.files c.args.volume.now) c.in_ok-apply_batch.ensures.made c.requires.end c.requires.takes c.requires.long c.requires.within) c.requires.open left)
    (λ d left. closed_new c.args.shift c.args.batch.now (g.V.Volume.files c.args.volume.now) _ d (can_hold c.args.shift c.args.batch.now (g.V.Volume.files c.args.volume.now) c.in_ok-apply_batch.ensures.made c.requires.end c.requires.takes c.requires.long c.requires.within) c.requires.open c.in_ok-apply_batch.ensures.applied left)
