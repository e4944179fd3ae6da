use Rattle.std.proofs.Common.{◌++◌, ◌≤◌, length}
use Rattle.lldb_base.specs.Batch.{CanTake}
use Rattle.lldb_wal.specs.Fields.{longest}
use Rattle.lldb_wal.specs.Kept.{IsOpenWith}
use Rattle.lldb_wal.specs.Spelling.{log_header}
use Rattle.lldb_wal.proofs.OldOrNew.{can_hold, logged_either, new_either, new_only, log_stored, of_data, of_log, spelled_opens, spelled_short}
use Rattle.lldb_wal.proofs.Times.{adds_weaker, adds_then}
use Rattle.lldb_wal.proofs.commit.store_batch.Goals as goal

pub log_batch-requires-clause-end : goal.log_batch-requires-clause-end
log_batch-requires-clause-end g c = spelled_short c.args.shift c.args.batch.now c.args.spelled.now c.requires.made c.requires.spelled

pub returns-in_err-log_batch-clause-stops : goal.returns-in_err-log_batch-clause-stops
returns-in_err-log_batch-clause-stops g c = λ d left. logged_either c.args.shift c.args.batch.now c.args.spelled.now (g.V.Volume.files c.args.volume.now) d c.requires.spelled (can_hold c.args.shift c.args.batch.now (g.V.Volume.files c.args.volume.now) c.requires.made c.requires.end c.requires.takes c.requires.long c.requires.within) (c.in_err-log_batch.ensures.stops d left)

pub returns-in_err-log_batch-clause-time : goal.returns-in_err-log_batch-clause-time
returns-in_err-log_batch-clause-time g c = adds_weaker c.in_err-log_batch.ensures.time (λ d left. logged_either c.args.shift c.args.batch.now c.args.spelled.now (g.V.Volume.files c.args.volume.now) d c.requires.spelled (can_hold c.args.shift c.args.batch.now (g.V.Volume.files c.args.volume.now) c.requires.made c.requires.end c.requires.takes c.requires.long c.requires.within) left)

pub finish_batch-requires-clause-takes : goal.finish_batch-requires-clause-takes
finish_batch-requires-clause-takes g c = of_data (λ bytes. CanTake 16 c.args.shift (length bytes) c.args.batch.now) (log_header 1 ++ c.args.spelled.now) (g.V.Volume.files c.args.volume.now) _ c.in_ok-log_batch.ensures.opened c.requires.takes

pub finish_batch-requires-clause-long : goal.finish_batch-requires-clause-long
finish_batch-requires-clause-long g c = of_data (λ bytes. 16 ≤ length bytes) (log_header 1 ++ c.args.spelled.now) (g.V.Volume.files c.args.volume.now) _ c.in_ok-log_batch.ensures.opened c.requires.long

pub finish_batch-requires-clause-within : goal.finish_batch-requires-clause-within
finish_batch-requires-clause-within g c = of_data (λ bytes. length bytes ≤ longest) (log_header 1 ++ c.args.spelled.now) (g.V.Volume.files c.args.volume.now) _ c.in_ok-log_batch.ensures.opened c.requires.within

pub finish_batch-requires-clause-open : goal.finish_batch-requires-clause-open
finish_batch-requires-clause-open g c = of_log (λ log. IsOpenWith c.args.shift c.args.batch.now log) (log_header 1 ++ c.args.spelled.now) (g.V.Volume.files c.args.volume.now) _ c.in_ok-log_batch.ensures.opened
    (spelled_opens c.args.shift c.args.batch.now c.args.spelled.now c.requires.made c.requires.end c.requires.spelled)

pub returns-in_err-finish_batch-clause-stops : goal.returns-in_err-finish_batch-clause-stops
returns-in_err-finish_batch-clause-stops g c = λ d left. new_either c.args.shift c.args.batch.now (log_header 1 ++ c.args.spelled.now) (g.V.Volume.files c.args.volume.now) _ d c.in_ok-log_batch.ensures.opened (c.in_err-finish_batch.ensures.stops d left)

pub returns-in_err-finish_batch-clause-time : goal.returns-in_err-finish_batch-clause-time
returns-in_err-finish_batch-clause-time g c =
    adds_then c.in_ok-log_batch.ensures.time c.in_err-finish_batch.ensures.time c.in_ok-log_batch.ensures.frame.0 (λ d left. logged_either c.args.shift c.args.batch.now c.args.spelled.now (g.V.Volume.files c.args.volume.now) d c.requires.spelled (can_hold c.args.shift c.args.batch.now (g.V.Volume.files c.args.volume.now) c.requires.made c.requires.end c.requires.takes c.requires.long c.requires.within) left)
    (λ d left. new_either c.args.shift c.args.batch.now (log_header 1 ++ c.args.spelled.now) (g.V.Volume.files c.args.volume.now) _ d c.in_ok-log_batch.ensures.opened left)

pub returns-clause-stored : goal.returns-clause-stored
returns-clause-stored g c = log_stored c.args.shift c.args.batch.now (log_header 1 ++ c.args.spelled.now) (g.V.Volume.files c.args.volume.now) _ _ c.in_ok-log_batch.ensures.opened c.in_ok-finish_batch.ensures.stored

pub returns-clause-stops : goal.returns-clause-stops
returns-clause-stops g c = λ d left. new_either c.args.shift c.args.batch.now (log_header 1 ++ c.args.spelled.now) (g.V.Volume.files c.args.volume.now) _ d c.in_ok-log_batch.ensures.opened (c.in_ok-finish_batch.ensures.stops d left)

pub returns-clause-stops_new : goal.returns-clause-stops_new
returns-clause-stops_new g c = λ d left. new_only c.args.shift c.args.batch.now (log_header 1 ++ c.args.spelled.now) (g.V.Volume.files c.args.volume.now) _ d c.in_ok-log_batch.ensures.opened (c.in_ok-finish_batch.ensures.stops d left)

pub returns-clause-time : goal.returns-clause-time
returns-clause-time g c =
    adds_then c.in_ok-log_batch.ensures.time c.in_ok-finish_batch.ensures.time c.in_ok-log_batch.ensures.frame.0 (λ d left. logged_either c.args.shift c.args.batch.now c.args.spelled.now (g.V.Volume.files c.args.volume.now) d c.requires.spelled (can_hold c.args.shift c.args.batch.now (g.V.Volume.files c.args.volume.now) c.requires.made c.requires.end c.requires.takes c.requires.long c.requires.within) left)
    (λ d left. new_either c.args.shift c.args.batch.now (log_header 1 ++ c.args.spelled.now) (g.V.Volume.files c.args.volume.now) _ d c.in_ok-log_batch.ensures.opened left)
