use Rattle.lldb_wal.proofs.Settled.{new_kept, open_settled, found_takes, found_long, found_within, found_open}
use Rattle.lldb_wal.proofs.Times.{adds_weaker}
use Rattle.lldb_wal.proofs.settling.recover.Goals as goal

pub returns-in_err-finish_batch-clause-stops : goal.returns-in_err-finish_batch-clause-stops
returns-in_err-finish_batch-clause-stops g c = λ d left. new_kept c.args.magic.now c.args.batch.now (g.V.Volume.files c.args.volume.now) d c.requires.sixteen c.requires.found (c.in_err-finish_batch.ensures.stops d left)

pub returns-in_err-finish_batch-clause-time : goal.returns-in_err-finish_batch-clause-time
returns-in_err-finish_batch-clause-time g c = adds_weaker c.in_err-finish_batch.ensures.time (λ d left. new_kept c.args.magic.now c.args.batch.now (g.V.Volume.files c.args.volume.now) d c.requires.sixteen c.requires.found left)

pub returns-clause-stops : goal.returns-clause-stops
returns-clause-stops g c = λ d left. new_kept c.args.magic.now c.args.batch.now (g.V.Volume.files c.args.volume.now) d c.requires.sixteen c.requires.found (c.in_ok-finish_batch.ensures.stops d left)

pub returns-clause-time : goal.returns-clause-time
returns-clause-time g c = adds_weaker c.in_ok-finish_batch.ensures.time (λ d left. new_kept c.args.magic.now c.args.batch.now (g.V.Volume.files c.args.volume.now) d c.requires.sixteen c.requires.found left)

pub returns-clause-settled : goal.returns-clause-settled
returns-clause-settled g c = open_settled c.args.magic.now c.args.batch.now (g.V.Volume.files c.args.volume.now) _ c.requires.sixteen c.requires.found c.in_ok-finish_batch.ensures.stored

pub finish_batch-requires-clause-takes : goal.finish_batch-requires-clause-takes
finish_batch-requires-clause-takes g c = found_takes c.args.magic.now c.args.batch.now (g.V.Volume.files c.args.volume.now) c.requires.sixteen c.requires.found

pub finish_batch-requires-clause-long : goal.finish_batch-requires-clause-long
finish_batch-requires-clause-long g c = found_long c.args.magic.now c.args.batch.now (g.V.Volume.files c.args.volume.now) c.requires.sixteen c.requires.found

pub finish_batch-requires-clause-within : goal.finish_batch-requires-clause-within
finish_batch-requires-clause-within g c = found_within c.args.magic.now c.args.batch.now (g.V.Volume.files c.args.volume.now) c.requires.sixteen c.requires.found

pub finish_batch-requires-clause-open : goal.finish_batch-requires-clause-open
finish_batch-requires-clause-open g c = found_open c.args.magic.now c.args.batch.now (g.V.Volume.files c.args.volume.now) c.requires.sixteen c.requires.found
