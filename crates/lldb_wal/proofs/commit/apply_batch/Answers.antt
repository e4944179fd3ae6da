use Rattle.std.proofs.Common.{◌∙◌}
use Rattle.lldb_wal.proofs.Times.{adds_then}
use Rattle.lldb_wal.proofs.Writing.{cut_within, cut_torn}
use Rattle.lldb_wal.proofs.commit.apply_batch.Goals as goal

pub cut-requires-clause-within : goal.cut-requires-clause-within
cut-requires-clause-within g c = cut_within c.args.shift c.length.result c.args.batch.now (g.V.Volume.files c.args.volume.now) _ c.length.ensures.value c.requires.takes c.in_ok-write_pieces.ensures.written

pub returns-in_err-cut-clause-stops : goal.returns-in_err-cut-clause-stops
returns-in_err-cut-clause-stops g c = λ d left.
    cut_torn c.args.shift c.length.result c.args.batch.now (g.V.Volume.files c.args.volume.now) (g.V.Volume.may_leave c.write_pieces.new.volume) d c.length.ensures.value c.length.ensures.batch c.in_ok-write_pieces.ensures.stops (c.in_err-cut.ensures.stops d left)

pub returns-in_err-cut-clause-time : goal.returns-in_err-cut-clause-time
returns-in_err-cut-clause-time g c =
    adds_then c.in_ok-write_pieces.ensures.time c.in_err-cut.ensures.time c.in_ok-write_pieces.ensures.frame.0 (λ d left. left) (λ d left.
    cut_torn c.args.shift c.length.result c.args.batch.now (g.V.Volume.files c.args.volume.now) (g.V.Volume.may_leave c.write_pieces.new.volume) d c.length.ensures.value c.length.ensures.batch c.in_ok-write_pieces.ensures.stops (c.in_err-cut.ensures.stops d left))

pub returns-in_err-sync-clause-stops : goal.returns-in_err-sync-clause-stops
returns-in_err-sync-clause-stops g c = λ d left.
    cut_torn c.args.shift c.length.result c.args.batch.now (g.V.Volume.files c.args.volume.now) (g.V.Volume.may_leave c.write_pieces.new.volume) d c.length.ensures.value c.length.ensures.batch c.in_ok-write_pieces.ensures.stops (c.in_ok-cut.ensures.stops d (c.in_err-sync.ensures.stops d left))

pub returns-in_err-sync-clause-time : goal.returns-in_err-sync-clause-time
returns-in_err-sync-clause-time g c =
    adds_then (adds_then c.in_ok-write_pieces.ensures.time c.in_ok-cut.ensures.time c.in_ok-write_pieces.ensures.frame.0 (λ d left. left) (λ d left.
    cut_torn c.args.shift c.length.result c.args.batch.now (g.V.Volume.files c.args.volume.now) (g.V.Volume.may_leave c.write_pieces.new.volume) d c.length.ensures.value c.length.ensures.batch c.in_ok-write_pieces.ensures.stops (c.in_ok-cut.ensures.stops d left)))
    c.in_err-sync.ensures.time (c.in_ok-cut.ensures.frame.0 ∙ c.in_ok-write_pieces.ensures.frame.0) (λ d left. left) (λ d left.
    cut_torn c.args.shift c.length.result c.args.batch.now (g.V.Volume.files c.args.volume.now) (g.V.Volume.may_leave c.write_pieces.new.volume) d c.length.ensures.value c.length.ensures.batch c.in_ok-write_pieces.ensures.stops (c.in_ok-cut.ensures.stops d left))

pub returns-clause-stops : goal.returns-clause-stops
returns-clause-stops g c = λ d left.
    cut_torn c.args.shift c.length.result c.args.batch.now (g.V.Volume.files c.args.volume.now) (g.V.Volume.may_leave c.write_pieces.new.volume) d c.length.ensures.value c.length.ensures.batch c.in_ok-write_pieces.ensures.stops (c.in_ok-cut.ensures.stops d (c.in_ok-sync.ensures.stops d left))

pub returns-clause-time : goal.returns-clause-time
returns-clause-time g c =
    adds_then (adds_then c.in_ok-write_pieces.ensures.time c.in_ok-cut.ensures.time c.in_ok-write_pieces.ensures.frame.0 (λ d left. left) (λ d left.
    cut_torn c.args.shift c.length.result c.args.batch.now (g.V.Volume.files c.args.volume.now) (g.V.Volume.may_leave c.write_pieces.new.volume) d c.length.ensures.value c.length.ensures.batch c.in_ok-write_pieces.ensures.stops (c.in_ok-cut.ensures.stops d left)))
    c.in_ok-sync.ensures.time (c.in_ok-cut.ensures.frame.0 ∙ c.in_ok-write_pieces.ensures.frame.0) (λ d left. left) (λ d left.
    cut_torn c.args.shift c.length.result c.args.batch.now (g.V.Volume.files c.args.volume.now) (g.V.Volume.may_leave c.write_pieces.new.volume) d c.length.ensures.value c.length.ensures.batch c.in_ok-write_pieces.ensures.stops (c.in_ok-cut.ensures.stops d left))
