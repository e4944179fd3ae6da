use Rattle.std.proofs.Common.{refl, ◌∙◌, arith}
use Rattle.std.proofs.lemmas.List.{drop_all}
use Rattle.lldb_wal.proofs.Spells.{turn}
use Rattle.lldb_wal.proofs.Times.{adds_none, adds_then}
use Rattle.lldb_wal.proofs.Writing.{none_written, next_torn, next_written, next_within, next_end, all_written}
use Rattle.lldb_wal.proofs.commit.write_pieces.Goals as goal

pub loop-piece-init : goal.loop-piece-init
loop-piece-init g c = record {
  writing = none_written c.args.shift c.args.batch.now c.pieces-pieces.result.now (g.V.Volume.files c.args.volume.now) (g.V.Volume.may_leave c.args.volume.now)
      c.pieces-pieces.ensures.batch c.pieces-pieces.ensures.value c.requires.takes c.requires.long c.requires.within c.requires.durable;
  time = adds_none;
  frame = (refl, refl, refl, refl);
  faults = refl;
}

pub write_at-requires-clause-within : goal.write_at-requires-clause-within
write_at-requires-clause-within g c =
    next_within c.args.shift c.args.batch.now _ _ _ _ _ c.piece-item.result c.loop-piece.invariant.writing
    (turn c.pieces-pieces.result.now c.loop-piece.piece-index c.piece-item.result c.loop-piece-test.true c.piece-item.is)

pub write_at-requires-clause-end : goal.write_at-requires-clause-end
write_at-requires-clause-end g c =
    let end = next_end c.args.shift c.args.batch.now _ _ _ _ _ c.piece-item.result c.as_slice.result.now c.requires.end c.loop-piece.invariant.writing
    (turn c.pieces-pieces.result.now c.loop-piece.piece-index c.piece-item.result c.loop-piece-test.true c.piece-item.is) c.as_slice.ensures in
    omega (arith, end)

pub returns-in_err-write_at-clause-stops : goal.returns-in_err-write_at-clause-stops
returns-in_err-write_at-clause-stops g c = λ d left.
    next_torn c.args.shift c.args.batch.now (g.V.Volume.files c.args.volume.now) _ _ _ _ c.piece-item.result c.as_slice.result.now d c.requires.end c.loop-piece.invariant.writing
    (turn c.pieces-pieces.result.now c.loop-piece.piece-index c.piece-item.result c.loop-piece-test.true c.piece-item.is) c.as_slice.ensures (c.in_err-write_at.ensures.stops d left)

pub returns-in_err-write_at-clause-time : goal.returns-in_err-write_at-clause-time
returns-in_err-write_at-clause-time g c =
    adds_then c.loop-piece.invariant.time c.in_err-write_at.ensures.time c.loop-piece.invariant.frame.0 (λ d left. left) (λ d left.
    next_torn c.args.shift c.args.batch.now (g.V.Volume.files c.args.volume.now) _ _ _ _ c.piece-item.result c.as_slice.result.now d c.requires.end c.loop-piece.invariant.writing
    (turn c.pieces-pieces.result.now c.loop-piece.piece-index c.piece-item.result c.loop-piece-test.true c.piece-item.is) c.as_slice.ensures (c.in_err-write_at.ensures.stops d left))

pub loop-piece-preserved : goal.loop-piece-preserved
loop-piece-preserved g c =
    let split = turn c.pieces-pieces.result.now c.loop-piece.piece-index c.piece-item.result c.loop-piece-test.true c.piece-item.is in
    record {
      writing = next_written c.args.shift c.args.batch.now (g.V.Volume.files c.args.volume.now) _ _ _ _ _ _ c.piece-item.result c.as_slice.result.now c.requires.end c.loop-piece.invariant.writing
          split c.as_slice.ensures c.in_ok-write_at.ensures.written c.in_ok-write_at.ensures.stops;
      time = adds_then c.loop-piece.invariant.time c.in_ok-write_at.ensures.time c.loop-piece.invariant.frame.0 (λ d left. left) (λ d left.
          next_torn c.args.shift c.args.batch.now (g.V.Volume.files c.args.volume.now) _ _ _ _ c.piece-item.result c.as_slice.result.now d c.requires.end c.loop-piece.invariant.writing
          split c.as_slice.ensures (c.in_ok-write_at.ensures.stops d left));
      frame = (
        c.in_ok-write_at.ensures.frame.0 ∙ c.loop-piece.invariant.frame.0,
        c.in_ok-write_at.ensures.frame.1 ∙ c.loop-piece.invariant.frame.1,
        c.in_ok-write_at.ensures.frame.2 ∙ c.loop-piece.invariant.frame.2,
        c.in_ok-write_at.ensures.frame.3 ∙ c.loop-piece.invariant.frame.3,
      );
      faults = c.in_ok-write_at.ensures.cause ∙ c.loop-piece.invariant.faults;
    }

pub returns-clause-written : goal.returns-clause-written
returns-clause-written g c =
    all_written c.args.shift c.args.batch.now _ _ _ _ c.loop-piece.invariant.writing (drop_all c.loop-piece.piece-index c.pieces-pieces.result.now c.loop-piece-test.false)
