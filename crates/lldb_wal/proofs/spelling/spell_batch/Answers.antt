use Rattle.lldb_wal.proofs.Spells.{first_spelled, next_spelled, turn}
use Rattle.lldb_wal.proofs.spelling.spell_batch.Goals as goal

pub loop-piece-init : goal.loop-piece-init
loop-piece-init c = first_spelled c.args.shift c.args.batch.now c.pieces-pieces.result.now c.in_ok-out.out _ c.pieces-pieces.ensures.batch c.pieces-pieces.ensures.value c.in_ok-out.ensures c.in_ok-add_number.ensures

pub loop-piece-preserved : goal.loop-piece-preserved
loop-piece-preserved c =
    next_spelled _ _ _ _ c.piece-item.result _ _ _ _ c.loop-piece.invariant
    (turn c.pieces-pieces.result.now c.loop-piece.piece-index c.piece-item.result c.loop-piece-test.true c.piece-item.is) c.in_ok-add_piece.ensures
