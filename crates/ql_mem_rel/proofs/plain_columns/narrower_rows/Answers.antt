use Rattle.std.proofs.Common.{sym, subst, List}
use Rattle.ql_rel.specs.declared.db.Row.{Row}
use Rattle.ql_mem_rel.specs.Places.{AllLonger}
use Rattle.ql_mem_rel.proofs.PieceLemmas.{longer_here}
use Rattle.ql_mem_rel.proofs.plain_columns.narrower_rows.Goals as goal

pub narrower_piece-requires : goal.narrower_piece-requires
narrower_piece-requires c =
    let here : AllLonger c.args.place c.piece-item.result =
    longer_here c.args.place c.pieces-pieces.result.now c.args.rows.now c.loop-piece.piece-index c.piece-item.result c.pieces-pieces.ensures c.requires c.loop-piece-test.true c.piece-item.is in
    subst (λ (rows : List Row). AllLonger c.args.place rows) (sym c.as_slice.ensures) here
