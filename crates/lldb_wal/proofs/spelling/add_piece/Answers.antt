use Rattle.lldb_wal.proofs.Spells.{piece_added}
use Rattle.lldb_wal.proofs.spelling.add_piece.Goals as goal

pub returns : goal.returns
returns c = piece_added c.args.out.now _ _ _ _ c.len.result c.as_slice.result.now c.args.piece.now.bytes c.in_ok-add_number.ensures c.in_ok-add_count.ensures c.in_ok-extend.ensures.ok c.len.ensures c.as_slice.ensures
