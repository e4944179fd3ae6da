use Rattle.ql_mem_rel.proofs.PieceLemmas.{filled_pushed_piece}
use Rattle.ql_mem_rel.proofs.row_pieces.push_piece.Goals as goal

pub returns-clause-filled : goal.returns-clause-filled
returns-clause-filled c = filled_pushed_piece c.args.pieces.now.items c.push.new.self.items c.args.piece c.len.result c.requires.filled c.len.ensures c.if-len-eq0.false c.in_ok-push.ensures.items
