use Rattle.std.proofs.Common.{Some, None, ◌∙◌}
use Rattle.ql_mem_rel.proofs.PieceLemmas.{end_got}
use Rattle.ql_mem_rel.proofs.row_piece.RowPiece.last_id.Goals as goal

pub returns-in-Some : goal.returns-in-Some
returns-in-Some c = end_got c.as_slice.result.now c.args.self.now (Some c.in-Some.row.now) (c.as_slice.ensures.value ∙ c.self.view_is) c.in-Some.ensures.value

pub returns-in-None : goal.returns-in-None
returns-in-None c = end_got c.as_slice.result.now c.args.self.now None (c.as_slice.ensures.value ∙ c.self.view_is) c.in-None.ensures.value
