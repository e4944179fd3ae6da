use Rattle.ql_lex.proofs.CommentLemmas.{over_byte}
use Rattle.ql_lex.proofs.comments.after_comment.Goals as goal

pub bytes-preserved : goal.bytes-preserved
bytes-preserved c = over_byte _ _ _ _ c.bytes.invariant c.in-Some.ensures c.in-None.ensures
