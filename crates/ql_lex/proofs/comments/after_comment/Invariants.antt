use Rattle.std.proofs.Common.{length}
use Rattle.ql_lex.proofs.CommentLemmas.{GoesOn}
use Rattle.ql_lex.proofs.comments.after_comment.Given as goal

abbrev pub invariant-bytes : goal.invariant-bytes
invariant-bytes l = GoesOn l.z l.fn.text

abbrev pub decreases-bytes : goal.decreases-bytes
decreases-bytes l = length l.z
