use Rattle.ql_lex.proofs.MarkLemmas.{one_front, longest_one}
use Rattle.ql_lex.proofs.marks.mark_at.Goals as goal

pub returns-in_ok-mark-in-None : goal.returns-in_ok-mark-in-None
returns-in_ok-mark-in-None c = (
  one_front _ _ _ _ c.in-Some.ensures c.in_ok-mark-in-None.ensures.bytes,
  longest_one _ _ _ _ c.in-Some.ensures c.in-None.ensures c.in_ok-mark-in-None.ensures.bytes,
)
