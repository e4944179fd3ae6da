use Rattle.ql_rel.proofs.TextLemmas.{IsReadTo}
use Rattle.ql_rel.proofs.text_limit.has_many_open.Given as goal

abbrev pub invariant-loop-byte : goal.invariant-loop-byte
invariant-loop-byte l = IsReadTo l.text l.byte-index l.reading
