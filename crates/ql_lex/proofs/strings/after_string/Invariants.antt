use Rattle.std.proofs.Common.{length}
use Rattle.ql_lex.proofs.StringLemmas.{GoesOn}
use Rattle.ql_lex.proofs.strings.after_string.Given as goal

abbrev pub invariant-bytes : goal.invariant-bytes
invariant-bytes l = GoesOn l.z l.fn.text

abbrev pub decreases-bytes : goal.decreases-bytes
decreases-bytes l = length l.z
