use Rattle.std.proofs.Common.{◌≡◌, ◌++◌, length}
use Rattle.ql_lex.specs.Meaning.{string_value}
use Rattle.ql_lex.proofs.meaning.string_bytes.Given as goal

abbrev pub invariant-bytes : goal.invariant-bytes
invariant-bytes l = l.out ++ string_value 0 l.z ≡ string_value 0 l.fn.text

abbrev pub decreases-bytes : goal.decreases-bytes
decreases-bytes l = length l.z
