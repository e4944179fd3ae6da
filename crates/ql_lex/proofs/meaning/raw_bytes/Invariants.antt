use Rattle.std.proofs.Common.{◌≡◌, take}
use Rattle.ql_lex.specs.Meaning.{raw_value}
use Rattle.ql_lex.proofs.meaning.raw_bytes.Given as goal

abbrev pub invariant-loop-b : goal.invariant-loop-b
invariant-loop-b l = l.out ≡ raw_value (take l.b-index l.text)
