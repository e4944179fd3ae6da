use Rattle.ql_lex.proofs.EscapeLemmas.{escape_smaller}
use Rattle.ql_lex.proofs.ValueLemmas.{over_escape}
use Rattle.ql_lex.proofs.meaning.string_bytes.Goals as goal

pub bytes-smaller-in-Ok : goal.bytes-smaller-in-Ok
bytes-smaller-in-Ok c = escape_smaller _ _ _ _ _ c.in-Some.ensures c.in-Ok.ensures

pub bytes-preserved-in-Ok : goal.bytes-preserved-in-Ok
bytes-preserved-in-Ok c =
    over_escape _ _ _ _ _ _ _ _ c.in-Some.ensures c.if-b-ne92.false c.in-Ok.ensures c.bytes.invariant c.in_ok-push_code.ensures.ok
