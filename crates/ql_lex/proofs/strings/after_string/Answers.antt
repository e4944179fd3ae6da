use Rattle.std.proofs.Common.{sym}
use Rattle.ql_lex.proofs.EscapeLemmas.{escape_smaller}
use Rattle.ql_lex.proofs.StringLemmas.{at_newline, over_escape}
use Rattle.ql_lex.proofs.strings.after_string.Goals as goal

pub returns-in-Newline : goal.returns-in-Newline
returns-in-Newline c = at_newline _ _ _ _ c.bytes.invariant c.in-Some.ensures (sym c.in-Newline.ensures)

pub bytes-smaller-in-Backslash : goal.bytes-smaller-in-Backslash
bytes-smaller-in-Backslash c = escape_smaller _ _ _ _ _ c.in-Some.ensures c.in_ok-behind-in-Backslash.ensures

pub bytes-preserved-in-Backslash : goal.bytes-preserved-in-Backslash
bytes-preserved-in-Backslash c =
    over_escape _ _ _ _ _ _ c.bytes.invariant c.in-Some.ensures (sym c.in-Backslash.ensures) c.in_ok-behind-in-Backslash.ensures
