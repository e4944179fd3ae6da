use Rattle.std.proofs.Common.{sym, ◌∙◌}
use Rattle.ql_cursor.proofs.StepLemmas.{exits}
use Rattle.ql_parse_expr.proofs.PrimaryLemmas.{at_number, at_text}
use Rattle.ql_parse_expr.proofs.CallLemmas.{fails_at_end, fails_mark, fails_paren, gives_paren}
use Rattle.ql_parse_expr.proofs.parser.Parser.primary.Goals as goal

pub returns-in_default : goal.returns-in_default
returns-in_default g c = fails_at_end _ (sym c.kind.ensures ∙ c.in_default.is) c.unexpected.ensures

pub returns-then-not-sees_mark : goal.returns-then-not-sees_mark
returns-then-not-sees_mark g c = fails_mark c.args.cursor.now c.in-Mark.field-0 (cc (c.kind.ensures, c.in-Some.is, c.in-Mark.is)) (sym c.sees_mark.ensures ∙ c.if-not-sees_mark.true) c.unexpected-then-not-sees_mark.ensures

pub returns-in_err-inner-in-Mark : goal.returns-in_err-inner-in-Mark
returns-in_err-inner-in-Mark g c = exits _ _ _ _ c.from_residual-in_err-inner-in-Mark.ensures.1
    (fails_paren c.args.cursor.now c.in-Mark.field-0 (cc (c.kind.ensures, c.in-Some.is, c.in-Mark.is)) (sym c.sees_mark.ensures ∙ c.if-not-sees_mark.false) c.in_err-inner-in-Mark.ensures)

pub returns-in-Number : goal.returns-in-Number
returns-in-Number g c = at_number _ _ _ _ (cc (c.kind.ensures, c.in-Some.is, c.in-Number.is)) c.number-number.ensures c.skip.ensures

pub returns-in_ok-text-in-Text : goal.returns-in_ok-text-in-Text
returns-in_ok-text-in-Text g c = at_text _ _ _ _ (cc (c.kind.ensures, c.in-Some.is, c.in-Text.is)) c.in_ok-text-in-Text.ensures c.skip-in-Text.ensures

pub returns-in_ok-inner-in-Mark : goal.returns-in_ok-inner-in-Mark
returns-in_ok-inner-in-Mark g c = gives_paren c.args.cursor.now c.in-Mark.field-0 (cc (c.kind.ensures, c.in-Some.is, c.in-Mark.is)) (sym c.sees_mark.ensures ∙ c.if-not-sees_mark.false) c.in_ok-inner-in-Mark.ensures
