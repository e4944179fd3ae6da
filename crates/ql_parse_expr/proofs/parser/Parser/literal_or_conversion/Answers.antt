use Rattle.std.proofs.Common.{sym, ◌∙◌}
use Rattle.ql_cursor.proofs.StepLemmas.{exits}
use Rattle.ql_parse_expr.proofs.PrimaryLemmas.{at_true, at_false, at_null}
use Rattle.ql_parse_expr.proofs.CallLemmas.{word_no_literal, fails_word, fails_convert, gives_convert}
use Rattle.ql_parse_expr.proofs.parser.Parser.literal_or_conversion.Goals as goal

pub returns-then-sees_word : goal.returns-then-sees_word
returns-then-sees_word g c = at_true _ _ _ (sym c.sees_word.ensures ∙ c.if-sees_word.true) c.skip.ensures

pub returns-then-sees_word-2 : goal.returns-then-sees_word-2
returns-then-sees_word-2 g c = at_false _ _ _ (sym c.sees_word-2.ensures ∙ c.if-sees_word-2.true) c.skip-then-sees_word-2.ensures

pub returns-then-sees_word-3 : goal.returns-then-sees_word-3
returns-then-sees_word-3 g c = at_null _ _ _ (sym c.sees_word-3.ensures ∙ c.if-sees_word-3.true) c.skip-then-sees_word-3.ensures

pub returns-in_default : goal.returns-in_default
returns-in_default g c =
    fails_word c.args.cursor.now c.requires.word.0 c.requires.word.1
    (word_no_literal _ _ c.requires.word.1 (sym c.sees_word.ensures ∙ c.if-sees_word.false) (sym c.sees_word-2.ensures ∙ c.if-sees_word-2.false) (sym c.sees_word-3.ensures ∙ c.if-sees_word-3.false))
    c.in_default.ensures c.unexpected.ensures

pub returns-in_err-part : goal.returns-in_err-part
returns-in_err-part g c =
    exits _ _ _ _ c.from_residual.ensures.1
    (fails_convert c.args.cursor.now c.requires.word.0 c.requires.word.1
    (word_no_literal _ _ c.requires.word.1 (sym c.sees_word.ensures ∙ c.if-sees_word.false) (sym c.sees_word-2.ensures ∙ c.if-sees_word-2.false) (sym c.sees_word-3.ensures ∙ c.if-sees_word-3.false))
    c.in-Some.ensures.0 c.skip-2.ensures c.in_err-part.ensures)

pub returns : goal.returns
returns g c =
    gives_convert c.args.cursor.now c.requires.word.0 c.requires.word.1
    (word_no_literal _ _ c.requires.word.1 (sym c.sees_word.ensures ∙ c.if-sees_word.false) (sym c.sees_word-2.ensures ∙ c.if-sees_word-2.false) (sym c.sees_word-3.ensures ∙ c.if-sees_word-3.false))
    c.in-Some.ensures.0 c.in-Some.ensures.1 c.skip-2.ensures c.in_ok-part.ensures
