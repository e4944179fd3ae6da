use Rattle.std.proofs.Common.{sym, ap, ◌∙◌}
use Rattle.ql_cursor.specs.declared.fault.Fault.TheVariants as f
use Rattle.ql_cursor.proofs.BracketLemmas.{fails_open, fails_nested}
use Rattle.ql_cursor.proofs.brackets.open_bracket.Goals as goal

pub returns-then-not-sees_mark-clause-err : goal.returns-then-not-sees_mark-clause-err
returns-then-not-sees_mark-clause-err c x = fails_open _ _ _ _ (sym c.sees_mark.ensures ∙ c.if-not-sees_mark.true) c.unexpected.ensures

pub returns-then-room-eq0-clause-err : goal.returns-then-room-eq0-clause-err
returns-then-room-eq0-clause-err c x = fails_nested _ _ _ _ c.if-room-eq0.true (sym c.sees_mark.ensures ∙ c.if-not-sees_mark.false) (ap f.TooNested c.left.ensures)
