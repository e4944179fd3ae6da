use Rattle.std.proofs.Common.{sym, ◌∙◌}
use Rattle.ql_cursor.proofs.StepLemmas.{fails_with}
use Rattle.ql_parse.proofs.ScriptLemmas.{later_going, one_later, no_later, later_fails, fewer_later}
use Rattle.ql_parse.proofs.scripts.add_later.Goals as goal

pub later-init : goal.later-init
later-init c = later_going _ _ _

pub later-preserved : goal.later-preserved
later-preserved c = one_later _ c.later.invariant (sym c.eat_mark.ensures.found ∙ c.later-test.true) (c.eat_mark.ensures.taken c.later-test.true) c.in_ok-statement.ensures c.in_ok-add.ensures

pub later-smaller : goal.later-smaller
later-smaller c = fewer_later c.later.cursor (sym c.eat_mark.ensures.found ∙ c.later-test.true) (c.eat_mark.ensures.taken c.later-test.true) c.in_ok-statement.ensures

pub returns-clause-ok : goal.returns-clause-ok
returns-clause-ok c = no_later c.later.invariant (sym c.eat_mark.ensures.found ∙ c.later-test.false) (c.eat_mark.ensures.kept c.later-test.false)

pub returns-in_err-statement-clause-err : goal.returns-in_err-statement-clause-err
returns-in_err-statement-clause-err c = fails_with _ _ c.from_residual.ensures.1
    (later_fails _ c.later.invariant (sym c.eat_mark.ensures.found ∙ c.later-test.true) (c.eat_mark.ensures.taken c.later-test.true) c.in_err-statement.ensures)
