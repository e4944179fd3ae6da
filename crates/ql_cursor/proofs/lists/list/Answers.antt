use Rattle.std.proofs.Common.{sym, ◌∙◌}
use Rattle.ql_syntax.specs.Lexemes.{is_comma}
use Rattle.ql_cursor.proofs.StepLemmas.{exits}
use Rattle.ql_cursor.proofs.Loops.{first_member, first_fails, one_member, no_member, last_comma, member_fails, fewer}
use Rattle.ql_cursor.proofs.lists.list.Goals.{else-members-test, then-members-test+then-not-begins}
use Rattle.ql_cursor.proofs.lists.list.Goals as goal

pub returns-in_err-part : goal.returns-in_err-part
returns-in_err-part g c = exits _ _ _ _ c.from_residual.ensures.1 (first_fails (c.requires.answers _ _ _ c.in_err-part.ensures))

pub members-init : goal.members-init
members-init g c = first_member _ _ (c.requires.answers _ _ _ c.in_ok-part.ensures) c.new-items.ensures c.in_ok-push.ensures.ok g.L.Listed.of.pairs

pub returns-in_err-part-2 : goal.returns-in_err-part-2
returns-in_err-part-2 g c =
    exits _ _ _ _ c.from_residual-in_err-part-2.ensures.1
    (member_fails _ c.members.invariant (sym c.eat_mark.ensures.found ∙ c.members-test.true) (c.eat_mark.ensures.taken c.members-test.true)
    (sym c.begins.ensures ∙ c.if-not-begins.false) (c.requires.answers _ _ _ c.in_err-part-2.ensures))

pub members-smaller : goal.members-smaller
members-smaller g c = fewer is_comma c.members.cursor (sym c.eat_mark.ensures.found ∙ c.members-test.true) (c.eat_mark.ensures.taken c.members-test.true) (c.requires.answers _ _ _ c.in_ok-part-2.ensures)

pub members-preserved : goal.members-preserved
members-preserved g c =
    rw c.in_ok-push-2.ensures.ok
    (one_member _ c.members.invariant (sym c.eat_mark.ensures.found ∙ c.members-test.true) (c.eat_mark.ensures.taken c.members-test.true)
    (sym c.begins.ensures ∙ c.if-not-begins.false) (c.requires.answers _ _ _ c.in_ok-part-2.ensures) g.L.Listed.of.cells)

pub returns : goal.returns
returns g c = rw c.shrink_to_fit.ensures (elim c.members-test.branch [
  | else-members-test w ↦ no_member c.members.invariant (sym c.eat_mark.ensures.found ∙ w.members-test.false) (c.eat_mark.ensures.kept w.members-test.false) g.L.Listed.of.stops
  | then-members-test+then-not-begins w ↦ last_comma _ c.members.invariant (sym c.eat_mark.ensures.found ∙ w.members-test.true) (c.eat_mark.ensures.taken w.members-test.true)
      (sym w.begins.ensures ∙ w.if-not-begins.true) g.L.Listed.of.stops
])
