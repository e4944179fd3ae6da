use Rattle.std.proofs.Common.{take, inl, inr, ap, ◌∙◌}
use Rattle.ql_edge.specs.Told.{shown_of}
use Rattle.ql_shell.specs.Run.{IsFinal}
use Rattle.ql_shell.specs.declared.status.Status.TheVariants.{NoMemory}
use Rattle.ql_shell.proofs.Existence.{meant}
use Rattle.ql_shell.proofs.Giving.{gives_front, gives_whole, final_or_not, shown_with_shown, shows_added}
use Rattle.ql_shell.proofs.Taking.{takes_memory}
use Rattle.ql_shell.proofs.script_run.run.Goals as goal

pub returns-clause-shown : goal.returns-clause-shown
returns-clause-shown g c answer means =
    let front = gives_front answer c.answer-machine.result.1 _ _ (c.answer-machine.ensures.gives answer (rw c.as_slice.ensures.value means)) in
    (front.count, front.within, c.warn-status.ensures.shown ∙ ap shown_of front.told ∙ shown_with_shown (take front.count answer.text) (g.M.Shows.told c.args.machine))

pub returns-clause-whole : goal.returns-clause-whole
returns-clause-whole g c tells final =
    elim c.warn-status.ensures.same [
      | inl same ↦
          let status_final : IsFinal c.answer-machine.result.1 = rw same at final in
          let means = c.answer-machine.ensures.means (rw c.as_slice.ensures.value tells) status_final in
          let given = gives_whole means.0 c.answer-machine.result.1 _ _ status_final (c.answer-machine.ensures.gives means.0 means.1) in
          (means.0, rw (← c.as_slice.ensures.value) means.1, same ∙ means.2, c.warn-status.ensures.shown ∙ ap shown_of given.1 ∙ shown_with_shown means.0.text (g.M.Shows.told c.args.machine))
      | inr memory ↦ let not_final : IsFinal NoMemory = rw memory at final in absurd not_final
    ]

pub returns-clause-answered : goal.returns-clause-answered
returns-clause-answered g c answer means =
    elim c.warn-status.ensures.same [
      | inl same ↦
          elim (final_or_not c.answer-machine.result.1) [
            | inl final ↦ inl (same ∙ (gives_whole answer c.answer-machine.result.1 _ _ final (c.answer-machine.ensures.gives answer (rw c.as_slice.ensures.value means))).0)
            | inr ended ↦ inr (elim ended [ inl fault ↦ inl (same ∙ fault) | inr memory ↦ inr (same ∙ memory) ])
          ]
      | inr memory ↦ inr (inr memory)
    ]

pub returns-clause-reads : goal.returns-clause-reads
returns-clause-reads g c =
    let takes = rw c.as_slice.ensures.value at c.answer-machine.ensures.takes in
    elim c.warn-status.ensures.same [
      | inl same ↦ rw (same, c.warn-status.ensures.frame.0) takes
      | inr memory ↦ rw (memory, c.warn-status.ensures.frame.0) (takes_memory _ c.answer-machine.result.1 _ _ takes)
    ]

pub returns-clause-grows : goal.returns-clause-grows
returns-clause-grows g c = let added = shows_added _ _ c.answer-machine.ensures.shows in (added.0, c.warn-status.ensures.shown ∙ added.1)

pub returns-clause-most : goal.returns-clause-most
returns-clause-most g c = rw c.warn-status.ensures.frame.0 c.answer-machine.ensures.most

pub returns-clause-meant : goal.returns-clause-meant
returns-clause-meant g c = meant
