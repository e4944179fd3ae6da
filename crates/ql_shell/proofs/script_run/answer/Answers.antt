use Rattle.ql_shell.proofs.script_run.answer.Goals as goal

pub returns-in-Ok-clause-gives : goal.returns-in-Ok-clause-gives
returns-in-Ok-clause-gives g c answer means = c.answer_command.ensures.gives answer (rw c.in-Ok.ensures means)

pub returns-in-Ok-clause-means : goal.returns-in-Ok-clause-means
returns-in-Ok-clause-means g c tells final = rw (← c.in-Ok.ensures) (c.answer_command.ensures.means (rw c.in-Ok.ensures tells) final)
