use Rattle.std.proofs.Common.{Err, ap}
use Rattle.ql_shell.proofs.Giving.{gives_shows, shows_nothing}
use Rattle.ql_shell.proofs.Meanings.{means_unread}
use Rattle.ql_shell.proofs.script_run.answer_script.Goals as goal

pub returns-in-Ok-clause-shows : goal.returns-in-Ok-clause-shows
returns-in-Ok-clause-shows g c = gives_shows _ _ _ _ c.carry_out_on.ensures.gives

pub returns-in-Err-clause-shows : goal.returns-in-Err-clause-shows
returns-in-Err-clause-shows g c = shows_nothing _

pub returns-in-Err-clause-means : goal.returns-in-Err-clause-means
returns-in-Err-clause-means g c final = means_unread c.args.options c.args.source c.in-Err.status c.in-Err.ensures.unread final (λ f e. rw c.as_slice.ensures at (c.in-Err.ensures.fault f (ap Err e)))
