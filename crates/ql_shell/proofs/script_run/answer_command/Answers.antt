use Rattle.std.proofs.Common.{refl}
use Rattle.ql_shell.specs.Meaning.{answer_of, script}
use Rattle.ql_shell.proofs.Giving.{shows_nothing}
use Rattle.ql_shell.proofs.Meanings.{script_told, gives_early, means_early}
use Rattle.ql_shell.proofs.script_run.answer_command.Goals as goal

pub returns-in-Ok-clause-means : goal.returns-in-Ok-clause-means
returns-in-Ok-clause-means g c tells final =
    let means = c.answer_script.ensures.means final in
    let told = script_told c.args.command _ c.in-Ok.source c.in-Ok.ensures.script tells in
    (answer_of c.args.options means.0, script {outcome = means.0} told means.1 refl, means.2)

pub returns-in-Err-clause-gives : goal.returns-in-Err-clause-gives
returns-in-Err-clause-gives g c answer means = gives_early c.args.options c.args.command _ c.in-Err.status answer _ _ c.in-Err.ensures.ends c.in-Err.ensures.frame.0 means

pub returns-in-Err-clause-means : goal.returns-in-Err-clause-means
returns-in-Err-clause-means g c tells final = means_early c.args.options c.args.command _ c.in-Err.status c.in-Err.ensures.ends tells final

pub returns-in-Ok-clause-shows : goal.returns-in-Ok-clause-shows
returns-in-Ok-clause-shows g c = rw (← c.in-Ok.ensures.frame.0) c.answer_script.ensures.shows

pub returns-in-Err-clause-shows : goal.returns-in-Err-clause-shows
returns-in-Err-clause-shows g c = rw c.in-Err.ensures.frame.0 (shows_nothing _)
