use Rattle.ql_shell.proofs.Ending.{ends}
use Rattle.ql_shell.proofs.session.Session.finish.Goals as goal

pub returns-in-Err-clause-done : goal.returns-in-Err-clause-done
returns-in-Err-clause-done g c = λ st h. ends _ st c.in-Err.fault _ _ _ _ _ _ _ _ _ (c.in-Err.ensures.done st h) c.roll_back_all.ensures.db c.roll_back_all.ensures.saved c.roll_back_all.ensures.told
