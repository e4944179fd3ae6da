use Rattle.ql_shell.proofs.Moving.{moved_other}
use Rattle.ql_shell.proofs.session.Session.advance.Goals as goal

pub returns-in_default-clause-done : goal.returns-in_default-clause-done
returns-in_default-clause-done g c =
    λ st h. moved_other c.args.self.now.with_names c.args.self.now.ack c.args.statement.now st c.carry_out.result _ _ _ _ _ _ c.in_default.not-Begin c.in_default.not-Commit c.in_default.not-Rollback h.commits h.base (c.carry_out.ensures.done st h.stands)
