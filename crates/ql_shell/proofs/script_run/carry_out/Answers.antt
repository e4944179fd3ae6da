use Rattle.ql_rel.specs.Databases.{empty_db}
use Rattle.ql_rel.specs.Sessions.{opened}
use Rattle.ql_shell.proofs.script_run.carry_out.Goals as goal

pub carry_on-status-requires-clause-at : goal.carry_on-status-requires-clause-at
carry_on-status-requires-clause-at g c = (opened c.args.options.bare empty_db, c.in-Ok.ensures.begun c.args.options.bare empty_db c.new-script.ensures.base (rw c.new-script.ensures.rel c.requires.empty))
