-- A name more.
use Rattle.ql_check.proofs.NewNames.{holds_more}
use Rattle.ql_check.proofs.names.add_name.Goals as goal

pub returns-in-Ok-clause-names : goal.returns-in-Ok-clause-names
returns-in-Ok-clause-names c = λ before h. holds_more c.args.name before c.args.names.now c.insert.new.self c.in-Ok.ensures.updates h
