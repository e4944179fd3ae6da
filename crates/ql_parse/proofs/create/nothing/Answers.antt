use Rattle.std.proofs.Common.{refl}
use Rattle.ql_syntax.specs.Readings.{absent, takes_nothing}
use Rattle.ql_parse.proofs.create.nothing.Goals as goal

pub returns : goal.returns
returns c n = record { parse = absent; reads = takes_nothing; means = refl }
