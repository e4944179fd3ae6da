-- A place is found exactly where the part stands somewhere.
use Rattle.std.proofs.Common.{◌∙◌}
use Rattle.ql_eval.proofs.Searches.{found_is}
use Rattle.ql_eval.proofs.function.contains.Goals as goal

pub returns : goal.returns
returns c = c.is_some.ensures ∙ found_is c.args.bytes.now c.args.part.now c.find.result c.find.ensures
