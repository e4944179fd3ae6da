use Rattle.ql_value.proofs.KindLaws.{the_kind_laws}
use Rattle.ql_value.proofs.laws.kind_laws.Goals as goal

pub returns : goal.returns
returns c = the_kind_laws
