use Rattle.ql_value.proofs.ArithLaws.{the_arith_laws}
use Rattle.ql_value.proofs.laws.arith_laws.Goals as goal

pub returns : goal.returns
returns c = the_arith_laws
