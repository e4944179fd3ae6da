use Rattle.ql_value.proofs.KeyLaws.{the_key_laws}
use Rattle.ql_value.proofs.laws.key_laws.Goals as goal

pub returns : goal.returns
returns c = the_key_laws
