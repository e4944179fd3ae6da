use Rattle.ql_value.proofs.RefusalLaws.{the_refusal_laws}
use Rattle.ql_value.proofs.laws.refusal_laws.Goals as goal

pub returns : goal.returns
returns c = the_refusal_laws
