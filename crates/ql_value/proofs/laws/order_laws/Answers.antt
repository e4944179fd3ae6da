use Rattle.ql_value.proofs.OrderLaws.{the_order_laws}
use Rattle.ql_value.proofs.laws.order_laws.Goals as goal

pub returns : goal.returns
returns c = the_order_laws
