use Rattle.ql_value.proofs.RowLaws.{the_row_laws}
use Rattle.ql_value.proofs.laws.row_laws.Goals as goal

pub returns : goal.returns
returns c = the_row_laws
