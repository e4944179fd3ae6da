use Rattle.ql_print.proofs.KeptParts.{parts_read_back}
use Rattle.ql_print.proofs.MadeStatements.{made_read_back}
use Rattle.ql_print.proofs.laws.made_laws.Goals as goal

pub returns-clause-parts : goal.returns-clause-parts
returns-clause-parts c = parts_read_back

pub returns-clause-made : goal.returns-clause-made
returns-clause-made c = made_read_back
