use Rattle.ql_print.proofs.Alone.{items_read_back}
use Rattle.ql_print.proofs.print_statements.print_item.Goals as goal

pub returns-in-Ok-clause-read_back : goal.returns-in-Ok-clause-read_back
returns-in-Ok-clause-read_back c = items_read_back

pub returns-in-Err-clause-read_back : goal.returns-in-Err-clause-read_back
returns-in-Err-clause-read_back c = items_read_back
