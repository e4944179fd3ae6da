use Rattle.ql_print.proofs.KeptParts.{parts_read_back}
use Rattle.ql_print.proofs.KeptScripts.{token_laws}
use Rattle.ql_print.proofs.MadeStatements.{made_read_back}
use Rattle.ql_print.proofs.PlainStatements.{plain_laws}
use Rattle.ql_print.proofs.ReadBack.{read_back_laws}
use Rattle.ql_print.proofs.print_statements.print_statement.Goals as goal

pub returns-in-Ok-clause-read_back : goal.returns-in-Ok-clause-read_back
returns-in-Ok-clause-read_back c = read_back_laws

pub returns-in-Err-clause-read_back : goal.returns-in-Err-clause-read_back
returns-in-Err-clause-read_back c = read_back_laws

pub returns-in-Ok-clause-parts : goal.returns-in-Ok-clause-parts
returns-in-Ok-clause-parts c = parts_read_back

pub returns-in-Err-clause-parts : goal.returns-in-Err-clause-parts
returns-in-Err-clause-parts c = parts_read_back

pub returns-in-Ok-clause-made : goal.returns-in-Ok-clause-made
returns-in-Ok-clause-made c = made_read_back

pub returns-in-Err-clause-made : goal.returns-in-Err-clause-made
returns-in-Err-clause-made c = made_read_back

pub returns-in-Ok-clause-same_text : goal.returns-in-Ok-clause-same_text
returns-in-Ok-clause-same_text c = plain_laws

pub returns-in-Err-clause-same_text : goal.returns-in-Err-clause-same_text
returns-in-Err-clause-same_text c = plain_laws

pub returns-in-Ok-clause-same_tokens : goal.returns-in-Ok-clause-same_tokens
returns-in-Ok-clause-same_tokens c = token_laws

pub returns-in-Err-clause-same_tokens : goal.returns-in-Err-clause-same_tokens
returns-in-Err-clause-same_tokens c = token_laws
