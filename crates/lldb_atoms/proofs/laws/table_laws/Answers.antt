use Rattle.lldb_atoms.proofs.Tables.{table_read}
use Rattle.lldb_atoms.proofs.laws.table_laws.Goals as goal

pub returns : goal.returns
returns c = record { read = table_read }
