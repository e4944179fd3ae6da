use Rattle.lldb_wal.proofs.Spelled.{reads_back, same_effect}
use Rattle.lldb_wal.proofs.laws.spelling_laws.Goals as goal

pub returns : goal.returns
returns c = record { reads_back = reads_back; same_effect = same_effect }
