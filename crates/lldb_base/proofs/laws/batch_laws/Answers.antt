use Rattle.lldb_base.proofs.Puts.{length_applied}
use Rattle.lldb_base.proofs.ByBytes.{applied_at}
use Rattle.lldb_base.proofs.laws.batch_laws.Goals as goal

pub returns : goal.returns
returns c = record { size = length_applied; bytes = applied_at }
