use Rattle.lldb_verify.proofs.Clean.{findings_clean, findings_none}
use Rattle.lldb_verify.proofs.laws.findings_laws.Goals as goal

pub returns : goal.returns
returns c = record { clean = findings_clean; none = findings_none }
