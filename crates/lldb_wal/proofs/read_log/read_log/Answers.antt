use Rattle.std.proofs.Common.{◌≡◌}
use Rattle.std.specs.Int.{w64}
use Rattle.lldb_wal.specs.Fields.{number}
use Rattle.lldb_wal.specs.Log.{IsUngated, IsLog}
use Rattle.lldb_wal.proofs.ReadParts.{told_by}
use Rattle.lldb_wal.proofs.read_log.read_log.Goals as goal

pub read_batch-requires-clause-open : goal.read_batch-requires-clause-open
read_batch-requires-clause-open g c = told_by _ _ (λ log. IsUngated log) c.requires.head c.in-Ok.ensures.open

pub read_batch-requires-clause-count : goal.read_batch-requires-clause-count
read_batch-requires-clause-count g c = told_by _ _ (λ log. c.in-Ok.count ≡ number w64 16 log) c.requires.head c.in-Ok.ensures.count

pub returns-in-Err-clause-is : goal.returns-in-Err-clause-is
returns-in-Err-clause-is g c = told_by _ _ (λ log. IsLog c.args.size log c.in-Err.state) c.requires.head (λ log is. c.in-Err.ensures.decided c.args.size log is)
