use Rattle.lldb_alloc.proofs.Stays.{stops_once}
use Rattle.lldb_alloc.proofs.bytes.write_bytes.Goals as goal

pub returns-clause-stops : goal.returns-clause-stops
returns-clause-stops g c = stops_once c.write_at.ensures.stops c.write_at.ensures.told
