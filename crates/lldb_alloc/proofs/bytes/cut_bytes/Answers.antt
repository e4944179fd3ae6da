use Rattle.lldb_alloc.proofs.Stays.{stops_once}
use Rattle.lldb_alloc.proofs.bytes.cut_bytes.Goals as goal

pub returns-clause-stops : goal.returns-clause-stops
returns-clause-stops g c = stops_once c.truncate.ensures.stops c.truncate.ensures.told
