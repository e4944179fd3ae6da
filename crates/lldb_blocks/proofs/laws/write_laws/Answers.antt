use Rattle.lldb_blocks.proofs.Bridges.{head_read}
use Rattle.lldb_blocks.proofs.Readings.{used_spelled, moved_spelled}
use Rattle.lldb_blocks.proofs.Writes.{sets_head, sets_previous, sets_next, sets_free}
use Rattle.lldb_blocks.proofs.laws.write_laws.Goals as goal

pub returns : goal.returns
returns c = record { head = sets_head; previous = sets_previous; next = sets_next; free = sets_free; used = used_spelled; moved = moved_spelled; head_is = head_read }
